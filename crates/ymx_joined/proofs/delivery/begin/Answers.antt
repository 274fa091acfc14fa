use Rattle.std.proofs.Common.{refl}
use Rattle.ymx_model.specs.declared.types.Config.{Config}
use Rattle.ymx_joined.proofs.NewWorlds.{only-memory}
use Rattle.ymx_joined.proofs.Worlds.{new-stands}
use Rattle.ymx_joined.proofs.delivery.begin.Goals as goal

pub not_made-requires : goal.not_made-requires
not_made-requires c =
    let config : Config = record { window = 262144; first = 0 } in
    only-memory config config c.in-Err.fault refl refl c.in-Err.ensures.refused

pub returns-in-Ok : goal.returns-in-Ok
returns-in-Ok c = new-stands 262144 262144 c.in-Ok.world c.in-Ok.ensures.made c.in-Ok.ensures.begins
