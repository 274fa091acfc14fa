use Rattle.ymx_joined.proofs.Worlds.{drives}
use Rattle.ymx_joined.proofs.stages.drive.Goals as goal

pub returns : goal.returns
returns c = λ id bytes h.
    drives c.in_ok-driven.driven.no_memory id bytes c.args.world.now c.drive.new.self h c.in_ok-driven.ensures.carried
    (c.in_ok-driven.ensures.still (c.in_ok-driven.ensures.open c.requires))
