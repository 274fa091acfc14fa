use Rattle.ymx_world.proofs.Headlines.{ok-then}
use Rattle.ymx_joined.proofs.Told.{accepted-one}
use Rattle.ymx_joined.proofs.delivery.receive.Goals as goal

pub accept-requires : goal.accept-requires
accept-requires c = (c.requires.stands.0, c.requires.stands.1, c.requires.stands.3)

pub read_to_end-requires-clause-stands : goal.read_to_end-requires-clause-stands
read_to_end-requires-clause-stands c = (
  c.requires.stands.1,
  c.requires.stands.2,
  accepted-one c.args.no_memory c.in_ok-id.id c.requires.stands.0 c.requires.stands.1 c.args.world.now c.accept.new.world c.in_ok-id.ensures c.requires.stands.3,
)

pub returns : goal.returns
returns c =
    ok-then c.read_to_end.result _ _
    (λ got all id bytes fits h. all bytes fits (accepted-one c.args.no_memory c.in_ok-id.id id bytes c.args.world.now c.accept.new.world c.in_ok-id.ensures h))
    c.read_to_end.ensures
