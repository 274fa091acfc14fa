use Rattle.std.proofs.Common.{◌∙◌, [], arith}
use Rattle.ymx_world.proofs.Headlines.{ok-then}
use Rattle.ymx_joined.proofs.Told.{no-more, gave-all}
use Rattle.ymx_joined.proofs.delivery.read_to_end.Goals as goal

pub read-requires-2-clause-stands : goal.read-requires-2-clause-stands
read-requires-2-clause-stands c = ([], omega arith, c.in_ok-found.ensures.after c.requires.stands.0 c.requires.stands.1 c.requires.stands.2)

pub prove-unreachable-requires : goal.prove-unreachable-requires
prove-unreachable-requires c =
    let after = c.in_ok-found.ensures.after c.requires.stands.0 c.requires.stands.1 c.requires.stands.2 in
    no-more c.in_ok-end.end c.if-prove.ensures (c.in_ok-end.ensures.told [] (omega arith) after)

pub returns : goal.returns
returns c =
    ok-then c.copied.result _ _
    (λ v items rest fits h. items ∙ (c.as_slice.ensures ∙ gave-all c.in_ok-found.found c.in-Some.bytes rest c.in-Some.is (c.in_ok-found.ensures.told rest fits h)))
    c.copied.ensures
