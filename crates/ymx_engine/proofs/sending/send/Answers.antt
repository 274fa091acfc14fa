use Rattle.std.proofs.Common.{arith}
use Rattle.std.proofs.lemmas.Bool.Decides.{nat_tests}
use Rattle.ymx_engine.proofs.Blocks.{rest_is, rest_length}
use Rattle.ymx_engine.proofs.Rooms.{write_leaves}
use Rattle.ymx_engine.proofs.Serving.{sends_rest}
use Rattle.ymx_engine.proofs.sending.send.Goals as goal

pub returns-clause-left : goal.returns-clause-left
returns-clause-left c = λ e.
    let h = c.write.ensures.took e in
    let room = c.send_through-count.ensures.room in
    let within = c.send_through-count.ensures.within in
    let rest = rest_length c.send_through-count.result c.args.bytes.now within in
    let less = write_leaves c.args.id _ h.0 _ _ h.1 h.3 (grind (arith, nat_tests)) (omega (arith, room, rest, c.requires.fits)) in
    omega (arith, room, within, rest, less)

pub returns-clause-took : goal.returns-clause-took
returns-clause-took c = λ e.
    let h = c.write.ensures.took e in
    sends_rest _ c.send_through-count.result h.0 c.args.bytes.now _ _ _ _ _ _ (rest_is c.send_through-count.result c.args.bytes.now) c.send_through-count.ensures.sent h.1 h.2 h.3
