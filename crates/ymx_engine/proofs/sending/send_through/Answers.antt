use Rattle.std.proofs.Common.{◌+◌, ◌≤◌, [], length, List, ℕ, subst, arith}
use Rattle.ymx_engine.specs.Serves.{TakesAndGives}
use Rattle.ymx_engine.proofs.Blocks.{part_is, part_length}
use Rattle.ymx_engine.proofs.Serving.{exchanged_then, sends_one}
use Rattle.ymx_engine.proofs.sending.send_through.Goals as goal

pub frame-preserved : goal.frame-preserved
frame-preserved c =
    let i = c.frame.invariant in
    let went = c.write_through.ensures.went c.if-not-write_through.false in
    let room = c.write_through.ensures.room c.if-not-write_through.false in
    let within : c.frame.done + c.min-count.result ≤ length c.args.bytes.now = omega (arith, i.0, c.min-count.ensures) in
    let long = part_length c.frame.done c.min-count.result c.args.bytes.now within in (
      within,
      subst (λ (v : List ℕ). TakesAndGives c.args.id v [] c.args.session.now c.write_through.new.session c.args.outgoing.now c.write_through.new.self) (part_is c.frame.done c.min-count.result c.args.bytes.now within)
          (exchanged_then _ _ _ _ _ _ _ _ _ _ _ i.1 (sends_one _ went.0 _ went.1 _ _ _ _ went.2 went.3)),
      omega (arith, i.2, room, long),
    )
