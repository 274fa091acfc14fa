use Rattle.std.proofs.Common.{List, ℕ, ◌-◌, ◌++◌, length, take, drop, sym, ap, ◌∙◌, arith}
use Rattle.ymx_engine.proofs.Blocks.{block_behind, room_length, through_fits}
use Rattle.ymx_engine.proofs.block.Block.write_through.Goals as goal

pub returns-in-Some-clause-went : goal.returns-in-Some-clause-went
returns-in-Some-clause-went c = λ e.
    let at = c.self.inside.at in
    let end = c.self.inside.end in
    let lent = c.deref_mut.result.now in
    let new = c.write_through.new.buffer in
    let size = length (take (length lent - end) (drop end lent)) in
    let room = room_length end lent in
    let long = c.write_through.auto.buffer in
    let n = c.in-Some.ensures.count in
    let fits = through_fits c.args.id (length c.args.bytes.now) size c.args.session.now (sym c.in-Some.ensures.goes) in (
      size,
      take c.in-Some.count new,
      c.in-Some.ensures.event,
      block_behind at end c.in-Some.count c.self.inside.memory lent new c.deref_mut.ensures.value c.self.invariant.0 c.self.invariant.1 (omega (arith, long, fits, n)) (omega (arith, long, room))
          ∙ ap (λ (v : List ℕ). v ++ take c.in-Some.count new) c.self.view_is,
    )
