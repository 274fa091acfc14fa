use Rattle.std.proofs.Common.{List, ℕ, ◌++◌, take, ap, ◌∙◌, arith}
use Rattle.ymx_engine.proofs.Blocks.{block_behind, room_length}
use Rattle.ymx_engine.proofs.block.Block.emit_behind.Goals as goal

pub returns-clause-emitted : goal.returns-clause-emitted
returns-clause-emitted c =
    let room = room_length c.self.inside.end c.deref_mut.result.now in
    let fits = c.emit-count.ensures.fits in
    (_, _, c.emit-count.ensures.event, block_behind c.self.inside.at c.self.inside.end _ c.self.inside.memory _ _ c.deref_mut.ensures.value c.self.invariant.0 c.self.invariant.1 (omega arith) (omega arith) ∙ ap (λ (v : List ℕ). v ++ take c.emit-count.result c.emit-count.new.buffer) c.self.view_is)
