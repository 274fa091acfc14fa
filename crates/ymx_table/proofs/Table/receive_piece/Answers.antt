-- One record changes, or none, and its flag with it.
use Rattle.std.proofs.Common.{ap, ◌∙◌, length}
use Rattle.ymx_model.specs.session.Records.{End, Writer, receive_piece}
use Rattle.ymx_table.proofs.Writes.{untouched, written, kept-written, counted-same}
use Rattle.ymx_table.proofs.Totals.{receive_piece-writer}
use Rattle.ymx_table.proofs.Table.receive_piece.Goals as goal

pub returns-in_default : goal.returns-in_default
returns-in_default c = untouched c.args.id (receive_piece c.args.fin c.args.bytes.now) c.args.self.now c.in_default.ensures

pub invariant_of-self : goal.invariant_of-self
invariant_of-self c =
    kept-written c.self.view_is c.in-Some.ensures c.index_mut-stream.ensures.value _ c.self.invariant c.is_due-is_due.ensures c.set.ensures
    (counted-same c.self.view_is c.in-Some.ensures c.index_mut-stream.ensures.value _ c.self.invariant
    (ap (λ (e : End). length e.writer.unsent) c.receive_piece.ensures ∙ ap (λ (w : Writer). length w.unsent) (receive_piece-writer c.args.fin c.args.bytes.now c.index_mut-stream.result.now)))

pub returns : goal.returns
returns c = written c.self.view_is c.in-Some.ensures c.index_mut-stream.ensures.value (receive_piece c.args.fin c.args.bytes.now) _ c.receive_piece.ensures
