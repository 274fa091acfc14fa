use Rattle.std.proofs.Common.{List, ℕ, subst, sym, rules}
use Rattle.ymx_script.specs.Reading.{IsAtMistake, IsFront}
use Rattle.ymx_script.proofs.Reading.{HasTaken, taken_more, taken_to, on_err_any, last_bad, last_err}
use Rattle.ymx_script.proofs.lines.Lines.read.Goals as goal

pub returns-in_err-good-clause-err : goal.returns-in_err-good-clause-err
returns-in_err-good-clause-err c =
    on_err_any c.from_residual.result
    (taken_to (λ zs done. IsFront zs done c.next_line.new.self) c.args.piece.now c.loop-end.rest.now c.args.self.now c.loop-end.self c.loop-end.invariant.taken c.in_err-good.ensures.err)

pub returns-then-not-good-clause-bad : goal.returns-then-not-good-clause-bad
returns-then-not-good-clause-bad c = λ _.
    taken_to (λ zs done. IsAtMistake zs done ⊥ c.next_line.new.self) c.args.piece.now c.loop-end.rest.now c.args.self.now c.loop-end.self c.loop-end.invariant.taken (c.in_ok-good.ensures.bad (search rules))

pub loop-end-preserved : goal.loop-end-preserved
loop-end-preserved c = record {
  part = c.in_ok-good.ensures.part (search rules);
  taken =
      subst (λ (zs : List ℕ). HasTaken c.args.piece.now zs c.args.self.now c.next_line.new.self) (sym c.bytes_from-rest.ensures)
      (taken_more c.args.piece.now c.loop-end.rest.now c.in-Some.end c.args.self.now c.loop-end.self c.next_line.new.self c.loop-end.invariant.taken c.in-Some.ensures (c.in_ok-good.ensures.good (search rules)));
}

pub returns-clause-bad : goal.returns-clause-bad
returns-clause-bad c = last_bad c.add.result c.args.piece.now c.loop-end.rest.now c.args.self.now c.loop-end.self c.add.new.self c.loop-end.invariant.taken c.add.ensures.bad

pub returns-clause-err : goal.returns-clause-err
returns-clause-err c = last_err c.add.result c.args.piece.now c.loop-end.rest.now c.args.self.now c.loop-end.self c.add.new.self c.loop-end.invariant.taken c.add.ensures.err
