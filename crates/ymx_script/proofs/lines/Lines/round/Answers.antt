use Rattle.std.proofs.Common.{◌≡◌, List, ℕ, [], ◌++◌, subst, sym, ◌∙◌}
use Rattle.ymx_script.specs.Reading.{IsAtMistake}
use Rattle.ymx_script.proofs.Ends.{front_part, mistake_if, none_of, nothing_more, tells}
use Rattle.ymx_script.proofs.lines.Lines.round.Goals as goal

pub returns-in-Ok-false-clause-leaves : goal.returns-in-Ok-false-clause-leaves
returns-in-Ok-false-clause-leaves c = λ text done r.
    let none = none_of c.args.piece.now (sym c.is_empty.ensures ∙ c.if-is_empty.true) in
    tells (text ++ c.args.piece.now) done (c.args.piece.now ≡ []) c.finish.new.self c.tell_mistake.new.self c.tell_mistake.result c.tell_mistake.ensures.told
    (mistake_if (text ++ c.args.piece.now) done (Unit {0}) (c.args.piece.now ≡ []) c.finish.new.self (λ _. none)
    (subst (λ (zs : List ℕ). IsAtMistake zs done (Unit {0}) c.finish.new.self) (nothing_more text c.args.piece.now none)
    (c.in-Ok-false.ensures.bad c.in-Ok-false.field-0-test text done r)))

pub returns-in-Err-clause-leaves : goal.returns-in-Err-clause-leaves
returns-in-Err-clause-leaves c = λ text done r. front_part (text ++ c.args.piece.now) _ (c.args.piece.now ≡ []) (c.in-Err.ensures.err text done c.args.piece.now r)

pub returns-in-Ok-false-read-clause-leaves : goal.returns-in-Ok-false-read-clause-leaves
returns-in-Ok-false-read-clause-leaves c = λ text done r.
    tells (text ++ c.args.piece.now) done (c.args.piece.now ≡ []) c.read.new.self c.tell_mistake-in-Ok-false-read.new.self c.tell_mistake-in-Ok-false-read.result c.tell_mistake-in-Ok-false-read.ensures.told
    (mistake_if (text ++ c.args.piece.now) done ⊥ (c.args.piece.now ≡ []) c.read.new.self (λ x. absurd x)
    (c.in-Ok-false-read.ensures.bad c.in-Ok-false-read.field-0-test text done r))

pub returns-in-Err-read-clause-leaves : goal.returns-in-Err-read-clause-leaves
returns-in-Err-read-clause-leaves c = λ text done r. front_part (text ++ c.args.piece.now) _ (c.args.piece.now ≡ []) (c.in-Err-read.ensures.err text done r)
