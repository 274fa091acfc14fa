use Rattle.std.proofs.Common.{◌≡◌, List, ℕ, true, refl, subst, rules}
use Rattle.ymx_script.specs.Language.{command}
use Rattle.ymx_script.specs.Players.{position_of}
use Rattle.ymx_script.specs.Scripts.{IsPlayed, is_mistake}
use Rattle.ymx_script.proofs.Reading.{line_ends, line_mistaken}
use Rattle.ymx_script.proofs.lines.Lines.end_line.Goals as goal

pub returns-then-not-good-clause-bad : goal.returns-then-not-good-clause-bad
returns-then-not-good-clause-bad c = λ _ text done more r.
    let h = c.in_ok-good.ensures.mistake (search rules) in
    line_mistaken text done more c.args.self.now _ refl
    (subst (λ (zs : List ℕ). is_mistake (command zs) (position_of c.args.self.now.player) ≡ true) c.as_slice.ensures.value h.0) h.1 r

pub returns-clause-good : goal.returns-clause-good
returns-clause-good c = λ _ text done r.
    let h = c.in_ok-good.ensures.played (search rules) in
    line_ends text done h.0 c.args.self.now _ c.clear.ensures.items (search rules)
    (subst (λ (zs : List ℕ). IsPlayed zs (position_of c.args.self.now.player) h.0 (position_of c.play_line.new.self)) c.as_slice.ensures.value h.1) h.2 r
