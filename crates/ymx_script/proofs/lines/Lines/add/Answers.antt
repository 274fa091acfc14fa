use Rattle.std.proofs.Common.{◌≡◌, List, ℕ, false, refl, subst, sym, rules}
use Rattle.ymx_script.specs.Scripts.{has_feed}
use Rattle.ymx_script.proofs.Feeds.{one_of_parts}
use Rattle.ymx_script.proofs.Reading.{more_of_line, too_long}
use Rattle.ymx_script.proofs.lines.Lines.add.Goals as goal

pub returns-then-len-gt-LONGEST-clause-bad : goal.returns-then-len-gt-LONGEST-clause-bad
returns-then-len-gt-LONGEST-clause-bad c = λ _ text done more r.
    too_long text done c.args.piece.now more c.extend.new.vec.items c.args.self.now _ c.in_ok-extend.ensures.items refl refl c.requires.one (search rules) r

pub returns-clause-part : goal.returns-clause-part
returns-clause-part c = λ _. record {
  one = subst (λ (zs : List ℕ). has_feed zs ≡ false) (sym c.in_ok-extend.ensures.items) (one_of_parts c.args.self.now.part.items c.args.piece.now c.requires.part.one c.requires.one);
  short = (search rules);
}

pub returns-clause-good : goal.returns-clause-good
returns-clause-good c = λ _ text done r.
    more_of_line text done c.args.piece.now c.extend.new.vec.items c.args.self.now _ c.in_ok-extend.ensures.items refl refl refl c.requires.one (search rules) r
