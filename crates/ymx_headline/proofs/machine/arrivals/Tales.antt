-- What callers were told of a stream's ends, and how the ends stand to it.
use Rattle.std.proofs.Common.{◌≡◌, Bool, true, false, not, ◌&&◌, ◌∙◌, arith}
use Rattle.ymx_machine.specs.shared.Phases.{Phase, struck, is_up, is_refused}
use Rattle.ymx_machine.specs.shared.Phases.Phase.{Unborn, Offered, Live, WasReset, Refused, Lingering, Gone}
use Rattle.ymx_machine.specs.stream.Lanes.{Mark, is_unsaid}
use Rattle.ymx_machine.specs.stream.Lanes.Mark.{Unsaid, Said}
use Rattle.ymx_headline.proofs.machine.faces.StreamFaces.{not-both}

-- whether a side was given the stream, and whether it left it
pub record Tale : Type 0 where
  pub began : Bool
  pub left : Bool

abbrev pub has : Tale → Bool
has t = t.began && not t.left

-- an end that a caller has, or had
abbrev pub is_old : Phase → Bool
is_old Live = true
is_old WasReset = true
is_old Lingering = true
is_old Gone = true
is_old _ = false

-- Of a stream's end at a side, and what that side was told; `you`, `yours`: the same of the other side. Beside an end
-- that is up, one that its side has is live, one that is old was given to its side, and one that was refused has said so.
-- An end that its side has is old and said no reset, and beside it one that is old was given to its side.
pub record FitsSide (mine yours : Tale) (me you : Phase) (rst : Mark) : Type 0 where
  pub live : has mine ≡ true → is_up you ≡ true → me ≡ Live
  pub old : is_up you ≡ true → is_old me ≡ true → mine.began ≡ true
  pub refused : is_up you ≡ true → is_refused me ≡ true → is_unsaid rst ≡ false
  pub had : has mine ≡ true → is_old me ≡ true
  pub unsaid : has mine ≡ true → is_unsaid rst ≡ true
  pub given : has yours ≡ true → is_old me ≡ true → mine.began ≡ true
  pub clean : is_up me ≡ true → is_unsaid rst ≡ true

-- The ends of a stream that both sides have are live.
pub record Fits (tale_me tale_you : Tale) (me you : Phase) (rst_me rst_you : Mark) : Type 0 where
  pub both : has tale_me ≡ true → has tale_you ≡ true → (me ≡ Live) × (you ≡ Live)
  pub mine : FitsSide tale_me tale_you me you rst_me
  pub yours : FitsSide tale_you tale_me you me rst_you

pub fits-flip : (x y : Tale) (p q : Phase) (a b : Mark) → Fits x y p q a b → Fits y x q p b a
fits-flip x y p q a b h = record { both = λ u v. (let k = h.both v u in (k.1, k.0)); mine = h.yours; yours = h.mine }

-- a side that has no more than before, and was given the same
pub fits-less : (x z y : Tale) (p q : Phase) (a b : Mark) → (has z ≡ true → has x ≡ true) → z.began ≡ x.began → Fits x y p q a b → Fits z y p q a b
fits-less x z y p q a b f e h = let m = h.mine in let t = h.yours in record {
  both = λ u v. h.both (f u) v;
  mine = record { live = λ u v. m.live (f u) v; old = λ u v. e ∙ m.old u v; refused = m.refused; had = λ u. m.had (f u); unsaid = λ u. m.unsaid (f u); given = λ u v. e ∙ m.given u v; clean = m.clean };
  yours = record { live = t.live; old = t.old; refused = t.refused; had = t.had; unsaid = t.unsaid; given = λ u v. t.given (f u) v; clean = t.clean };
}

pub fits-offered : (x y : Tale) (p q : Phase) (a b : Mark) → p ≡ Unborn → Fits x y p q a b → Fits x y Offered q a b
fits-offered x y p q a b e h = grind arith

pub fits-refused : (x y : Tale) (p q : Phase) (a b : Mark) → p ≡ Unborn → Fits x y p q a b → Fits x y Refused q Said b
fits-refused x y p q a b e h = grind arith

pub fits-released : (x y : Tale) (p q : Phase) (a b : Mark) → p ≡ Lingering → Fits x y p q a b → Fits x y Gone q a b
fits-released x y p q a b e h = grind arith

struck-old : (p : Phase) → is_old p ≡ true → is_old (struck p) ≡ true
struck-old p e = grind arith

-- a reset arrives: neither end is up, and the other side hasn't the stream
pub fits-struck : (x y : Tale) (p q : Phase) (a b c d : Mark) → is_up (struck p) ≡ false → is_up q ≡ false → is_unsaid b ≡ false → (is_unsaid a ≡ true → is_unsaid c ≡ true) →
    Fits x y p q a b → Fits x y (struck p) q c d
fits-struck x y p q a b c d e f g k h =
    let m = h.mine in let t = h.yours in record {
      both = λ u v. absurd (not-both (is_unsaid b) (t.unsaid v) g);
      mine = record {
        live = λ u v. absurd (not-both (is_up q) v f);
        old = λ u v. absurd (not-both (is_up q) u f);
        refused = λ u v. absurd (not-both (is_up q) u f);
        had = λ u. struck-old p (m.had u);
        unsaid = λ u. k (m.unsaid u);
        given = λ v o. absurd (not-both (is_unsaid b) (t.unsaid v) g);
        clean = λ u. absurd (not-both (is_up (struck p)) u e);
      };
      yours = record {
        live = λ u v. absurd (not-both (is_up (struck p)) v e);
        old = λ u v. absurd (not-both (is_up (struck p)) u e);
        refused = λ u v. absurd (not-both (is_up (struck p)) u e);
        had = t.had;
        unsaid = λ v. absurd (not-both (is_unsaid b) (t.unsaid v) g);
        given = t.given;
        clean = λ u. absurd (not-both (is_up q) u f);
      };
    }

-- the side leaves the stream
pub fits-left : (x z y : Tale) (p o q : Phase) (a c b : Mark) → is_old p ≡ true → is_old o ≡ true → is_up o ≡ false → has z ≡ false → z.began ≡ x.began → Fits x y p q a b → Fits z y o q c b
fits-left x z y p o q a c b i j u f e h = grind arith

-- the side accepts it
pub fits-accepted : (x z y : Tale) (p q : Phase) (a b : Mark) → p ≡ Offered → z.began ≡ true → Fits x y p q a b → Fits z y Live q a b
fits-accepted x z y p q a b e f h = grind arith

-- the side opens it
pub fits-opened : (z y : Tale) → z.began ≡ true → has y ≡ false → Fits z y Live Unborn Unsaid Unsaid
fits-opened z y e f = grind arith
