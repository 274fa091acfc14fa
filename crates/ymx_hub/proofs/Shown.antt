-- What a seat sees of the whole history is after what it had seen, and what is booked after that.
use Rattle.std.proofs.Common.{◌≡◌, ℕ, List, [], ◌∷◌, ◌++◌, length, Bool, Option, Some, None, refl, sym, ap, subst, ◌∙◌, append_assoc, append-nil}
use Rattle.std.proofs.lemmas.List.{append_cancel_left}
use Rattle.ymx_model.specs.declared.types.Entry.{Entry}
use Rattle.ymx_seats.specs.Journals.{JournalView, part}
use Rattle.ymx_seats.specs.Views.{SeatView, whole_of, IsBehind}
use Rattle.ymx_seats.proofs.Moves.{part-append}
use Rattle.ymx_hub.specs.Books.{Grows, Extends, Books}
use Rattle.ymx_hub.specs.Shown.{HasGrown, IsShown, BooksShown}
use Rattle.ymx_hub.proofs.Books.{books_same, books_at, books_weaker}

pub grown : (n : ℕ) (v : Option (List Entry)) (j : Option JournalView) → IsBehind n v j → HasGrown n v (whole_of j)
grown n None None b = b
grown n None (Some j) b = b
grown n (Some v) None b = b
grown n (Some v) (Some j) b = b

pub shown_none : (seat : SeatView) → IsShown seat seat
shown_none seat = record { rest = refl; grown = same seat.seen }
  where
    same : (v : Option (List Entry)) → HasGrown seat.number v v
    same None = tt
    same (Some v) = (([], append-nil v), refl)

grown_on : (n : ℕ) (v w x : Option (List Entry)) → HasGrown n v w → HasGrown n w x → HasGrown n v x
grown_on n None None None g h = tt
grown_on n None None (Some x) g h = h
grown_on n None (Some w) x g h = absurd g
grown_on n (Some v) None x g h = absurd g
grown_on n (Some v) (Some w) None g h = h
grown_on n (Some v) (Some w) (Some x) g h = ((g.0.0 ++ h.0.0, sym (append_assoc v g.0.0 h.0.0) ∙ ap (λ es. es ++ h.0.0) g.0.1 ∙ h.0.1), h.1 ∙ g.1)

pub shown_on : (one two three : SeatView) → IsShown one two → IsShown two three → IsShown one three
shown_on one two three s t = record {
  rest = t.rest ∙ ap (λ (v : SeatView). record v { seen = three.seen }) s.rest;
  grown = grown_on one.number one.seen two.seen three.seen s.grown (subst (λ (n : ℕ). HasGrown n two.seen three.seen) (ap (λ (v : SeatView). v.number) s.rest) t.grown);
}

-- what was shown before own entries are added stands between them and what had been seen
extends_behind : (n : ℕ) (v m w : Option (List Entry)) (Such : List Entry → Type 0) → HasGrown n v m → Extends n m w Such → (x : Option (List Entry)) × Extends n v x Such × HasGrown n x w
extends_behind n None None None Such g h = (None, tt, tt)
extends_behind n None None (Some w) Such g h = absurd h
extends_behind n None (Some m) w Such g h = absurd g
extends_behind n (Some v) None w Such g h = absurd g
extends_behind n (Some v) (Some m) None Such g h = absurd h
extends_behind n (Some v) (Some m) (Some w) Such g h = some h.0 h.1 h.2
  where
    some : (added : List Entry) → Such added → Grows n m added w → (x : Option (List Entry)) × Extends n (Some v) x Such × HasGrown n x (Some w)
    some [] p e = (Some v, ([], p, refl), subst (λ (x : List Entry). HasGrown n (Some v) (Some x)) (sym e) g)
    some (e ∷ es) p k =
        let place : (v ++ (g.0.0 ++ k.0)) ≡ m ++ k.0 = sym (append_assoc v g.0.0 k.0) ∙ ap (λ x. x ++ k.0) g.0.1 in
        let none : part n g.0.0 ≡ [] = append_cancel_left (part n v) (part n g.0.0) [] (sym (part-append n v g.0.0) ∙ ap (part n) g.0.1 ∙ g.1 ∙ sym (append-nil (part n v))) in (
          Some w,
          (e ∷ es, p, (g.0.0 ++ k.0, part-append n g.0.0 k.0 ∙ ap (λ x. x ++ part n k.0) none ∙ k.1, k.2 ∙ ap length (sym place), subst (λ (x : List Entry). Grows n (x ++ e ∷ []) es w) (sym place) k.3)),
          (([], append-nil w), refl),
        )

-- what is booked alone
pub shown_booked : (keeps : Bool) (old new : SeatView) (Such : List Entry → Type 0) → Books keeps old new Such → BooksShown keeps old new Such
shown_booked keeps old new Such g = record { between = new; booked = g; shown = shown_none new }

-- what is shown after what is booked
pub booked_shown : (keeps : Bool) (old mid new : SeatView) (Such : List Entry → Type 0) → Books keeps old mid Such → IsShown mid new → BooksShown keeps old new Such
booked_shown keeps old mid new Such g s = record { between = mid; booked = g; shown = s }

-- what is shown alone
pub shown_alone : (keeps : Bool) (old new : SeatView) (Such : List Entry → Type 0) → Such [] → IsShown old new → BooksShown keeps old new Such
shown_alone keeps old new Such p s = record { between = old; booked = books_same keeps old Such p; shown = s }

-- what is booked after what was shown
pub shown_before : (keeps : Bool) (old mid new : SeatView) (Such : List Entry → Type 0) → IsShown old mid → Books keeps mid new Such → BooksShown keeps old new Such
shown_before keeps old mid new Such s g = by (subst (λ (v : SeatView). Books keeps v new Such) s.rest g)
  where
    by : Books keeps (record old { seen = mid.seen }) new Such → BooksShown keeps old new Such
    by h =
        let e : (x : Option (List Entry)) × Extends old.number old.seen x Such × HasGrown old.number x new.seen = extends_behind old.number old.seen mid.seen new.seen Such s.grown h.extends in
        record {
          between = record new { seen = e.0 };
          booked = record { number = h.number; start = h.start; gains = h.gains; extends = e.1 };
          shown = record { rest = refl; grown = subst (λ (n : ℕ). HasGrown n e.0 new.seen) (sym h.number) e.2 };
        }

-- what is added first, and then what is added next, each with what was shown after it
pub shown_at : (keeps : Bool) (old mid new : SeatView) (First : List Entry → Type 0) (Next : ℕ → List Entry → Type 0) (Both : List Entry → Type 0) → ((es ds : List Entry) → First es → Next old.number ds → Both (es ++ ds)) → BooksShown keeps old mid First → BooksShown keeps mid new (Next mid.number) → BooksShown keeps old new Both
shown_at keeps old mid new First Next Both f g h =
    let k : BooksShown keeps g.between h.between (Next mid.number) = shown_before keeps g.between mid h.between (Next mid.number) g.shown h.booked in
    record {
      between = k.between;
      booked = books_at keeps old g.between k.between First Next Both f g.booked (subst (λ (n : ℕ). Books keeps g.between k.between (Next n)) (ap (λ (v : SeatView). v.number) g.shown.rest) k.booked);
      shown = shown_on k.between h.between new k.shown h.shown;
    }

-- the same, where what is added is seen as other
pub shown_weaker : (keeps : Bool) (old new : SeatView) (Such Other : List Entry → Type 0) → ((es : List Entry) → Such es → Other es) → BooksShown keeps old new Such → BooksShown keeps old new Other
shown_weaker keeps old new Such Other f g = record { between = g.between; booked = books_weaker keeps old g.between Such Other f g.booked; shown = g.shown }
