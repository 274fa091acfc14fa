-- The history that a seat has seen grows.
use Rattle.std.proofs.Common.{◌≡◌, ℕ, ◌<◌, List, [], ◌∷◌, ◌++◌, length, Bool, true, false, Option, Some, None, refl, sym, ap, subst, ◌∙◌, length-append, arith}
use Rattle.ymx_model.specs.session.Events.{Event}
use Rattle.ymx_machine.specs.shared.Events.{Reply}
use Rattle.ymx_model.specs.declared.types.Entry.{Entry}
use Rattle.ymx_seats.specs.Journals.{JournalView, part}
use Rattle.ymx_seats.proofs.Moves.{part-append}
use Rattle.ymx_seats.specs.Views.{entry, kept_entries, journal_after, whole_of, IsBehind, HasIf}
use Rattle.ymx_hub.specs.Books.{Grows, Extends}
use Rattle.ymx_hub.specs.Steps.{entries_after}

grows_on : (n : ℕ) (v : List Entry) (es : List Entry) (m : List Entry) (ds : List Entry) (w : List Entry) → Grows n v es m → Grows n m ds w → Grows n v (es ++ ds) w
grows_on n v [] m ds w g h = subst (λ (x : List Entry). Grows n x ds w) g h
grows_on n v (e ∷ es) m ds w g h = (g.0, g.1, g.2, grows_on n ((v ++ g.0) ++ e ∷ []) es m ds w g.3 h)

-- nothing was added
pub extends_none : (n : ℕ) (v w : Option (List Entry)) (Such : List Entry → Type 0) → w ≡ v → Such [] → Extends n v w Such
extends_none n v w Such e p = subst (λ (x : Option (List Entry)). Extends n v x Such) (sym e) (same v)
  where
    same : (v : Option (List Entry)) → Extends n v v Such
    same None = tt
    same (Some v) = ([], p, refl)

-- what is added first, then what is added next
pub extends_on : (n : ℕ) (v m w : Option (List Entry)) (First Next Both : List Entry → Type 0) → ((es ds : List Entry) → First es → Next ds → Both (es ++ ds)) → Extends n v m First → Extends n m w Next → Extends n v w Both
extends_on n None None None First Next Both f g h = tt
extends_on n None None (Some w) First Next Both f g h = h
extends_on n None (Some m) w First Next Both f g h = absurd g
extends_on n (Some v) None w First Next Both f g h = absurd g
extends_on n (Some v) (Some m) None First Next Both f g h = h
extends_on n (Some v) (Some m) (Some w) First Next Both f g h = (g.0 ++ h.0, f g.0 h.0 g.1 h.1, grows_on n v g.0 m h.0 w g.2 h.2)

pub extends_weaker : (n : ℕ) (v w : Option (List Entry)) (Such Other : List Entry → Type 0) → ((es : List Entry) → Such es → Other es) → Extends n v w Such → Extends n v w Other
extends_weaker n None None Such Other f g = tt
extends_weaker n None (Some w) Such Other f g = g
extends_weaker n (Some v) None Such Other f g = g
extends_weaker n (Some v) (Some w) Such Other f g = (g.0, f g.0 g.1, g.2)

none_between : (n : ℕ) (v b : List Entry) → part n (v ++ b) ≡ part n v → part n b ≡ []
none_between n v b e = empty (part n b) (omega (arith, ap length e, ap length (part-append n v b), length-append (part n v) (part n b)))
  where
    empty : (xs : List Entry) → length xs ≡ 0 → xs ≡ []
    empty [] len = refl
    empty (x ∷ xs) len = absurd (omega arith)

-- the entry of one event was added after what is seen of the journal
pub extends_one : (n : ℕ) (v w : Option (List Entry)) (log : Option JournalView) (event : Event) (told : Reply) (Such : List Entry → Type 0) → w ≡ whole_of (journal_after n event told log) → IsBehind n v log → ((p : ℕ) → HasIf true log → Such (entry p n event told ∷ [])) → Extends n v w Such
extends_one n v w log event told Such e b p = subst (λ (x : Option (List Entry)). Extends n v x Such) (sym e) (added v log b p)
  where
    added : (v : Option (List Entry)) (log : Option JournalView) → IsBehind n v log → ((p : ℕ) → HasIf true log → Such (entry p n event told ∷ [])) → Extends n v (whole_of (journal_after n event told log)) Such
    added None None b p = tt
    added None (Some j) b p = b
    added (Some v) None b p = b
    added (Some v) (Some j) b p = (
      entry (length j.whole) n event told ∷ [],
      p (length j.whole) tt,
      (
        b.0.0,
        none_between n v b.0.0 (ap (part n) b.0.1 ∙ b.1),
        ap length (sym b.0.1),
        ap (λ es. es ++ entry (length j.whole) n event told ∷ []) (sym b.0.1),
      ),
    )

-- ---- the same at what is equal

pub behind_at : (n m : ℕ) (v w : Option (List Entry)) (j k : Option JournalView) → n ≡ m → v ≡ w → j ≡ k → IsBehind n v j → IsBehind m w k
behind_at n m v w j k p q r b =
    subst (λ (x : ℕ). IsBehind x w k) p (subst (λ (x : Option (List Entry)). IsBehind n x k) q (subst (λ (x : Option JournalView). IsBehind n v x) r b))

pub journal_at : (n m : ℕ) (d e : Event) (q r : Reply) (j k l : Option JournalView) → l ≡ journal_after n d q j → n ≡ m → d ≡ e → q ≡ r → j ≡ k → l ≡ journal_after m e r k
journal_at n m d e q r j k l is a b c d' = is ∙ (λ i. journal_after (a i) (b i) (c i) (d' i))

pub entries_at : (keeps : Bool) (n m p : ℕ) (d e : Event) (q r : Reply) (es fs gs : List Entry) → gs ≡ es ++ kept_entries keeps (entry p n d q) → n ≡ m → d ≡ e → q ≡ r → es ≡ fs → gs ≡ fs ++ kept_entries keeps (entry p m e r)
entries_at keeps n m p d e q r es fs gs is a b c d' = is ∙ (λ i. d' i ++ kept_entries keeps (entry p (a i) (b i) (c i)))

pub after_at : (keeps : Bool) (n m : ℕ) (d e : Event) (q r : Reply) (es fs gs : List Entry) → gs ≡ es ++ kept_entries keeps (entry (length es) n d q) → n ≡ m → d ≡ e → q ≡ r → es ≡ fs → gs ≡ entries_after keeps m e r fs
after_at keeps n m d e q r es fs gs is a b c d' = is ∙ (λ i. entries_after keeps (a i) (b i) (c i) (d' i))

-- where an entry was kept, there are more after it
pub kept_longer : (keeps : Bool) (es fs : List Entry) (e : Entry) (start : ℕ) → start ≡ length fs → fs ≡ es ++ kept_entries keeps e → keeps ≡ true → length es < start
kept_longer true es fs e start s f k = omega (arith, s, ap length f, length-append es (e ∷ []))
kept_longer false es fs e start s f k = cc
