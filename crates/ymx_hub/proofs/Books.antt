-- What is added to the list of a seat.
use Rattle.std.proofs.Common.{◌≡◌, ℕ, ◌<◌, List, [], ◌∷◌, ◌++◌, length, Bool, true, false, Option, Some, None, refl, sym, ap, subst, ◌∙◌, append_assoc, append-nil, Result, Ok, Err, inl, inr}
use Rattle.ymx_model.specs.declared.types.Entry.{Entry}
use Rattle.ymx_machine.specs.declared.types.CallFault.{CallFault}
use Rattle.ymx_model.specs.session.Events.{Event}
use Rattle.ymx_machine.specs.shared.Events.{Reply}
use Rattle.ymx_machine.specs.declared.types.Reply.TheVariants as reply
use Rattle.ymx_seats.specs.Journals.{JournalView}
use Rattle.ymx_seats.specs.Views.{SeatView, kept_entries, entry, journal_after, whole_of, IsBehind, HasIf}
use Rattle.ymx_hub.specs.Answers.{hub_answer, hub_fault_of}
use Rattle.ymx_session.specs.Replies.{done_or}
use Rattle.ymx_hub.specs.Books.{Gains, Extends, Books, One, Does, StartsAfter, StartsBehind, IsFresh, IsGiven, IsRefused, Spends, Forgets, to_forget}
use Rattle.ymx_hub.specs.declared.faults.HubFault.{HubFault}
use Rattle.ymx_hub.proofs.Extends.{extends_none, extends_one, extends_on, extends_weaker}

gains_none : (keeps : Bool) (before after : List Entry) (Such : List Entry → Type 0) → after ≡ before → Such [] → Gains keeps before after Such
gains_none true before after Such e p = ([], e ∙ sym (append-nil before), p)
gains_none false before after Such e p = tt

-- nothing was added
pub books_none : (keeps : Bool) (old new : SeatView) (Such : List Entry → Type 0) → new.number ≡ old.number → new.start ≡ old.start → new.entries ≡ old.entries → new.seen ≡ old.seen → Such [] → Books keeps old new Such
books_none keeps old new Such n s e w p = record {
  number = n;
  start = s;
  gains = gains_none keeps old.entries new.entries Such e p;
  extends = extends_none old.number old.seen new.seen Such w p;
}

gains_weaker : (keeps : Bool) (before after : List Entry) (Such Other : List Entry → Type 0) → ((es : List Entry) → Such es → Other es) → Gains keeps before after Such → Gains keeps before after Other
gains_weaker true before after Such Other f g = (g.0, g.1, f g.0 g.2)
gains_weaker false before after Such Other f g = tt

-- nothing is added
pub books_same : (keeps : Bool) (seat : SeatView) (Such : List Entry → Type 0) → Such [] → Books keeps seat seat Such
books_same keeps seat Such p = books_none keeps seat seat Such refl refl refl refl p

-- what was added is such, and so is other
pub books_weaker : (keeps : Bool) (old new : SeatView) (Such Other : List Entry → Type 0) → ((es : List Entry) → Such es → Other es) → Books keeps old new Such → Books keeps old new Other
books_weaker keeps old new Such Other f b = record {
  number = b.number;
  start = b.start;
  gains = gains_weaker keeps old.entries new.entries Such Other f b.gains;
  extends = extends_weaker old.number old.seen new.seen Such Other f b.extends;
}

gains_one : (keeps : Bool) (before after : List Entry) (x : Entry) (Such : List Entry → Type 0) → after ≡ before ++ kept_entries keeps x → (keeps ≡ true → Such (x ∷ [])) → Gains keeps before after Such
gains_one true before after x Such e p = (x ∷ [], e, p refl)
gains_one false before after x Such e p = tt

-- The entry of one event was added: in the list of the seat, and in the history that it has seen.
pub books_one : (keeps : Bool) (old new : SeatView) (event : Event) (told : Reply) (position : ℕ) (log : Option JournalView) (Such : List Entry → Type 0) → new.number ≡ old.number → new.start ≡ old.start → new.entries ≡ old.entries ++ kept_entries keeps (entry position old.number event told) → new.seen ≡ whole_of (journal_after old.number event told log) → IsBehind old.number old.seen log → (keeps ≡ true → Such (entry position old.number event told ∷ [])) → ((p : ℕ) → HasIf true log → Such (entry p old.number event told ∷ [])) → Books keeps old new Such
books_one keeps old new event told position log Such n s e w b p q = record {
  number = n;
  start = s;
  gains = gains_one keeps old.entries new.entries (entry position old.number event told) Such e p;
  extends = extends_one old.number old.seen new.seen log event told Such w b q;
}

-- an event that can't be refused
pub does_one : {A : Type 0} (keeps : Bool) (old new : SeatView) (event : Event) (told : A → Reply) (position : ℕ) (log : Option JournalView) (x : A) → new.number ≡ old.number → new.start ≡ old.start → new.entries ≡ old.entries ++ kept_entries keeps (entry position old.number event (told x)) → new.seen ≡ whole_of (journal_after old.number event (told x) log) → IsBehind old.number old.seen log → Books keeps old new (Does event told old.number (Ok x))
does_one keeps old new event told position log x n s e w b =
    books_one keeps old new event (told x) position log (Does event told old.number (Ok x)) n s e w b (λ _. (position, refl)) (λ p _. (p, refl))

-- ---- streams that are handed out

-- a seat starts after the entry that gave its stream
starts_after : (seat : ℕ) (event : Event) (told : Reply) (log : Option JournalView) (one : SeatView) (p : ℕ) → one.seen ≡ whole_of (journal_after seat event told log) → (log ≡ None → p < one.start) → StartsAfter (entry p seat event told) one
starts_after seat event told log one p e less = subst (StartsBehind (entry p seat event told) one.start) (sym e) (behind log less)
  where
    behind : (log : Option JournalView) → (log ≡ None → p < one.start) → StartsBehind (entry p seat event told) one.start (whole_of (journal_after seat event told log))
    behind None less = less refl
    behind (Some j) less = (j.whole, length j.whole, refl)

there : {A : Type 0} (log : Option A) → HasIf true log → log ≡ None → ⊥
there None h e = h
there (Some x) h e = cc

pub given_one : (keeps : Bool) (old new one other : SeatView) (event : Event) (told : Reply) (position : ℕ) (log : Option JournalView) (Such : List Entry → Type 0) → ((es : List Entry) → IsGiven event told old.number one other es → Such es) → new.number ≡ old.number → new.start ≡ old.start → new.entries ≡ old.entries ++ kept_entries keeps (entry position old.number event told) → new.seen ≡ whole_of (journal_after old.number event told log) → IsBehind old.number old.seen log
    → one.seen ≡ whole_of (journal_after old.number event told log) → other.seen ≡ whole_of (journal_after old.number event told log) → (keeps ≡ true → position < one.start) → (keeps ≡ true → position < other.start) → IsFresh one → IsFresh other → Books keeps old new Such
given_one keeps old new one other event told position log Such f n s e w b v u k l a c =
    books_one keeps old new event told position log Such n s e w b
    (λ is. f (entry position old.number event told ∷ []) (position, refl, starts_after old.number event told log one position v (λ _. k is), starts_after old.number event told log other position u (λ _. l is), a, c))
    (λ p has. f (entry p old.number event told ∷ []) (p, refl, starts_after old.number event told log one p v (λ none. absurd (there log has none)), starts_after old.number event told log other p u (λ none. absurd (there log has none)), a, c))

-- the event that gives streams was refused
pub refused_one : (keeps : Bool) (old new : SeatView) (event : Event) (why : CallFault) (fault : HubFault) (position : ℕ) (log : Option JournalView) (Such : List Entry → Type 0) → ((es : List Entry) → IsRefused event old.number fault es → Such es) → fault ≡ hub_fault_of why → new.number ≡ old.number → new.start ≡ old.start → new.entries ≡ old.entries ++ kept_entries keeps (entry position old.number event (reply.Refused why)) → new.seen ≡ whole_of (journal_after old.number event (reply.Refused why) log) → IsBehind old.number old.seen log → Books keeps old new Such
refused_one keeps old new event why fault position log Such f is n s e w b =
    books_one keeps old new event (reply.Refused why) position log Such n s e w b
    (λ _. f (entry position old.number event (reply.Refused why) ∷ []) (inr (why, is, (position, refl)))) (λ p _. f (entry p old.number event (reply.Refused why) ∷ []) (inr (why, is, (p, refl))))

-- ---- halves that are spent

spends_by : (event : Event) (id seat position : ℕ) (given : Result (Unit {0}) CallFault) (rest : List Entry) → Forgets id seat rest → Spends event id seat (hub_answer given) (entry position seat event (done_or given) ∷ rest)
spends_by event id seat position (Ok u) rest f = (position, rest, refl, f)
spends_by event id seat position (Err why) rest f = inr (why, refl, (position, rest, refl, f))

-- the first half of a stream is spent
pub spends_one : (keeps : Bool) (old new : SeatView) (event : Event) (id position : ℕ) (log : Option JournalView) (given : Result (Unit {0}) CallFault) (result : Result (Unit {0}) HubFault) → result ≡ hub_answer given → new.number ≡ old.number → new.start ≡ old.start → new.entries ≡ old.entries ++ kept_entries keeps (entry position old.number event (done_or given)) → new.seen ≡ whole_of (journal_after old.number event (done_or given) log) → IsBehind old.number old.seen log → Books keeps old new (Spends event id old.number result)
spends_one keeps old new event id position log given result a n s e w b =
    books_one keeps old new event (done_or given) position log (Spends event id old.number result) n s e w b
    (λ _. rw a (spends_by event id old.number position given [] (inl refl))) (λ p _. rw a (spends_by event id old.number p given [] (inl refl)))

-- what one event adds, and then the next
pub books_both : (keeps : Bool) (old mid new : SeatView) (First Next Both : List Entry → Type 0) → ((es ds : List Entry) → First es → Next ds → Both (es ++ ds)) → Books keeps old mid First → Books keeps mid new Next → Books keeps old new Both
books_both keeps old mid new First Next Both f g h = record {
  number = h.number ∙ g.number;
  start = h.start ∙ g.start;
  gains = gains_both keeps g.gains h.gains;
  extends = extends_on old.number old.seen mid.seen new.seen First Next Both f g.extends (subst (λ (n : ℕ). Extends n mid.seen new.seen Next) g.number h.extends);
}
  where
    gains_both : (keeps : Bool) → Gains keeps old.entries mid.entries First → Gains keeps mid.entries new.entries Next → Gains keeps old.entries new.entries Both
    gains_both true x y = (x.0 ++ y.0, y.1 ∙ ap (λ es. es ++ y.0) x.1 ∙ append_assoc old.entries x.0 y.0, f x.0 y.0 x.2 y.2)
    gains_both false x y = tt

-- the same, where what is added next names the seat
pub books_at : (keeps : Bool) (old mid new : SeatView) (First : List Entry → Type 0) (Next : ℕ → List Entry → Type 0) (Both : List Entry → Type 0) → ((es ds : List Entry) → First es → Next old.number ds → Both (es ++ ds)) → Books keeps old mid First → Books keeps mid new (Next mid.number) → Books keeps old new Both
books_at keeps old mid new First Next Both f g h =
    books_both keeps old mid new First (Next old.number) Both f g (subst (λ (n : ℕ). Books keeps mid new (Next n)) g.number h)

spends_both : (event : Event) (id seat : ℕ) (given : Result (Unit {0}) CallFault) (told : Reply) (es ds : List Entry) → One seat event (done_or given) es → One seat (to_forget id) told ds → Spends event id seat (hub_answer given) (es ++ ds)
spends_both event id seat given told es ds x y = rw (x.1, y.1) (spends_by event id seat x.0 given (entry y.0 seat (to_forget id) told ∷ []) (inr (told, (y.0, refl))))

-- the second half of a stream is spent
pub spends_two : (keeps : Bool) (old mid new : SeatView) (event : Event) (id position next : ℕ) (log then : Option JournalView) (given : Result (Unit {0}) CallFault) (told : Reply) (result : Result (Unit {0}) HubFault) → result ≡ hub_answer given → mid.number ≡ old.number → mid.start ≡ old.start → mid.entries ≡ old.entries ++ kept_entries keeps (entry position old.number event (done_or given)) → mid.seen ≡ whole_of (journal_after old.number event (done_or given) log) → IsBehind old.number old.seen log
    → new.number ≡ mid.number → new.start ≡ mid.start → new.entries ≡ mid.entries ++ kept_entries keeps (entry next mid.number (to_forget id) told) → new.seen ≡ whole_of (journal_after mid.number (to_forget id) told then) → IsBehind mid.number mid.seen then → Books keeps old new (Spends event id old.number result)
spends_two keeps old mid new event id position next log then given told result a n s e w b n' s' e' w' b' =
    books_both keeps old mid new (One old.number event (done_or given)) (One mid.number (to_forget id) told) (Spends event id old.number result)
    (λ es ds x y. rw a (spends_both event id old.number given told es ds x (subst (λ (m : ℕ). One m (to_forget id) told ds) n y)))
    (books_one keeps old mid event (done_or given) position log (One old.number event (done_or given)) n s e w b (λ _. (position, refl)) (λ p _. (p, refl)))
    (books_one keeps mid new (to_forget id) told next then (One mid.number (to_forget id) told) n' s' e' w' b' (λ _. (next, refl)) (λ p _. (p, refl)))
