-- What the entries of one half of a stream say of all that its stream carried, in a history that its caller has seen.
use Rattle.std.proofs.Common.{◌≡◌, ◌⊎◌, inl, inr, ℕ, zero, suc, ◌==◌, List, [], ◌∷◌, ◌++◌, length, take, Bool, true, false, Option, None, Some, Ok, refl, sym, ap, subst, ◌∙◌, append_assoc, append-nil, arith}
use Rattle.std.specs.Prelude.{slice_get, ◌||◌}
use Rattle.std.proofs.lemmas.Bool.Decides.{nat_tests}
use mathlib.Core.List.{IsPrefix}
use Rattle.ymx_machine.specs.declared.types.Call.TheVariants as call
use Rattle.ymx_machine.specs.declared.types.Reply.TheVariants as reply
use Rattle.ymx_machine.specs.declared.types.Wrote.TheVariants.{Took}
use Rattle.ymx_machine.specs.shared.Events.{Reply}
use Rattle.ymx_machine.proofs.Tests.{when, agrees, one_some, is-self}
use Rattle.ymx_model.specs.session.Events.{Event}
use Rattle.ymx_model.specs.declared.types.Event.TheVariants as event
use Rattle.ymx_model.specs.declared.types.Entry.{Entry}
use Rattle.ymx_seats.specs.Journals.{part}
use Rattle.ymx_seats.specs.Views.{IsNewcomer, entry}
use Rattle.ymx_seats.proofs.Moves.{part-append}
use Rattle.ymx_hub.specs.Books.{Grows, Extends, StartsBehind, TellsStream, Forgets, SpendsWith, Closes, to_write, to_read, to_finish, to_forget}
use Rattle.ymx_hub.specs.Turns.{took_of}
use Rattle.ymx_hub.specs.Carried.{offered, bytes_written, read_of, read_bytes}
use Rattle.ymx_hub.specs.Rights.{IsWriters, IsReaders, DoesAlone, WritesAlone, ReadsAlone}
use Rattle.ymx_hub.specs.Shown.{HasGrown}
use Rattle.ymx_seats.proofs.Places.{got_last}
use Rattle.ymx_connect.specs.Streams.{AreReads, ReadsUpTo, AreWritesTo, WritesOf}
use Rattle.ymx_connect.specs.Told.{StandsIn}
use Rattle.ymx_joined.specs.Callers.{took_at, all_taken, gave_at, all_given, finished_at, ended_at, was_ended, opens_or_accepts, AreHandedOutOnce, TakeNoneBehindFinish, GiveNoneBehindEnd}
use Rattle.ymx_joined.proofs.Shut.{if_not}

-- ---- what is gathered of entries

abbrev gathered : (Event → Reply → List ℕ) → List Entry → List ℕ
gathered of [] = []
gathered of (x ∷ xs) = of x.event x.reply ++ gathered of xs

gathered-append : (of : Event → Reply → List ℕ) (xs ys : List Entry) → gathered of (xs ++ ys) ≡ gathered of xs ++ gathered of ys
gathered-append of [] ys = refl
gathered-append of (x ∷ xs) ys =
    ap (λ (v : List ℕ). of x.event x.reply ++ v) (gathered-append of xs ys) ∙ sym (append_assoc (of x.event x.reply) (gathered of xs) (gathered of ys))

taken_gathered : (id : ℕ) (xs : List Entry) → all_taken id xs ≡ gathered (took_at id) xs
taken_gathered id [] = refl
taken_gathered id (x ∷ xs) = ap (λ (v : List ℕ). took_at id x.event x.reply ++ v) (taken_gathered id xs)

given_gathered : (id : ℕ) (xs : List Entry) → all_given id xs ≡ gathered (gave_at id) xs
given_gathered id [] = refl
given_gathered id (x ∷ xs) = ap (λ (v : List ℕ). gave_at id x.event x.reply ++ v) (given_gathered id xs)

none_joined : (xs ys : List ℕ) → xs ++ ys ≡ [] → ys ≡ []
none_joined [] ys e = e
none_joined (x ∷ xs) ys e = let no : ⊥ = cc in absurd no

-- ---- the entries of one caller

-- an entry of the caller is one of its part
own_first : (n : ℕ) (e : Entry) (es : List Entry) → e.seat ≡ n → part n (e ∷ es) ≡ e ∷ part n es
own_first n e es is = let same : (e.seat == n) ≡ true = grind (arith, nat_tests) in rw same refl

-- an entry of which nothing is gathered may be left out
silent_first : (of : Event → Reply → List ℕ) (n : ℕ) (e : Entry) (es : List Entry) → of e.event e.reply ≡ [] → gathered of (part n (e ∷ es)) ≡ gathered of (part n es)
silent_first of n e es none = elim (when (e.seat == n)) [
  | inl b ↦ rw (b, none) refl
  | inr b ↦ rw b refl
]

-- nothing is gathered of the entries of other callers
abbrev OthersGiveNone : (Event → Reply → List ℕ) → (n : ℕ) → List Entry → Type 0
OthersGiveNone of n es = (place : ℕ) (e : Entry) → slice_get es place ≡ Some e → (e.seat ≡ n) ⊎ (of e.event e.reply ≡ [])

-- then all that is gathered is the caller's
own_gathered : (of : Event → Reply → List ℕ) (n : ℕ) (es : List Entry) → OthersGiveNone of n es → gathered of es ≡ gathered of (part n es)
own_gathered of n [] h = refl
own_gathered of n (e ∷ es) h =
    let rest : gathered of es ≡ gathered of (part n es) = own_gathered of n es (λ place x is. h (suc place) x is) in
    elim (h 0 e refl) [
      | inl own ↦ ap (λ (v : List ℕ). of e.event e.reply ++ v) rest ∙ sym (ap (gathered of) (own_first n e es own))
      | inr none ↦ ap (λ (v : List ℕ). v ++ gathered of es) none ∙ rest ∙ sym (silent_first of n e es none)
    ]

-- ---- what a caller has seen grows

-- what had been seen is a beginning of it, and of the caller's own just these entries are new
grown : (n : ℕ) (v own w : List Entry) → Grows n v own w → IsPrefix v w × (part n w ≡ part n v ++ part n own)
grown n v [] w g = (([], append-nil v ∙ sym g), ap (part n) g ∙ sym (append-nil (part n v)))
grown n v (e ∷ es) w g =
    let on = grown n ((v ++ g.0) ++ e ∷ []) es w g.3 in
    let before : part n (v ++ g.0) ≡ part n v = part-append n v g.0 ∙ ap (λ (x : List Entry). part n v ++ x) g.1 ∙ append-nil (part n v) in (
      (g.0 ++ (e ∷ on.0.0), sym (append_assoc v g.0 (e ∷ on.0.0)) ∙ sym (append_assoc (v ++ g.0) (e ∷ []) on.0.0) ∙ on.0.1),
      on.1
          ∙ ap (λ (x : List Entry). x ++ part n es) (part-append n (v ++ g.0) (e ∷ []) ∙ ap (λ (x : List Entry). x ++ part n (e ∷ [])) before)
          ∙ append_assoc (part n v) (part n (e ∷ [])) (part n es)
          ∙ ap (λ (x : List Entry). part n v ++ x) (sym (part-append n (e ∷ []) es)),
    )

-- an entry stands in a history
abbrev StandsAt : Entry → List Entry → Type 0
StandsAt e es = (before : List Entry) × (after : List Entry) × (es ≡ before ++ e ∷ after)

stands_grown : (n : ℕ) (v xs ys w : List Entry) (e : Entry) → Grows n v (xs ++ e ∷ ys) w → StandsAt e w
stands_grown n v [] ys w e g =
    let on = grown n ((v ++ g.0) ++ e ∷ []) ys w g.3 in
    (v ++ g.0, on.0.0, sym on.0.1 ∙ append_assoc (v ++ g.0) (e ∷ []) on.0.0)
stands_grown n v (x ∷ xs) ys w e g = stands_grown n ((v ++ g.0) ++ x ∷ []) xs ys w e g.3

stands_on : (e : Entry) (v w : List Entry) → StandsAt e v → IsPrefix v w → StandsAt e w
stands_on e v w s p = (s.0, s.1 ++ p.0, sym p.1 ∙ ap (λ (x : List Entry). x ++ p.0) s.2 ∙ append_assoc s.0 (e ∷ s.1) p.0)

prefix_on : (v w x : List Entry) → IsPrefix v w → IsPrefix w x → IsPrefix v x
prefix_on v w x p q = (p.0 ++ q.0, sym (append_assoc v p.0 q.0) ∙ ap (λ (es : List Entry). es ++ q.0) p.1 ∙ q.1)

got_on : (xs ys : List Entry) (p : ℕ) (x : Entry) → slice_get xs p ≡ Some x → slice_get (xs ++ ys) p ≡ Some x
got_on [] ys p x e = let no : ⊥ = cc in absurd no
got_on (z ∷ zs) ys zero x e = e
got_on (z ∷ zs) ys (suc p) x e = got_on zs ys p x e

got_in : (xs es : List Entry) (p : ℕ) (x : Entry) → IsPrefix xs es → slice_get xs p ≡ Some x → slice_get es p ≡ Some x
got_in xs es p x q e = subst (λ (v : List Entry). slice_get v p ≡ Some x) q.1 (got_on xs q.0 p x e)

-- ---- the entry that gave the stream

-- a reply that says so gave the stream
tells_given : (id taken : ℕ) (a : Event) (r : Reply) → TellsStream a id taken r → opens_or_accepts id a r ≡ true
tells_given id taken (event.Call call.Open) r t = ap (opens_or_accepts id (event.Call call.Open)) t ∙ is-self id
tells_given id taken (event.Call (call.OpenWith bytes)) r t = ap (opens_or_accepts id (event.Call (call.OpenWith bytes))) t ∙ is-self id
tells_given id taken (event.Call call.Accept) r t = ap (opens_or_accepts id (event.Call call.Accept)) t ∙ is-self id
tells_given id taken a r t = absurd t

-- The stream was given by the last entry that a seat has seen, which carried nothing of it; and the seat has made no call.
pub record IsFirst (of : Event → Reply → List ℕ) (id n : ℕ) (first : List Entry) : Type 0 where
  pub before : List Entry
  pub giver : Entry
  pub is : first ≡ before ++ giver ∷ []
  pub gives : opens_or_accepts id giver.event giver.reply ≡ true
  pub none : of giver.event giver.reply ≡ []
  pub fresh : part n first ≡ []

abbrev pub Starts : (of : Event → Reply → List ℕ) (id n : ℕ) → Option (List Entry) → Type 0
Starts of id n None = Unit {0}
Starts of id n (Some first) = IsFirst of id n first

pub starts : (of : Event → Reply → List ℕ) (id taken n position seat start : ℕ) (a : Event) (r : Reply) (seen : Option (List Entry)) →
    TellsStream a id taken r → of a r ≡ [] → StartsBehind (entry position seat a r) start seen → IsNewcomer n seen → Starts of id n seen
starts of id taken n position seat start a r None t none s new = tt
starts of id taken n position seat start a r (Some first) t none s new =
    record { before = s.0; giver = entry s.1 seat a r; is = s.2; gives = tells_given id taken a r t; none = none; fresh = new }

-- ---- the caller does it alone

-- what an event carries is carried by such a call, or by the event that gave the stream
abbrev IsCarriedBy : (of : Event → Reply → List ℕ) (Such : Event → Type 0) (id : ℕ) → Type 0
IsCarriedBy of Such id = (a : Event) (r : Reply) → (of a r ≡ []) ⊎ (Such a ⊎ (opens_or_accepts id a r ≡ true))

taken_by_writers : (id : ℕ) → IsCarriedBy (took_at id) (IsWriters id) id
taken_by_writers id (event.Call (call.Write to bytes)) (reply.Wrote (Took n)) = elim (when (to == id)) [
  | inl b ↦ inr (inl (agrees to id b))
  | inr b ↦ inl (if_not (to == id) _ b)
]
taken_by_writers id (event.Call (call.OpenWith bytes)) (reply.OpenedWith to n) = elim (when (to == id)) [
  | inl b ↦ inr (inr b)
  | inr b ↦ inl (if_not (to == id) _ b)
]
taken_by_writers id a r = inl refl

given_to_readers : (id : ℕ) → IsCarriedBy (gave_at id) (IsReaders id) id
given_to_readers id (event.Call (call.Read from room)) (reply.Read bytes) = elim (when (from == id)) [
  | inl b ↦ inr (inl (agrees from id b))
  | inr b ↦ inl (if_not (from == id) bytes b)
]
given_to_readers id a r = inl refl

-- In a history in which each stream is given once, of others nothing is gathered where a caller makes such calls alone.
others_give_none : (of : Event → Reply → List ℕ) (Such : Event → Type 0) (id n : ℕ) (seen es : List Entry) (at : ℕ) (giver : Entry) →
    IsCarriedBy of Such id → AreHandedOutOnce es → IsPrefix seen es → DoesAlone Such id n (Some seen) →
    slice_get es at ≡ Some giver → opens_or_accepts id giver.event giver.reply ≡ true → of giver.event giver.reply ≡ [] → OthersGiveNone of n seen
others_give_none of Such id n seen es at giver carried once within alone there gives none place e is = elim (carried e.event e.reply) [
  | inl quiet ↦ inr quiet
  | inr (inl such) ↦ elim (alone.2 place e is such) [
    | inl own ↦ inl own
    | inr again ↦ absurd (again.1 (once id again.0 alone.0 again.2.0 alone.1.0
        (got_in seen es again.0 again.2.0 within again.2.2) (tells_given id again.2.1 again.2.0.event again.2.0.reply again.2.3)
        (got_in seen es alone.0 alone.1.0 within alone.1.2) (tells_given id alone.1.1 alone.1.0.event alone.1.0.reply alone.1.3)))
  ]
  | inr (inr given) ↦ (
      let here = got_in seen es place e within is in
      let one : place ≡ at = once id place at e giver here given there gives in
      let same : e ≡ giver = one_some e giver (sym here ∙ ap (slice_get es) one ∙ there) in
      inr (ap (λ (x : Entry). of x.event x.reply) same ∙ none))
]

-- ---- one half of a stream, up to what a history is later

-- after each entry that is so marked nothing is gathered
abbrev GivesNoneBehind : (of : Event → Reply → List ℕ) (marks : Event → Reply → Bool) → List Entry → Type 0
GivesNoneBehind of marks es = (before after : List Entry) (x : Entry) → es ≡ before ++ x ∷ after → marks x.event x.reply ≡ true → gathered of after ≡ []

-- an entry that is so marked is among them
abbrev HasMarked : (marks : Event → Reply → Bool) → List Entry → Type 0
HasMarked marks es = (e : Entry) × StandsAt e es × (marks e.event e.reply ≡ true)

-- All that is gathered of a history is gathered of these entries, and one that is so marked is in the history.
record IsGathered (of : Event → Reply → List ℕ) (marks : Event → Reply → Bool) (n : ℕ) (own es : List Entry) : Type 0 where
  all : gathered of es ≡ gathered of (part n own)
  marked : HasMarked marks es

-- after what was seen there is nothing
none_later : (of : Event → Reply → List ℕ) (marks : Event → Reply → Bool) (seen es : List Entry) (within : IsPrefix seen es) →
    GivesNoneBehind of marks es → HasMarked marks seen → gathered of es ≡ gathered of seen
none_later of marks seen es within quiet (e, there, m) =
    let is : es ≡ there.0 ++ e ∷ (there.1 ++ within.0) = sym within.1 ∙ ap (λ (v : List Entry). v ++ within.0) there.2 ∙ append_assoc there.0 (e ∷ there.1) within.0 in
    let behind : gathered of within.0 ≡ [] = none_joined (gathered of there.1) (gathered of within.0) (sym (gathered-append of there.1 within.0) ∙ quiet there.0 (there.1 ++ within.0) e is m) in
    ap (gathered of) (sym within.1) ∙ gathered-append of seen within.0 ∙ ap (λ (v : List ℕ). gathered of seen ++ v) behind ∙ append-nil (gathered of seen)

-- what is asked of such a half, and of the history
record Asked (of : Event → Reply → List ℕ) (Such : Event → Type 0) (marks : Event → Reply → Bool) (id : ℕ) (es : List Entry) : Type 0 where
  carried : IsCarriedBy of Such id
  once : AreHandedOutOnce es
  quiet : GivesNoneBehind of marks es

-- All that such a stream carried is of the half's own entries, from the first on, one of which is so marked.
half_seen : (of : Event → Reply → List ℕ) (Such : Event → Type 0) (marks : Event → Reply → Bool) (id n : ℕ) (own first spent seen es : List Entry) →
    Asked of Such marks id es → IsFirst of id n first → Grows n first own spent → IsPrefix spent seen → part n seen ≡ part n spent →
    DoesAlone Such id n (Some seen) → IsPrefix seen es → HasMarked marks own → IsGathered of marks n own es
half_seen of Such marks id n own first spent seen es asked f grows on same alone within (e, there, m) =
    let g = grown n first own spent grows in
    let mine : part n seen ≡ part n own = same ∙ g.1 ∙ ap (λ (v : List Entry). v ++ part n own) f.fresh in
    let at : slice_get first (length f.before) ≡ Some f.giver = ap (λ (v : List Entry). slice_get v (length f.before)) f.is ∙ got_last f.before f.giver in
    let given = got_in first es (length f.before) f.giver (prefix_on first spent es g.0 (prefix_on spent seen es on within)) at in
    let stands : StandsAt e seen = stands_on e spent seen (stands_grown n first there.0 there.1 spent e (subst (λ (v : List Entry). Grows n first v spent) there.2 grows)) on in
    record {
      all = none_later of marks seen es within asked.quiet (e, stands, m)
          ∙ own_gathered of n seen (others_give_none of Such id n seen es (length f.before) f.giver asked.carried asked.once within alone given f.gives f.none)
          ∙ ap (gathered of) mine;
      marked = (e, stands_on e seen es stands within, m);
    }

-- the same of what seats say they have seen
half_gathered : (of : Event → Reply → List ℕ) (Such : Event → Type 0) (marks : Event → Reply → Bool) (id n : ℕ) (first spent seen : Option (List Entry)) (es : List Entry) (Own : List Entry → Type 0) →
    Asked of Such marks id es → Starts of id n first → Extends n first spent Own → HasGrown n spent seen → DoesAlone Such id n seen → StandsIn seen (Some es) →
    ((own : List Entry) → Own own → HasMarked marks own) → (own : List Entry) × Own own × IsGathered of marks n own es
half_gathered of Such marks id n (Some first) (Some spent) (Some seen) es Own asked f extends more alone within ends =
    (extends.0, extends.1, half_seen of Such marks id n extends.0 first spent seen es asked f extends.2 more.0 more.1 alone within (ends extends.0 extends.1))
half_gathered of Such marks id n first spent None es Own asked f extends more alone within ends = absurd within
half_gathered of Such marks id n first None (Some seen) es Own asked f extends more alone within ends = absurd more
half_gathered of Such marks id n None (Some spent) (Some seen) es Own asked f extends more alone within ends = absurd extends

-- ---- what a half carries

-- a write carries what it took
took_write : (id : ℕ) (bytes : List ℕ) (r : Reply) → took_at id (to_write id bytes) r ≡ take (took_of r) bytes
took_write id bytes (reply.Wrote (Took n)) = rw (is-self id) refl
took_write id bytes r = refl

-- a read carries what it gave
gave_read : (id size : ℕ) (r : Reply) → gave_at id (to_read id size) r ≡ read_of r
gave_read id size (reply.Read bytes) = rw (is-self id) refl
gave_read id size r = refl

writes_gathered : (id n : ℕ) (es : List Entry) → AreWritesTo id n es → gathered (took_at id) (part n es) ≡ bytes_written es
writes_gathered id n [] w = refl
writes_gathered id n (e ∷ es) ((own, (bytes, is)), rest) =
    ap (gathered (took_at id)) (own_first n e es own)
    ∙ ap (λ (v : List ℕ). v ++ gathered (took_at id) (part n es)) (ap (λ (a : Event). took_at id a e.reply) is ∙ took_write id bytes e.reply ∙ sym (ap (λ (a : Event). take (took_of e.reply) (offered a)) is))
    ∙ ap (λ (v : List ℕ). take (took_of e.reply) (offered e.event) ++ v) (writes_gathered id n es rest)

reads_gathered : (id n : ℕ) (es : List Entry) → AreReads id n es → gathered (gave_at id) (part n es) ≡ read_bytes es
reads_gathered id n [] w = refl
reads_gathered id n (e ∷ es) ((own, (size, is), given), rest) =
    ap (gathered (gave_at id)) (own_first n e es own)
    ∙ ap (λ (v : List ℕ). v ++ gathered (gave_at id) (part n es)) (ap (λ (a : Event). gave_at id a e.reply) is ∙ gave_read id size e.reply)
    ∙ ap (λ (v : List ℕ). read_of e.reply ++ v) (reads_gathered id n es rest)

-- a part of entries one after another
parts_gathered : (of : Event → Reply → List ℕ) (n : ℕ) (xs ys : List Entry) → gathered of (part n (xs ++ ys)) ≡ gathered of (part n xs) ++ gathered of (part n ys)
parts_gathered of n xs ys = ap (gathered of) (part-append n xs ys) ∙ gathered-append of (part n xs) (part n ys)

-- giving the stream up carries nothing of it
forget_silent : (of : Event → Reply → List ℕ) (id n : ℕ) (rest : List Entry) → ((r : Reply) → of (to_forget id) r ≡ []) → Forgets id n rest → gathered of (part n rest) ≡ []
forget_silent of id n rest none (inl is) = ap (λ (v : List Entry). gathered of (part n v)) is
forget_silent of id n rest none (inr (told, (p, is))) = ap (λ (v : List Entry). gathered of (part n v)) is ∙ silent_first of n (entry p n (to_forget id) told) [] (none told)

-- ---- the writing half

-- writes of these bytes, and then the finish
abbrev pub WritesAll : (id n : ℕ) → List ℕ → List Entry → Type 0
WritesAll id n bytes own = (written : List Entry) × (last : List Entry) × (own ≡ written ++ last) × WritesOf id n bytes written × SpendsWith (to_finish id) id n reply.Done last

writes_finish : (id n : ℕ) (bytes : List ℕ) (own : List Entry) → WritesAll id n bytes own → HasMarked (finished_at id) own
writes_finish id n bytes own (written, last, is, w, (p, rest, last_is, f)) =
    (entry p n (to_finish id) reply.Done, (written, rest, is ∙ ap (λ (v : List Entry). written ++ v) last_is), is-self id)

writes_carry : (id n : ℕ) (bytes : List ℕ) (own : List Entry) → WritesAll id n bytes own → gathered (took_at id) (part n own) ≡ bytes
writes_carry id n bytes own (written, last, is, w, (p, rest, last_is, f)) =
    let none : gathered (took_at id) (part n last) ≡ [] =
    ap (λ (v : List Entry). gathered (took_at id) (part n v)) last_is ∙ silent_first (took_at id) n (entry p n (to_finish id) reply.Done) rest refl ∙ forget_silent (took_at id) id n rest (λ r. refl) f in
    ap (λ (v : List Entry). gathered (took_at id) (part n v)) is ∙ parts_gathered (took_at id) n written last
    ∙ ap (λ (v : List ℕ). gathered (took_at id) (part n written) ++ v) none ∙ append-nil (gathered (took_at id) (part n written))
    ∙ writes_gathered id n written w.0 ∙ w.1

-- All that a stream took is what its writing half wrote.
pub writer_took : (id n : ℕ) (bytes : List ℕ) (first spent seen : Option (List Entry)) (es : List Entry) → AreHandedOutOnce es → TakeNoneBehindFinish es →
    Starts (took_at id) id n first → Extends n first spent (WritesAll id n bytes) → HasGrown n spent seen → WritesAlone id n seen → StandsIn seen (Some es) →
    all_taken id es ≡ bytes
writer_took id n bytes first spent seen es once quiet f extends more alone within =
    let asked : Asked (took_at id) (IsWriters id) (finished_at id) id es = record {
      carried = taken_by_writers id;
      once = once;
      quiet = λ before after x is m. sym (taken_gathered id after) ∙ quiet id before after x is m;
    } in
    let g = half_gathered (took_at id) (IsWriters id) (finished_at id) id n first spent seen es (WritesAll id n bytes) asked f extends more alone within (writes_finish id n bytes) in
    taken_gathered id es ∙ g.2.all ∙ writes_carry id n bytes g.0 g.1

-- ---- the reading half

-- reads of these bytes up to the end, and then the half was closed
abbrev pub ReadsAll : (id n : ℕ) → List ℕ → List Entry → Type 0
ReadsAll id n bytes own = (read : List Entry) × (last : List Entry) × (own ≡ read ++ last) × ReadsUpTo reply.ReadEnd id n bytes read × Closes id n (Ok tt) last

reads_end : (id n : ℕ) (bytes : List ℕ) (own : List Entry) → ReadsAll id n bytes own → HasMarked (ended_at id) own
reads_end id n bytes own (read, last, is, (reads, ends, size, read_is, r, (p, ends_is)), c) =
    let all : own ≡ reads ++ entry p n (to_read id size) reply.ReadEnd ∷ last =
    is ∙ ap (λ (v : List Entry). v ++ last) (read_is ∙ ap (λ (v : List Entry). reads ++ v) ends_is) ∙ append_assoc reads (entry p n (to_read id size) reply.ReadEnd ∷ []) last in
    (entry p n (to_read id size) reply.ReadEnd, (reads, last, all), is-self id)

closed_silent : (id n : ℕ) (last : List Entry) → Closes id n (Ok tt) last → gathered (gave_at id) (part n last) ≡ []
closed_silent id n last (inl is) = forget_silent (gave_at id) id n last (λ r. refl) (inl is)
closed_silent id n last (inr one) = forget_silent (gave_at id) id n last (λ r. refl) (inr (reply.Done, one))

reads_carry : (id n : ℕ) (bytes : List ℕ) (own : List Entry) → ReadsAll id n bytes own → gathered (gave_at id) (part n own) ≡ bytes
reads_carry id n bytes own (read, last, is, (reads, ends, size, read_is, r, (p, ends_is)), c) =
    let none : gathered (gave_at id) (part n ends) ≡ [] =
    ap (λ (v : List Entry). gathered (gave_at id) (part n v)) ends_is ∙ silent_first (gave_at id) n (entry p n (to_read id size) reply.ReadEnd) [] refl in
    ap (λ (v : List Entry). gathered (gave_at id) (part n v)) is ∙ parts_gathered (gave_at id) n read last
    ∙ ap (λ (v : List ℕ). gathered (gave_at id) (part n read) ++ v) (closed_silent id n last c) ∙ append-nil (gathered (gave_at id) (part n read))
    ∙ ap (λ (v : List Entry). gathered (gave_at id) (part n v)) read_is ∙ parts_gathered (gave_at id) n reads ends
    ∙ ap (λ (v : List ℕ). gathered (gave_at id) (part n reads) ++ v) none ∙ append-nil (gathered (gave_at id) (part n reads))
    ∙ reads_gathered id n reads r.0 ∙ r.1

-- an entry that told of the end stands in the history
ended_there : (id : ℕ) (before after : List Entry) (e : Entry) → ended_at id e.event e.reply ≡ true → was_ended id (before ++ e ∷ after) ≡ true
ended_there id [] after e m = rw m refl
ended_there id (x ∷ xs) after e m = rw (ended_there id xs after e m) (either_way (ended_at id x.event x.reply))
  where
    either_way : (b : Bool) → (b || true) ≡ true
    either_way true = refl
    either_way false = refl

-- All that a stream gave is what its reading half read, and it was ended.
pub reader_got : (id n : ℕ) (bytes : List ℕ) (first spent seen : Option (List Entry)) (es : List Entry) → AreHandedOutOnce es → GiveNoneBehindEnd es →
    Starts (gave_at id) id n first → Extends n first spent (ReadsAll id n bytes) → HasGrown n spent seen → ReadsAlone id n seen → StandsIn seen (Some es) →
    (all_given id es ≡ bytes) × (was_ended id es ≡ true)
reader_got id n bytes first spent seen es once quiet f extends more alone within =
    let asked : Asked (gave_at id) (IsReaders id) (ended_at id) id es = record {
      carried = given_to_readers id;
      once = once;
      quiet = λ before after x is m. sym (given_gathered id after) ∙ quiet id before after x is m;
    } in
    let g = half_gathered (gave_at id) (IsReaders id) (ended_at id) id n first spent seen es (ReadsAll id n bytes) asked f extends more alone within (reads_end id n bytes) in
    let m = g.2.marked in
    (given_gathered id es ∙ g.2.all ∙ reads_carry id n bytes g.0 g.1, ap (was_ended id) m.1.2 ∙ ended_there id m.1.0 m.1.1 m.0 m.2)
