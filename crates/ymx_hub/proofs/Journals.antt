-- One more entry keeps the journal.
use Rattle.std.proofs.Common.{◌≡◌, ◌⊎◌, ℕ, ◌+◌, ◌-◌, ◌<◌, List, [], ◌∷◌, ◌++◌, ◌∙◌, length, set, get_or, Bool, true, false, Option, Some, None, refl, sym, ap, subst, inl, inr, arith}
use Rattle.std.specs.Prelude.{swap_remove, Contains}
use Rattle.std.proofs.lemmas.List.{length-append, length-set, get_or_default}
use Rattle.std.proofs.lemmas.List.Elements.{Contains-push_cases, Contains-append_right}
use Rattle.std.proofs.lemmas.List.Sorted.{IsPermutation-sym, IsPermutation-swap_remove, Contains-permutation}
use Rattle.ymx_model.specs.declared.types.Entry.{Entry}
use Rattle.ymx_model.specs.session.Events.{Event}
use Rattle.ymx_machine.specs.shared.Events.{Reply}
use Rattle.ymx_model.specs.declared.types.Role.{Role}
use Rattle.ymx_model.specs.declared.types.Config.{Config}
use Rattle.ymx_model.specs.session.Sessions.{Session, new_session}
use Rattle.ymx_model.specs.session.Emissions.{in_turn}
use Rattle.ymx_model.specs.session.Histories.{Gives}
use Rattle.ymx_seats.specs.Journals.{JournalView, release_of}
use Rattle.ymx_seats.specs.Transcripts.{IsNew}
use Rattle.ymx_seats.specs.declared.plays.Right.{Right}
use Rattle.ymx_seats.specs.declared.plays.Right.TheVariants.{Free, Writes, Reads, Released}
use Rattle.ymx_seats.specs.Views.{entry, journal_after, with_caller, released_by, whole_of, HasNumbered, HasRight, IsWitnessed}
use Rattle.ymx_hub.specs.declared.stream_calls.HalfCall.{HalfCall}
use Rattle.ymx_hub.specs.declared.stream_calls.HalfCall.TheVariants as half
use Rattle.ymx_hub.specs.Books.{TellsStream, to_end}
use Rattle.ymx_hub.specs.Rights.{MayWrite, MayRead, MayDo, IsReleased, AllReleased, IsWriterAt, IsReaderAt, AreHandedOut, AreRightful, SaysSole, handed_out}
use Rattle.ymx_seats.proofs.Places.{got_before, got_same}
use Rattle.ymx_hub.proofs.Rights.{may_more, released_more, rightful_after, rightful_free, rightful_given, rightful_released, says_sole}
use Rattle.ymx_hub.specs.Booked.{IsJournaled, IsUnused, config_of}
use Rattle.ymx_hub.proofs.History.{replays_more, of_new}

pub journaled_after : (witnessed : Bool) (named : Role) (with : Config) (role : Role) (config : Config) (j : Option JournalView) (s t : Session) (given n : ℕ) (a : Event) (r : Reply) (right : Right) (ids : List ℕ) → IsJournaled witnessed named with role config j s given → Gives in_turn s a r t → HasRight n right j → AllReleased ids j → (witnessed ≡ true → MayDo (Contains ids) right a) → IsJournaled witnessed named with role config (journal_after n a r j) t given
journaled_after true named with role config None s t given n a r right ids i h k l m = i
journaled_after true named with role config (Some j) s t given n a r right ids i h k l m =
    (i.0, i.1, replays_more 0 j.whole (entry (length j.whole) n a r) (new_session role config.window config.first) s t i.2 (omega arith) h, i.3, rightful_after j.rights j.whole (entry (length j.whole) n a r) right i.4 k (may_more (Contains ids) (IsReleased j.rights) l right a (m refl)))
journaled_after false named with role config None s t given n a r right ids i h k l m = i
journaled_after false named with role config (Some j) s t given n a r right ids i h k l m = i

-- ---- the streams that are released

pub all_after : (ids : List ℕ) (j : Option JournalView) (n : ℕ) (a : Event) (r : Reply) → AllReleased ids j → AllReleased ids (journal_after n a r j)
all_after ids None n a r l = tt
all_after ids (Some j) n a r l = l

pub all_caller : (ids : List ℕ) (j : Option JournalView) (right : Right) → AllReleased ids j → AllReleased ids (with_caller right j)
all_caller ids None right l = tt
all_caller ids (Some j) right l = λ id c. let it : IsReleased j.rights id = l id c in (it.0, it.1, got_before j.rights right it.0 (Released id it.1) it.2)

pub all_none : (j : Option JournalView) → AllReleased [] j
all_none None = tt
all_none (Some j) = λ id c. absurd (omega (arith, c.1))

-- one that leaves the list
pub all_removed : (ids after : List ℕ) (place : ℕ) (j : Option JournalView) → place < length ids → ((d : ℕ) → after ≡ swap_remove ids place (get_or ids place d)) → AllReleased ids j → AllReleased after j
all_removed ids after place None within e l = tt
all_removed ids after place (Some j) within e l = λ id c. l id (before id c)
  where
    gone : ℕ
    gone = get_or ids place 0

    before : (id : ℕ) → Contains after id → Contains ids id
    before id c =
        let there : Contains (gone ∷ swap_remove ids place gone) id = Contains-append_right (gone ∷ []) (swap_remove ids place gone) id (subst (λ (xs : List ℕ). Contains xs id) (e 0) c) in
        Contains-permutation (gone ∷ swap_remove ids place gone) ids id (IsPermutation-sym ids (gone ∷ swap_remove ids place gone) (IsPermutation-swap_remove ids place gone within (get_or_default ids place 0 gone within))) there

-- one stream more, whose reads its caller releases
pub all_listed : (witnessed : Bool) (named : Role) (with : Config) (role : Role) (config : Config) (j : Option JournalView) (s : Session) (given n id : ℕ) (right : Right) (ids : List ℕ) → IsJournaled witnessed named with role config j s given → HasRight n right j → AllReleased ids j → (witnessed ≡ true → MayRead right id) → AllReleased (ids ++ id ∷ []) (released_by n right j)
all_listed witnessed named with role config None s given n id right ids i k l m = tt
all_listed true named with role config (Some j) s given n id right ids i k l m = λ other c. of other (Contains-push_cases ids id other c)
  where
    may : MayRead right id
    may = m refl

    of : (other : ℕ) → Contains ids other ⊎ (id ≡ other) → IsReleased (set j.rights n (release_of right)) other
    of other (inl c) = released_more j.rights n right k other (l other c)
    of other (inr e) = subst (IsReleased (set j.rights n (release_of right))) e (n, may.0, got_same j.rights n right (release_of right) k ∙ ap (λ (x : Right). Some (release_of x)) may.1)
all_listed false named with role config (Some j) s given n id right ids i k l m = absurd i

pub journaled_released : (witnessed : Bool) (named : Role) (with : Config) (role : Role) (config : Config) (j : Option JournalView) (s : Session) (given n : ℕ) (right : Right) → IsJournaled witnessed named with role config j s given → HasRight n right j → IsJournaled witnessed named with role config (released_by n right j) s given
journaled_released witnessed named with role config None s given n right i k = i
journaled_released true named with role config (Some j) s given n right i k = (i.0, i.1, i.2, length-set j.rights n (release_of right) ∙ i.3, rightful_released j.rights j.whole n right k i.4)
journaled_released false named with role config (Some j) s given n right i k = absurd i

-- the whole history is known to be one
pub witnessed_now : (witnessed : Bool) (named : Role) (with : Config) (role : Role) (config : Config) (j : Option JournalView) (s : Session) (given : ℕ) → IsJournaled witnessed named with role config j s given → IsWitnessed witnessed named with (whole_of j)
witnessed_now true named with role config None s given i = i
witnessed_now true named with role config (Some j) s given i = (s, rw (sym i.0, sym i.1) i.2)
witnessed_now false named with role config None s given i = i
witnessed_now false named with role config (Some j) s given i = i

pub witnessed_after : (witnessed : Bool) (named : Role) (with : Config) (role : Role) (config : Config) (j : Option JournalView) (s t : Session) (given n : ℕ) (a : Event) (r : Reply) → IsJournaled witnessed named with role config j s given → Gives in_turn s a r t → IsWitnessed witnessed named with (whole_of (journal_after n a r j))
witnessed_after true named with role config None s t given n a r i h = i
witnessed_after true named with role config (Some j) s t given n a r i h =
    (t, rw (sym i.0, sym i.1) (replays_more 0 j.whole (entry (length j.whole) n a r) (new_session role config.window config.first) s t i.2 (omega arith) h))
witnessed_after false named with role config None s t given n a r i h = i
witnessed_after false named with role config (Some j) s t given n a r i h = i

pub witnessed_by : (witnessed : Bool) (named : Role) (with : Config) (role : Role) (config : Config) (j k : Option JournalView) (s t : Session) (given n : ℕ) (d e : Event) (q r : Reply) → k ≡ j → d ≡ e → q ≡ r → IsJournaled witnessed named with role config j s given → Gives in_turn s e r t → IsWitnessed witnessed named with (whole_of (journal_after n d q k))
witnessed_by witnessed named with role config j k s t given n d e q r a b c i h =
    subst (λ (x : Option JournalView). IsWitnessed witnessed named with (whole_of x)) (λ k. journal_after n (sym b k) (sym c k) (sym a k)) (witnessed_after witnessed named with role config j s t given n e r i h)

-- the next seat has the number of seats given
pub numbered_now : (witnessed : Bool) (named : Role) (with : Config) (role : Role) (config : Config) (j : Option JournalView) (s : Session) (given : ℕ) → IsJournaled witnessed named with role config j s given → HasNumbered given j
numbered_now true named with role config None s given i = absurd i
numbered_now true named with role config (Some j) s given i = i.3
numbered_now false named with role config None s given i = tt
numbered_now false named with role config (Some j) s given i = absurd i

longer : (xs : List Right) (y : Right) → length (xs ++ y ∷ []) ≡ length xs + 1
longer xs y = length-append xs (y ∷ [])

pub numbered_next : (n : ℕ) (right : Right) (j : Option JournalView) → HasNumbered n j → HasNumbered (n + 1) (with_caller right j)
numbered_next n right None h = tt
numbered_next n right (Some j) h = longer j.rights right ∙ ap (λ k. k + 1) h

pub whole_with_caller : (right : Right) (j : Option JournalView) → whole_of (with_caller right j) ≡ whole_of j
whole_with_caller right None = refl
whole_with_caller right (Some j) = refl

-- one seat more, of no half
pub journaled_seat : (witnessed : Bool) (named : Role) (with : Config) (role : Role) (config : Config) (j : Option JournalView) (s : Session) (given : ℕ) → IsJournaled witnessed named with role config j s given → IsJournaled witnessed named with role config (with_caller Free j) s (given + 1)
journaled_seat true named with role config None s given i = i
journaled_seat true named with role config (Some j) s given i = (i.0, i.1, i.2, longer j.rights Free ∙ ap (λ k. k + 1) i.3, rightful_free j.rights j.whole i.4)
journaled_seat false named with role config None s given i = i
journaled_seat false named with role config (Some j) s given i = i

last_is : (whole : List Entry) (e : Entry) → length (whole ++ e ∷ []) - 1 ≡ length whole
last_is whole e = let long = length-append whole (e ∷ []) in omega (arith, long)

-- the seats of both halves of the stream that an event gave
pub journaled_given : (witnessed : Bool) (named : Role) (with : Config) (role : Role) (config : Config) (j : Option JournalView) (s t : Session) (given n id taken : ℕ) (a : Event) (r : Reply) (right : Right) (ids : List ℕ) → IsJournaled witnessed named with role config j s given → Gives in_turn s a r t → HasRight n right j → AllReleased ids j → (witnessed ≡ true → MayDo (Contains ids) right a) → TellsStream a id taken r → IsJournaled witnessed named with role config (handed_out id (journal_after n a r j)) t (given + 2)
journaled_given true named with role config None s t given n id taken a r right ids i h k l m g = i
journaled_given true named with role config (Some j) s t given n id taken a r right ids i h k l m g =
    let e : Entry = entry (length j.whole) n a r in
    let next : IsJournaled true named with role config (journal_after n a r (Some j)) t given = journaled_after true named with role config (Some j) s t given n a r right ids i h k l m in
    let at : ℕ = length (j.whole ++ e ∷ []) - 1 in (
      next.0,
      next.1,
      next.2,
      longer (j.rights ++ Writes id at ∷ []) (Reads id at) ∙ ap (λ k. k + 1) (longer j.rights (Writes id at) ∙ ap (λ k. k + 1) i.3) ∙ two given,
      subst (λ (p : ℕ). AreRightful ((j.rights ++ Writes id p ∷ []) ++ Reads id p ∷ []) (j.whole ++ e ∷ [])) (sym (last_is j.whole e)) (rightful_given j.rights j.whole e id taken i.4 next.4 g),
    )
  where
    two : (n : ℕ) → n + 1 + 1 ≡ n + 2
    two n = omega arith
journaled_given false named with role config None s t given n id taken a r right ids i h k l m g = i
journaled_given false named with role config (Some j) s t given n id taken a r right ids i h k l m g = i

pub all_handed_out : (ids : List ℕ) (id : ℕ) (j : Option JournalView) → AllReleased ids j → AllReleased ids (handed_out id j)
all_handed_out ids id None l = tt
all_handed_out ids id (Some j) l =
    let at : ℕ = length j.whole - 1 in
    all_caller ids (with_caller (Writes id at) (Some j)) (Reads id at) (all_caller ids (Some j) (Writes id at) l)

-- what the right of a caller says of the whole history
pub sole_now : (witnessed : Bool) (named : Role) (with : Config) (role : Role) (config : Config) (j : Option JournalView) (s : Session) (given n : ℕ) (right : Right) → IsJournaled witnessed named with role config j s given → HasRight n right j → SaysSole right n (whole_of j)
sole_now witnessed named with role config None s given n Free i k = tt
sole_now witnessed named with role config None s given n (Writes id at) i k = tt
sole_now witnessed named with role config None s given n (Reads id at) i k = tt
sole_now witnessed named with role config None s given n (Released id at) i k = tt
sole_now true named with role config (Some j) s given n right i k = says_sole j.rights j.whole n right i.4 k
sole_now false named with role config (Some j) s given n right i k = absurd i

none_handed : (Has : Right → (id at : ℕ) → Type 0) → AreHandedOut Has [] []
none_handed Has = record { given = λ n id at right g has. cc; apart = λ n m id other at right last g h has too. cc }

none_yet : AreRightful [] []
none_yet = record { done = λ place e g. cc; writers = none_handed IsWriterAt; readers = none_handed IsReaderAt }

-- nothing stands in the journal of a session that has done nothing
pub journaled_new : (witnessed : Bool) (named : Role) (with : Config) (config : Config) (j : Option JournalView) (s : Session) → IsNew s → config ≡ config_of s → IsUnused witnessed named with s j → IsJournaled witnessed named with s.role config j s 0
journaled_new true named with config None s n e u = u
journaled_new true named with config (Some j) s n e u = rw e (u.0, u.1, rw u.2 (of_new s n), ap (λ (xs : List Right). length xs) u.3, rw (u.2, u.3) none_yet)
journaled_new false named with config None s n e u = u
journaled_new false named with config (Some j) s n e u = u

pub journaled_twice : (witnessed : Bool) (named : Role) (with : Config) (role : Role) (config : Config) (j mid last : Option JournalView) (s t u : Session) (given n : ℕ) (a : Event) (r : Reply) (m : ℕ) (b : Event) (q : Reply) (one other : Right) (ids : List ℕ) → IsJournaled witnessed named with role config j s given → Gives in_turn s a r t → mid ≡ journal_after n a r j → Gives in_turn t b q u → last ≡ journal_after m b q mid → HasRight n one j → AllReleased ids j → (witnessed ≡ true → MayDo (Contains ids) one a) → HasRight m other mid → (witnessed ≡ true → MayDo (Contains ids) other b) → IsJournaled witnessed named with role config last u given
journaled_twice witnessed named with role config j mid last s t u given n a r m b q one other ids i g e h d k v l x y =
    let kept : AllReleased ids mid = subst (AllReleased ids) (sym e) (all_after ids j n a r v) in
    subst (λ (x : Option JournalView). IsJournaled witnessed named with role config x u given) (sym d)
    (journaled_after witnessed named with role config mid t u given m b q other ids (subst (λ (x : Option JournalView). IsJournaled witnessed named with role config x t given) (sym e) (journaled_after witnessed named with role config j s t given n a r one ids i g k v l)) h x kept y)

pub all_twice : (ids : List ℕ) (j mid last : Option JournalView) (n : ℕ) (a : Event) (r : Reply) (m : ℕ) (b : Event) (q : Reply) → mid ≡ journal_after n a r j → last ≡ journal_after m b q mid → AllReleased ids j → AllReleased ids last
all_twice ids j mid last n a r m b q e d v = subst (AllReleased ids) (sym d) (all_after ids mid m b q (subst (AllReleased ids) (sym e) (all_after ids j n a r v)))

-- what was known of a caller before its memory was found
pub half_known : (n m : ℕ) (right other : Right) (j k : Option JournalView) → m ≡ n → other ≡ right → k ≡ j → HasRight m other k → HasRight n right j
half_known n m right other j k e f g h = subst (λ (x : ℕ × Right × Option JournalView). HasRight x.0 x.1 x.2) (λ i. (e i, f i, g i)) h

-- who may write a stream may end it
pub may_end : (P : ℕ → Type 0) (half_call : HalfCall) (id : ℕ) (right : Right) → MayWrite right id → MayDo P right (to_end half_call id)
may_end P half.Finish id right m = m
may_end P half.Reset id right m = m
