-- What is booked of streams that were released.
use Rattle.std.proofs.Common.{◌≡◌, ◌≢◌, ◌⊎◌, ◌<◌, ◌≤◌, ◌+◌, length, arith, Some, None, ℕ, List, [], ◌∷◌, ◌++◌, ◌==◌, ◌-◌, if◌then◌else◌, nat_eq, Bool, true, false, Option, Result, Ok, Err, refl, sym, ap, subst, ◌∙◌, inl, inr, append_assoc, append-nil}
use Rattle.std.specs.Prelude.{get_or, swap_remove, Contains, IsPermutation, IfOk}
use Rattle.std.specs.List.{list_any}
use Rattle.std.proofs.lemmas.Bool.Decides.{nat_tests}
use Rattle.std.proofs.lemmas.List.Elements.{Contains-append_right}
use Rattle.std.proofs.lemmas.List.Sorted.{IsPermutation-refl, IsPermutation-sym, IsPermutation-trans, IsPermutation-swap_remove, IsPermutation-append_right, Contains-permutation}
use Rattle.ymx_memory.specs.declared.refused.RefusedAllocation.{RefusedAllocation}
use Rattle.ymx_machine.specs.shared.Evidence.{evidence}
use Rattle.ymx_machine.specs.shared.Lists.{look}
use Rattle.ymx_machine.specs.shared.Replies.{read_reply}
use Rattle.ymx_machine.specs.shared.Events.{Reply}
use Rattle.ymx_machine.specs.declared.types.Reply.TheVariants as reply
use Rattle.ymx_model.specs.declared.types.Status.{Status}
use Rattle.ymx_machine.specs.declared.types.CallFault.{CallFault}
use Rattle.ymx_machine.specs.declared.types.CallFault.TheVariants as why
use Rattle.ymx_machine.specs.declared.types.CallFault.TheVariants.{Closed, NoStream}
use Rattle.ymx_model.specs.declared.types.Entry.{Entry}
use Rattle.ymx_model.specs.declared.types.Role.{Role}
use Rattle.ymx_model.specs.declared.types.Config.{Config}
use Rattle.ymx_model.specs.declared.types.Got.{Got}
use Rattle.ymx_model.specs.declared.types.Got.TheVariants as got
use Rattle.ymx_model.specs.session.Records.{End}
use Rattle.ymx_model.specs.session.Sessions.{Session, is_closed, is_lost}
use Rattle.ymx_model.specs.session.Events.{Event}
use Rattle.ymx_model.specs.session.Calls.{outcome, refused, at_record, read_outcome, read_from}
use Rattle.ymx_machine.specs.declared.types.Call.TheVariants as call
use Rattle.ymx_model.specs.session.Emissions.{in_turn}
use Rattle.ymx_model.specs.session.Histories.{CallGives, Gives}
use Rattle.ymx_law_session.specs.Refusals.{OthersSame, OnlyRecord}
use Rattle.ymx_law_session.proofs.nothing_else.Others.{read-others, forget-others}
use Rattle.ymx_law_session.proofs.nothing_else.Alone.{read-one, forget-one}
use Rattle.ymx_session.specs.Replies.{read_or, done_or}
use Rattle.ymx_seats.specs.Journals.{JournalView}
use Rattle.ymx_seats.specs.declared.plays.Right.{Right}
use Rattle.ymx_seats.specs.Views.{SeatView}
use Rattle.ymx_hub.specs.declared.faults.HubFault.{HubFault}
use Rattle.ymx_hub.specs.declared.faults.HubFault.TheVariants as fault
use Rattle.ymx_hub.specs.declared.faults.HubFault.TheVariants.{Memory}
use Rattle.ymx_hub.specs.declared.releasing.Look.{Look}
use Rattle.ymx_hub.specs.declared.shared.Shared.{Shared}
use Rattle.ymx_hub.specs.declared.releasing.Look.TheVariants.{Waits as LookWaits, Lacks, Spent}
use Rattle.ymx_hub.specs.Answers.{refused_release, hub_fault_of}
use Rattle.ymx_hub.specs.Booked.{BookedView, without, is_half_spent, spent}
use Rattle.ymx_hub.specs.Books.{Books, One, Asks, Closes, to_read, to_forget}
use Rattle.ymx_hub.specs.Steps.{Steps, StepsAsked, StepsClosed}
use Rattle.ymx_hub.specs.Turns.{EndsIn}
use Rattle.ymx_hub.specs.Shown.{IsShown}
use Rattle.ymx_hub.specs.WholeHistories.{IsHistoryOf}
use Rattle.ymx_hub.specs.Releasing.{AreReads, FindsEnd, ReadsUp, ReadsOut, Tends, Releases, Looks, joined, AllTend, Purges, PurgesAmong, LooksAmong, AllAmong, Waits, WaitFrom, OthersStay, IsDropped, SpentAlike, all_spent, LeavesSome}
use Rattle.ymx_hub.proofs.Books.{books_same, books_at, books_weaker}

reads_append : (id seat : ℕ) (es ds : List Entry) → AreReads id seat es → AreReads id seat ds → AreReads id seat (es ++ ds)
reads_append id seat [] ds r s = s
reads_append id seat (e ∷ es) ds r s = (r.0, reads_append id seat es ds r.1 s)

one_read : (id size seat : ℕ) (told : Reply) (ds : List Entry) → One seat (to_read id size) told ds → AreReads id seat ds
one_read id size seat told ds o = rw o.1 ((refl, (size, refl)), tt)

-- whatever a read answered, it is a read
asked_reads : (id size : ℕ) (buffer : List ℕ) (seat : ℕ) (given : Result Got HubFault) (ds : List Entry) → Asks (to_read id size) (λ given. read_or given buffer) seat given ds → AreReads id seat ds
asked_reads id size buffer seat (Ok g) ds o = one_read id size seat (read_or (Ok g) buffer) ds o
asked_reads id size buffer seat (Err fault) ds (inl none) = rw none.1 tt
asked_reads id size buffer seat (Err fault) ds (inr some) = one_read id size seat (read_or (Err some.0) buffer) ds some.2

-- what is last is told after what came before
ends_behind : (Such : Reply → Type 0) (es ds : List Entry) → EndsIn Such ds → EndsIn Such (es ++ ds)
ends_behind Such [] ds h = h
ends_behind Such (e ∷ []) [] h = absurd h
ends_behind Such (e ∷ []) (d ∷ ds) h = h
ends_behind Such (e ∷ f ∷ fs) ds h = ends_behind Such (f ∷ fs) ds h

one_ends : (Such : Reply → Type 0) (id size seat : ℕ) (told : Reply) (ds : List Entry) → One seat (to_read id size) told ds → Such told → EndsIn Such ds
one_ends Such id size seat told ds o such = rw o.1 such

pub reads_none : (keeps : Bool) (seat : SeatView) (id : ℕ) → Books keeps seat seat (AreReads id seat.number)
reads_none keeps seat id = books_same keeps seat (AreReads id seat.number) tt

module _ (keeps : Bool) (old mid new : SeatView) (id size : ℕ) (buffer : List ℕ) (before : Books keeps old mid (AreReads id old.number)) where
  -- one read more
  pub reads_on : (given : Result Got HubFault) → Books keeps mid new (Asks (to_read id size) (λ given. read_or given buffer) mid.number given) → Books keeps old new (AreReads id old.number)
  reads_on given h =
      books_at keeps old mid new (AreReads id old.number) (λ n. Asks (to_read id size) (λ given. read_or given buffer) n given) (AreReads id old.number)
      (λ es ds r a. reads_append id old.number es ds r (asked_reads id size buffer old.number given ds a)) before h

  -- the read found the end
  pub reads_end : Books keeps mid new (Asks (to_read id size) (λ given. read_or given buffer) mid.number (Ok got.End)) → Books keeps old new (ReadsUp id old.number (Ok true))
  reads_end h =
      books_at keeps old mid new (AreReads id old.number) (λ n. Asks (to_read id size) (λ given. read_or given buffer) n (Ok got.End)) (ReadsUp id old.number (Ok true))
      (λ es ds r a.
      (reads_append id old.number es ds r (one_read id size old.number reply.ReadEnd ds a), ends_behind FindsEnd es ds (one_ends FindsEnd id size old.number reply.ReadEnd ds a (inl refl))))
      before h

  -- the read was refused
  pub reads_refused : (fault : HubFault) → (fault ≡ Memory evidence → ⊥) → Books keeps mid new (Asks {A = Got} (to_read id size) (λ given. read_or given buffer) mid.number (Err fault)) → Books keeps old new (ReadsUp id old.number (Ok true))
  reads_refused fault other h =
      books_at keeps old mid new (AreReads id old.number) (λ n. Asks {A = Got} (to_read id size) (λ given. read_or given buffer) n (Err fault)) (ReadsUp id old.number (Ok true))
      (λ es ds r a. both es ds r a) before h
    where
      both : (es ds : List Entry) → AreReads id old.number es → Asks {A = Got} (to_read id size) (λ given. read_or given buffer) old.number (Err fault) ds → ReadsUp id old.number (Ok true) (es ++ ds)
      both es ds r (inl none) = absurd (other none.0)
      both es ds r (inr some) = (
        reads_append id old.number es ds r (one_read id size old.number (reply.Refused some.0) ds some.2),
        ends_behind FindsEnd es ds (one_ends FindsEnd id size old.number (reply.Refused some.0) ds some.2 (inr (some.0, refl))),
      )

-- nothing more has come, and more may
pub reads_stop : (keeps : Bool) (old new : SeatView) (id : ℕ) → Books keeps old new (AreReads id old.number) → Books keeps old new (ReadsUp id old.number (Ok false))
reads_stop keeps old new id h = books_weaker keeps old new (AreReads id old.number) (ReadsUp id old.number (Ok false)) (λ es r. r) h

-- there was no memory for an entry
pub reads_lack : (keeps : Bool) (old new : SeatView) (id : ℕ) (refused : RefusedAllocation) → Books keeps old new (AreReads id old.number) → Books keeps old new (ReadsUp id old.number (Err refused))
reads_lack keeps old new id refused h = books_weaker keeps old new (AreReads id old.number) (ReadsUp id old.number (Err refused)) (λ es r. r) h

-- ---- a look at one stream

pub looks_none : (keeps : Bool) (seat : SeatView) (id : ℕ) → Books keeps seat seat (Looks id seat.number LookWaits)
looks_none keeps seat id = books_same keeps seat (Looks id seat.number LookWaits) tt

pub looks_wait : (keeps : Bool) (old new : SeatView) (id : ℕ) → Books keeps old new (ReadsUp id old.number (Ok false)) → Books keeps old new (Looks id old.number LookWaits)
looks_wait keeps old new id h = books_weaker keeps old new (ReadsUp id old.number (Ok false)) (Looks id old.number LookWaits) (λ es r. r) h

pub looks_lack : (keeps : Bool) (old new : SeatView) (id : ℕ) (why : RefusedAllocation) → Books keeps old new (ReadsUp id old.number (Err why)) → Books keeps old new (Looks id old.number (Lacks why))
looks_lack keeps old new id why h = books_weaker keeps old new (ReadsUp id old.number (Err why)) (Looks id old.number (Lacks why)) (λ es r. r) h

-- nothing more comes, and the half is spent
pub looks_spent : (keeps : Bool) (old mid new : SeatView) (id : ℕ) (answer : Result (Unit {0}) HubFault) → Books keeps old mid (ReadsUp id old.number (Ok true)) → Books keeps mid new (Closes id mid.number answer) → Books keeps old new (Looks id old.number (Spent answer))
looks_spent keeps old mid new id answer g h =
    books_at keeps old mid new (ReadsUp id old.number (Ok true)) (λ n. Closes id n answer) (Looks id old.number (Spent answer))
    (λ es ds r c. (es, ds, refl, r.0, r.1, c)) g h

-- ---- some streams

joined_append : (ps qs : List (ℕ × List Entry)) → joined (ps ++ qs) ≡ joined ps ++ joined qs
joined_append [] qs = refl
joined_append (p ∷ ps) qs = ap (λ es. p.1 ++ es) (joined_append ps qs) ∙ sym (append_assoc p.1 (joined ps) (joined qs))

all_append : (seat : ℕ) (ps qs : List (ℕ × List Entry)) → AllTend seat ps → AllTend seat qs → AllTend seat (ps ++ qs)
all_append seat [] qs a b = b
all_append seat (p ∷ ps) qs a b = (a.0, all_append seat ps qs a.1 b)

among_append : (ids : List ℕ) (ps qs : List (ℕ × List Entry)) → AllAmong ids ps → AllAmong ids qs → AllAmong ids (ps ++ qs)
among_append ids [] qs a b = b
among_append ids (p ∷ ps) qs a b = (a.0, among_append ids ps qs a.1 b)

pub purges_none : (keeps : Bool) (seat : SeatView) → Books keeps seat seat (Purges seat.number)
purges_none keeps seat = books_same keeps seat (Purges seat.number) ([], refl, tt)

-- looks at released streams once more
pub purges_more : (keeps : Bool) (old mid new : SeatView) → Books keeps old mid (Purges old.number) → Books keeps mid new (Purges mid.number) → Books keeps old new (Purges old.number)
purges_more keeps old mid new g h =
    books_at keeps old mid new (Purges old.number) Purges (Purges old.number)
    (λ es ds s t. (
      s.0 ++ t.0,
      ap (λ xs. xs ++ ds) s.1 ∙ ap (λ ys. joined s.0 ++ ys) t.1 ∙ sym (joined_append s.0 t.0),
      all_append old.number s.0 t.0 s.2 t.2,
    )) g h

-- whatever a look ended with, it was answered so
looks_tend : (id seat : ℕ) (look : Look) (es : List Entry) → Looks id seat look es → (answer : Result (Unit {0}) HubFault) × Tends id seat answer es
looks_tend id seat LookWaits es h = (Ok tt, inl h)
looks_tend id seat (Lacks refused) es h = (Err (Memory evidence), inl (refl, h))
looks_tend id seat (Spent (Ok u)) es h = (Ok u, inr h)
looks_tend id seat (Spent (Err why)) es h = (Err why, inr h)

-- the stream at a place
pub looks_among : (keeps : Bool) (old new : SeatView) (ids : List ℕ) (place id : ℕ) (look : Look) → place < length ids → ((d : ℕ) → get_or ids place d ≡ id) → Books keeps old new (Looks id old.number look) → Books keeps old new (LooksAmong ids old.number)
looks_among keeps old new ids place id look within e h =
    books_weaker keeps old new (Looks id old.number look) (LooksAmong ids old.number)
    (λ es l. let t : (answer : Result (Unit {0}) HubFault) × Tends id old.number answer es = looks_tend id old.number look es l in (id, t.0, t.1, (place, within, e id))) h

pub among_none : (keeps : Bool) (ids : List ℕ) (seat : SeatView) → Books keeps seat seat (PurgesAmong ids seat.number)
among_none keeps ids seat = books_same keeps seat (PurgesAmong ids seat.number) ([], refl, tt, tt)

-- those that are left were there before
left_before : (before after : List ℕ) (old new : BookedView) (id : ℕ) → LeavesSome before after old new → Contains after id → Contains before id
left_before before after old new id l h =
    Contains-permutation (l.0 ++ after) before id (IsPermutation-sym before (l.0 ++ after) l.1.parts) (Contains-append_right l.0 after id h)

-- one stream more
pub among_more : (keeps : Bool) (old mid new : SeatView) (ids listed : List ℕ) (h k : BookedView) → Books keeps old mid (PurgesAmong ids old.number) → LeavesSome ids listed h k → Books keeps mid new (LooksAmong listed mid.number) → Books keeps old new (PurgesAmong ids old.number)
among_more keeps old mid new ids listed h k g l t =
    books_at keeps old mid new (PurgesAmong ids old.number) (LooksAmong listed) (PurgesAmong ids old.number)
    (λ es ds s o. (
      s.0 ++ (o.0, ds) ∷ [],
      ap (λ xs. xs ++ ds) s.1 ∙ ap (λ ys. joined s.0 ++ ys) (sym (append-nil ds)) ∙ sym (joined_append s.0 ((o.0, ds) ∷ [])),
      all_append old.number s.0 ((o.0, ds) ∷ []) s.2 ((o.1, o.2), tt),
      among_append ids s.0 ((o.0, ds) ∷ []) s.3 (left_before ids listed h k o.0 l o.3, tt),
    )) g t

pub purges_among : (keeps : Bool) (old new : SeatView) (ids : List ℕ) → Books keeps old new (PurgesAmong ids old.number) → Books keeps old new (Purges old.number)
purges_among keeps old new ids g = books_weaker keeps old new (PurgesAmong ids old.number) (Purges old.number) (λ es s. (s.0, s.1, s.2)) g

-- ---- which halves are spent

step_alike : (keeps : Bool) (seat : ℕ) (event : Event) (told : Reply) (old new : BookedView) → Steps keeps seat event told old new → SpentAlike old new
step_alike keeps seat event told old new s = (ap (λ (v : BookedView). v.unspent) s.rest, ap (λ (v : BookedView). v.half_spent) s.rest)

same_alike : (old new : BookedView) → new ≡ old → SpentAlike old new
same_alike old new e = (ap (λ (v : BookedView). v.unspent) e, ap (λ (v : BookedView). v.half_spent) e)

alike_twice : (old mid new : BookedView) → SpentAlike old mid → SpentAlike mid new → SpentAlike old new
alike_twice old mid new a b = (b.0 ∙ a.0, b.1 ∙ a.1)

-- a call spends none
asked_alike : {A : Type 0} (keeps : Bool) (event : Event) (told : Result A CallFault → Reply) (seat : ℕ) (result : Result A HubFault) (old new : BookedView) → StepsAsked keeps event told seat result old new → SpentAlike old new
asked_alike keeps event told seat (Ok x) old new s = step_alike keeps seat event (told (Ok x)) old new s
asked_alike keeps event told seat (Err fault) old new (inl none) = same_alike old new none.1.1
asked_alike keeps event told seat (Err fault) old new (inr some) = step_alike keeps seat event (told (Err some.0)) old new some.2

pub alike_on : (keeps : Bool) (seat id size : ℕ) (buffer : List ℕ) (given : Result Got HubFault) (old mid new : BookedView) → SpentAlike old mid → StepsAsked keeps (to_read id size) (λ given. read_or given buffer) seat given mid new → SpentAlike old new
alike_on keeps seat id size buffer given old mid new a s = alike_twice old mid new a (asked_alike keeps (to_read id size) (λ given. read_or given buffer) seat given mid new s)

-- a half that is spent, and perhaps the stream given up
closed_alike : (second keeps : Bool) (seat id : ℕ) (result : Result (Unit {0}) HubFault) (old new : BookedView) → StepsClosed second keeps seat id result old new → SpentAlike (spent id old) new
closed_alike true keeps seat id result old new s = asked_alike keeps (to_forget id) (done_or {A = Unit {0}}) seat result (spent id old) new s
closed_alike false keeps seat id result old new s = same_alike (spent id old) new s.1

-- spent alike, and one half more of both
spent_alike : (id : ℕ) (h k : BookedView) → SpentAlike h k → SpentAlike (spent id h) (spent id k)
spent_alike id h k a =
    let m : BookedView = record k { unspent = h.unspent; half_spent = h.half_spent } in
    let moved : SpentAlike (spent id m) (spent id k) = subst (λ (n : ℕ). SpentAlike (spent id m) (spent id (record k { unspent = n }))) (sym a.0) (subst (λ (xs : List ℕ). SpentAlike (spent id m) (spent id (record k { unspent = h.unspent; half_spent = xs }))) (sym a.1) (refl, refl)) in
    alike_twice (spent id h) (spent id m) (spent id k) (of (list_any (nat_eq id) h.half_spent) (h.unspent == 0)) moved
  where
    of : (second none : Bool) → SpentAlike
        (if second then record h { half_spent = without id h.half_spent } else if none then h else record h { unspent = h.unspent - 1; half_spent = h.half_spent ++ id ∷ [] })
        (if second then record k { unspent = h.unspent; half_spent = without id h.half_spent } else if none then record k { unspent = h.unspent; half_spent = h.half_spent } else record k { unspent = h.unspent - 1; half_spent = h.half_spent ++ id ∷ [] })
    of true none = (refl, refl)
    of false true = (refl, refl)
    of false false = (refl, refl)

all_alike : (ids : List ℕ) (h k : BookedView) → SpentAlike h k → SpentAlike (all_spent ids h) (all_spent ids k)
all_alike [] h k a = a
all_alike (x ∷ xs) h k a = all_alike xs (spent x h) (spent x k) (spent_alike x h k a)

-- the half is spent after reads
pub spent_on : (keeps : Bool) (seat id : ℕ) (answer : Result (Unit {0}) HubFault) (old mid new : BookedView) → SpentAlike old mid → StepsClosed (is_half_spent id mid) keeps seat id answer mid new → SpentAlike (spent id old) new
spent_on keeps seat id answer old mid new a s = alike_twice (spent id old) (spent id mid) new (spent_alike id old mid a) (closed_alike (is_half_spent id mid) keeps seat id answer mid new s)

spent_append : (xs ys : List ℕ) (h : BookedView) → all_spent (xs ++ ys) h ≡ all_spent ys (all_spent xs h)
spent_append [] ys h = refl
spent_append (x ∷ xs) ys h = spent_append xs ys (spent x h)

pub alike_none : (h : BookedView) → SpentAlike h h
alike_none h = (refl, refl)

-- none leaves
pub leaves_none : (ids : List ℕ) (old new : BookedView) → SpentAlike old new → LeavesSome ids ids old new
leaves_none ids old new a = ([], record { parts = IsPermutation-refl ids; halves = a })

-- the one at a place leaves, and its half is spent
pub leaves_one : (ids after : List ℕ) (place id : ℕ) (old new : BookedView) → place < length ids → ((d : ℕ) → get_or ids place d ≡ id) → ((d : ℕ) → after ≡ swap_remove ids place (get_or ids place d)) → SpentAlike (spent id old) new → LeavesSome ids after old new
leaves_one ids after place id old new within e r a =
    let left : after ≡ swap_remove ids place id = r id ∙ ap (swap_remove ids place) (e id) in (
      id ∷ [],
      record {
        parts = subst (λ (xs : List ℕ). IsPermutation ids (id ∷ xs)) (sym left) (IsPermutation-swap_remove ids place id within (sym (e id)));
        halves = a;
      },
    )

pub some_none : (ids : List ℕ) (old : BookedView) → LeavesSome ids ids old old
some_none ids old = leaves_none ids old old (refl, refl)

-- a stream is released no more
pub alike_same : (h k now : BookedView) → now ≡ record k { released = now.released } → SpentAlike h k → SpentAlike h now
alike_same h k now e a = (ap (λ (v : BookedView). v.unspent) e ∙ a.0, ap (λ (v : BookedView). v.half_spent) e ∙ a.1)

-- one stream more is released
pub alike_listed : (h k now : BookedView) (ids : List ℕ) (j : Option JournalView) → now ≡ record k { released = ids; journal = j } → SpentAlike h k → SpentAlike h now
alike_listed h k now ids j e a = (ap (λ (v : BookedView). v.unspent) e ∙ a.0, ap (λ (v : BookedView). v.half_spent) e ∙ a.1)

pub waits_listed : (id : ℕ) (k now : BookedView) (ids : List ℕ) (j : Option JournalView) → now ≡ record k { released = ids; journal = j } → Waits k.session id → Waits now.session id
waits_listed id k now ids j e w = subst (λ (s : Session). Waits s id) (sym (ap (λ (v : BookedView). v.session) e)) w

pub books_right : (keeps : Bool) (old mid new : SeatView) (id : ℕ) (answer : Result (Unit {0}) HubFault) {right : Right} → new ≡ record mid { right = right } → Books keeps old mid (Releases id old.number answer) → Books keeps old new (Releases id old.number answer)
books_right keeps old mid new id answer {right} e b =
    subst (λ (s : SeatView). Books keeps old s (Releases id old.number answer)) (sym e) (record { number = b.number; start = b.start; gains = b.gains; extends = b.extends })

-- some, and then others
pub some_more : (before between after : List ℕ) (old mid new : BookedView) → LeavesSome before between old mid → LeavesSome between after mid new → LeavesSome before after old new
some_more before between after old mid new s t = (
  s.0 ++ t.0,
  record {
    parts = subst (IsPermutation before) (sym (append_assoc s.0 t.0 after))
        (IsPermutation-trans before (s.0 ++ between) (s.0 ++ (t.0 ++ after)) s.1.parts (IsPermutation-append_right s.0 between (t.0 ++ after) t.1.parts));
    halves = rw (spent_append s.0 t.0 old) (alike_twice (all_spent t.0 (all_spent s.0 old)) (all_spent t.0 mid) new (all_alike t.0 (all_spent s.0 old) mid s.1.halves) t.1.halves);
  },
)

-- ---- what stays of other streams

pub stay_none : (id : ℕ) (s : Session) → OthersStay id s s
stay_none id s = record { status = refl; others = λ other n. refl }

pub stay_on : (id : ℕ) (s t u : Session) → OthersStay id s t → OthersStay id t u → OthersStay id s u
stay_on id s t u g h = record { status = h.status ∙ g.status; others = λ other n. h.others other n ∙ g.others other n }

only_stays : (id : ℕ) (s t : Session) → OnlyRecord id s t → OthersSame id s t → OthersStay id s t
only_stays id s t o h = record { status = ap (λ (v : Session). v.status) o.only; others = h }

read_gives : (id size : ℕ) (told : Reply) (s t : Session) → Gives in_turn s (to_read id size) told t → OthersStay id s t
read_gives id size told s t (CallGives.Outcome answer state) = subst (OthersStay id s) (sym state) (only_stays id s (outcome (call.Read id size) s).next (read-one id size s) (read-others id size s))
read_gives id size told s t (CallGives.NoMemory needs answer state) = subst (OthersStay id s) (sym state) (stay_none id s)

forget_gives : (id : ℕ) (told : Reply) (s t : Session) → Gives in_turn s (to_forget id) told t → OthersStay id s t
forget_gives id told s t (CallGives.Outcome answer state) = subst (OthersStay id s) (sym state) (only_stays id s (outcome (call.Forget id) s).next (forget-one id s) (forget-others id s))
forget_gives id told s t (CallGives.NoMemory needs answer state) = subst (OthersStay id s) (sym state) (stay_none id s)

asked_stay : {A : Type 0} (keeps : Bool) (event : Event) (told : Result A CallFault → Reply) (seat id : ℕ) (result : Result A HubFault) (old new : BookedView) → ((s t : Session) (answer : Reply) → Gives in_turn s event answer t → OthersStay id s t) → StepsAsked keeps event told seat result old new → OthersStay id old.session new.session
asked_stay keeps event told seat id (Ok x) old new f s = f old.session new.session (told (Ok x)) s.gives
asked_stay keeps event told seat id (Err why) old new f (inl none) = subst (λ (v : BookedView). OthersStay id old.session v.session) (sym none.1.1) (stay_none id old.session)
asked_stay keeps event told seat id (Err why) old new f (inr some) = f old.session new.session (told (Err some.0)) some.2.gives

-- one read more
pub stay_read : (keeps : Bool) (seat id size : ℕ) (buffer : List ℕ) (given : Result Got HubFault) (s : Session) (mid new : BookedView) → OthersStay id s mid.session → StepsAsked keeps (to_read id size) (λ given. read_or given buffer) seat given mid new → OthersStay id s new.session
stay_read keeps seat id size buffer given s mid new g h =
    stay_on id s mid.session new.session g (asked_stay keeps (to_read id size) (λ given. read_or given buffer) seat id given mid new (λ a b t. read_gives id size t a b) h)

spent_session : (id : ℕ) (h : BookedView) → (spent id h).session ≡ h.session
spent_session id h = of (list_any (nat_eq id) h.half_spent) (h.unspent == 0)
  where
    of : (second none : Bool) →
        (if second then record h { half_spent = without id h.half_spent } else if none then h else record h { unspent = h.unspent - 1; half_spent = h.half_spent ++ id ∷ [] }).session ≡ h.session
    of true none = refl
    of false true = refl
    of false false = refl

closed_stay : (second keeps : Bool) (seat id : ℕ) (answer : Result (Unit {0}) HubFault) (mid new : BookedView) → StepsClosed second keeps seat id answer mid new → OthersStay id mid.session new.session
closed_stay true keeps seat id answer mid new h =
    subst (λ (s : Session). OthersStay id s new.session) (spent_session id mid) (asked_stay keeps (to_forget id) (done_or {A = Unit {0}}) seat id answer (spent id mid) new (λ a b t. forget_gives id t a b) h)
closed_stay false keeps seat id answer mid new h =
    subst (λ (v : BookedView). OthersStay id mid.session v.session) (sym h.1) (subst (OthersStay id mid.session) (sym (spent_session id mid)) (stay_none id mid.session))

-- the half is spent
pub stay_closed : (keeps : Bool) (seat id : ℕ) (answer : Result (Unit {0}) HubFault) (s : Session) (mid new : BookedView) → OthersStay id s mid.session → StepsClosed (is_half_spent id mid) keeps seat id answer mid new → OthersStay id s new.session
stay_closed keeps seat id answer s mid new g h = stay_on id s mid.session new.session g (closed_stay (is_half_spent id mid) keeps seat id answer mid new h)

-- ---- a stream that is released

pub releases_none : (keeps : Bool) (seat : SeatView) (id : ℕ) (answer : Result (Unit {0}) HubFault) → answer ≡ Err (fault.Releases refused_release) → Books keeps seat seat (Releases id seat.number answer)
releases_none keeps seat id answer e = books_same keeps seat (Releases id seat.number answer) (inr (e, refl))

pub releases_wait : (keeps : Bool) (old new : SeatView) (id : ℕ) (u : Unit {0}) → Books keeps old new (Looks id old.number LookWaits) → Books keeps old new (Releases id old.number (Ok u))
releases_wait keeps old new id u h = books_weaker keeps old new (Looks id old.number LookWaits) (Releases id old.number (Ok u)) (λ es r. inl (inl r)) h

pub releases_lack : (keeps : Bool) (old new : SeatView) (id : ℕ) (why : RefusedAllocation) → Books keeps old new (Looks id old.number (Lacks why)) → Books keeps old new (Releases id old.number (Err (Memory evidence)))
releases_lack keeps old new id why h = books_weaker keeps old new (Looks id old.number (Lacks why)) (Releases id old.number (Err (Memory evidence))) (λ es r. inl (inl (refl, r))) h

pub releases_spent : (keeps : Bool) (old new : SeatView) (id : ℕ) (answer : Result (Unit {0}) HubFault) → Books keeps old new (Looks id old.number (Spent answer)) → Books keeps old new (Releases id old.number answer)
releases_spent keeps old new id (Ok u) h = books_weaker keeps old new (Looks id old.number (Spent (Ok u))) (Releases id old.number (Ok u)) (λ es r. inl (inr r)) h
releases_spent keeps old new id (Err why) h = books_weaker keeps old new (Looks id old.number (Spent (Err why))) (Releases id old.number (Err why)) (λ es r. inl (inr r)) h

-- what spends the half answers nothing else
fault_named : (stop : CallFault) → hub_fault_of stop ≡ fault.Releases refused_release → ⊥
fault_named why.NoStream e = cc
fault_named why.Finished e = cc
fault_named why.Reset e = cc
fault_named why.Lost e = cc
fault_named why.Closed e = cc
fault_named why.PeerAway e = cc
fault_named why.OpensPending e = cc
fault_named why.TooMany e = cc
fault_named why.Exhausted e = cc
fault_named why.PingsPending e = cc
fault_named (why.OutOfMemory refused) e = cc

abbrev Same : (answer other : Result (Unit {0}) HubFault) → Type 0
Same answer other = answer ≡ other

err_named : (stop : HubFault) → Same (Err stop) (Err (fault.Releases refused_release)) → stop ≡ fault.Releases refused_release
err_named stop e = cc

pub no_release : (second keeps : Bool) (seat id : ℕ) (answer : Result (Unit {0}) HubFault) (mid new : BookedView) → StepsClosed second keeps seat id answer mid new → answer ≡ Err (fault.Releases refused_release) → ⊥
no_release true keeps seat id (Ok u) mid new h e = cc
no_release true keeps seat id (Err stop) mid new (inl none) e = let l : stop ≡ Memory evidence = none.0 in let k : stop ≡ fault.Releases refused_release = err_named stop e in cc
no_release true keeps seat id (Err stop) mid new (inr some) e = fault_named some.0 (sym some.1 ∙ err_named stop e)
no_release false keeps seat id answer mid new h e = let l : answer ≡ Ok tt = h.0 in cc

-- its half is spent
pub release_done : (keeps : Bool) (old new : SeatView) (id : ℕ) (answer : Result (Unit {0}) HubFault) (s : Session) (after : List ℕ) → Books keeps old new (Looks id old.number (Spent answer)) →
    IfOk answer (λ (u : Unit {0}). (Waits s id × Contains after id) ⊎ Books keeps old new (ReadsOut id old.number (Ok tt)))
release_done keeps old new id (Ok u) s after h = inr h
release_done keeps old new id (Err why) s after h = tt

-- the history is shown after it
pub is_dropped : (keeps witnessed : Bool) (role : Role) (config : Config) (old mid new : SeatView) (id : ℕ) (result : Result (Unit {0}) HubFault) (s : Session) (ids : List ℕ) →
    IfOk result (λ (u : Unit {0}). (Waits s id × Contains ids id) ⊎ Books keeps old mid (ReadsOut id old.number (Ok tt))) →
    IsShown mid new → IsHistoryOf witnessed role config new.seen s →
    IfOk result (λ (u : Unit {0}). IsDropped keeps witnessed role config id old new)
is_dropped keeps witnessed role config old mid new id (Ok u) s ids (inl w) shown history = inr (s, history, w.0)
is_dropped keeps witnessed role config old mid new id (Ok u) s ids (inr out) shown history = inl (record { between = mid; booked = out; shown = shown })
is_dropped keeps witnessed role config old mid new id (Err fault) s ids d shown history = tt

-- ---- who waits

-- what a read of one byte answers
reply_of : Status → Option End → Reply
reply_of status found = if is_closed status then reply.Refused Closed else of found
  where
    of : Option End → Reply
    of None = reply.Refused NoStream
    of (Some e) = read_reply (is_lost status) 1 e.phase e.reader.unread e.reader.ended

reply_is : (id : ℕ) (s : Session) → (read_from id 1 s).reply ≡ reply_of s.status (look id s.table.entries)
unfolding reply_of
reply_is id s = of (is_closed s.status) (look id s.table.entries)
  where
    at : Option End → Reply
    at None = reply.Refused NoStream
    at (Some e) = read_reply (is_lost s.status) 1 e.phase e.reader.unread e.reader.ended

    of : (closed : Bool) (found : Option End) → (if closed then refused Closed s else at_record (read_outcome id 1 s) s found).reply ≡ (if closed then reply.Refused Closed else at found)
    of true found = refl
    of false None = refl
    of false (Some e) = refl

-- another stream that waits goes on waiting
other_waits : (id other : ℕ) (s t : Session) → OthersStay id s t → other ≢ id → Waits s other → Waits t other
other_waits id other s t stay n w =
    reply_is other t ∙ ap (λ (v : Status). reply_of v (look other t.table.entries)) stay.status ∙ ap (reply_of s.status) (stay.others other n) ∙ sym (reply_is other s) ∙ w

-- the stream at this place waits, and those after it go on
pub wait_on : (id place : ℕ) (s t : Session) (ids : List ℕ) → ((d : ℕ) → get_or ids place d ≡ id) → OthersStay id s t → Waits t id → WaitFrom s ids (place + 1) → WaitFrom t ids place
wait_on id place s t ids e stay now w at d low high = of (get_or ids at d == id) refl
  where
    of : (b : Bool) → (get_or ids at d == id) ≡ b → Waits t (get_or ids at d)
    of true h = let same : get_or ids at d ≡ id = grind (arith, nat_tests) in subst (Waits t) (sym same) now
    of false h =
        let other : get_or ids at d ≢ id = λ same. grind (arith, nat_tests) in
        let apart : at ≢ place = λ same. other (ap (λ (n : ℕ). get_or ids n d) same ∙ e d) in
        other_waits id (get_or ids at d) s t stay other (w at d (omega (arith, low, apart)) high)

-- the stream at this place is gone, in which nothing waited, and the last has taken its place
pub wait_gone : (id place : ℕ) (s t : Session) (ids after : List ℕ) → place < length ids → OthersStay id s t → (Waits s id → ⊥) →
    length after + 1 ≡ length ids →
    ((d : ℕ) → place + 1 < length ids → get_or after place d ≡ get_or ids (length ids - 1) d) →
    ((k d : ℕ) → k ≢ place → k + 1 < length ids → get_or after k d ≡ get_or ids k d) →
    WaitFrom s ids (place + 1) → WaitFrom t after place
wait_gone id place s t ids after within stay gone less last others w at d low high = of (at == place) refl
  where
    there : (from : ℕ) → place + 1 ≤ from → from < length ids → get_or after at d ≡ get_or ids from d → Waits t (get_or after at d)
    there from l h same =
        let waits : Waits s (get_or after at d) = subst (Waits s) (sym same) (w from d l h) in
        other_waits id (get_or after at d) s t stay (λ (it : get_or after at d ≡ id). gone (subst (Waits s) it waits)) waits

    of : (b : Bool) → (at == place) ≡ b → Waits t (get_or after at d)
    of true h =
        let here : at ≡ place = grind (arith, nat_tests) in
        there (length ids - 1) (omega (arith, here, high, less)) (omega (arith, within)) (ap (λ (n : ℕ). get_or after n d) here ∙ last d (omega (arith, here, high, less)))
    of false h =
        let apart : at ≢ place = λ same. grind (arith, nat_tests) in
        there at (omega (arith, low, apart)) (omega (arith, high, less)) (others at d apart (omega (arith, high, less)))

-- one place more
pub wait_step : (s t : Session) (ids after : List ℕ) (count done : ℕ) → done < count → (WaitFrom s ids (count - 1 - done + 1) → WaitFrom t after (count - 1 - done)) → WaitFrom s ids (count - done) → WaitFrom t after (count - (done + 1))
wait_step s t ids after count done l f w =
    let here : count - 1 - done ≡ count - (done + 1) = omega (arith, l) in
    let next : count - done ≡ count - 1 - done + 1 = omega (arith, l) in
    subst (WaitFrom t after) here (f (subst (WaitFrom s ids) next w))

pub no_place : (s : Session) (ids : List ℕ) (n : ℕ) → length ids ≤ n → WaitFrom s ids n
no_place s ids n l at d low high = absurd (omega (arith, l, low, high))

pub apart : (answer : Result (Unit {0}) HubFault) → Spent answer ≡ LookWaits → ⊥
apart answer e = cc

pub if_ok : (result : Result (Unit {0}) RefusedAllocation) (P : Type 0) → P → IfOk result (λ u. P)
if_ok (Ok u) P p = p
if_ok (Err refused) P p = tt

-- nothing else changes, twice
pub rest_on : {R : Type 0} (one two three : Shared R) → two ≡ record one { booked = two.booked } → three ≡ record two { booked = three.booked } → three ≡ record one { booked = three.booked }
rest_on {R} one two three e f = f ∙ ap {A = Shared R} (λ v. record v { booked = three.booked }) e
