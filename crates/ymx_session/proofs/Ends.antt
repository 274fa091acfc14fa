-- What becomes of streams that were released.
use Rattle.std.proofs.Common.{◌≡◌, ◌≢◌, ◌⊎◌, inl, inr, ℕ, zero, suc, nat_eq, List, [], ◌∷◌, ◌++◌, length, min, drop, Bool, true, false, not, ◌&&◌, ◌||◌, if◌then◌else◌, Option, None, Some, refl, sym, ap, ◌∙◌, subst, arith, append-nil}
use Rattle.std.specs.Prelude.{filter}
use Rattle.std.proofs.lemmas.Grind.{common_steps}
use Rattle.std.proofs.lemmas.Bool.Decides.{nat_tests}
use Rattle.std.proofs.lemmas.List.Elements.{filter-append}
use Rattle.ymx_machine.specs.declared.types.Call.TheVariants as call
use Rattle.ymx_machine.specs.shared.Events.{Call, Reply}
use Rattle.ymx_machine.specs.shared.Phases.{Phase, is_live, is_reset}
use Rattle.ymx_machine.specs.shared.Phases.Phase.{Lingering}
use Rattle.ymx_machine.specs.shared.Replies.{forget_reply, finish_reply, read_reply, bytes_moved, is_done}
use Rattle.ymx_machine.specs.shared.Lists.{look, Distinct}
use Rattle.ymx_machine.proofs.Lists.{look-change_there, look-without_same, distinct-change, distinct-without}
use Rattle.ymx_machine.proofs.Tests.{split, both_of, negated, none_of, or_true}
use Rattle.ymx_model.specs.declared.types.Status.{Status}
use Rattle.ymx_model.specs.declared.types.Status.TheVariants.{Running, Lost, Broken, Closed}
use Rattle.ymx_model.specs.declared.types.Event.TheVariants as event
use Rattle.ymx_model.specs.session.Records.{End, end_read, end_finish, end_forget}
use Rattle.ymx_model.specs.session.Tables.{with_record, remove_record}
use Rattle.ymx_model.specs.session.Sessions.{Session, is_running, is_closed, is_lost, is_spent, on_stream, reap}
use Rattle.ymx_model.specs.session.Calls.{outcome, at_record, read_from, finish, forget, read_outcome, finish_outcome, forget_outcome}
use Rattle.ymx_model.specs.session.Histories.{CallGives}
use Rattle.ymx_model.specs.session.Histories.CallGives.{Outcome as HasOutcome}
use Rattle.ymx_law_session.specs.Refusals.{OthersSame}
use Rattle.ymx_law_session.proofs.limits.CallsKeep.{with-keeps}
use Rattle.ymx_law_session.proofs.nothing_else.StreamCalls.{StaysAt, read-stays, forget-stays}
use Rattle.ymx_law_session.proofs.nothing_else.Others.{read-others, finish-others, forget-others}
use Rattle.ymx_table.specs.Listing.{is_held}
use Rattle.ymx_session.specs.Replies.{stream_fault, end_fault}
use Rattle.ymx_session.specs.Streams.{waiting}
use Rattle.ymx_session.specs.Releases.{is_among, held_at, has_stream, open_at, goes_on, tending, tended, let_go, tended_all, forgets, left_of, is_quiet, is_end_of, OnlyEnds}
use Rattle.ymx_session.proofs.Records.{MayRead, read-leaves}
use Rattle.ymx_session.proofs.Sounds.{called}

-- ---- one stream

-- a stream of which more may come
pub record IsGoing (id : ℕ) (s : Session) : Type 0 where
  pub running : s.status ≡ Running
  pub end : End
  pub there : look id s.table.entries ≡ Some end
  pub live : is_live end.phase ≡ true
  pub unended : end.reader.ended ≡ false
  pub may : stream_fault id s ≡ None

runs : (st : Status) → is_running st ≡ true → st ≡ Running
runs Running e = refl
runs Lost e = cc
runs (Broken fault) e = cc
runs Closed e = cc

callers-end : (e : End) → is_live e.phase ≡ true → end_fault (Some e) ≡ None
callers-end e l = of e.phase l
  where
    of : (p : Phase) → is_live p ≡ true → end_fault (Some (record e { phase = p })) ≡ None
    of p l = grind arith

open-there : (o : Option End) → open_at o ≡ true → (e : End) × (o ≡ Some e) × (is_live e.phase ≡ true) × (e.reader.ended ≡ false)
open-there None h = cc
open-there (Some e) h = let two = both_of (is_live e.phase) (not e.reader.ended) h in (e, refl, two.0, negated e.reader.ended two.1)

pub is-going : (id : ℕ) (s : Session) → goes_on id s ≡ true → IsGoing id s
is-going id s h =
    let two = both_of (is_running s.status) (open_at (look id s.table.entries)) h in
    let r = runs s.status two.0 in
    let o = open-there (look id s.table.entries) two.1 in
    record { running = r; end = o.0; there = o.1; live = o.2; unended = o.3; may = rw (r, o.1) (callers-end o.0 o.2) }

drop-all : (xs : List ℕ) → drop (length xs) xs ≡ []
drop-all xs = grind (arith, common_steps)

moved-nothing : (p : Phase) (unread : List ℕ) (ended lost : Bool) → bytes_moved (read_reply lost 0 p unread ended) ≡ 0
moved-nothing p unread ended lost =
    let P : Reply → Type 0 = λ r. bytes_moved r ≡ 0 in
    split P (is_reset p) _ _ (λ t. refl) (λ f. split P (not (is_live p)) _ _ (λ t. refl) (λ g. refl))

-- a read of no bytes changes nothing
read-nothing : (id : ℕ) (s : Session) → (read_from id 0 s).next ≡ s
read-nothing id s = with-keeps (λ (t : Session). t ≡ s) id (read_outcome id 0 s) s refl (λ e l. rw (moved-nothing e.phase e.reader.unread e.reader.ended (is_lost s.status)) refl)

empty-of : (xs : List ℕ) → length xs ≡ 0 → xs ≡ []
empty-of [] h = refl
empty-of (x ∷ xs) h = absurd (omega arith)

quiet-end : (e : End) → is_live e.phase ≡ true → e.reader.ended ≡ false → e.reader.unread ≡ [] → is_quiet (Some e) ≡ true
quiet-end e l o n = rw (l, o, n) refl

-- read up, it is quiet
pub quiet-read : (id : ℕ) (s : Session) → goes_on id s ≡ true → is_quiet (look id (read_from id (length (waiting id s)) s).next.table.entries) ≡ true
quiet-read id s h = of (is-going id s h)
  where
    of : IsGoing id s → is_quiet (look id (read_from id (length (waiting id s)) s).next.table.entries) ≡ true
    of g = by (length g.end.reader.unread) refl
      where
        e : End
        e = g.end

        all : waiting id s ≡ e.reader.unread
        all = rw (g.may, g.there) refl

        by : (n : ℕ) → length g.end.reader.unread ≡ n → is_quiet (look id (read_from id (length (waiting id s)) s).next.table.entries) ≡ true
        by zero l =
            let none : length (waiting id s) ≡ 0 = ap length all ∙ l in
            let same : (read_from id (length (waiting id s)) s).next ≡ s = ap (λ (n : ℕ). (read_from id n s).next) none ∙ read-nothing id s in
            let at : is_quiet (look id s.table.entries) ≡ true = rw g.there (quiet-end e g.live g.unended (empty-of e.reader.unread l)) in
            subst (λ (t : Session). is_quiet (look id t.table.entries) ≡ true) (sym same) at
        by (suc n) l =
            let some : length (waiting id s) ≡ suc n = ap length all ∙ l in
            let may : MayRead id (suc n) e s = record { may = g.may; there = g.there; asked = omega arith; unread = omega arith } in
            let least : suc n ≡ min (suc n) (length e.reader.unread) = omega arith in
            let left : on_stream id (end_read (suc n)) s ≡ (read_from id (suc n) s).next = read-leaves id (suc n) (suc n) e (with_record id (end_read (suc n)) s.table) s s refl may least refl in
            let same : (read_from id (length (waiting id s)) s).next ≡ on_stream id (end_read (suc n)) s = ap (λ (n : ℕ). (read_from id n s).next) some ∙ sym left in
            let none : drop (suc n) e.reader.unread ≡ [] = ap (λ (k : ℕ). drop k e.reader.unread) (sym l) ∙ drop-all e.reader.unread in
            let found = look-change_there id (end_read (suc n)) s.table.entries e g.there in
            let at : is_quiet (look id (on_stream id (end_read (suc n)) s).table.entries) ≡ true = rw found (quiet-end (end_read (suc n) e) g.live g.unended none) in
            subst (λ (t : Session). is_quiet (look id t.table.entries) ≡ true) (sym same) at

-- ---- what a call on a released stream keeps

tended-stays : (P : Session → Type 0) (id : ℕ) (s : Session) → StaysAt P id s → P (tended id s)
tended-stays P id s h =
    split (λ (c : Call). P (outcome c s).next) (goes_on id s) (call.Read id (length (waiting id s))) (call.Forget id)
    (λ t. read-stays P id (length (waiting id s)) s h) (λ f. forget-stays P id s h)

tended-status : (id : ℕ) (s : Session) → (tended id s).status ≡ s.status
tended-status id s = tended-stays (λ (t : Session). t.status ≡ s.status) id s (record {
  now = refl;
  changed = λ f. refl;
  gone = λ f. let t = on_stream id f s in split (λ (u : Session). u.status ≡ s.status) (is_spent t.table.window t.outgoing id (look id t.table.entries)) (record t { table = remove_record id t.table }) t (λ e. refl) (λ e. refl);
})

tended-distinct : (id : ℕ) (s : Session) → Distinct s.table.entries → Distinct (tended id s).table.entries
tended-distinct id s d = tended-stays (λ (t : Session). Distinct t.table.entries) id s (record {
  now = d;
  changed = λ f. distinct-change id f s.table.entries d;
  gone = λ f.
      let t = on_stream id f s in
      let k : Distinct t.table.entries = distinct-change id f s.table.entries d in
      split (λ (u : Session). Distinct u.table.entries) (is_spent t.table.window t.outgoing id (look id t.table.entries)) (record t { table = remove_record id t.table }) t (λ e. distinct-without id t.table.entries k) (λ e. k);
})

tended-others : (id : ℕ) (s : Session) → OthersSame id s (tended id s)
tended-others id s =
    split (λ (c : Call). OthersSame id s (outcome c s).next) (goes_on id s) (call.Read id (length (waiting id s))) (call.Forget id)
    (λ t. read-others id (length (waiting id s)) s) (λ f. forget-others id s)

-- ---- a stream that is forgotten

lingers : (lost : Bool) (e : End) → (end_forget lost e).phase ≡ Lingering
lingers lost e =
    split (λ (x : End). x.phase ≡ Lingering) lost _ _ (λ a. refl) (λ a.
    split (λ (x : End). x.phase ≡ Lingering) (is_reset e.phase) _ _ (λ b. refl) (λ b.
    split (λ (x : End). x.phase ≡ Lingering) (e.writer.finished && e.reader.ended) _ _ (λ d. refl) (λ d. refl)))

not-held : (e : End) → e.phase ≡ Lingering → is_held e ≡ false
not-held e l = rw l refl

reaped-gone : (id : ℕ) (t : Session) → Distinct t.table.entries → held_at (look id t.table.entries) ≡ false → has_stream id (reap id t) ≡ false
reaped-gone id t d none =
    split (λ (u : Session). has_stream id u ≡ false) (is_spent t.table.window t.outgoing id (look id t.table.entries)) (record t { table = remove_record id t.table }) t
    (λ e. rw (look-without_same id t.table.entries d) refl) (λ e. none)

held-done : (p : Phase) → is_done (forget_reply p) ≡ (is_live p || is_reset p)
held-done p = grind arith

forgotten : (id : ℕ) (s : Session) → Distinct s.table.entries → is_closed s.status ≡ false → has_stream id (forget id s).next ≡ false
forgotten id s d running = rw running (of (look id s.table.entries) refl)
  where
    of : (o : Option End) → look id s.table.entries ≡ o → has_stream id (at_record (forget_outcome id s) s o).next ≡ false
    of None l = rw l refl
    of (Some e) l =
        split (λ (u : Session). has_stream id u ≡ false) (is_done (forget_reply e.phase)) (reap id (on_stream id (end_forget (is_lost s.status)) s)) s
        (λ t.
        let f = end_forget (is_lost s.status) in
        let there : look id (on_stream id f s).table.entries ≡ Some (f e) = look-change_there id f s.table.entries e l in
        reaped-gone id (on_stream id f s) (distinct-change id f s.table.entries d) (rw there (not-held (f e) (lingers (is_lost s.status) e))))
        (λ n. rw l (sym (held-done e.phase) ∙ n))

call-of : (id : ℕ) (s : Session) (b : Bool) → goes_on id s ≡ b → tended id s ≡ (outcome (if b then call.Read id (length (waiting id s)) else call.Forget id) s).next
call-of id s b e = ap (λ (x : Bool). (outcome (if x then call.Read id (length (waiting id s)) else call.Forget id) s).next) e

tended-gone : (id : ℕ) (s : Session) → Distinct s.table.entries → is_closed s.status ≡ false → goes_on id s ≡ false → has_stream id (tended id s) ≡ false
tended-gone id s d running n = subst (λ (t : Session). has_stream id t ≡ false) (sym (call-of id s false n)) (forgotten id s d running)

pub tended-quiet : (id : ℕ) (s : Session) → goes_on id s ≡ true → is_quiet (look id (tended id s).table.entries) ≡ true
tended-quiet id s g = subst (λ (t : Session). is_quiet (look id t.table.entries) ≡ true) (sym (call-of id s true g)) (quiet-read id s g)

-- ---- a stream that is released

-- a finish leaves whether it goes on
pub finish-goes : (id : ℕ) (s : Session) → goes_on id (finish id s).next ≡ goes_on id s
finish-goes id s = with-keeps (λ (t : Session). goes_on id t ≡ goes_on id s) id (finish_outcome id s) s refl (λ e l.
    split (λ (t : Session). goes_on id t ≡ goes_on id s) (is_done (finish_reply (is_lost s.status) e.phase e.writer.finished)) (on_stream id end_finish s) s
    (λ t. rw (look-change_there id end_finish s.table.entries e l, l) refl) (λ n. refl))

self-is : (x : ℕ) (xs : List ℕ) → is_among x (x ∷ xs) ≡ true
self-is x xs = grind (arith, nat_tests)

tending-ends : (ids : List ℕ) (id : ℕ) (s : Session) → is_among id ids ≡ true → is_end_of ids (event.Call (tending id s)) ≡ true
tending-ends ids id s h = split (λ (c : Call). is_end_of ids (event.Call c) ≡ true) (goes_on id s) (call.Read id (length (waiting id s))) (call.Forget id) (λ t. h) (λ f. h)

pub release-ends : (id : ℕ) (s : Session) → OnlyEnds (id ∷ []) s (let_go id s)
release-ends id s =
    let t = (finish id s).next in
    let k = self-is id [] in (
      (event.Call (call.Finish id), (finish id s).reply) ∷ (event.Call (tending id t), (outcome (tending id t) t).reply) ∷ [],
      (k, (t, HasOutcome refl refl, (tending-ends (id ∷ []) id t k, (tended id t, HasOutcome refl refl, refl)))),
    )

pub release-others : (id : ℕ) (s : Session) → OthersSame id s (let_go id s)
release-others id s j n = tended-others id (finish id s).next j n ∙ finish-others id s j n

pub release-quiet : (id : ℕ) (s : Session) → goes_on id s ≡ true → is_quiet (look id (let_go id s).table.entries) ≡ true
release-quiet id s g = tended-quiet id (finish id s).next (finish-goes id s ∙ g)

-- ---- some streams

pub tended-on : (xs : List ℕ) (x : ℕ) (s : Session) → tended_all (xs ++ x ∷ []) s ≡ tended x (tended_all xs s)
tended-on [] x s = refl
tended-on (y ∷ ys) x s = tended-on ys x (tended y s)

pub forgets-on : (xs : List ℕ) (x : ℕ) (s : Session) → forgets (xs ++ x ∷ []) s ≡ (forgets xs s || not (goes_on x (tended_all xs s)))
forgets-on [] x s = or-none (not (goes_on x s))
  where
    or-none : (b : Bool) → (b || false) ≡ b
    or-none true = refl
    or-none false = refl
forgets-on (y ∷ ys) x s = ap (λ (b : Bool). not (goes_on y s) || b) (forgets-on ys x (tended y s)) ∙ sym (or-assoc (not (goes_on y s)) _ _)
  where
    or-assoc : (a b c : Bool) → ((a || b) || c) ≡ (a || (b || c))
    or-assoc true b c = refl
    or-assoc false b c = refl

-- these are among those
abbrev pub AreAmong : List ℕ → List ℕ → Type 0
AreAmong xs ids = (x : ℕ) → is_among x xs ≡ true → is_among x ids ≡ true

among-rest : (y : ℕ) (ys ids : List ℕ) → AreAmong (y ∷ ys) ids → AreAmong ys ids
among-rest y ys ids h x m = h x (rw m (or_true (nat_eq x y)))

all-end : (ids xs : List ℕ) (s : Session) → AreAmong xs ids → OnlyEnds ids s (tended_all xs s)
all-end ids [] s h = ([], refl)
all-end ids (x ∷ xs) s h =
    let more = all-end ids xs (tended x s) (among-rest x xs ids h) in
    ((event.Call (tending x s), (outcome (tending x s) s).reply) ∷ more.0, (tending-ends ids x s (h x (self-is x xs)), (tended x s, HasOutcome refl refl, more.1)))

apart : (j x : ℕ) (ids : List ℕ) → is_among x ids ≡ true → is_among j ids ≡ false → j ≢ x
apart j x ids h n e = let k : is_among j ids ≡ true = ap (λ (i : ℕ). is_among i ids) e ∙ h in cc

all-others : (j : ℕ) (ids xs : List ℕ) (s : Session) → AreAmong xs ids → is_among j ids ≡ false → look j (tended_all xs s).table.entries ≡ look j s.table.entries
all-others j ids [] s h n = refl
all-others j ids (x ∷ xs) s h n =
    all-others j ids xs (tended x s) (among-rest x xs ids h) n ∙ tended-others x s j (apart j x ids (h x (self-is x xs)) n)

-- an id among these that is still there in the end, or where none was forgotten, is quiet in the end
all-quiet : (id : ℕ) (xs : List ℕ) (s : Session) → Distinct s.table.entries → is_closed s.status ≡ false → is_among id xs ≡ true →
    (has_stream id (tended_all xs s) ≡ true) ⊎ (forgets xs s ≡ false) → is_quiet (look id (tended_all xs s).table.entries) ≡ true
all-quiet id [] s d running m left = cc
all-quiet id (x ∷ xs) s d running m left = of (is_among id xs) refl (all-quiet id xs (tended x s) (tended-distinct x s d) (ap is_closed (tended-status x s) ∙ running))
  where
    t : Session
    t = tended x s

    rest : (has_stream id (tended_all xs t) ≡ true) ⊎ ((not (goes_on x s) || forgets xs t) ≡ false) → (has_stream id (tended_all xs t) ≡ true) ⊎ (forgets xs t ≡ false)
    rest (inl h) = inl h
    rest (inr n) = inr (none_of (not (goes_on x s)) (forgets xs t) n).1

    of : (b : Bool) → is_among id xs ≡ b → (is_among id xs ≡ true → (has_stream id (tended_all xs t) ≡ true) ⊎ (forgets xs t ≡ false) → is_quiet (look id (tended_all xs t).table.entries) ≡ true) →
        is_quiet (look id (tended_all xs t).table.entries) ≡ true
    of true k more = more k (rest left)
    of false k more =
        let same : look id (tended_all xs t).table.entries ≡ look id t.table.entries = all-others id xs xs t (λ y h. h) k in
        let e : id ≡ x = self-of m k in
        rw same (ap (λ (i : ℕ). is_quiet (look i t.table.entries)) e ∙ here (going same e left))
      where
        self-of : (nat_eq id x || is_among id xs) ≡ true → is_among id xs ≡ false → id ≡ x
        self-of m k = grind (arith, nat_tests)

        here : goes_on x s ≡ true → is_quiet (look x t.table.entries) ≡ true
        here g = tended-quiet x s g

        there : look id (tended_all xs t).table.entries ≡ look id t.table.entries → id ≡ x → has_stream id (tended_all xs t) ≡ true → has_stream x t ≡ true
        there same e h = ap (λ (i : ℕ). has_stream i t) (sym e) ∙ ap held_at (sym same) ∙ h

        going : look id (tended_all xs t).table.entries ≡ look id t.table.entries → id ≡ x → (has_stream id (tended_all xs t) ≡ true) ⊎ ((not (goes_on x s) || forgets xs t) ≡ false) → goes_on x s ≡ true
        going same e (inr n) = not-not (goes_on x s) (none_of (not (goes_on x s)) (forgets xs t) n).0
          where
            not-not : (b : Bool) → not b ≡ false → b ≡ true
            not-not true h = refl
            not-not false h = cc
        going same e (inl h) = by (goes_on x s) refl
          where
            by : (b : Bool) → goes_on x s ≡ b → goes_on x s ≡ true
            by true g = g
            by false g = let gone : has_stream x t ≡ false = tended-gone x s d running g in let still : has_stream x t ≡ true = there same e h in cc

-- ---- what is left of the released ones

filter-passes : (p : ℕ → Bool) (x : ℕ) (xs : List ℕ) → is_among x (filter p xs) ≡ true → p x ≡ true
filter-passes p x [] h = cc
filter-passes p x (y ∷ ys) h = of (p y) refl (filter-passes p x ys)
  where
    of : (b : Bool) → p y ≡ b → (is_among x (filter p ys) ≡ true → p x ≡ true) → p x ≡ true
    of true e more = by (nat_eq x y) refl
      where
        by : (c : Bool) → nat_eq x y ≡ c → p x ≡ true
        by true f = let same : x ≡ y = grind (arith, nat_tests) in ap p same ∙ e
        by false f = let g : is_among x (y ∷ filter p ys) ≡ true = rw e at h in let k : is_among x (filter p ys) ≡ true = rw f at g in more k
    of false e more = let g : is_among x (filter p ys) ≡ true = rw e at h in more g

pub filter-among : (p : ℕ → Bool) (x : ℕ) (xs : List ℕ) → is_among x (filter p xs) ≡ true → is_among x xs ≡ true
filter-among p x [] h = h
filter-among p x (y ∷ ys) h = of (p y) refl (filter-among p x ys)
  where
    of : (b : Bool) → p y ≡ b → (is_among x (filter p ys) ≡ true → is_among x ys ≡ true) → is_among x (y ∷ ys) ≡ true
    of true e more = by (nat_eq x y) refl
      where
        by : (c : Bool) → nat_eq x y ≡ c → is_among x (y ∷ ys) ≡ true
        by true f = rw f refl
        by false f = let g : is_among x (y ∷ filter p ys) ≡ true = rw e at h in let k : is_among x (filter p ys) ≡ true = rw f at g in rw f (more k)
    of false e more = let g : is_among x (filter p ys) ≡ true = rw e at h in rw (more g) (or_true (nat_eq x y))

-- an id that is left, and was looked at, is still there, or none was forgotten
left-there : (forgot : Bool) (id : ℕ) (ids : List ℕ) (t : Session) → is_among id (left_of forgot ids t) ≡ true → (has_stream id t ≡ true) ⊎ (forgot ≡ false)
left-there true id ids t h = inl (filter-passes (λ x. has_stream x t) id ids h)
left-there false id ids t h = inr refl

-- what is left of these, and was looked at, is quiet
pub purge-quiet : (ids xs : List ℕ) (s t : Session) (left : List ℕ) (id : ℕ) → t ≡ tended_all xs s → left ≡ left_of (forgets xs s) ids t → Distinct s.table.entries → is_closed s.status ≡ false →
    is_among id xs ≡ true → is_among id left ≡ true → is_quiet (look id t.table.entries) ≡ true
purge-quiet ids xs s t left id e f d running m h =
    let k : is_among id (left_of (forgets xs s) ids t) ≡ true = ap (is_among id) (sym f) ∙ h in
    subst (λ (u : Session). is_quiet (look id u.table.entries) ≡ true) (sym e) (all-quiet id xs s d running m (to (left-there (forgets xs s) id ids t k)))
  where
    to : (has_stream id t ≡ true) ⊎ (forgets xs s ≡ false) → (has_stream id (tended_all xs s) ≡ true) ⊎ (forgets xs s ≡ false)
    to (inl a) = inl (subst (λ (u : Session). has_stream id u ≡ true) e a)
    to (inr b) = inr b

-- ---- a release, step by step

pub let-go-is : (id : ℕ) (s t u : Session) (told : Reply) → CallGives s (call.Finish id) told t → u ≡ tended id t → u ≡ let_go id s
let-go-is id s t u told g e = e ∙ ap (tended id) (called (call.Finish id) s t told refl g).1

pub goes-before : (id : ℕ) (s t : Session) (told : Reply) → CallGives s (call.Finish id) told t → goes_on id t ≡ goes_on id s
goes-before id s t told g = ap (goes_on id) (called (call.Finish id) s t told refl g).1 ∙ finish-goes id s

pub release-calls : (id : ℕ) (s u : Session) → u ≡ let_go id s → OnlyEnds (id ∷ []) s u
release-calls id s u e = subst (OnlyEnds (id ∷ []) s) (sym e) (release-ends id s)

pub release-leaves : (id : ℕ) (s u : Session) → u ≡ let_go id s → OthersSame id s u
release-leaves id s u e = subst (OthersSame id s) (sym e) (release-others id s)

pub release-quiets : (id : ℕ) (s u : Session) → u ≡ let_go id s → goes_on id s ≡ true → is_quiet (look id u.table.entries) ≡ true
release-quiets id s u e g = subst (λ (t : Session). is_quiet (look id t.table.entries) ≡ true) (sym e) (release-quiet id s g)

-- ---- one of some streams after another

-- after these comes x
pub tends-more : (xs ys : List ℕ) (x : ℕ) (t s u : Session) → ys ≡ xs ++ x ∷ [] → t ≡ tended_all xs s → u ≡ tended x t → u ≡ tended_all ys s
tends-more xs ys x t s u e f g = g ∙ ap (tended x) f ∙ sym (tended-on xs x s) ∙ ap (λ (zs : List ℕ). tended_all zs s) (sym e)

pub forgets-more : (xs ys : List ℕ) (x : ℕ) (forgot goes : Bool) (t s : Session) → ys ≡ xs ++ x ∷ [] → t ≡ tended_all xs s → forgot ≡ forgets xs s → goes ≡ goes_on x t → (forgot || not goes) ≡ forgets ys s
forgets-more xs ys x forgot goes t s e f g h =
    rw (g, h, f, e) (sym (forgets-on xs x s))

filter-more : (p : ℕ → Bool) (xs ys : List ℕ) (x : ℕ) → ys ≡ xs ++ x ∷ [] → p x ≡ true → filter p ys ≡ filter p xs ++ x ∷ []
filter-more p xs ys x e h = ap (filter p) e ∙ filter-append p xs (x ∷ []) ∙ rw h refl

filter-none : (p : ℕ → Bool) (xs ys : List ℕ) (x : ℕ) → ys ≡ xs ++ x ∷ [] → p x ≡ false → filter p ys ≡ filter p xs
filter-none p xs ys x e h = ap (filter p) e ∙ filter-append p xs (x ∷ []) ∙ rw h (append-nil (filter p xs))

-- of these only those that pass were tended
pub record Tended (p : ℕ → Bool) (xs : List ℕ) (s t : Session) (forgot : Bool) : Type 0 where
  pub tends : t ≡ tended_all (filter p xs) s
  pub forgets : forgot ≡ forgets (filter p xs) s

pub touched-more : (p : ℕ → Bool) (xs ys : List ℕ) (x : ℕ) (forgot goes : Bool) (t s u : Session) → ys ≡ xs ++ x ∷ [] → p x ≡ true → Tended p xs s t forgot → goes ≡ goes_on x t → u ≡ tended x t →
    Tended p ys s u (forgot || not goes)
touched-more p xs ys x forgot goes t s u e h k g f =
    let more = filter-more p xs ys x e h in
    record {
      tends = tends-more (filter p xs) (filter p ys) x t s u more k.tends f;
      forgets = forgets-more (filter p xs) (filter p ys) x forgot goes t s more k.tends k.forgets g;
    }

pub touched-none : (p : ℕ → Bool) (xs ys : List ℕ) (x : ℕ) (forgot : Bool) (t s : Session) → ys ≡ xs ++ x ∷ [] → p x ≡ false → Tended p xs s t forgot → Tended p ys s t forgot
touched-none p xs ys x forgot t s e h k =
    let same = filter-none p xs ys x e h in
    record { tends = k.tends ∙ ap (λ (zs : List ℕ). tended_all zs s) (sym same); forgets = k.forgets ∙ ap (λ (zs : List ℕ). forgets zs s) (sym same) }

-- ---- what was purged

pub some-calls : (ids xs : List ℕ) (s u : Session) → u ≡ tended_all xs s → AreAmong xs ids → OnlyEnds ids s u
some-calls ids xs s u e h = subst (OnlyEnds ids s) (sym e) (all-end ids xs s h)

pub some-leave : (ids xs : List ℕ) (s u : Session) → u ≡ tended_all xs s → AreAmong xs ids → (j : ℕ) → is_among j ids ≡ false → look j u.table.entries ≡ look j s.table.entries
some-leave ids xs s u e h j n = ap (λ (t : Session). look j t.table.entries) e ∙ all-others j ids xs s h n

pub touched-among : (ids ts : List ℕ) → AreAmong (filter (λ x. is_among x ids) ts) ids
touched-among ids ts x h = filter-passes (λ y. is_among y ids) x ts h
