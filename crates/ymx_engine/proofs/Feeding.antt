-- That a feed goes on: it takes a byte at least where the session takes any, and all up to where it takes none.
use Rattle.std.proofs.Common.{◌≡◌, ◌≢◌, ℕ, ◌+◌, ◌<◌, ◌≤◌, ◌&&◌, ◌||◌, inl, List, [], ◌∷◌, length, length-append, take, min, not, Bool, true, false, Option, None, Some, refl, sym, ap, ◌∙◌, subst, arith, if◌then◌else◌, nat_le}
use Rattle.std.specs.Prelude.{IsSome, is_some}
use Rattle.std.proofs.lemmas.List.{length-take-le}
use Rattle.ymx_machine.specs.declared.types.Fed.{Fed}
use Rattle.ymx_machine.specs.declared.types.Reply.TheVariants as reply
use Rattle.ymx_machine.specs.declared.types.Call.TheVariants as call
use Rattle.ymx_machine.specs.declared.types.CallFault.TheVariants as fault
use Rattle.ymx_machine.specs.shared.Events.{Reply}
use Rattle.ymx_machine.specs.shared.Lists.{look}
use Rattle.ymx_machine.specs.shared.Phases.Phase.{WasReset}
use Rattle.ymx_machine.specs.shared.Replies.{is_done, reset_reply}
use Rattle.ymx_machine.specs.shared.Limits.{most_answers}
use Rattle.ymx_model.specs.declared.types.Event.TheVariants as event
use Rattle.ymx_model.specs.declared.types.Status.{Status}
use Rattle.ymx_model.specs.declared.types.Status.TheVariants.{Running, Lost, Broken, Closed}
use Rattle.ymx_model.specs.session.Records.{End, end_reset}
use Rattle.ymx_model.specs.session.Sessions.{Session, Incoming, is_running, is_deaf, is_broken, is_lost, is_closed, on_stream}
use Rattle.ymx_model.specs.session.Sessions.Incoming.{Head, Payload}
use Rattle.ymx_model.specs.session.Emissions.{in_turn}
use Rattle.ymx_model.specs.session.Feeds.{Takes, is_between, is_stuck}
use Rattle.ymx_model.specs.session.Histories.{Gives}
use Rattle.ymx_model.specs.session.Histories.CallGives.{Outcome, NoMemory}
use Rattle.ymx_model.specs.session.Calls.{at_record, reset_outcome, refused}
use Rattle.ymx_session.specs.declared.passing.Passing.{Passing}
use Rattle.ymx_session.specs.Passing.{passing, kept_payload, if_read_up, FeedsSome}
use Rattle.ymx_engine.specs.Engines.{Engine, IsFedOrStuck}
use Rattle.ymx_engine.specs.Wires.{fed, HandlesIn}
use Rattle.ymx_engine.proofs.Advancing.{fits, takes_within}
use Rattle.ymx_engine.proofs.Exchanging.{take_both}

free_at : (status : Status) (incoming : Incoming) (entries : List (ℕ × End)) (answers : ℕ) → IsSome (if is_running status then if_read_up entries (kept_payload incoming) else None) →
    (is_broken status || (not (is_deaf status) && is_between incoming && nat_le most_answers answers)) ≡ false
free_at Running (Head bytes) entries answers h = let no : ⊥ = cc in absurd no
free_at Running (Payload id missing fin discarded) entries answers h = refl
free_at Lost incoming entries answers h = let no : ⊥ = cc in absurd no
free_at (Broken fault) incoming entries answers h = let no : ⊥ = cc in absurd no
free_at Closed incoming entries answers h = let no : ⊥ = cc in absurd no

-- payload that may be passed on is taken
pub free : (s : Session) → IsSome (passing s) → is_stuck s ≡ false
free s h = free_at s.status s.incoming s.table.entries (length s.answers) h

pub takes_payload : (s : Session) (payload : Passing) → passing s ≡ Some payload → is_stuck s ≡ false
takes_payload s payload e = free s (ap is_some e)

none_taken : (n m : ℕ) (input : List ℕ) (s t : Session) → n ≡ 0 → Takes (take n input) s t m → t ≡ s
none_taken n m input s t e h = (subst (λ (k : ℕ). Takes (take k input) s t m) e h).0

-- a feed stops where the session takes no byte
stops : (s t : Session) (input : List ℕ) (told : Fed) → Gives in_turn s (event.Feed input) (reply.Fed told) t → told.taken < length input → is_stuck t ≡ true
stops s t input told g less = let same : told ≡ g.0 = cc in (g.2).stops (subst (λ (f : Fed). f.taken < length input) same less)

takes_none : (s t : Session) (input : List ℕ) (told : Fed) → Gives in_turn s (event.Feed input) (reply.Fed told) t → told.taken ≡ 0 → t ≡ s
takes_none s t input told g e =
    let same : told ≡ g.0 = cc in none_taken (g.0).taken ((g.2).took).0 input s t (ap (λ (f : Fed). f.taken) (sym same) ∙ e) ((g.2).took).1

starts : (s t : Session) (input : List ℕ) (told : Fed) → Gives in_turn s (event.Feed input) (reply.Fed told) t → is_stuck s ≡ false → 0 < length input → told.taken ≡ 0 → ⊥
starts s t input told g free some e =
    let none : told.taken < length input = omega arith in
    let no : true ≡ false = sym (stops s t input told g none) ∙ ap is_stuck (takes_none s t input told g e) ∙ free in
    cc

-- of the first bytes, so many at most
pub feeds_few : (s t : Session) (n m : ℕ) (xs ys : List ℕ) (told : Fed) → xs ≡ ys → m ≡ min n (length xs) → Gives in_turn s (event.Feed (take m xs)) (reply.Fed told) t → told.taken ≤ n
feeds_few s t n m xs ys told e least g =
    let all : length (take m xs) ≡ m = length-take-le m xs (omega arith) in
    let few = fits s t (take m xs) told g in
    omega arith

pub some_first : (s t : Session) (n m : ℕ) (xs ys : List ℕ) (told : Fed) → xs ≡ ys → m ≡ min n (length xs) → Gives in_turn s (event.Feed (take m xs)) (reply.Fed told) t →
    is_stuck s ≡ false → 0 < n → 0 < length ys → 0 < told.taken
some_first s t n m xs ys told e least g free more waits =
    let same : length xs ≡ length ys = ap length e in
    let all : length (take m xs) ≡ m = length-take-le m xs (omega arith) in
    let some : told.taken ≢ 0 = starts s t (take m xs) told g free (omega arith) in
    omega arith

-- up to a payload of the first bytes, so many at most
pub feeds_front : (s t : Session) (n m : ℕ) (xs ys : List ℕ) (told : Fed) → xs ≡ ys → m ≡ min n (length xs) → FeedsSome s (take m xs) told t → FeedsSome s ys told t
feeds_front s t n m xs ys told e least x =
    let same : length xs ≡ length ys = ap length e in
    let all : length (take m xs) ≡ m = length-take-le m xs (omega arith) in
    let i = x.within in
    let front : take x.count (take m xs) ≡ take x.count ys = take_both x.count m xs (omega arith) ∙ ap (take x.count) e in
    record { count = x.count; within = omega arith; feeds = subst (λ (v : List ℕ). Gives in_turn s (event.Feed v) (reply.Fed told) t) front x.feeds }

pub front_takes : (s t : Session) (n m : ℕ) (xs : List ℕ) (told : Fed) → m ≡ min n (length xs) → FeedsSome s (take m xs) told t → (told.taken ≤ n) × (told.taken ≤ length xs)
front_takes s t n m xs told least x =
    let all : length (take m xs) ≡ m = length-take-le m xs (omega arith) in
    let few = takes_within s t (take m xs) told x in (omega arith, omega arith)

-- where fewer were taken than might be, fewer than were offered
pub front_stops : (n m taken : ℕ) (xs ys : List ℕ) → xs ≡ ys → m ≡ min n (length xs) → taken < n → taken < length ys → taken < length (take m xs)
front_stops n m taken xs ys e least fewer less =
    let same : length xs ≡ length ys = ap length e in
    let all : length (take m xs) ≡ m = length-take-le m xs (omega arith) in
    omega arith

pub stops_first : (s t : Session) (n m : ℕ) (xs ys : List ℕ) (told : Fed) → xs ≡ ys → m ≡ min n (length xs) → Gives in_turn s (event.Feed (take m xs)) (reply.Fed told) t →
    told.taken < n → told.taken < length ys → is_stuck t ≡ true
stops_first s t n m xs ys told e least g fewer less =
    let same : length xs ≡ length ys = ap length e in
    let all : length (take m xs) ≡ m = length-take-le m xs (omega arith) in
    stops s t (take m xs) told g (omega arith)

-- ---- in turns

pub no_longer : (lost : Bool) (a b : Engine) → HandlesIn lost a b → length b.incoming ≤ length a.incoming
no_longer lost a b h = let e : length a.incoming ≡ length (fed h.events) + length b.incoming = ap length h.from_wire ∙ length-append (fed h.events) b.incoming in omega arith

nothing_left : (xs : List ℕ) → length xs ≡ 0 → xs ≡ []
nothing_left [] e = refl
nothing_left (x ∷ xs) e = let no : ⊥ = omega arith in absurd no

-- a byte was fed in each of as many turns as there were bytes
pub all_turns : (e : Engine) (count turn : ℕ) → length e.incoming + turn ≤ count → count ≤ turn → IsFedOrStuck e
all_turns e count turn fewer over = inl (nothing_left e.incoming (omega arith))

-- ---- a reset

stuck_if : (b : Bool) (s t : Session) → is_stuck t ≡ is_stuck s → is_stuck (if b then t else s) ≡ is_stuck s
stuck_if true s t e = e
stuck_if false s t e = refl

stuck_at : (id : ℕ) (s : Session) (found : Option End) → is_stuck (at_record (reset_outcome id s) s found).next ≡ is_stuck s
stuck_at id s None = refl
stuck_at id s (Some e) = stuck_if (is_done (reset_reply (is_lost s.status) e.phase)) s (on_stream id (end_reset WasReset) s) refl

stuck_unless : (closed : Bool) (id : ℕ) (s : Session) → is_stuck (if closed then refused fault.Closed s else at_record (reset_outcome id s) s (look id s.table.entries)).next ≡ is_stuck s
stuck_unless true id s = refl
stuck_unless false id s = stuck_at id s (look id s.table.entries)

-- after it the session takes bytes as before
pub reset_goes_on : (id : ℕ) (told : Reply) (s t : Session) → Gives in_turn s (event.Call (call.Reset id)) told t → is_stuck s ≡ false → is_stuck t ≡ false
reset_goes_on id told s t (Outcome answer state) free = ap is_stuck state ∙ stuck_unless (is_closed s.status) id s ∙ free
reset_goes_on id told s t (NoMemory needs answer state) free = ap is_stuck state ∙ free
