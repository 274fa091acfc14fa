-- What lists of events leave alone.
use Rattle.std.proofs.Common.{◌≡◌, ℕ, ◌==◌, List, [], ◌∷◌, ◌++◌, length, drop, Bool, true, false, ◌||◌, ◌&&◌, if◌then◌else◌, refl, ap, ◌∙◌, arith}
use Rattle.std.specs.List.{list_all}
use Rattle.ymx_machine.specs.shared.Events.{Reply}
use Rattle.ymx_machine.specs.declared.types.Call.TheVariants as call
use Rattle.ymx_model.specs.session.Events.{Event}
use Rattle.ymx_model.specs.declared.types.Event.TheVariants as event
use Rattle.ymx_engine.specs.Events.{is_on, taken_at, taken, given_at, given, ends_at, has_end, finishes_at, has_finish, resets_at, has_reset, stops_at, has_stop, opens_with, has_open_with}
use Rattle.ymx_engine.specs.Wires.{emitted_at, emitted, fed_at, fed, is_of_read, is_of_flush, has_feed_end, OffersFront, FeedsFront}
use Rattle.ymx_engine.specs.Passes.{is_of_pass, is_of_reading}
use Rattle.ymx_engine.specs.Serves.{is_of_turn}
use Rattle.ymx_engine.proofs.Quiet.{both, or_neither, IsQuiet}

-- ---- lists that leave the wire alone

-- nothing was fed, and nothing offered
abbrev pub FeedsNone : List (Event × Reply) → Type 0
FeedsNone es = (fed es ≡ []) × ((waits : List ℕ) → FeedsFront waits es)

feeds_none_behind : (e : Event) (told : Reply) (es : List (Event × Reply)) → fed_at e told ≡ [] → ((waits : List ℕ) → OffersFront waits e) → FeedsNone es → FeedsNone ((e, told) ∷ es)
feeds_none_behind e told es none offers x = (ap (λ (v : List ℕ). v ++ fed es) none ∙ x.0, λ waits. (offers waits, x.1 (drop (length (fed_at e told)) waits)))

flush_feeds_at : (e : Event) (told : Reply) (es : List (Event × Reply)) → is_of_flush e ≡ true → FeedsNone es → FeedsNone ((e, told) ∷ es)
flush_feeds_at (event.Call c) told es h x = let no : ⊥ = cc in absurd no
flush_feeds_at (event.Feed bytes) told es h x = let no : ⊥ = cc in absurd no
flush_feeds_at event.FeedEnd told es h x = feeds_none_behind event.FeedEnd told es refl (λ w. tt) x
flush_feeds_at (event.Emit room) told es h x = feeds_none_behind (event.Emit room) told es refl (λ w. tt) x

pub flush_feeds : (es : List (Event × Reply)) → list_all (λ e. is_of_flush e.0) es ≡ true → FeedsNone es
flush_feeds [] h = (refl, λ waits. tt)
flush_feeds (e ∷ es) h = let two = both (is_of_flush e.0) (list_all (λ e. is_of_flush e.0) es) h in flush_feeds_at e.0 e.1 es two.0 (flush_feeds es two.1)

read_emits_at : (e : Event) (told : Reply) → is_of_read e ≡ true → emitted_at e told ≡ []
read_emits_at (event.Call c) told h = refl
read_emits_at (event.Feed bytes) told h = refl
read_emits_at event.FeedEnd told h = refl
read_emits_at (event.Emit room) told h = let no : ⊥ = cc in absurd no

pub read_emits : (es : List (Event × Reply)) → list_all (λ e. is_of_read e.0) es ≡ true → emitted es ≡ []
read_emits [] h = refl
read_emits (e ∷ es) h = let two = both (is_of_read e.0) (list_all (λ e. is_of_read e.0) es) h in ap (λ (v : List ℕ). v ++ emitted es) (read_emits_at e.0 e.1 two.0) ∙ read_emits es two.1

-- ---- lists that open no stream with its first bytes

abbrev pub NoneOpensWith : (Event → Bool) → Type 0
NoneOpensWith k = (e : Event) → k e ≡ true → opens_with e ≡ false

pub plain_list : (k : Event → Bool) (none : NoneOpensWith k) (es : List (Event × Reply)) → list_all (λ e. k e.0) es ≡ true → has_open_with es ≡ false
plain_list k none [] h = refl
plain_list k none (e ∷ es) h = let two = both (k e.0) (list_all (λ e. k e.0) es) h in ap (λ (v : Bool). v || has_open_with es) (none e.0 two.0) ∙ plain_list k none es two.1

pub read_plain : NoneOpensWith is_of_read
read_plain (event.Call c) h = let no : ⊥ = cc in absurd no
read_plain (event.Feed bytes) h = refl
read_plain event.FeedEnd h = refl
read_plain (event.Emit room) h = refl

pub flush_plain : NoneOpensWith is_of_flush
flush_plain (event.Call c) h = let no : ⊥ = cc in absurd no
flush_plain (event.Feed bytes) h = refl
flush_plain event.FeedEnd h = refl
flush_plain (event.Emit room) h = refl

on_plain : (id : ℕ) → NoneOpensWith (is_on id)
on_plain id (event.Call (call.Write other bytes)) h = refl
on_plain id (event.Call (call.Read other room)) h = refl
on_plain id (event.Call (call.Finish other)) h = refl
on_plain id (event.Call (call.Reset other)) h = refl
on_plain id e h = let no : ⊥ = cc in absurd no

pass_plain : (id : ℕ) → NoneOpensWith (is_of_pass id)
pass_plain id (event.Call (call.Read other room)) h = refl
pass_plain id (event.Call (call.Reset other)) h = refl
pass_plain id (event.Feed bytes) h = refl
pass_plain id e h = let no : ⊥ = cc in absurd no

pub plain_then : (es fs : List (Event × Reply)) → has_open_with es ≡ false → has_open_with fs ≡ false → has_open_with (es ++ fs) ≡ false
plain_then [] fs h k = k
plain_then (e ∷ es) fs h k = let two = or_neither (opens_with e.0) (has_open_with es) h in ap (λ (v : Bool). v || has_open_with (es ++ fs)) two.0 ∙ plain_then es fs two.1 k

-- calls on streams alone
abbrev pub LeavesWire : List (Event × Reply) → Type 0
LeavesWire es = FeedsNone es × (emitted es ≡ []) × (has_feed_end es ≡ false) × (has_open_with es ≡ false)

leaves_at : (id : ℕ) (e : Event) (told : Reply) (es : List (Event × Reply)) → is_on id e ≡ true → LeavesWire es → LeavesWire ((e, told) ∷ es)
leaves_at id (event.Call c) told es h x = (feeds_none_behind (event.Call c) told es refl (λ w. tt) x.0, x.1, x.2, ap (λ (v : Bool). v || has_open_with es) (on_plain id (event.Call c) h) ∙ x.3)
leaves_at id (event.Feed bytes) told es h x = let no : ⊥ = cc in absurd no
leaves_at id event.FeedEnd told es h x = let no : ⊥ = cc in absurd no
leaves_at id (event.Emit room) told es h x = let no : ⊥ = cc in absurd no

pub leaves_wire : (id : ℕ) (es : List (Event × Reply)) → list_all (λ e. is_on id e.0) es ≡ true → LeavesWire es
leaves_wire id [] h = ((refl, λ waits. tt), refl, refl, refl)
leaves_wire id (e ∷ es) h = let two = both (is_on id e.0) (list_all (λ e. is_on id e.0) es) h in leaves_at id e.0 e.1 es two.0 (leaves_wire id es two.1)

-- ---- lists of one stream leave the others alone

abbrev QuietAt : ℕ → Event → Reply → Type 0
QuietAt id e told = (taken_at id e told ≡ []) × (given_at id e told ≡ []) × (ends_at id e told ≡ false) × (finishes_at id e ≡ false) × (resets_at id e ≡ false) × (stops_at id e told ≡ false)

pub other_id : (x id other : ℕ) → (x == id) ≡ true → (other == id) ≡ false → (x == other) ≡ false
other_id x id other h k = grind arith

-- a choice that isn't taken
not_taken : (b : Bool) (xs : List ℕ) → b ≡ false → (if b then xs else []) ≡ []
not_taken true xs h = let no : ⊥ = cc in absurd no
not_taken false xs h = refl

none_and : (b c : Bool) → b ≡ false → (b && c) ≡ false
none_and true c h = let no : ⊥ = cc in absurd no
none_and false c h = refl

quiet_at : (id other : ℕ) (e : Event) (told : Reply) → is_on id e ≡ true → (other == id) ≡ false → QuietAt other e told
quiet_at id other (event.Call (call.Write x bytes)) told h k = let ne = other_id x id other h k in (not_taken (x == other) _ ne, refl, refl, refl, refl, none_and (x == other) _ ne)
quiet_at id other (event.Call (call.Read x room)) told h k = let ne = other_id x id other h k in (refl, not_taken (x == other) _ ne, none_and (x == other) _ ne, refl, refl, none_and (x == other) _ ne)
quiet_at id other (event.Call (call.Finish x)) told h k = (refl, refl, refl, other_id x id other h k, refl, refl)
quiet_at id other (event.Call (call.Reset x)) told h k = let ne = other_id x id other h k in (refl, refl, refl, refl, ne, ne)
quiet_at id other e told h k = (refl, refl, refl, refl, refl, refl)

quiet_behind : (id : ℕ) (e : Event) (told : Reply) (es : List (Event × Reply)) → QuietAt id e told → IsQuiet id es → IsQuiet id ((e, told) ∷ es)
quiet_behind id e told es q x = (
  ap (λ (v : List ℕ). v ++ taken id es) q.0 ∙ x.0,
  ap (λ (v : List ℕ). v ++ given id es) q.1 ∙ x.1,
  ap (λ (v : Bool). v || has_end id es) q.2 ∙ x.2,
  ap (λ (v : Bool). v || has_finish id es) q.3 ∙ x.3,
  ap (λ (v : Bool). v || has_reset id es) q.4 ∙ x.4,
  ap (λ (v : Bool). v || has_stop id es) q.5 ∙ x.5,
)

pub others_quiet : (id other : ℕ) (es : List (Event × Reply)) → list_all (λ e. is_on id e.0) es ≡ true → (other == id) ≡ false → IsQuiet other es
others_quiet id other [] h k = (refl, refl, refl, refl, refl, refl)
others_quiet id other (e ∷ es) h k = let two = both (is_on id e.0) (list_all (λ e. is_on id e.0) es) h in quiet_behind other e.0 e.1 es (quiet_at id other e.0 e.1 two.0 k) (others_quiet id other es two.1 k)

-- ---- what is passed on

abbrev pub PassEmits : List (Event × Reply) → Type 0
PassEmits es = (emitted es ≡ []) × (has_feed_end es ≡ false) × (has_open_with es ≡ false)

pass_emits_at : (id : ℕ) (e : Event) (told : Reply) (es : List (Event × Reply)) → is_of_pass id e ≡ true → PassEmits es → PassEmits ((e, told) ∷ es)
pass_emits_at id (event.Call c) told es h x = (x.0, x.1, ap (λ (v : Bool). v || has_open_with es) (pass_plain id (event.Call c) h) ∙ x.2)
pass_emits_at id (event.Feed bytes) told es h x = x
pass_emits_at id event.FeedEnd told es h x = let no : ⊥ = cc in absurd no
pass_emits_at id (event.Emit room) told es h x = let no : ⊥ = cc in absurd no

pub pass_emits : (id : ℕ) (es : List (Event × Reply)) → list_all (λ e. is_of_pass id e.0) es ≡ true → PassEmits es
pass_emits id [] h = (refl, refl, refl)
pass_emits id (e ∷ es) h = let two = both (is_of_pass id e.0) (list_all (λ e. is_of_pass id e.0) es) h in pass_emits_at id e.0 e.1 es two.0 (pass_emits id es two.1)

-- ---- events of reading

-- events of one kind are of another that has each of them
of_kind : (p q : Event → Bool) → ((e : Event) → p e ≡ true → q e ≡ true) → (es : List (Event × Reply)) → list_all (λ e. p e.0) es ≡ true → list_all (λ e. q e.0) es ≡ true
of_kind p q on [] h = refl
of_kind p q on (e ∷ es) h = let two = both (p e.0) (list_all (λ k. p k.0) es) h in rw (on e.0 two.0) (of_kind p q on es two.1)

read_reading : (e : Event) → is_of_read e ≡ true → is_of_reading e ≡ true
read_reading (event.Call c) h = let no : ⊥ = cc in absurd no
read_reading (event.Feed bytes) h = refl
read_reading event.FeedEnd h = refl
read_reading (event.Emit room) h = let no : ⊥ = cc in absurd no

pass_reading : (id : ℕ) (e : Event) → is_of_pass id e ≡ true → is_of_reading e ≡ true
pass_reading id (event.Call (call.Read other room)) h = refl
pass_reading id (event.Call (call.Reset other)) h = refl
pass_reading id (event.Feed bytes) h = refl
pass_reading id e h = let no : ⊥ = cc in absurd no

pub reads_reading : (es : List (Event × Reply)) → list_all (λ e. is_of_read e.0) es ≡ true → list_all (λ e. is_of_reading e.0) es ≡ true
reads_reading es h = of_kind is_of_read is_of_reading read_reading es h

pub passes_reading : (id : ℕ) (es : List (Event × Reply)) → list_all (λ e. is_of_pass id e.0) es ≡ true → list_all (λ e. is_of_reading e.0) es ≡ true
passes_reading id es h = of_kind (is_of_pass id) is_of_reading (pass_reading id) es h

-- nothing is written or finished
abbrev pub TakesNone : ℕ → List (Event × Reply) → Type 0
TakesNone id es = (taken id es ≡ []) × (has_finish id es ≡ false)

takes_none_at : (id : ℕ) (e : Event) (told : Reply) (es : List (Event × Reply)) → is_of_pass id e ≡ true → TakesNone id es → TakesNone id ((e, told) ∷ es)
takes_none_at id (event.Call (call.Write x bytes)) told es h y = let no : ⊥ = cc in absurd no
takes_none_at id (event.Call (call.Finish x)) told es h y = let no : ⊥ = cc in absurd no
takes_none_at id e told es h y = y

pub takes_none : (id : ℕ) (es : List (Event × Reply)) → list_all (λ e. is_of_pass id e.0) es ≡ true → TakesNone id es
takes_none id [] h = (refl, refl)
takes_none id (e ∷ es) h = let two = both (is_of_pass id e.0) (list_all (λ e. is_of_pass id e.0) es) h in takes_none_at id e.0 e.1 es two.0 (takes_none id es two.1)

passed_at : (id other : ℕ) (e : Event) (told : Reply) → is_of_pass id e ≡ true → (other == id) ≡ false → QuietAt other e told
passed_at id other (event.Call (call.Write x bytes)) told h k = let no : ⊥ = cc in absurd no
passed_at id other (event.Call (call.Read x room)) told h k = let ne = other_id x id other h k in (refl, not_taken (x == other) _ ne, none_and (x == other) _ ne, refl, refl, none_and (x == other) _ ne)
passed_at id other (event.Call (call.Finish x)) told h k = let no : ⊥ = cc in absurd no
passed_at id other (event.Call (call.Reset x)) told h k = let ne = other_id x id other h k in (refl, refl, refl, refl, ne, ne)
passed_at id other e told h k = (refl, refl, refl, refl, refl, refl)

pub others_quiet_passed : (id other : ℕ) (es : List (Event × Reply)) → list_all (λ e. is_of_pass id e.0) es ≡ true → (other == id) ≡ false → IsQuiet other es
others_quiet_passed id other [] h k = (refl, refl, refl, refl, refl, refl)
others_quiet_passed id other (e ∷ es) h k = let two = both (is_of_pass id e.0) (list_all (λ e. is_of_pass id e.0) es) h in quiet_behind other e.0 e.1 es (passed_at id other e.0 e.1 two.0 k) (others_quiet_passed id other es two.1 k)

-- ---- what a turn of a connection does

-- nothing was fed, nobody heard of an end, and no stream was opened with its first bytes
abbrev pub IsCalm : List (Event × Reply) → Type 0
IsCalm es = FeedsNone es × (has_feed_end es ≡ false) × (has_open_with es ≡ false)

turn_calm_at : (id : ℕ) (e : Event) (told : Reply) (es : List (Event × Reply)) → is_of_turn id e ≡ true → IsCalm es → IsCalm ((e, told) ∷ es)
turn_calm_at id (event.Call c) told es h x = (feeds_none_behind (event.Call c) told es refl (λ w. tt) x.0, x.1, ap (λ (v : Bool). v || has_open_with es) (on_plain id (event.Call c) h) ∙ x.2)
turn_calm_at id (event.Feed bytes) told es h x = let no : ⊥ = cc in absurd no
turn_calm_at id event.FeedEnd told es h x = let no : ⊥ = cc in absurd no
turn_calm_at id (event.Emit room) told es h x = (feeds_none_behind (event.Emit room) told es refl (λ w. tt) x.0, x.1, x.2)

pub turn_calm : (id : ℕ) (es : List (Event × Reply)) → list_all (λ e. is_of_turn id e.0) es ≡ true → IsCalm es
turn_calm id [] h = ((refl, λ waits. tt), refl, refl)
turn_calm id (e ∷ es) h = let two = both (is_of_turn id e.0) (list_all (λ e. is_of_turn id e.0) es) h in turn_calm_at id e.0 e.1 es two.0 (turn_calm id es two.1)

turned_at : (id other : ℕ) (e : Event) (told : Reply) → is_of_turn id e ≡ true → (other == id) ≡ false → QuietAt other e told
turned_at id other (event.Call c) told h k = quiet_at id other (event.Call c) told h k
turned_at id other (event.Feed bytes) told h k = (refl, refl, refl, refl, refl, refl)
turned_at id other event.FeedEnd told h k = (refl, refl, refl, refl, refl, refl)
turned_at id other (event.Emit room) told h k = (refl, refl, refl, refl, refl, refl)

pub others_quiet_turned : (id other : ℕ) (es : List (Event × Reply)) → list_all (λ e. is_of_turn id e.0) es ≡ true → (other == id) ≡ false → IsQuiet other es
others_quiet_turned id other [] h k = (refl, refl, refl, refl, refl, refl)
others_quiet_turned id other (e ∷ es) h k = let two = both (is_of_turn id e.0) (list_all (λ e. is_of_turn id e.0) es) h in quiet_behind other e.0 e.1 es (turned_at id other e.0 e.1 two.0 k) (others_quiet_turned id other es two.1 k)
