-- How the directions of a connection follow what happens on its stream.
use Rattle.std.proofs.Common.{◌≡◌, inl, inr, ℕ, List, [], ◌∷◌, ◌++◌, Bool, true, false, ◌||◌, ◌&&◌, ◌==◌, refl, ap, ◌∙◌}
use Rattle.ymx_machine.specs.shared.Events.{Reply}
use Rattle.ymx_machine.specs.declared.types.Call.TheVariants as call
use Rattle.ymx_machine.specs.declared.types.CallFault.TheVariants.{OutOfMemory}
use Rattle.ymx_machine.specs.declared.types.Reply.TheVariants as reply
use Rattle.ymx_model.specs.session.Events.{Event}
use Rattle.ymx_model.specs.declared.types.Event.TheVariants as event
use Rattle.ymx_engine.specs.declared.directions.Directions.{Directions}
use Rattle.ymx_engine.specs.declared.directions.Flow.{Flow}
use Rattle.ymx_engine.specs.declared.directions.Flow.TheVariants as flow
use Rattle.ymx_engine.specs.Events.{finishes_at, has_finish, ends_at, has_end, stops_at, has_stop, is_stop, is_memory_refusal, lacks_memory_at}
use Rattle.ymx_engine.specs.Directions.{is_open, end_if, break_if, broken_off, directions_at, directions_after}
use Rattle.ymx_engine.proofs.Quiet.{or_neither}
use Rattle.ymx_engine.proofs.Exchanging.{or_cases, or_none, same_id}

pub directions_then : (id : ℕ) (es fs : List (Event × Reply)) (w : Directions) → directions_after id (es ++ fs) w ≡ directions_after id fs (directions_after id es w)
directions_then id [] fs w = refl
directions_then id (e ∷ es) fs w = directions_then id es fs (directions_at id e.0 e.1 w)

-- ---- a direction that is not open stays so

was_open : (b c : Bool) (f : Flow) → is_open (break_if b (end_if c f)) ≡ true → is_open f ≡ true
was_open b c flow.Open h = refl
was_open true true flow.Ended h = h
was_open true false flow.Ended h = h
was_open false true flow.Ended h = h
was_open false false flow.Ended h = h
was_open true true flow.Broken h = h
was_open true false flow.Broken h = h
was_open false true flow.Broken h = h
was_open false false flow.Broken h = h

pub to_peer_was : (id : ℕ) (es : List (Event × Reply)) (w : Directions) → is_open (directions_after id es w).to_peer ≡ true → is_open w.to_peer ≡ true
to_peer_was id [] w h = h
to_peer_was id (e ∷ es) w h = was_open (stops_at id e.0 e.1) (finishes_at id e.0) w.to_peer (to_peer_was id es (directions_at id e.0 e.1 w) h)

pub from_peer_was : (id : ℕ) (es : List (Event × Reply)) (w : Directions) → is_open (directions_after id es w).from_peer ≡ true → is_open w.from_peer ≡ true
from_peer_was id [] w h = h
from_peer_was id (e ∷ es) w h = was_open (stops_at id e.0 e.1) (ends_at id e.0 e.1) w.from_peer (from_peer_was id es (directions_at id e.0 e.1 w) h)

broken : (b c : Bool) (f : Flow) → b ≡ true → is_open (break_if b (end_if c f)) ≡ true → ⊥
broken false c f e h = cc
broken true true flow.Open e h = cc
broken true true flow.Ended e h = cc
broken true true flow.Broken e h = cc
broken true false flow.Open e h = cc
broken true false flow.Ended e h = cc
broken true false flow.Broken e h = cc

-- Where the stream was reset, or refused a call, neither is open.
pub stop_breaks_to : (id : ℕ) (es : List (Event × Reply)) (w : Directions) → has_stop id es ≡ true → is_open (directions_after id es w).to_peer ≡ true → ⊥
stop_breaks_to id [] w s h = cc
stop_breaks_to id (e ∷ es) w s h = elim (or_cases (stops_at id e.0 e.1) (has_stop id es) s) [
  | inl first ↦ broken (stops_at id e.0 e.1) (finishes_at id e.0) w.to_peer first (to_peer_was id es (directions_at id e.0 e.1 w) h)
  | inr rest ↦ stop_breaks_to id es (directions_at id e.0 e.1 w) rest h
]

pub stop_breaks_from : (id : ℕ) (es : List (Event × Reply)) (w : Directions) → has_stop id es ≡ true → is_open (directions_after id es w).from_peer ≡ true → ⊥
stop_breaks_from id [] w s h = cc
stop_breaks_from id (e ∷ es) w s h = elim (or_cases (stops_at id e.0 e.1) (has_stop id es) s) [
  | inl first ↦ broken (stops_at id e.0 e.1) (ends_at id e.0 e.1) w.from_peer first (from_peer_was id es (directions_at id e.0 e.1 w) h)
  | inr rest ↦ stop_breaks_from id es (directions_at id e.0 e.1 w) rest h
]

-- ---- what leaves them alone, and what breaks them

pub lack_stops : (told : Reply) → is_memory_refusal told ≡ true → is_stop told ≡ true
lack_stops (reply.Refused (OutOfMemory lacked)) h = refl
lack_stops told h = cc

lack_none : (b : Bool) (told : Reply) → (b && is_stop told) ≡ false → (b && is_memory_refusal told) ≡ false
lack_none false told h = refl
lack_none true (reply.Refused (OutOfMemory lacked)) h = cc
lack_none true told h = refl

lack_stops_at : (id : ℕ) (e : Event) (told : Reply) → stops_at id e told ≡ false → lacks_memory_at id e told ≡ false
lack_stops_at id (event.Call (call.Write other bytes)) told h = lack_none (other == id) told h
lack_stops_at id e told h = refl

-- an event that ends neither way, and breaks neither
pub directions_same : (id : ℕ) (e : Event) (told : Reply) (w : Directions) → finishes_at id e ≡ false → ends_at id e told ≡ false → stops_at id e told ≡ false → directions_at id e told w ≡ w
directions_same id e told w finishes ends stops =
    let lacks = lack_stops_at id e told stops in
    rw (finishes, ends, stops, lacks) (ap (λ (b : Bool). record w { lacked_memory = b }) (or_none w.lacked_memory))

-- Where the stream was neither finished nor reset, and neither said its end nor refused a call, they stay.
pub directions_kept : (id : ℕ) (es : List (Event × Reply)) (w : Directions) → has_finish id es ≡ false → has_end id es ≡ false → has_stop id es ≡ false → directions_after id es w ≡ w
directions_kept id [] w finishes ends stops = refl
directions_kept id (e ∷ es) w finishes ends stops =
    let f = or_neither (finishes_at id e.0) (has_finish id es) finishes in
    let n = or_neither (ends_at id e.0 e.1) (has_end id es) ends in
    let s = or_neither (stops_at id e.0 e.1) (has_stop id es) stops in
    ap (directions_after id es) (directions_same id e.0 e.1 w f.0 n.0 s.0) ∙ directions_kept id es w f.1 n.1 s.1

-- an event that ends neither way, and breaks both, and is no lack of memory
pub directions_broken : (id : ℕ) (e : Event) (told : Reply) (w : Directions) → finishes_at id e ≡ false → ends_at id e told ≡ false → stops_at id e told ≡ true → lacks_memory_at id e told ≡ false → directions_at id e told w ≡ broken_off w
directions_broken id e told w finishes ends stops lacks =
    rw (finishes, ends, stops, lacks) (ap (λ (b : Bool). record (broken_off w) { lacked_memory = b }) (or_none w.lacked_memory))

-- a reset
pub directions_reset : (id : ℕ) (told : Reply) (w : Directions) → directions_at id (event.Call (call.Reset id)) told w ≡ broken_off w
directions_reset id told w = directions_broken id (event.Call (call.Reset id)) told w refl refl (same_id id) refl

-- a direction that was open ends
pub end_open : (f : Flow) → is_open f ≡ true → end_if true f ≡ flow.Ended
end_open flow.Open h = refl
end_open flow.Ended h = cc
end_open flow.Broken h = cc

pub directions_finished : (id : ℕ) (told : Reply) (w : Directions) → is_open w.to_peer ≡ true → directions_at id (event.Call (call.Finish id)) told w ≡ record w { to_peer = flow.Ended }
directions_finished id told w open_ =
    let i = same_id id in
    let ends = end_open w.to_peer open_ in
    rw (i, ends) (ap (λ (b : Bool). record w { to_peer = flow.Ended; lacked_memory = b }) (or_none w.lacked_memory))

pub directions_ended : (id n : ℕ) (told : Reply) (w : Directions) → is_open w.from_peer ≡ true → ends_at id (event.Call (call.Read id n)) told ≡ true → stops_at id (event.Call (call.Read id n)) told ≡ false →
    directions_at id (event.Call (call.Read id n)) told w ≡ record w { from_peer = flow.Ended }
directions_ended id n told w open_ ends stops =
    let end = end_open w.from_peer open_ in
    rw (ends, stops, end) (ap (λ (b : Bool). record w { from_peer = flow.Ended; lacked_memory = b }) (or_none w.lacked_memory))

break_twice : (f : Flow) → break_if true (break_if true f) ≡ break_if true f
break_twice flow.Open = refl
break_twice flow.Ended = refl
break_twice flow.Broken = refl

or_all : (b : Bool) → ((b || true) || false) ≡ true
or_all true = refl
or_all false = refl

-- a write was refused for lack of memory, and then the stream reset
pub directions_lacked : (id : ℕ) (bytes : List ℕ) (told last : Reply) (w : Directions) → is_memory_refusal told ≡ true →
    directions_after id ((event.Call (call.Write id bytes), told) ∷ (event.Call (call.Reset id), last) ∷ []) w ≡ broken_off (record w { lacked_memory = true })
directions_lacked id bytes told last w lacks =
    let i = same_id id in
    let stops = lack_stops told lacks in
    rw (i, lacks, stops) (ap (λ (b : Bool). record { to_peer = break_if true (break_if true w.to_peer); from_peer = break_if true (break_if true w.from_peer); lacked_memory = b }) (or_all w.lacked_memory)
    ∙ ap (λ (f : Flow). record { to_peer = f; from_peer = break_if true (break_if true w.from_peer); lacked_memory = true }) (break_twice w.to_peer)
    ∙ ap (λ (f : Flow). record { to_peer = break_if true w.to_peer; from_peer = f; lacked_memory = true }) (break_twice w.from_peer))
