-- How the directions of a connection follow what happens on its stream.
use Rattle.std.proofs.Common.{◌≡◌, ℕ, List, [], ◌∷◌, ◌++◌, Bool, true, false, ◌||◌, refl, ap, ◌∙◌}
use Rattle.std.specs.List.{list_all}
use Rattle.ymx_machine.specs.declared.types.Call.TheVariants as call
use Rattle.ymx_machine.specs.shared.Events.{Reply}
use Rattle.ymx_model.specs.session.Events.{Event}
use Rattle.ymx_model.specs.declared.types.Event.TheVariants as event
use Rattle.ymx_engine.specs.declared.directions.Flow.{Flow}
use Rattle.ymx_engine.specs.declared.directions.Flow.TheVariants as flow
use Rattle.ymx_engine.specs.declared.directions.Directions.{Directions}
use Rattle.ymx_engine.specs.Events.{ends_at, has_end, finishes_at, stops_at, has_stop, lacks_memory_at}
use Rattle.ymx_engine.specs.Passes.{is_of_pass}
use Rattle.ymx_engine.specs.Directions.{is_open, end_if, break_if, directions_at, directions_after}
use Rattle.ymx_engine.specs.Wires.{is_of_read}
use Rattle.ymx_engine.proofs.Exchanging.{or_none, same_id}
use Rattle.ymx_engine.proofs.Quiet.{both, or_neither}

pub directions_then : (id : ℕ) (es fs : List (Event × Reply)) (w : Directions) → directions_after id (es ++ fs) w ≡ directions_after id fs (directions_after id es w)
directions_then id [] fs w = refl
directions_then id (e ∷ es) fs w = directions_then id es fs (directions_at id e.0 e.1 w)

abbrev directions_by : (stops finishes ends lacks : Bool) → Directions → Directions
directions_by stops finishes ends lacks w = record {
  to_peer = break_if stops (end_if finishes w.to_peer);
  from_peer = break_if stops (end_if ends w.from_peer);
  lacked_memory = w.lacked_memory || lacks;
}

still_by : (w : Directions) → directions_by false false false false w ≡ w
still_by w = ap (λ (b : Bool). let v : Directions = record { to_peer = w.to_peer; from_peer = w.from_peer; lacked_memory = b } in v) (or_none w.lacked_memory)

broken_by : (w : Directions) → directions_by true false false false w ≡ record w { to_peer = break_if true w.to_peer; from_peer = break_if true w.from_peer }
broken_by w = ap (λ (b : Bool). let v : Directions = record { to_peer = break_if true w.to_peer; from_peer = break_if true w.from_peer; lacked_memory = b } in v) (or_none w.lacked_memory)

-- an event that says nothing of them leaves them
pub directions_still : (id : ℕ) (e : Event) (told : Reply) (w : Directions) → stops_at id e told ≡ false → finishes_at id e ≡ false → ends_at id e told ≡ false → lacks_memory_at id e told ≡ false → directions_at id e told w ≡ w
directions_still id e told w stops finishes ends lacks =
    ap (λ (b : Bool). directions_by b (finishes_at id e) (ends_at id e told) (lacks_memory_at id e told) w) stops
    ∙ ap (λ (b : Bool). directions_by false b (ends_at id e told) (lacks_memory_at id e told) w) finishes
    ∙ ap (λ (b : Bool). directions_by false false b (lacks_memory_at id e told) w) ends
    ∙ ap (λ (b : Bool). directions_by false false false b w) lacks
    ∙ still_by w

pass_finishes : (id : ℕ) (e : Event) → is_of_pass id e ≡ true → finishes_at id e ≡ false
pass_finishes id (event.Call (call.Read other room)) h = refl
pass_finishes id (event.Call (call.Reset other)) h = refl
pass_finishes id (event.Feed bytes) h = refl
pass_finishes id e h = let no : ⊥ = cc in absurd no

pass_lacks : (id : ℕ) (e : Event) (told : Reply) → is_of_pass id e ≡ true → lacks_memory_at id e told ≡ false
pass_lacks id (event.Call (call.Read other room)) told h = refl
pass_lacks id (event.Call (call.Reset other)) told h = refl
pass_lacks id (event.Feed bytes) told h = refl
pass_lacks id e told h = let no : ⊥ = cc in absurd no

-- feeds, and reads at which nothing ends, leave them
pub directions_passed : (id : ℕ) (es : List (Event × Reply)) (w : Directions) → list_all (λ e. is_of_pass id e.0) es ≡ true → has_end id es ≡ false → has_stop id es ≡ false → directions_after id es w ≡ w
directions_passed id [] w own end stop = refl
directions_passed id (e ∷ es) w own end stop =
    let two = both (is_of_pass id e.0) (list_all (λ e. is_of_pass id e.0) es) own in
    let ends = or_neither (ends_at id e.0 e.1) (has_end id es) end in
    let stops = or_neither (stops_at id e.0 e.1) (has_stop id es) stop in
    ap (λ (v : Directions). directions_after id es v) (directions_still id e.0 e.1 w stops.0 (pass_finishes id e.0 two.0) ends.0 (pass_lacks id e.0 e.1 two.0)) ∙ directions_passed id es w two.1 ends.1 stops.1

way_fed : (id : ℕ) (e : Event) (told : Reply) (w : Directions) → is_of_read e ≡ true → directions_at id e told w ≡ w
way_fed id (event.Call c) told w h = let no : ⊥ = cc in absurd no
way_fed id (event.Feed bytes) told w h = still_by w
way_fed id event.FeedEnd told w h = still_by w
way_fed id (event.Emit room) told w h = let no : ⊥ = cc in absurd no

-- feeds leave them, and so does that the peer's bytes have ended
pub directions_fed : (id : ℕ) (es : List (Event × Reply)) (w : Directions) → list_all (λ e. is_of_read e.0) es ≡ true → directions_after id es w ≡ w
directions_fed id [] w own = refl
directions_fed id (e ∷ es) w own =
    let two = both (is_of_read e.0) (list_all (λ e. is_of_read e.0) es) own in
    ap (λ (v : Directions). directions_after id es v) (way_fed id e.0 e.1 w two.0) ∙ directions_fed id es w two.1

-- both break off where the stream is reset
pub directions_reset : (id : ℕ) (told : Reply) (w : Directions) → directions_after id ((event.Call (call.Reset id), told) ∷ []) w ≡ record w { to_peer = break_if true w.to_peer; from_peer = break_if true w.from_peer }
directions_reset id told w = ap (λ (b : Bool). directions_by b false false false w) (same_id id) ∙ broken_by w

-- one that broke off is not open
pub breaks : (f : Flow) → is_open (break_if true f) ≡ false
breaks flow.Open = refl
breaks flow.Ended = refl
breaks flow.Broken = refl
