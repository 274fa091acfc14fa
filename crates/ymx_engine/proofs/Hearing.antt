-- What a device hears in a turn of its stream's end, and of writes.
use Rattle.std.proofs.Common.{◌≡◌, inl, inr, ℕ, ◌<◌, length, List, [], Bool, true, false, not, ◌&&◌, refl, sym, ap, ◌∙◌}
use Rattle.ymx_machine.specs.declared.types.Call.TheVariants as call
use Rattle.ymx_machine.specs.shared.Events.{Reply}
use Rattle.ymx_model.specs.declared.types.Event.TheVariants as event
use Rattle.ymx_model.specs.session.Emissions.{in_turn}
use Rattle.ymx_model.specs.session.Histories.{Gives}
use Rattle.ymx_model.specs.session.Sessions.{Session, is_running}
use Rattle.ymx_session.specs.Streams.{waiting}
use Rattle.ymx_engine.specs.declared.directions.Directions.{Directions}
use Rattle.ymx_engine.specs.Devices.{Seen, Marks}
use Rattle.ymx_engine.specs.Served.{GainsNone}
use Rattle.ymx_engine.specs.Serves.{HearsEnd, PutsDue, TakesAndGives, Part, tells_end, is_silent, is_stopped}
use Rattle.ymx_engine.specs.Directions.{is_open, may_push}
use Rattle.ymx_engine.proofs.Asking.{wait_goes}
use Rattle.ymx_engine.proofs.Ending.{NoneEnd, emissions_end_none, turn_still, read_goes, waiting_goes}
use Rattle.ymx_engine.proofs.Exchanging.{not_true}
use Rattle.ymx_engine.proofs.Quiet.{both}
use Rattle.ymx_engine.proofs.Steady.{steady_status}
use Rattle.ymx_engine.proofs.DirectionsAfter.{from_peer_was}

-- no test is on and off
pub never : (b : Bool) → b ≡ true → b ≡ false → ⊥
never true e f = cc
never false e f = cc

-- one that heard no end, while its direction is open
heard_wait : (id : ℕ) (s t : Session) (now : Directions) → HearsEnd id s now → is_open now.from_peer ≡ true → GainsNone id s t → (is_silent id t ≡ false) × (is_stopped id t ≡ false)
heard_wait id s t now (inl off) on gains = absurd (never (is_open now.from_peer) on off)
heard_wait id s t now (inr waits) on gains = (
  not_true (is_silent id t) (λ h. never (is_silent id s) (gains.silence h) (ap tells_end waits)),
  not_true (is_stopped id t) (λ h. never (is_stopped id s) (gains.stop h) (wait_goes id s waits)),
)

-- so of one that may take bytes
pub heard_push : (id : ℕ) (s t : Session) (now : Directions) (m : Marks) → HearsEnd id s now → may_push now m ≡ true → GainsNone id s t → (is_silent id t ≡ false) × (is_stopped id t ≡ false)
heard_push id s t now m heard may gains = heard_wait id s t now heard (both m.may_push (is_open now.from_peer) may).1 gains

-- where bytes waited and some were taken out, the stream takes some still
pub took_goes : (id n : ℕ) (told : Reply) (s t : Session) → Gives in_turn s (event.Call (call.Read id n)) told t → 0 < length (waiting id s) → is_running s.status ≡ true → is_stopped id t ≡ false
took_goes id n told s t g some runs = not_true (is_stopped id t) (λ h. never (is_stopped id s) (read_goes id n told s t g h) (waiting_goes id s some runs))

-- a session that runs after a read ran
pub status_was : (id n : ℕ) (told : Reply) (s t : Session) → Gives in_turn s (event.Call (call.Read id n)) told t → is_running t.status ≡ true → is_running s.status ≡ true
status_was id n told s t g runs = sym (ap is_running (steady_status (event.Call (call.Read id n)) told s t refl g)) ∙ runs

-- ---- reads of a device

pub due_ends : (s t : Session) (out new : List ℕ) → PutsDue s t out new → NoneEnd s t
due_ends s t out new x = emissions_end_none x.events s t x.happen x.own

pub sends_end : (id : ℕ) (bytes : List ℕ) (s t : Session) (out new : List ℕ) → TakesAndGives id bytes [] s t out new → NoneEnd s t
sends_end id bytes s t out new x = turn_still id x.events s t x.happen x.own x.gives x.resets

-- a direction that is open was
pub was_open_from : {id : ℕ} {s t : Session} {out new : List ℕ} {a b : Seen} {w x : Directions} {m g : ℕ} → Part id s t out new a b w x m g → is_open x.from_peer ≡ true → is_open w.from_peer ≡ true
was_open_from {id} {s} {t} {out} {new} {a} {b} {w} {x} {m} {g} p on = from_peer_was id p.moved.events w (ap (λ (v : Directions). is_open v.from_peer) (sym p.directions) ∙ on)

-- a session that is over, of which it was not told
pub untold : (runs opens result : Bool) → result ≡ (not runs && opens) → result ≡ true → (runs ≡ false) × (opens ≡ true)
untold true opens result e h = let no : false ≡ true = sym e ∙ h in absurd cc
untold false true result e h = (refl, refl)
untold false false result e h = let no : false ≡ true = sym e ∙ h in absurd cc
