-- What a stream may gain: bytes, room, its end, or that it takes no bytes any more.
use Rattle.std.proofs.Common.{◌≡◌, ℕ, List, [], true, false, sym, ap, ◌∙◌, subst}
use Rattle.std.specs.Prelude.{nat_eq}
use Rattle.std.specs.List.{list_all}
use Rattle.ymx_machine.specs.declared.types.Call.TheVariants as call
use Rattle.ymx_machine.specs.shared.Events.{Reply}
use Rattle.ymx_machine.specs.shared.Lists.{look}
use Rattle.ymx_model.specs.declared.types.Event.TheVariants as event
use Rattle.ymx_model.specs.session.Emissions.{in_turn}
use Rattle.ymx_model.specs.session.Events.{Event}
use Rattle.ymx_model.specs.session.Histories.{Gives}
use Rattle.ymx_model.specs.session.Sessions.{Session, is_closed, is_running}
use Rattle.ymx_law_session.specs.Limits.{IsWithin}
use Rattle.ymx_engine.specs.Events.{Happen, bytes_of}
use Rattle.ymx_engine.specs.Served.{GainsNone}
use Rattle.ymx_engine.specs.Serves.{is_of_turn, is_emission}
use Rattle.ymx_engine.specs.Wires.{is_of_flush}
use Rattle.ymx_engine.proofs.Coming.{ComesNone, came_same, turn_is_calm, flush_is_calm, reset_gives}
use Rattle.ymx_engine.proofs.Ending.{EndsNone, ends_same, turn_beside, emissions_end_none, reset_beside, read_none}

-- no stream gains anything
abbrev pub NoneGain : Session → Session → Type 0
NoneGain s t = (id : ℕ) → GainsNone id s t

-- neither bytes and room, nor an end
pub gains_by : (id : ℕ) (s t : Session) → ComesNone id s t → EndsNone id s t → GainsNone id s t
gains_by id s t x y = record { bytes = x.bytes; room = x.room; silence = y.silence; stop = y.stop }

pub gains_then : (id : ℕ) (s t u : Session) → GainsNone id s t → GainsNone id t u → GainsNone id s u
gains_then id s t u x y = record { bytes = λ w. x.bytes (y.bytes w); room = λ r. x.room (y.room r); silence = λ h. x.silence (y.silence h); stop = λ h. x.stop (y.stop h) }

pub gains_none : (id : ℕ) (s : Session) → GainsNone id s s
gains_none id s = record { bytes = λ w. w; room = λ r. r; silence = λ h. h; stop = λ h. h }

pub gains_still : (id : ℕ) (s t : Session) → t ≡ s → GainsNone id s t
gains_still id s t e = subst (GainsNone id s) (sym e) (gains_none id s)

-- where the record and the status stay
pub gains_same : (id : ℕ) (s t : Session) → t.status ≡ s.status → look id t.table.entries ≡ look id s.table.entries → GainsNone id s t
gains_same id s t status same = gains_by id s t (came_same id s t (λ c. sym (ap is_closed status) ∙ c, λ r. sym (ap is_running status) ∙ r) same) (ends_same id s t status same)

-- at a turn the other streams gain nothing
pub turn_gains : (id : ℕ) (es : List (Event × Reply)) (s t : Session) → Happen es s t → list_all (λ (e : Event × Reply). is_of_turn id e.0) es ≡ true → IsWithin s → (other : ℕ) → nat_eq id other ≡ false → GainsNone other s t
turn_gains id es s t h own w other ne = gains_by other s t ((turn_is_calm id es s t h own w).came other) (turn_beside id other es s t h own ne)

-- at emissions none does
pub emissions_gain : (es : List (Event × Reply)) (s t : Session) → Happen es s t → list_all (λ (e : Event × Reply). is_of_flush e.0) es ≡ true → list_all (λ (e : Event × Reply). is_emission e.0) es ≡ true → IsWithin s → NoneGain s t
emissions_gain es s t h flush own w id = gains_by id s t ((flush_is_calm es s t h flush w).came id) (emissions_end_none es s t h own id)

-- as one is reset the others gain nothing
pub reset_gains : (id other : ℕ) (told : Reply) (s t : Session) → Gives in_turn s (event.Call (call.Reset id)) told t → nat_eq id other ≡ false → GainsNone other s t
reset_gains id other told s t g ne = gains_by other s t (reset_gives id told s t g other) (reset_beside id other told s t g ne)

-- a read that gives no bytes
pub read_gains : (id max other : ℕ) (told : Reply) (s t : Session) → Gives in_turn s (event.Call (call.Read id max)) told t → bytes_of told ≡ [] → GainsNone other s t
read_gains id max other told s t g none = gains_still other s t (read_none id max told s t g none)
