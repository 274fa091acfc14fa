-- What contracts see of the halves of a stream (this project's own).
use Rattle.std.specs.Prelude.{◌≡◌, ℕ, List, Option, Some, None, Result, Ok, Err}
use Rattle.ymx_model.specs.declared.types.Entry.{Entry}
use Rattle.ymx_seats.specs.Views.{SeatView}
use Rattle.ymx_hub.specs.declared.faults.HubFault.{HubFault}
use Rattle.ymx_hub.specs.Books.{Opens, OpensWith, IsRefused, to_open, to_open_with}
use Rattle.ymx_hub.specs.Turns.{AcceptsInTurns}

-- a half: the id of its stream, and its seat
pub record HalfView : Type 0 where
  pub id : ℕ
  pub seat : SeatView

-- both halves of the stream that was opened, or the refusal
abbrev pub OpensHalves : ℕ → Result (HalfView × HalfView) HubFault → List Entry → Type 0
OpensHalves seat (Ok made) added = (made.1.id ≡ made.0.id) × Opens seat (Ok (made.0.id, made.0.seat, made.1.seat)) added
OpensHalves seat (Err fault) added = IsRefused to_open seat fault added

-- both halves of the stream that was opened with these bytes, and how many of them were taken, or the refusal
abbrev pub OpensHalvesWith : List ℕ → ℕ → Result (HalfView × HalfView × ℕ) HubFault → List Entry → Type 0
OpensHalvesWith bytes seat (Ok made) added =
    (made.1.id ≡ made.0.id) × OpensWith bytes seat (Ok (made.0.id, made.2, made.0.seat, made.1.seat)) added
OpensHalvesWith bytes seat (Err fault) added = IsRefused (to_open_with bytes) seat fault added

-- waits; then both halves of the stream that was offered, that there will be none, or the refusal
abbrev pub AcceptsHalves : ℕ → Result (Option (HalfView × HalfView)) HubFault → List Entry → Type 0
AcceptsHalves seat (Ok (Some made)) added =
    (made.1.id ≡ made.0.id) × AcceptsInTurns seat (Ok (Some (made.0.id, made.0.seat, made.1.seat))) added
AcceptsHalves seat (Ok None) added = AcceptsInTurns seat (Ok None) added
AcceptsHalves seat (Err fault) added = AcceptsInTurns seat (Err fault) added
