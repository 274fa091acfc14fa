-- What the pumps of a session did with their devices, and who worked with it (this project's own).
use Rattle.std.specs.Prelude.{◌≡◌, ℕ, List, Bool, true, false, Option, Result, MatchResult}
use Rattle.ymx_model.specs.declared.types.Role.{Role}
use Rattle.ymx_model.specs.declared.types.Config.{Config}
use Rattle.ymx_model.specs.devices.Devices.{has_failed}
use Rattle.ymx_model.specs.session.Sessions.{Session}
use Rattle.ymx_model.specs.session.Emissions.{is_ready}
use Rattle.ymx_session.specs.Replies.{done_or}
use Rattle.ymx_model.specs.declared.types.Entry.{Entry}
use Rattle.ymx_seats.specs.Views.{SeatView, IsNewcomer, IsWitnessed}
use Rattle.ymx_hub.specs.Answers.{IsNotMemory}
use Rattle.ymx_hub.specs.Books.{Books, Asks, to_close}
use Rattle.ymx_hub.specs.WholeHistories.{IsHistoryOf}
use Rattle.ymx_hub.specs.declared.faults.HubFault.{HubFault}
use Rattle.ymx_hub.specs.Pumped.{EmitsNoMore}
use Rattle.ymx_hub.specs.Shown.{IsShown}
use Rattle.ymx_hub.specs.declared.undrained.Undrained.{Undrained}
use Rattle.ymx_connect.specs.declared.pump_end.PumpWhy.{PumpWhy}
use Rattle.ymx_connect.specs.declared.pump_end.PumpWhy.TheVariants.{End}
use Rattle.ymx_connect.specs.Ends.{ReadEnd, WriteEnd}
use Rattle.ymx_connect.specs.Pumps.{PumpRead, PumpWrote}

-- The read pump ran at the seat of a caller that had made no call, until it ended by itself: the reader gave bytes, of which the
-- session took a beginning, and so many. Its seat has then seen what stands in `now`, perhaps more than at its last call.
pub record HasRead (fails failed : ℕ) (before after : Option (List ℕ)) (moved : ℕ) (why : PumpWhy) (now : SeatView) : Type 0 where
  pub ended : ReadEnd false fails failed after false why
  pub first : SeatView
  pub last : SeatView
  pub fresh : IsNewcomer first.number first.seen
  pub read : PumpRead false before after first last moved why
  pub shown : IsShown last now

-- The write pump ran at the seat of a caller that had made no call, until it ended by itself: the writer took what the emissions
-- gave, and so many bytes. It ended with End only where nothing is due and nothing will be, by the history in the sight of that
-- seat. The seat has then seen what stands in `now`, perhaps more.
pub record HasWritten (role : Role) (config : Config) (fails failed : ℕ) (before after : Option (List ℕ)) (is_ended : Bool) (moved : ℕ) (why : PumpWhy) (now : SeatView) : Type 0 where
  pub ended : WriteEnd false fails failed is_ended false why
  pub size : ℕ
  pub first : SeatView
  pub last : SeatView
  pub fresh : IsNewcomer first.number first.seen
  pub wrote : PumpWrote false size (has_failed fails failed) before after first last moved why
  pub out : why ≡ End → EmitsNoMore true role config last.seen
  pub shown : IsShown last now

-- A caller that had seen what stands in `first` closed the session, and has then seen what stands in `last`. Before that it had
-- seen the history, which goes on from there, of a session of which nothing was due; or of which something was due, where it
-- waited in vain. No lack of memory kept it from closing.
pub record HasClosed (role : Role) (config : Config) (first last : SeatView) (drained : Result (Unit {0}) Undrained) : Type 0 where
  pub between : SeatView
  pub session : Session
  pub shown : IsShown first between
  pub history : IsHistoryOf true role config between.seen session
  pub due : MatchResult drained (λ _. is_ready session ≡ false) (λ _. is_ready session ≡ true)
  pub told : Result (Unit {0}) HubFault
  pub closed : Books false between last (Asks to_close done_or between.number told)
  pub spared : IsNotMemory told

-- A caller did its work, and this is kept of the history as it had seen it then. After it the same caller closed the session, once
-- nothing was due or something was in vain. It has then seen what stands in `now`, perhaps more than at its last call.
pub record HasWorked (role : Role) (config : Config) (Kept : Option (List Entry) → Type 0) (drained : Result (Unit {0}) Undrained) (now : SeatView) : Type 0 where
  pub caller : SeatView
  pub last : SeatView
  pub kept : Kept caller.seen
  pub closed : HasClosed role config caller last drained
  pub shown : IsShown last now

-- The whole history so far was shown to three callers, and is that of a session of this role and config.
pub record HaveMet (role : Role) (config : Config) (one other third : SeatView) : Type 0 where
  pub first : SeatView
  pub second : SeatView
  pub last : SeatView
  pub shown : IsShown one first × IsShown other second × IsShown third last
  pub same : (first.seen ≡ second.seen) × (first.seen ≡ last.seen)
  pub history : IsWitnessed true role config first.seen

-- One history of a session of this role and config, which replays, and which three callers have seen: who worked, the read pump and
-- the write pump. So all that they did stands in it.
pub record InOneHistory (role : Role) (config : Config) (Worked Read Wrote : SeatView → Type 0) : Type 0 where
  pub caller : SeatView
  pub reader : SeatView
  pub writer : SeatView
  pub history : IsWitnessed true role config caller.seen
  pub same : (caller.seen ≡ reader.seen) × (caller.seen ≡ writer.seen)
  pub worked : Worked caller
  pub read : Read reader
  pub wrote : Wrote writer
