-- The whole history is that of the session.
use Rattle.std.proofs.Common.{ℕ, List, length, Bool, true, false, Option, Some, None, sym, arith}
use Rattle.ymx_model.specs.session.Events.{Event}
use Rattle.ymx_machine.specs.shared.Events.{Reply}
use Rattle.ymx_model.specs.declared.types.Role.{Role}
use Rattle.ymx_model.specs.declared.types.Config.{Config}
use Rattle.ymx_model.specs.declared.types.Entry.{Entry}
use Rattle.ymx_model.specs.session.Sessions.{Session, new_session}
use Rattle.ymx_model.specs.session.Emissions.{in_turn}
use Rattle.ymx_model.specs.session.Histories.{Gives}
use Rattle.ymx_seats.specs.Journals.{JournalView}
use Rattle.ymx_seats.specs.Views.{entry, journal_after, whole_of, IsWitnessed}
use Rattle.ymx_hub.specs.Booked.{IsJournaled}
use Rattle.ymx_hub.specs.WholeHistories.{IsHistoryOf}
use Rattle.ymx_hub.proofs.History.{replays_more}

pub history_now : (witnessed : Bool) (named : Role) (with : Config) (role : Role) (config : Config) (j : Option JournalView) (s : Session) (given : ℕ) → IsJournaled witnessed named with role config j s given → IsHistoryOf witnessed named with (whole_of j) s
history_now true named with role config None s given i = i
history_now true named with role config (Some j) s given i = rw (sym i.0, sym i.1) i.2
history_now false named with role config None s given i = i
history_now false named with role config (Some j) s given i = i

-- one event more is a history too
pub history_more : (witnessed : Bool) (named : Role) (with : Config) (j : Option JournalView) (s t : Session) (n : ℕ) (a : Event) (r : Reply) → IsHistoryOf witnessed named with (whole_of j) s → Gives in_turn s a r t → IsHistoryOf witnessed named with (whole_of (journal_after n a r j)) t
history_more true named with None s t n a r i h = i
history_more true named with (Some j) s t n a r i h =
    replays_more 0 j.whole (entry (length j.whole) n a r) (new_session named with.window with.first) s t i (omega arith) h
history_more false named with None s t n a r i h = i
history_more false named with (Some j) s t n a r i h = i

-- a history of some session
pub witnessed_of : (witnessed : Bool) (named : Role) (with : Config) (seen : Option (List Entry)) (s : Session) → IsHistoryOf witnessed named with seen s → IsWitnessed witnessed named with seen
witnessed_of true named with None s i = i
witnessed_of true named with (Some es) s i = (s, i)
witnessed_of false named with None s i = i
witnessed_of false named with (Some es) s i = i
