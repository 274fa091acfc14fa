-- What a side keeps when its session changes beside its streams, or in what it holds of them.
use Rattle.std.proofs.Common.{◌≡◌, ℕ, List, Bool, sym, ◌∙◌}
use Rattle.ymx_model.specs.declared.types.Role.{Role}
use Rattle.ymx_model.specs.declared.types.Response.{Response}
use Rattle.ymx_model.specs.declared.types.GoAwayMark.{GoAwayMark}
use Rattle.ymx_model.specs.session.Pings.{Pings}
use Rattle.ymx_model.specs.session.Tables.{Table}
use Rattle.ymx_model.specs.session.Sessions.{Session, Outgoing}
use Rattle.ymx_machine.specs.stream.Lanes.{Mark}
use Rattle.ymx_machine.specs.machine.Machines.{SideState, PingPlace}
use Rattle.ymx_headline.specs.stream.Worlds.{StreamSide as Ends}
use Rattle.ymx_law_session.specs.Limits.{IsWithin}
use Rattle.ymx_law_session.specs.Reaped.{IsReaped}
use Rattle.ymx_headline.specs.Agrees.{AgreesAt, SameEnds, SamePings, SameAway}

-- its pings, its go away and its frame begun change
pub beside-streams : {is : Role} {s : Session} {there : Bool} {side : SideState} {ends : Ends} (h : AgreesAt is s there side ends) (p : Pings) (next : ℕ) (places : List (ℕ × PingPlace)) (here : GoAwayMark) (mark : Mark) (begun : Outgoing) →
    SamePings p next places → SameAway here there mark → IsWithin (record s { pings = p; away = record s.away { here = here }; outgoing = begun }) → IsReaped (record s { pings = p; away = record s.away { here = here }; outgoing = begun }) →
    AgreesAt is (record s { pings = p; away = record s.away { here = here }; outgoing = begun }) there (record side { next_ping = next; pings = places; away = mark }) ends
beside-streams h p next places here mark begun pings away within reaped = record {
  whole = record { role = h.whole.role; window = h.whole.window; next = h.whole.next; offered = h.whole.offered; closed = h.whole.closed; lost = h.whole.lost; sound = h.whole.sound };
  records = h.records;
  pings = pings;
  away = away;
  within = within;
  reaped = reaped;
}

-- its records, its next number, its offered list, its answers due and its frame begun change
pub in-streams : {is : Role} {s : Session} {there : Bool} {side : SideState} {ends : Ends} (h : AgreesAt is s there side ends) (t : Table) (next number : ℕ) (ids offered : List ℕ) (answers : List Response) (begun : Outgoing) (now : Ends) →
    number ≡ next → offered ≡ ids → t.window ≡ s.table.window → SameEnds s.status t answers now →
    IsWithin (record s { table = t; next = next; offered = ids; answers = answers; outgoing = begun }) → IsReaped (record s { table = t; next = next; offered = ids; answers = answers; outgoing = begun }) →
    AgreesAt is (record s { table = t; next = next; offered = ids; answers = answers; outgoing = begun }) there (record side { next = number; offered = offered }) now
in-streams h t next number ids offered answers begun now en eo ew records within reaped = record {
  whole = record { role = h.whole.role; window = h.whole.window ∙ sym ew; next = en; offered = eo; closed = h.whole.closed; lost = h.whole.lost; sound = h.whole.sound };
  records = records;
  pings = h.pings;
  away = h.away;
  within = within;
  reaped = reaped;
}
