-- What pumps did whose gates let them run, and one history of all who worked.
use Rattle.std.proofs.Common.{◌≡◌, ℕ, List, [], Bool, true, false, Option, Result, sym, ap, subst}
use Rattle.ymx_model.specs.declared.types.Role.{Role}
use Rattle.ymx_model.specs.declared.types.Config.{Config}
use Rattle.ymx_model.specs.devices.Devices.{has_failed}
use Rattle.ymx_model.specs.declared.types.Entry.{Entry}
use Rattle.ymx_session.specs.Replies.{done_or}
use Rattle.ymx_seats.specs.Views.{SeatView, IsNewcomer, IsWitnessed}
use Rattle.ymx_hub.specs.Books.{Books, Asks, to_close}
use Rattle.ymx_hub.specs.Pumped.{EmitsNoMore}
use Rattle.ymx_hub.specs.Shown.{IsShown, BooksShown}
use Rattle.ymx_hub.specs.declared.undrained.Undrained.{Undrained}
use Rattle.ymx_hub.proofs.Shown.{shown_none, shown_on}
use Rattle.ymx_connect.specs.declared.pump_end.PumpWhy.{PumpWhy}
use Rattle.ymx_connect.specs.declared.pump_end.PumpWhy.TheVariants.{End}
use Rattle.ymx_connect.specs.Ends.{ReadEnd, WriteEnd}
use Rattle.ymx_connect.specs.Pumps.{PumpRead, PumpWrote, ReadAdds, WriteAdds}
use Rattle.ymx_connect.specs.Pumping.{HasRead, HasWritten, HasClosed, HasWorked, HaveMet, InOneHistory}

-- ---- what the pumps did with their devices

-- what was booked stands in what is left of the seat
books_left : (old new : SeatView) (Such : List Entry → Type 0) → Books false old new Such → Books false old (record new { entries = []; room = 0 }) Such
books_left old new Such b = record { number = b.number; start = b.start; gains = tt; extends = b.extends }

shown_left : (old new : SeatView) → IsShown old new → IsShown (record old { entries = []; room = 0 }) (record new { entries = []; room = 0 })
shown_left old new s = record { rest = ap (λ (v : SeatView). record v { entries = []; room = 0 }) s.rest; grown = s.grown }

pub has_read : (keeps : Bool) (fails failed : ℕ) (before after : Option (List ℕ)) (first last now : SeatView) (moved : ℕ) (why : PumpWhy) → keeps ≡ false → IsNewcomer first.number first.seen →
    PumpRead keeps before after first last moved why → ReadEnd keeps fails failed after false why → now ≡ record last { entries = []; room = 0 } → HasRead fails failed before after moved why now
has_read keeps fails failed before after first last now moved why off n r e same = subst (HasRead fails failed before after moved why) (sym same) (record {
  ended = subst (λ (b : Bool). ReadEnd b fails failed after false why) off e;
  first = first;
  last = record last { entries = []; room = 0 };
  fresh = n;
  read = left (subst (λ (b : Bool). PumpRead b before after first last moved why) off r);
  shown = shown_none (record last { entries = []; room = 0 });
})
  where
    left : PumpRead false before after first last moved why → PumpRead false before after first (record last { entries = []; room = 0 }) moved why
    left p = record { given = p.given; taken = p.taken; last = p.last; gave = p.gave; parts = p.parts; whole = p.whole; amount = p.amount; booked = books_left first last (ReadAdds first.number p.given p.taken p.last why) p.booked }

pub has_written : (keeps witnessed : Bool) (role : Role) (config : Config) (size fails failed : ℕ) (before after : Option (List ℕ)) (is_ended : Bool) (first last now : SeatView) (moved : ℕ) (why : PumpWhy) → keeps ≡ false → witnessed ≡ true → IsNewcomer first.number first.seen →
    PumpWrote keeps size (has_failed fails failed) before after first last moved why → WriteEnd keeps fails failed is_ended false why → (why ≡ End → EmitsNoMore witnessed role config last.seen) →
    now ≡ record last { entries = []; room = 0 } → HasWritten role config fails failed before after is_ended moved why now
has_written keeps witnessed role config size fails failed before after is_ended first last now moved why off on n w e o same = subst (HasWritten role config fails failed before after is_ended moved why) (sym same) (record {
  ended = subst (λ (b : Bool). WriteEnd b fails failed is_ended false why) off e;
  size = size;
  first = first;
  last = record last { entries = []; room = 0 };
  fresh = n;
  wrote = left (subst (λ (b : Bool). PumpWrote b size (has_failed fails failed) before after first last moved why) off w);
  out = λ end. subst (λ (b : Bool). EmitsNoMore b role config last.seen) on (o end);
  shown = shown_none (record last { entries = []; room = 0 });
})
  where
    shown : (Such : List Entry → Type 0) → BooksShown false first last Such → BooksShown false first (record last { entries = []; room = 0 }) Such
    shown Such b = record { between = record b.between { entries = []; room = 0 }; booked = books_left first b.between Such b.booked; shown = shown_left b.between last b.shown }

    left : PumpWrote false size (has_failed fails failed) before after first last moved why → PumpWrote false size (has_failed fails failed) before after first (record last { entries = []; room = 0 }) moved why
    left p = record { written = p.written; took = p.took; amount = p.amount; booked = shown (WriteAdds size first.number (has_failed fails failed) p.written why) p.booked }

-- ---- one history

pub read_on : (fails failed : ℕ) (before after : Option (List ℕ)) (moved : ℕ) (why : PumpWhy) (now later : SeatView) → HasRead fails failed before after moved why now → IsShown now later → HasRead fails failed before after moved why later
read_on fails failed before after moved why now later r s = record { ended = r.ended; first = r.first; last = r.last; fresh = r.fresh; read = r.read; shown = shown_on r.last now later r.shown s }

pub written_on : (role : Role) (config : Config) (fails failed : ℕ) (before after : Option (List ℕ)) (is_ended : Bool) (moved : ℕ) (why : PumpWhy) (now later : SeatView) →
    HasWritten role config fails failed before after is_ended moved why now → IsShown now later → HasWritten role config fails failed before after is_ended moved why later
written_on role config fails failed before after is_ended moved why now later w s = record { ended = w.ended; size = w.size; first = w.first; last = w.last; fresh = w.fresh; wrote = w.wrote; out = w.out; shown = shown_on w.last now later w.shown s }

worked_on : (role : Role) (config : Config) (Kept : Option (List Entry) → Type 0) (drained : Result (Unit {0}) Undrained) (now later : SeatView) → HasWorked role config Kept drained now → IsShown now later → HasWorked role config Kept drained later
worked_on role config Kept drained now later w s = record { caller = w.caller; last = w.last; kept = w.kept; closed = w.closed; shown = shown_on w.last now later w.shown s }

-- a caller closed the session after its work, and let its seat go
pub has_worked : (role : Role) (config : Config) (Kept : Option (List Entry) → Type 0) (drained : Result (Unit {0}) Undrained) (session caller last now : SeatView) →
    Kept session.seen → caller ≡ session → HasClosed role config caller last drained → now ≡ record last { entries = []; room = 0 } → HasWorked role config Kept drained now
has_worked role config Kept drained session caller last now k e c same = subst (HasWorked role config Kept drained) (sym same) (record {
  caller = caller;
  last = record last { entries = []; room = 0 };
  kept = subst (λ (v : SeatView). Kept v.seen) (sym e) k;
  closed = record { between = c.between; session = c.session; shown = c.shown; history = c.history; due = c.due; told = c.told; closed = books_left c.between last (Asks to_close done_or c.between.number c.told) c.closed; spared = c.spared };
  shown = shown_none (record last { entries = []; room = 0 });
})

pub have_met : (role : Role) (config : Config) (one other third first second last : SeatView) → IsShown one first → IsShown other second → IsShown third last →
    (first.seen ≡ second.seen) × (first.seen ≡ last.seen) → IsWitnessed true role config first.seen → HaveMet role config one other third
have_met role config one other third first second last s t u same history = record { first = first; second = second; last = last; shown = (s, t, u); same = same; history = history }

-- all three have met: so what they did stands in one history
pub in_one_history : (role : Role) (config : Config) (Kept : Option (List Entry) → Type 0) (drained : Result (Unit {0}) Undrained) (fails failed flaws flawed : ℕ) (before after had has : Option (List ℕ)) (is_ended : Bool)
    (fed out : ℕ) (read written : PumpWhy) (caller reader writer : SeatView) →
    HasWorked role config Kept drained caller → HasRead fails failed before after fed read reader → HasWritten role config flaws flawed had has is_ended out written writer → HaveMet role config caller reader writer →
    InOneHistory role config (HasWorked role config Kept drained) (HasRead fails failed before after fed read) (HasWritten role config flaws flawed had has is_ended out written)
in_one_history role config Kept drained fails failed flaws flawed before after had has is_ended fed out read written caller reader writer w r o m = record {
  caller = m.first;
  reader = m.second;
  writer = m.last;
  history = m.history;
  same = m.same;
  worked = worked_on role config Kept drained caller m.first w m.shown.0;
  read = read_on fails failed before after fed read reader m.second r m.shown.1;
  wrote = written_on role config flaws flawed had has is_ended out written writer m.last o m.shown.2;
}
