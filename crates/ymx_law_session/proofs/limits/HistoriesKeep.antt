-- Every event keeps the limits, and so does every history.
use Rattle.std.proofs.Common.{◌≡◌, ℕ, zero, suc, ◌+◌, ◌^◌, ◌<◌, ◌≤◌, List, [], ◌∷◌, Bool, true, refl, sym, subst, arith}
use Rattle.ymx_model.specs.declared.types.Role.{Role}
use Rattle.ymx_model.specs.declared.types.Role.TheVariants.{Client}
use Rattle.ymx_model.specs.session.Events.{Event}
use Rattle.ymx_model.specs.declared.types.Event.TheVariants as event
use Rattle.ymx_machine.specs.shared.Events.{Reply}
use Rattle.ymx_machine.specs.shared.Events.{Call}
use Rattle.ymx_model.specs.declared.types.Entry.{Entry}
use Rattle.ymx_machine.specs.shared.Limits.{first_credit}
use Rattle.ymx_model.specs.session.Sessions.{Session, new_session, is_own}
use Rattle.ymx_model.specs.session.Emissions.{Choice}
use Rattle.ymx_model.specs.session.Histories.{CallGives, Gives, ReplaysFrom}
use Rattle.ymx_model.specs.session.Histories.CallGives.{Outcome, NoMemory}
use Rattle.ymx_law_session.specs.Limits.{IsWithin}
use Rattle.ymx_law_session.proofs.limits.CallsKeep.{call-keeps}
use Rattle.ymx_law_session.proofs.limits.FeedsKeep.{feeds-keep}
use Rattle.ymx_law_session.proofs.limits.EmissionsKeep.{flows-keep}

-- an odd number isn't 0
pub odd_some : (n : ℕ) → is_own Client n ≡ true → 0 < n
odd_some zero e = absurd cc
odd_some (suc n) e = omega arith

pub new-keeps : (role : Role) (window first : ℕ) → first_credit ≤ window → window ≤ 16777216 → is_own role first ≡ true → 0 < first → first < 2 ^ 32 → IsWithin (new_session role window first)
new-keeps role window first low high own some small = record {
  table = record { narrowest = low; widest = high; records = λ id e l. absurd cc; distinct = tt; count = omega arith; turn = omega arith };
  offered = record { count = omega arith; once = tt; listed = λ id. refl };
  pings = record { count = omega arith; once = tt; next = omega arith };
  answers = record { count = omega arith; room = λ t. absurd cc };
  outgoing = tt;
  incoming = omega arith;
  next = record { parity = own; some = some; fits = small; above = λ id e l. absurd cc; peers = λ id e l. absurd cc; unacknowledged = omega arith };
}

call-gives-keeps : (s t : Session) (call : Call) (reply : Reply) → CallGives s call reply t → IsWithin s → IsWithin t
call-gives-keeps s t call reply (Outcome answer state) w = subst IsWithin (sym state) (call-keeps call s w)
call-gives-keeps s t call reply (NoMemory needs answer state) w = subst IsWithin (sym state) w

pub gives-keep : (may : Choice → Session → Bool) (s t : Session) (ev : Event) (reply : Reply) → Gives may s ev reply t → IsWithin s → IsWithin t
gives-keep may s t (event.Call call) reply g w = call-gives-keeps s t call reply g w
gives-keep may s t (event.Feed bytes) reply g w = feeds-keep bytes s t g.0 g.2 w
gives-keep may s t event.FeedEnd reply g w =
    subst IsWithin (sym g.1) record { table = w.table; offered = w.offered; pings = w.pings; answers = w.answers; outgoing = w.outgoing; incoming = w.incoming; next = w.next }
gives-keep may s t (event.Emit room) reply g w = flows-keep may g.0 s t g.2.flows w

pub replays-keep : (may : Choice → Session → Bool) (at : ℕ) (entries : List Entry) (s t : Session) → ReplaysFrom may at entries s t → IsWithin s → IsWithin t
replays-keep may at [] s t e w = subst IsWithin (sym e) w
replays-keep may at (entry ∷ entries) s t (position, (next, g, p)) w =
    replays-keep may (at + 1) entries next t p (gives-keep may s next entry.event entry.reply g w)
