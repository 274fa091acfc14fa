-- All events of a session under one relation, and a history of them (this project's own).
use Rattle.std.specs.Prelude.{ℕ, ◌≡◌, ◌+◌, ◌∷◌, true, List, Bool, []}
use Rattle.ymx_machine.specs.shared.Evidence.{evidence}
use Rattle.ymx_machine.specs.shared.Events.{Reply}
use Rattle.ymx_machine.specs.declared.types.Reply.TheVariants.{Refused, Fed as FedReply, Emitted, Done}
use Rattle.ymx_machine.specs.declared.types.CallFault.TheVariants.{OutOfMemory}
use Rattle.ymx_machine.specs.shared.Events.{Call}
use Rattle.ymx_model.specs.session.Sessions.{Session}
use Rattle.ymx_model.specs.session.Calls.{outcome, takes_memory, feed_end}
use Rattle.ymx_model.specs.session.Events.{Event}
use Rattle.ymx_machine.specs.declared.types.Fed.{Fed}
use Rattle.ymx_model.specs.session.Feeds.{Feeds}
use Rattle.ymx_model.specs.session.Emissions.{Choice, Emits}
use Rattle.ymx_model.specs.declared.types.Entry.{Entry}
use Rattle.ymx_model.specs.declared.types.Event.TheVariants as event

-- a call has its outcome, or finds no memory that it needs, and then changes nothing
pub data CallGives (s : Session) (call : Call) (reply : Reply) (t : Session) : Type 0 where
  Outcome : (answer : reply ≡ (outcome call s).reply) (state : t ≡ (outcome call s).next) → CallGives s call reply t
  NoMemory : (needs : takes_memory call s ≡ true) (answer : reply ≡ Refused (OutOfMemory evidence)) (state : t ≡ s) → CallGives s call reply t

-- From the session s this event may give this reply and lead to t. `may` is the order in which due
-- frames go.
abbrev pub Gives : (may : Choice → Session → Bool) → Session → Event → Reply → Session → Type 0
Gives may s (event.Call call) reply t = CallGives s call reply t
Gives may s (event.Feed bytes) reply t = (fed : Fed) × (reply ≡ FedReply fed) × Feeds s bytes fed t
Gives may s event.FeedEnd reply t = (reply ≡ Done) × (t ≡ feed_end s)
Gives may s (event.Emit room) reply t = (out : List ℕ) × (reply ≡ Emitted out) × Emits may s room out t

-- From s each entry's event gives its reply, the positions go up by one from `at`, and the last state is t.
abbrev pub ReplaysFrom : (may : Choice → Session → Bool) → (at : ℕ) → List Entry → Session → Session → Type 0
ReplaysFrom may at [] s t = t ≡ s
ReplaysFrom may at (entry ∷ entries) s t =
    (entry.position ≡ at) × ((next : Session) × Gives may s entry.event entry.reply next × ReplaysFrom may (at + 1) entries next t)

-- a history from a session that has done nothing
abbrev pub Replays : (may : Choice → Session → Bool) → List Entry → Session → Session → Type 0
Replays may entries start s = ReplaysFrom may 0 entries start s
