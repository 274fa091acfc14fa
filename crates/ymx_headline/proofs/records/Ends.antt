-- What a session has of the end of a stream, and the parts that come to it.
use Rattle.std.specs.Prelude.{◌≡◌, ◌⊎◌, ℕ, List, [], ◌∷◌, Bool, Option, None, Some}
use Rattle.ymx_machine.specs.shared.Events.{Call}
use Rattle.ymx_machine.specs.declared.types.Call.TheVariants as call
use Rattle.ymx_machine.specs.shared.Phases.Phase.{Lingering, Gone}
use Rattle.ymx_machine.specs.stream.StreamRules.{StreamCall}
use Rattle.ymx_machine.specs.stream.StreamRules.StreamCall.{Writes, Reads, Finishes, Resets, Forgets}
use Rattle.ymx_model.specs.session.Records.{End}
use Rattle.ymx_model.specs.session.FramesDue.{next_kind}
use Rattle.ymx_model.specs.session.Parts.{Part}
use Rattle.ymx_headline.specs.stream.Arrivals.{comes_to}

-- the session's call that is this call on the stream `id`
abbrev pub call_on : StreamCall → (id : ℕ) → Call
call_on (Writes bytes) id = call.Write id bytes
call_on (Reads max) id = call.Read id max
call_on Finishes id = call.Finish id
call_on Resets id = call.Reset id
call_on Forgets id = call.Forget id

-- What a session has of a stream that had a record, and whose end is now e: its record; or none, once the
-- end has gone, or was given up and has nothing left to send.
abbrev pub Has : (window : ℕ) → End → Option End → Type 0
Has window e (Some held) = held ≡ e
Has window e None = (e.phase ≡ Gone) ⊎ ((e.phase ≡ Lingering) × (next_kind window e ≡ None))

-- these parts come to an end, one after the other
abbrev pub all_come : (refuse : Bool) → (window : ℕ) → List Part → End → End
all_come refuse window [] e = e
all_come refuse window (f ∷ fs) e = all_come refuse window fs (comes_to refuse window f e)
