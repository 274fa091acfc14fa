-- What changes nothing: no bytes, and a call on a stream that no caller has.
use Rattle.std.proofs.Common.{◌≡◌, Bool, false, ◌||◌, inl, arith}
use Rattle.ymx_machine.specs.stream.Streams.{Stream}
use Rattle.ymx_machine.specs.shared.Phases.{is_live, is_reset}
use Rattle.ymx_machine.specs.stream.StreamRules.{StreamCall, StreamRule}
use Rattle.ymx_machine.specs.stream.StreamRules.StreamCall.{Writes, Reads, Finishes, Resets, Forgets}
use Rattle.ymx_machine.specs.shared.Events.{Reply}
use Rattle.ymx_machine.specs.declared.types.Reply.TheVariants.{Refused}
use Rattle.ymx_machine.specs.declared.types.CallFault.TheVariants.{NoStream}
use Rattle.ymx_model.specs.session.Records.{End}
use Rattle.ymx_headline.specs.stream.Answers.{EndRule}
use Rattle.ymx_headline.proofs.stream.Directions.{lists}

-- an end that no caller has answers NoStream, and so does the machine
pub absent-end : (lost : Bool) (call : StreamCall) (e : End) → (is_live e.phase || is_reset e.phase) ≡ false → EndRule lost call e (Refused NoStream) e
absent-end lost (Writes bytes) e h = inl (grind (arith, lists))
absent-end lost (Reads max) e h = grind (arith, lists)
absent-end lost Finishes e h = grind (arith, lists)
absent-end lost Resets e h = grind (arith, lists)
absent-end lost Forgets e h = grind (arith, lists)

pub absent-only : (lost : Bool) (call : StreamCall) (e f : End) (r : Reply) → (is_live e.phase || is_reset e.phase) ≡ false → EndRule lost call e r f → (r ≡ Refused NoStream) × (f ≡ e)
absent-only lost (Writes bytes) e f r g h = grind (arith, lists)
absent-only lost (Reads max) e f r g h = grind (arith, lists)
absent-only lost Finishes e f r g h = grind (arith, lists)
absent-only lost Resets e f r g h = grind (arith, lists)
absent-only lost Forgets e f r g h = grind (arith, lists)

pub absent-rule : (lost : Bool) (call : StreamCall) (s : Stream) → (is_live s.me || is_reset s.me) ≡ false → StreamRule lost call s (Refused NoStream) s
absent-rule lost (Writes bytes) s g = grind (arith, lists)
absent-rule lost (Reads max) s g = grind (arith, lists)
absent-rule lost Finishes s g = grind (arith, lists)
absent-rule lost Resets s g = grind (arith, lists)
absent-rule lost Forgets s g = grind (arith, lists)
