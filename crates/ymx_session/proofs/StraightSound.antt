-- Bytes that go through keep what holds of every session.
use Rattle.std.proofs.Common.{ℕ, List, length}
use Rattle.ymx_machine.specs.declared.types.Call.TheVariants as call
use Rattle.ymx_machine.specs.declared.types.Reply.TheVariants as reply
use Rattle.ymx_machine.specs.declared.types.Wrote.TheVariants.{Took}
use Rattle.ymx_model.specs.declared.types.Event.TheVariants as event
use Rattle.ymx_model.specs.session.Sessions.{Session}
use Rattle.ymx_session.specs.Sound.{IsSound}
use Rattle.ymx_session.specs.Through.{WritesThrough}
use Rattle.ymx_session.proofs.Sounds.{gives-sound}

pub writes-sound : (id : ℕ) (bytes : List ℕ) (size : ℕ) (filled : List ℕ) (s t : Session) → WritesThrough id bytes size filled s t → IsSound s → IsSound t
writes-sound id bytes size filled s t w h =
    gives-sound w.mid t (event.Emit size) (reply.Emitted filled) w.emitted
    (gives-sound s w.mid (event.Call (call.Write id bytes)) (reply.Wrote (Took (length bytes))) w.wrote h)
