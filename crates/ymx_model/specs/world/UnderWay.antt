-- The frames under way in one direction, as its bytes tell them (framing).
use Rattle.std.specs.Prelude.{ℕ, ◌≡◌, ◌+◌, ◌++◌, List, [], length, All}
use Rattle.std.specs.List.{concat}
use Rattle.ymx_model.specs.session.Sessions.{Incoming, Session}
use Rattle.ymx_model.specs.session.Sessions.Incoming.{Head, Payload}
use Rattle.ymx_header.specs.Frames.{IsFrame}
use Rattle.ymx_machine.specs.shared.Limits.{first_credit}
use Rattle.ymx_model.specs.world.Worlds.{Pipe}

-- what the receiver holds of a frame, as bytes; a payload is known by what lacks
abbrev pub held_bytes : Incoming → List ℕ
held_bytes (Head bytes) = bytes
held_bytes (Payload id missing fin discarded) = []

abbrev pub lacking : Incoming → ℕ
lacking (Head bytes) = 0
lacking (Payload id missing fin discarded) = missing

-- These bytes are one frame, which any session takes: at most 262,144 bytes of payload (framing).
abbrev pub IsOneFrame : List ℕ → Type 0
IsOneFrame bytes = IsFrame first_credit bytes

-- What the receiver holds of a frame, the pipe, and the rest of the sender's frame begun, in this
-- order, are the bytes of these frames under way, each of them whole, after the rest of a payload where
-- the receiver is inside one.
pub record IsUnderWay (receiver : Session) (pipe : Pipe) (sender : Session) (frames : List (List ℕ)) : Type 0 where
  pub tail : List ℕ
  pub missing : length tail ≡ lacking receiver.incoming
  pub each : All IsOneFrame frames
  pub text : held_bytes receiver.incoming ++ (pipe.bytes ++ sender.outgoing.bytes) ≡ tail ++ concat frames
