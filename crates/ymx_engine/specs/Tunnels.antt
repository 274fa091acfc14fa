-- What a contract sees of a tunnel (this project's own).
use Rattle.std.specs.Prelude.{ℕ, ◌≡◌, Bool, true, IfSome}
use Rattle.ymx_engine.specs.Devices.{Seen}
use Rattle.ymx_engine.specs.Engines.{Engine}
use Rattle.ymx_engine.specs.Turns.{Connections}

-- Its session and the bytes under way between that and its wire; what is seen of its wire, and whether the session heard of
-- the wire's end, and whether that takes bytes slowly; its connections; and how many streams of the peer's were rejected for lack of memory.
pub record Tunnel : Type 0 where
  pub engine : Engine
  pub wire : Seen
  pub is_wire_over : Bool
  pub is_slow : Bool
  pub connections : Connections
  pub no_memory : ℕ

-- the device failed, as far as it can tell
abbrev pub HasFailed : Seen → Type 0
HasFailed s = IfSome s.failed (λ b. b ≡ true)
