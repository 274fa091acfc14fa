-- One frame by itself: its length, and that its header has no fault.
use Rattle.std.proofs.Common.{◌≡◌, ℕ, ◌^◌, ◌<◌, ◌≤◌, List, [], length, refl, arith, None}
use Rattle.std.proofs.lemmas.Grind.{common_steps}
use Rattle.std.proofs.lemmas.Bool.Decides.{nat_tests}
use Rattle.ymx_header.specs.Headers.{header_of}
use Rattle.ymx_header.proofs.Frames.{wider, no-fault as no-fault-under}
use Rattle.std.proofs.lemmas.List.{get_or_append_left}
use Rattle.ymx_header.specs.declared.fault.Fault.{Fault}
use Rattle.ymx_header.specs.declared.fault.Fault.TheVariants.{BadVersion, UnknownType, WindowExceeded}
use Rattle.ymx_machine.specs.shared.Limits.{first_credit}
use Rattle.ymx_model.specs.session.FramesDue.{frame}
use Rattle.ymx_model.specs.session.Arrivals.{payload, header_fault}
use Rattle.ymx_model.specs.session.Sessions.{Session}
use Rattle.ymx_model.specs.world.UnderWay.{IsOneFrame}
use Rattle.ymx_law_session.specs.Limits.{IsWithin}

-- ---- spellings

-- a frame of Data has as many bytes of payload as its header says
data-payload : (flags id : ℕ) (body : List ℕ) → length body < 2 ^ 32 → payload (header_of (frame 0 flags id (length body) body)) ≡ length body
data-payload flags id body small = grind (arith, common_steps)

pub data-frame : (flags id : ℕ) (body : List ℕ) → length body ≤ first_credit → IsOneFrame (frame 0 flags id (length body) body)
data-frame flags id body few =
    let p = data-payload flags id body (omega arith) in
    record { header = omega arith; whole = omega (arith, p); version = refl; kind = omega arith; short = omega (arith, p) }

-- any other frame has none
no-payload : (kind flags id len : ℕ) → 0 < kind → payload (header_of (frame kind flags id len [])) ≡ 0
no-payload kind flags id len some = grind (arith, nat_tests, common_steps)

pub short-frame : (kind flags id len : ℕ) → 0 < kind → kind ≤ 3 → IsOneFrame (frame kind flags id len [])
short-frame kind flags id len some known =
    let p = no-payload kind flags id len some in
    record { header = omega arith; whole = omega (arith, p); version = refl; kind = known; short = omega (arith, p) }

-- ---- its header

-- no session within its limits finds a fault in it
pub no-fault : (bytes : List ℕ) (s : Session) → IsOneFrame bytes → IsWithin s → header_fault (header_of bytes) s ≡ None
no-fault bytes s f w = no-fault-under s.table.window bytes (wider first_credit s.table.window bytes (omega (arith, w.table.narrowest)) f)
