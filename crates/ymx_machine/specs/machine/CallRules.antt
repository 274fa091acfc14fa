-- The queue machine's rules of calls (this project's own, after the Go package's Session and Stream).
use Rattle.std.specs.Prelude.{ℕ, ◌≡◌, if◌then◌else◌, ◌+◌, ◌∷◌, ◌++◌, ◌⊎◌, ◌%◌, ◌^◌, ◌&&◌, nat_le, Option, None, Some, List, [], zero, suc, is_some, length, Bool, true, false, take, min, not, MatchBool}
use Rattle.ymx_machine.specs.shared.Evidence.{evidence}
use Rattle.ymx_machine.specs.shared.Events.{Reply}
use Rattle.ymx_machine.specs.declared.types.Reply.TheVariants.{Refused, Accepted, Pinged, Ponged, Opened, OpenedWith, Done}
use Rattle.ymx_machine.specs.declared.types.CallFault.{CallFault}
use Rattle.ymx_machine.specs.machine.Machines.{Machine, unacknowledged, recorded, PingPlace, SideState}
use Rattle.ymx_machine.specs.declared.types.CallFault.TheVariants.{Lost, Closed, PeerAway, OpensPending, TooMany, Exhausted, OutOfMemory, NoStream, PingsPending}
use Rattle.ymx_machine.specs.stream.Lanes.{is_here, Mark, is_unsaid}
use Rattle.ymx_machine.specs.shared.Limits.{first_credit, first_exhausted, most_unacknowledged, most_records, most_pings}
use Rattle.ymx_machine.specs.stream.Streams.{opened_stream, stream_write, stream_accept, Stream}
use Rattle.ymx_machine.specs.stream.StreamRules.{StreamCall, StreamRule}
use Rattle.ymx_machine.specs.shared.Lists.{change, look, without}
use Rattle.ymx_machine.specs.machine.Machines.PingPlace.{Asked, Back}
use Rattle.ymx_machine.specs.stream.Lanes.Mark.{Said}
use Rattle.ymx_machine.specs.shared.Events.{Call}
use Rattle.ymx_machine.specs.stream.StreamRules.StreamCall.{Writes, Reads, Finishes, Resets, Forgets}
use Rattle.ymx_machine.specs.declared.types.Call.TheVariants as call

-- a call that is refused changes nothing
abbrev pub RefusedWith : CallFault → Machine → Reply → Machine → Type 0
RefusedWith fault m r n = (r ≡ Refused fault) × (n ≡ m)

-- a call that gives this reply and leads here
abbrev pub Answers : Reply → Machine → Reply → Machine → Type 0
Answers reply next r n = (r ≡ reply) × (n ≡ next)

-- ---- opening

-- the first refusal of an open that applies, at a side that isn't closed
abbrev pub open_refusal : Machine → Option CallFault
open_refusal m =
    if m.me.lost then Some Lost
    else if is_here m.you.away then Some PeerAway
    else if nat_le first_exhausted m.me.next then Some Exhausted
    else if nat_le most_unacknowledged (unacknowledged m) then Some OpensPending
    else if nat_le most_records (recorded m) then Some TooMany
    else None

-- the next stream is there, and these bytes are written to it
abbrev pub machine_opened : List ℕ → Machine → Machine
machine_opened bytes m = record m {
  streams = m.streams ++ (m.me.next, stream_write bytes (opened_stream m.me.window m.you.window)) ∷ [];
  me = record m.me { next = m.me.next + 2 };
}

-- a refusal, or the stream, or no memory
abbrev pub OpenRule : Option CallFault → Reply → List ℕ → Machine → Reply → Machine → Type 0
OpenRule (Some fault) reply bytes m r n = RefusedWith fault m r n
OpenRule None reply bytes m r n = Answers reply (machine_opened bytes m) r n ⊎ RefusedWith (OutOfMemory evidence) m r n

abbrev pub AcceptRule : List ℕ → Machine → Reply → Machine → Type 0
AcceptRule [] m r n = MatchBool m.me.lost (RefusedWith Lost m r n) (Answers (Accepted None) m r n)
AcceptRule (id ∷ ids) m r n =
    Answers (Accepted (Some id)) (record m { streams = change id (stream_accept m.me.lost) m.streams; me = record m.me { offered = ids } }) r n

-- ---- a stream

abbrev pub OnStream : ℕ → StreamCall → Option Stream → Machine → Reply → Machine → Type 0
OnStream id c None m r n = RefusedWith NoStream m r n
OnStream id c (Some s) m r n = (t : Stream) × StreamRule m.me.lost c s r t × (n ≡ record m { streams = change id (λ _. t) m.streams })

-- ---- ping

-- the first of `tries` numbers from n on that isn't pending, wrapping after 4,294,967,295
abbrev pub free_number : (tries : ℕ) → ℕ → List (ℕ × PingPlace) → ℕ
free_number zero n pings = n
free_number (suc tries) n pings = if is_some (look n pings) then free_number tries ((n + 1) % 2 ^ 32) pings else n

abbrev pub ask_number : ℕ → SideState → SideState
ask_number n side = record side { next_ping = (n + 1) % 2 ^ 32; pings = side.pings ++ (n, Asked) ∷ [] }

abbrev pub PingRule : Machine → Reply → Machine → Type 0
PingRule m r n =
    MatchBool m.me.lost (RefusedWith Lost m r n)
    (MatchBool (nat_le most_pings (length m.me.pings)) (RefusedWith PingsPending m r n)
    (let k = free_number 17 m.me.next_ping m.me.pings in Answers (Pinged k) (record m { me = ask_number k m.me }) r n))

abbrev pub found_back : Option PingPlace → Bool
found_back (Some Back) = true
found_back _ = false

abbrev pub PongedRule : ℕ → Machine → Reply → Machine → Type 0
PongedRule k m r n =
    MatchBool (found_back (look k m.me.pings)) (Answers (Ponged true) (record m { me = record m.me { pings = without k m.me.pings } }) r n)
    (MatchBool m.me.lost (RefusedWith Lost m r n) (Answers (Ponged false) m r n))

-- ---- the session

-- said once
abbrev pub said_once : Mark → Mark
said_once mark = if is_unsaid mark then Said else mark

-- the rules of a side that isn't closed
abbrev pub OpenSideRule : Call → Machine → Reply → Machine → Type 0
OpenSideRule call.Open m r n = OpenRule (open_refusal m) (Opened m.me.next) [] m r n
OpenSideRule (call.OpenWith bytes) m r n =
    OpenRule (open_refusal m) (OpenedWith m.me.next (min (length bytes) first_credit)) (take first_credit bytes) m r n
OpenSideRule call.Accept m r n = AcceptRule m.me.offered m r n
OpenSideRule (call.Write id bytes) m r n = OnStream id (Writes bytes) (look id m.streams) m r n
OpenSideRule (call.Read id max) m r n = OnStream id (Reads max) (look id m.streams) m r n
OpenSideRule (call.Finish id) m r n = OnStream id Finishes (look id m.streams) m r n
OpenSideRule (call.Reset id) m r n = OnStream id Resets (look id m.streams) m r n
OpenSideRule (call.Forget id) m r n = OnStream id Forgets (look id m.streams) m r n
OpenSideRule call.Ping m r n = PingRule m r n
OpenSideRule (call.Ponged k) m r n = PongedRule k m r n
OpenSideRule call.GoAway m r n =
    MatchBool m.me.lost (RefusedWith Lost m r n) (Answers Done (record m { me = record m.me { away = said_once m.me.away } }) r n)
OpenSideRule call.Close m r n = Answers Done (record m { me = record m.me { closed = true } }) r n

abbrev pub is_close : Call → Bool
is_close call.Close = true
is_close _ = false

-- A call at this side may give the reply r, and leads from m to n. A closed side refuses all but Close.
abbrev pub Rule : Call → Machine → Reply → Machine → Type 0
Rule c m r n = MatchBool (m.me.closed && not (is_close c)) (RefusedWith Closed m r n) (OpenSideRule c m r n)
