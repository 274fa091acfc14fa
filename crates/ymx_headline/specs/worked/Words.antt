-- The words of the examples.
use Rattle.std.specs.Prelude.{ℕ, zero, suc, ◌+◌, List, [], ◌∷◌, ◌++◌, length, replicate, Option, None, Some}
use Rattle.byteorder.specs.Endian.{big_bytes}
use Rattle.ymx_header.specs.declared.fault.Fault.{Fault}
use Rattle.ymx_model.specs.declared.types.Role.TheVariants.{Client, Server}
use Rattle.ymx_machine.specs.declared.types.Side.TheVariants.{A, B}
use Rattle.ymx_machine.specs.declared.types.Direction.TheVariants.{AB, BA}
use Rattle.ymx_machine.specs.declared.types.Step.{Step}
use Rattle.ymx_machine.specs.declared.types.Step.TheVariants.{At, Emit, Deliver}
use Rattle.ymx_machine.specs.shared.Events.{Call}
use Rattle.ymx_machine.specs.declared.types.Call.TheVariants.{Accept, Ping}
use Rattle.ymx_machine.specs.declared.types.Answer.{Answer}
use Rattle.ymx_machine.specs.declared.types.Answer.TheVariants as answer
use Rattle.ymx_machine.specs.shared.Events.{Reply}
use Rattle.ymx_machine.specs.declared.types.Reply.TheVariants as reply
use Rattle.ymx_machine.specs.declared.types.Wrote.TheVariants as wrote
use Rattle.ymx_machine.specs.declared.types.Fed.{Fed}
use Rattle.ymx_machine.specs.declared.types.Why.TheVariants.{All, Held, Broken}
use Rattle.ymx_model.specs.session.Records.{End}
use Rattle.ymx_machine.specs.shared.Lists.{look}
use Rattle.ymx_model.specs.session.Sessions.{Session, new_session}
use Rattle.ymx_model.specs.session.Calls.{Outcome, outcome}
use Rattle.ymx_model.specs.world.Worlds.{World, new_world}
use Rattle.ymx_headline.specs.worked.Plays.{play_feed, play_emit}

abbrev pub start : World
start = new_world 262144 1 262144 2

abbrev pub client : Session
client = new_session Client 262144 1

abbrev pub server : Session
server = new_session Server 262144 2

abbrev pub a : Call → Step
a call = At A call

abbrev pub b : Call → Step
b call = At B call

abbrev pub after_call : Call → Session → Outcome
after_call call s = outcome call s

-- bytes 'x'
abbrev pub x : ℕ → List ℕ
x n = replicate n 0x78

abbrev pub took : ℕ → Answer
took n = answer.Wrote (wrote.Took n)

abbrev pub wait : Answer
wait = answer.Wrote wrote.Wait

-- a delivery that took all of its n bytes
abbrev pub fed : ℕ → Answer
fed n = answer.Fed (record { taken = n; no_memory = 0; why = All })

abbrev pub held_after : ℕ → Fed
held_after n = record { taken = n; no_memory = 0; why = Held }

abbrev pub broken : ℕ → Fault → Fed
broken n fault = record { taken = n; no_memory = 0; why = Broken fault }

-- emit all and deliver all, in both directions, so many times
abbrev pub rounds : ℕ → List Step
rounds zero = []
rounds (suc n) = Emit A 2000000 ∷ Deliver AB 2000000 ∷ Emit B 2000000 ∷ Deliver BA 2000000 ∷ rounds n

abbrev pub window_frame : (flags id : ℕ) → List ℕ
window_frame flags id = 0 ∷ 1 ∷ 0 ∷ flags ∷ 0 ∷ 0 ∷ 0 ∷ id ∷ 0 ∷ 0 ∷ 0 ∷ 0 ∷ []

abbrev pub go_away_with : (code : ℕ) → List ℕ
go_away_with code = 0 ∷ 3 ∷ 0 ∷ 0 ∷ 0 ∷ 0 ∷ 0 ∷ 0 ∷ 0 ∷ 0 ∷ 0 ∷ code ∷ []

abbrev pub hello : List ℕ
hello = 0x68 ∷ 0x65 ∷ 0x6c ∷ 0x6c ∷ 0x6f ∷ []

-- the answers Opened id, id + 2, ..
abbrev pub opened_to : (count id : ℕ) → List Answer
opened_to zero id = []
opened_to (suc n) id = answer.Opened id ∷ opened_to n (id + 2)

-- so many pings that ask, with falling values
abbrev pub pings : ℕ → List ℕ
pings zero = []
pings (suc n) = 0 ∷ 2 ∷ 0 ∷ 1 ∷ 0 ∷ 0 ∷ 0 ∷ 0 ∷ (big_bytes 4 n ++ pings n)

-- so many opens, of ids that rise by two
abbrev pub syns : (count id : ℕ) → List ℕ
syns zero id = []
syns (suc n) id = 0 ∷ 1 ∷ 0 ∷ 1 ∷ (big_bytes 4 id ++ (0 ∷ 0 ∷ 0 ∷ 0 ∷ syns n (id + 2)))

abbrev pub credit_of : Option End → ℕ
credit_of None = 0
credit_of (Some e) = e.writer.credit

abbrev pub look_credit : ℕ → Session → ℕ
look_credit id s = credit_of (look id s.table.entries)

abbrev pub unread_of : Option End → ℕ
unread_of None = 0
unread_of (Some e) = length e.reader.unread

abbrev pub unread_count : ℕ → Session → ℕ
unread_count id s = unread_of (look id s.table.entries)

abbrev pub many_pings : ℕ → Session → Session
many_pings zero s = s
many_pings (suc n) s = many_pings n (outcome Ping s).next

abbrev pub ping_replies : ℕ → Session → List Reply
ping_replies zero s = []
ping_replies (suc n) s = (outcome Ping s).reply ∷ ping_replies n (outcome Ping s).next

abbrev pub numbered : (count n : ℕ) → List Reply
numbered zero n = []
numbered (suc count) n = reply.Pinged n ∷ numbered count (n + 1)

-- a server that accepted stream 1, and has acknowledged it
abbrev pub accepted_one : Session
accepted_one = (play_emit 100 (outcome Accept (play_feed (window_frame 1 1) server).state).next).state
