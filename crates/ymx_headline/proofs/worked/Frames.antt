-- Examples of frames fed to one session: faults, pings, answers, the end of a payload.
use Rattle.std.proofs.Common.{◌≡◌, [], ◌∷◌, ◌++◌, true, false, Some, refl}
use Rattle.ymx_header.specs.declared.fault.Fault.TheVariants.{BadVersion, BadSyn, StreamInUse, CreditOverflow, BadGoAwayCode, PeerSawProtocolError, PeerSawInternalError}
use Rattle.ymx_machine.specs.declared.types.Side.TheVariants.{A, B}
use Rattle.ymx_machine.specs.declared.types.Direction.TheVariants.{AB}
use Rattle.ymx_machine.specs.declared.types.Step.TheVariants.{Emit, Deliver}
use Rattle.ymx_machine.specs.declared.types.Call.TheVariants.{Open, Accept, Write, Read, Reset, Ping, Ponged}
use Rattle.ymx_machine.specs.declared.types.Answer.TheVariants.{Opened, Done, Pinged, Emitted}
use Rattle.ymx_machine.specs.declared.types.Reply.TheVariants as reply
use Rattle.ymx_machine.specs.declared.types.Why.TheVariants.{All}
use Rattle.ymx_machine.specs.declared.types.CallFault.TheVariants as fault
use Rattle.ymx_model.specs.session.Sessions.{Session}
use Rattle.ymx_model.specs.session.Emissions.{is_ready}
use Rattle.ymx_model.specs.world.Worlds.{new_world}
use Rattle.ymx_headline.specs.worked.Plays.{Played, play, play_emit, FedDone, play_feed}
use Rattle.ymx_headline.specs.worked.Words.{start, client, server, a, fed, broken, after_call, window_frame, go_away_with, look_credit, many_pings, ping_replies, numbered, accepted_one}

-- a frame of another version
abbrev pub another_version : FedDone
another_version = play_feed (1 ∷ 0 ∷ 0 ∷ 0 ∷ 0 ∷ 0 ∷ 0 ∷ 1 ∷ 0 ∷ 0 ∷ 0 ∷ 0 ∷ []) server

another_version_is : (another_version.fed ≡ broken 12 BadVersion)
    × ((play_emit 100 another_version.state).out ≡ 0 ∷ 3 ∷ 0 ∷ 0 ∷ 0 ∷ 0 ∷ 0 ∷ 0 ∷ 0 ∷ 0 ∷ 0 ∷ 1 ∷ [])
    × ((play_emit 100 (play_emit 100 another_version.state).state).out ≡ [])
another_version_is = (refl, refl, refl)

-- a ping, its answer, and the same answer once more
abbrev pub ping_sent : Played
ping_sent = play (a Ping ∷ Emit A 100 ∷ []) start

abbrev pub pong_sent : Played
pong_sent = play (Deliver AB 100 ∷ Emit B 100 ∷ []) ping_sent.world

abbrev pub pong_fed : FedDone
pong_fed = play_feed pong_sent.world.ba.bytes pong_sent.world.a

ping_sent_is : (ping_sent.answers ≡ Pinged 0 ∷ Emitted 12 ∷ [])
    × (ping_sent.world.ab.bytes ≡ 0 ∷ 2 ∷ 0 ∷ 1 ∷ 0 ∷ 0 ∷ 0 ∷ 0 ∷ 0 ∷ 0 ∷ 0 ∷ 0 ∷ [])
    × (pong_sent.answers ≡ fed 12 ∷ Emitted 12 ∷ [])
    × (pong_sent.world.ba.bytes ≡ 0 ∷ 2 ∷ 0 ∷ 2 ∷ 0 ∷ 0 ∷ 0 ∷ 0 ∷ 0 ∷ 0 ∷ 0 ∷ 0 ∷ [])
    × ((after_call (Ponged 0) pong_fed.state).reply ≡ reply.Ponged true)
    × ((play_feed pong_sent.world.ba.bytes (after_call (Ponged 0) pong_fed.state).next).fed ≡ record { taken = 12; no_memory = 0; why = All })
    × ((after_call (Ponged 0) (play_feed pong_sent.world.ba.bytes (after_call (Ponged 0) pong_fed.state).next).state).reply ≡ reply.Ponged false)
ping_sent_is = (refl, refl, refl, refl, refl, refl, refl)

-- the greatest credit, and one more
abbrev pub greatest_credit : FedDone
greatest_credit = play_feed (0 ∷ 1 ∷ 0 ∷ 2 ∷ 0 ∷ 0 ∷ 0 ∷ 1 ∷ 0xff ∷ 0xfb ∷ 0xff ∷ 0xff ∷ []) (after_call Open client).next

greatest_credit_is : (greatest_credit.fed ≡ record { taken = 12; no_memory = 0; why = All })
    × (look_credit 1 greatest_credit.state ≡ 4294967295)
    × ((play_feed (0 ∷ 1 ∷ 0 ∷ 0 ∷ 0 ∷ 0 ∷ 0 ∷ 1 ∷ 0 ∷ 0 ∷ 0 ∷ 1 ∷ []) greatest_credit.state).fed ≡ broken 12 CreditOverflow)
greatest_credit_is = (refl, refl, refl)

-- data of no stream
abbrev pub data_of_no_stream : FedDone
data_of_no_stream = play_feed (0 ∷ 0 ∷ 0 ∷ 0 ∷ 0 ∷ 0 ∷ 0 ∷ 2 ∷ 0 ∷ 0 ∷ 0 ∷ 3 ∷ 0x61 ∷ 0x62 ∷ 0x63 ∷ []) client

data_of_no_stream_is : (data_of_no_stream.fed ≡ record { taken = 15; no_memory = 0; why = All })
    × (is_ready data_of_no_stream.state ≡ false)
data_of_no_stream_is = (refl, refl)

-- Data with SYN and FIN
abbrev pub syn_and_fin : FedDone
syn_and_fin = play_feed (0 ∷ 0 ∷ 0 ∷ 5 ∷ 0 ∷ 0 ∷ 0 ∷ 1 ∷ 0 ∷ 0 ∷ 0 ∷ 2 ∷ 0x68 ∷ 0x69 ∷ []) server

syn_and_fin_is : (syn_and_fin.fed ≡ record { taken = 14; no_memory = 0; why = All })
    × ((after_call Accept syn_and_fin.state).reply ≡ reply.Accepted (Some 1))
    × ((after_call (Read 1 9) (after_call Accept syn_and_fin.state).next).reply ≡ reply.Read (0x68 ∷ 0x69 ∷ []))
    × ((after_call (Read 1 9) (after_call (Read 1 9) (after_call Accept syn_and_fin.state).next).next).reply ≡ reply.ReadEnd)
syn_and_fin_is = (refl, refl, refl, refl)

-- SYNs in any order of ids
abbrev pub three_then_one : FedDone
three_then_one = play_feed (window_frame 1 1) (play_feed (window_frame 1 3) server).state

three_then_one_is : ((play_feed (window_frame 1 3) server).fed.why ≡ All)
    × (three_then_one.fed.why ≡ All)
    × ((after_call Accept three_then_one.state).reply ≡ reply.Accepted (Some 3))
    × ((after_call Accept (after_call Accept three_then_one.state).next).reply ≡ reply.Accepted (Some 1))
three_then_one_is = (refl, refl, refl, refl)

-- a SYN for an id in use
opened_twice : (play_feed (window_frame 1 1) (play_feed (window_frame 1 1) server).state).fed ≡ broken 12 StreamInUse
opened_twice = refl

-- a SYN of the own parity
own_syn : ((play_feed (window_frame 1 1) client).fed ≡ broken 12 BadSyn)
    × ((play_emit 100 (play_feed (window_frame 1 1) client).state).out ≡ go_away_with 1)
own_syn = (refl, refl)

-- a code of Go Away that there is not
away_three : ((play_feed (go_away_with 3) server).fed ≡ broken 12 BadGoAwayCode)
    × ((play_emit 100 (play_feed (go_away_with 3) server).state).out ≡ go_away_with 1)
away_three = (refl, refl)

-- the peer saw a fault
away_one : ((play_feed (go_away_with 1) server).fed ≡ broken 12 PeerSawProtocolError)
    × ((play_emit 100 (play_feed (go_away_with 1) server).state).out ≡ [])
    × ((play_feed (go_away_with 2) server).fed ≡ broken 12 PeerSawInternalError)
away_one = (refl, refl, refl)

-- seventeen pings
abbrev pub sixteen_pings : Session
sixteen_pings = many_pings 16 client

abbrev pub one_back : Session
one_back = (play_feed (0 ∷ 2 ∷ 0 ∷ 2 ∷ 0 ∷ 0 ∷ 0 ∷ 0 ∷ 0 ∷ 0 ∷ 0 ∷ 3 ∷ []) sixteen_pings).state

sixteen_pings_is : (ping_replies 17 client ≡ numbered 16 0 ++ (reply.Refused fault.PingsPending ∷ []))
    × ((after_call (Ponged 3) one_back).reply ≡ reply.Ponged true)
    × ((after_call Ping (after_call (Ponged 3) one_back).next).reply ≡ reply.Pinged 16)
sixteen_pings_is = (refl, refl, refl)

-- a reset inside a frame
abbrev pub reset_in_frame : Played
reset_in_frame = play (a Open ∷ a (Write 1 (0x61 ∷ 0x62 ∷ 0x63 ∷ [])) ∷ Emit A 25 ∷ []) start

abbrev pub reset_in_frame_rest : Played
reset_in_frame_rest = play (a (Reset 1) ∷ Emit A 100 ∷ []) (record reset_in_frame.world { ab = (new_world 262144 1 262144 2).ab })

reset_in_frame_is : (reset_in_frame.world.ab.bytes ≡ window_frame 1 1 ++ (0 ∷ 0 ∷ 0 ∷ 0 ∷ 0 ∷ 0 ∷ 0 ∷ 1 ∷ 0 ∷ 0 ∷ 0 ∷ 3 ∷ 0x61 ∷ []))
    × (reset_in_frame_rest.world.ab.bytes ≡ 0x62 ∷ 0x63 ∷ window_frame 8 1)
reset_in_frame_is = (refl, refl)

-- a reset before the SYN went out
abbrev pub open_and_reset : Played
open_and_reset = play (a Open ∷ a (Reset 1) ∷ Emit A 100 ∷ []) start

open_and_reset_is : (open_and_reset.answers ≡ Opened 1 ∷ Done ∷ Emitted 24 ∷ [])
    × (open_and_reset.world.ab.bytes ≡ window_frame 1 1 ++ window_frame 8 1)
open_and_reset_is = (refl, refl)

-- a payload in two pieces
abbrev pub two_bytes : Session
two_bytes = (play_feed (0 ∷ 0 ∷ 0 ∷ 0 ∷ 0 ∷ 0 ∷ 0 ∷ 1 ∷ 0 ∷ 0 ∷ 0 ∷ 5 ∷ 0x68 ∷ 0x65 ∷ []) accepted_one).state

two_bytes_is : ((play_feed (0 ∷ 0 ∷ 0 ∷ 0 ∷ 0 ∷ 0 ∷ 0 ∷ 1 ∷ 0 ∷ 0 ∷ 0 ∷ 5 ∷ 0x68 ∷ 0x65 ∷ []) accepted_one).fed ≡ record { taken = 14; no_memory = 0; why = All })
    × ((after_call (Read 1 9) two_bytes).reply ≡ reply.Read (0x68 ∷ 0x65 ∷ []))
    × ((after_call (Read 1 9) (after_call (Read 1 9) two_bytes).next).reply ≡ reply.ReadWait)
    × ((after_call (Read 1 9) (play_feed (0x6c ∷ 0x6c ∷ 0x6f ∷ []) (after_call (Read 1 9) two_bytes).next).state).reply ≡ reply.Read (0x6c ∷ 0x6c ∷ 0x6f ∷ []))
    × ((play_feed (0x6c ∷ 0x6c ∷ 0x6f ∷ []) (after_call (Reset 1) two_bytes).next).fed ≡ record { taken = 3; no_memory = 0; why = All })
    × ((after_call (Read 1 9) (play_feed (0x6c ∷ 0x6c ∷ 0x6f ∷ []) (after_call (Reset 1) two_bytes).next).state).reply ≡ reply.Refused fault.Reset)
two_bytes_is = (refl, refl, refl, refl, refl, refl)
