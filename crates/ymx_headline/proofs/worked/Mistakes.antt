-- Examples that a tempting mistake would break.
use Rattle.std.proofs.Common.{◌≡◌, [], ◌∷◌, ◌++◌, None, Some, refl}
use Rattle.ymx_machine.specs.declared.types.Side.TheVariants.{A}
use Rattle.ymx_machine.specs.declared.types.Step.TheVariants.{Emit}
use Rattle.ymx_machine.specs.declared.types.Call.TheVariants.{Open, Accept, Write, Read, Finish, Reset, Forget, GoAway, Close}
use Rattle.ymx_machine.specs.declared.types.Answer.TheVariants.{Emitted}
use Rattle.ymx_machine.specs.declared.types.Reply.TheVariants as reply
use Rattle.ymx_machine.specs.declared.types.Why.TheVariants.{All}
use Rattle.ymx_machine.specs.declared.types.CallFault.TheVariants as fault
use Rattle.ymx_model.specs.session.Sessions.{Session}
use Rattle.ymx_model.specs.session.Feeds as one_by_one
use Rattle.ymx_model.specs.session.Emissions.{begin}
use Rattle.ymx_model.specs.session.Emissions.Choice.{ThePing}
use Rattle.ymx_headline.specs.worked.Plays.{play, play_emit, play_feed}
use Rattle.ymx_headline.proofs.worked.Frames.{syn_and_fin, two_bytes}
use Rattle.ymx_headline.proofs.worked.Windows.{with_window}
use Rattle.ymx_headline.specs.worked.Words.{client, server, after_call, window_frame, go_away_with, unread_count}

-- the end comes after the last byte of the payload, not before it
end_behind_the_last_byte : (one_by_one.feed (0 ∷ 0 ∷ 0 ∷ 5 ∷ 0 ∷ 0 ∷ 0 ∷ 1 ∷ 0 ∷ 0 ∷ 0 ∷ 2 ∷ 0x68 ∷ 0x69 ∷ []) server).state ≡ syn_and_fin.state
end_behind_the_last_byte = refl

-- what comes after a reset is dropped
nothing_behind_a_reset : unread_count 1 (play_feed (0x6c ∷ 0x6c ∷ 0x6f ∷ []) (after_call (Reset 1) two_bytes).next).state ≡ 0
nothing_behind_a_reset = refl

-- a peer that takes no more streams may still open some
offered_by_a_peer_that_went_away : (after_call Accept (play_feed (window_frame 1 1) (play_feed (go_away_with 0) server).state).state).reply ≡ reply.Accepted (Some 1)
offered_by_a_peer_that_went_away = refl

-- a ping goes out only where it was asked
no_ping_unasked : (begin (ThePing 0) client ≡ None)
    × ((play_emit 100 client).out ≡ [])
no_ping_unasked = (refl, refl)

-- credit is announced once
credit_once : (play (Emit A 100 ∷ []) with_window.world).answers ≡ Emitted 0 ∷ []
credit_once = refl

-- a reset from the peer drops the SYN too
abbrev pub before_syn : Session
before_syn = (play_feed (window_frame 8 1) (after_call Open client).next).state

before_syn_is : ((play_emit 100 before_syn).out ≡ [])
    × ((after_call (Read 1 5) before_syn).reply ≡ reply.Refused fault.Reset)
before_syn_is = (refl, refl)

-- SYN and RST on one frame leave no trace, but a rejection where the SYN is refused
syn_with_rst : ((play_feed (window_frame 9 1) server).fed.why ≡ All)
    × ((play_feed (window_frame 9 1) server).state ≡ server)
    × ((play_emit 100 (play_feed (window_frame 9 1) (after_call GoAway server).next).state).out ≡ go_away_with 0 ++ window_frame 8 1)
syn_with_rst = (refl, refl, refl)

-- a stream over in both directions goes when its last frame is out
abbrev pub both_ended : Session
both_ended = (play_emit 100 (after_call (Forget 1) (after_call (Finish 1) (after_call Accept syn_and_fin.state).next).next).next).state

both_ended_is : ((play_emit 100 (after_call (Forget 1) (after_call (Finish 1) (after_call Accept syn_and_fin.state).next).next).next).out ≡ window_frame 2 1 ++ window_frame 4 1)
    × (both_ended.table.entries ≡ [])
both_ended_is = (refl, refl)

-- a stream given up while open is reset
forget_open : ((play_emit 100 (after_call (Forget 1) (after_call Open client).next).next).out ≡ window_frame 1 1 ++ window_frame 8 1)
    × ((play_emit 100 (after_call (Forget 1) (after_call Open client).next).next).state.table.entries ≡ [])
    × ((after_call (Write 1 []) (after_call (Forget 1) (after_call Open client).next).next).reply ≡ reply.Refused fault.NoStream)
forget_open = (refl, refl, refl)

-- a closed session
closed_is_deaf : ((play_feed (1 ∷ []) (after_call Close client).next).fed ≡ record { taken = 1; no_memory = 0; why = All })
    × ((after_call Open (after_call Close client).next).reply ≡ reply.Refused fault.Closed)
    × ((after_call Close (after_call Close client).next).reply ≡ reply.Done)
    × ((play_emit 100 (after_call Close (after_call Open client).next).next).out ≡ [])
closed_is_deaf = (refl, refl, refl, refl)
