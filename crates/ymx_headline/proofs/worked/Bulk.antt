-- Examples that move whole windows of bytes: credit, turns, the window used up.
use Rattle.std.proofs.Common.{◌≡◌, [], ◌∷◌, ◌++◌, ℕ, zero, suc, List, take, drop, true, false, Some, refl}
use Rattle.ymx_header.specs.declared.fault.Fault.TheVariants.{WindowExceeded}
use Rattle.ymx_machine.specs.declared.types.Side.TheVariants.{A, B}
use Rattle.ymx_machine.specs.declared.types.Direction.TheVariants.{AB, BA}
use Rattle.ymx_machine.specs.declared.types.Step.TheVariants.{Emit, Deliver}
use Rattle.ymx_machine.specs.declared.types.Call.TheVariants.{Open, Accept, Write, Read}
use Rattle.ymx_machine.specs.declared.types.Answer.TheVariants.{Opened, Accepted, Read as GaveBytes, Emitted}
use Rattle.ymx_machine.specs.declared.types.Why.TheVariants.{All}
use Rattle.ymx_machine.specs.shared.Phases.Phase.{Live}
use Rattle.ymx_model.specs.session.Records.{End, new_end, new_writer, new_reader}
use Rattle.ymx_model.specs.session.Sessions.{Session}
use Rattle.ymx_model.specs.session.Emissions.{is_ready}
use Rattle.ymx_model.specs.world.Worlds.{World}
use Rattle.ymx_headline.specs.worked.Plays.{Played, play, FedDone, play_feed}
use Rattle.ymx_headline.specs.worked.Words.{start, client, server, a, b, x, took, wait, fed, broken, rounds, after_call, window_frame}

-- stream 1 is there, and this place of the table has the next turn
abbrev pub with_stream : End → (turn : ℕ) → Session → Session
with_stream e turn s = record s { table = record s.table { entries = (1, e) ∷ []; turn = turn } }

-- the whole credit
abbrev pub whole_credit : Played
whole_credit = play (a Open ∷ a (Write 1 (x 262145)) ∷ a (Write 1 (x 1)) ∷ []) start

-- it is written, and nothing has gone out
abbrev pub written : World
written = record start {
  a = with_stream (record (new_end 262144 Live true false) { writer = record new_writer { credit = 0; unsent = x 262144 } }) 0 (record client { next = 3 });
}

whole_credit_is : (whole_credit.answers ≡ Opened 1 ∷ took 262144 ∷ wait ∷ []) × (whole_credit.world ≡ written)
whole_credit_is = (refl, refl)

-- an end of which nothing is due
abbrev pub fresh : End
fresh = new_end 262144 Live false false

-- it has gone out after the SYN, in sixteen frames of 16,384 bytes
abbrev pub frames : ℕ → List ℕ
frames zero = []
frames (suc n) = 0 ∷ 0 ∷ 0 ∷ 0 ∷ 0 ∷ 0 ∷ 0 ∷ 1 ∷ 0 ∷ 0 ∷ 0x40 ∷ 0 ∷ (x 16384 ++ frames n)

abbrev pub sent : World
sent = record start {
  a = with_stream (record fresh { writer = record new_writer { credit = 0 } }) 1 (record client { next = 3 });
  ab = record start.ab { bytes = window_frame 1 1 ++ frames 16 };
}

abbrev pub whole_credit_goes : Played
whole_credit_goes = play (Emit A 2000000 ∷ []) written

whole_credit_goes_is : (whole_credit_goes.answers ≡ Emitted 262348 ∷ []) × (whole_credit_goes.world ≡ sent)
whole_credit_goes_is = (refl, refl)

-- it has come, and nothing of it is read
abbrev pub arrived : World
arrived = record start {
  a = with_stream (record fresh { writer = record new_writer { credit = 0 }; marks = record fresh.marks { acked = true } }) 1 (record client { next = 3 });
  b = with_stream (record fresh { reader = record (new_reader 262144) { unread = x 262144; granted = 0 } }) 1 server;
}

abbrev pub whole_credit_comes : Played
whole_credit_comes = play (Deliver AB 2000000 ∷ Emit B 2000000 ∷ Deliver BA 2000000 ∷ b Accept ∷ rounds 1) sent

whole_credit_comes_is : (take 4 whole_credit_comes.answers ≡ fed 262348 ∷ Emitted 0 ∷ fed 0 ∷ Accepted (Some 1) ∷ []) × (whole_credit_comes.world ≡ arrived)
whole_credit_comes_is = (refl, refl)

-- credit is due at half the window
abbrev pub below_half_the_window : Played
below_half_the_window = play (b (Read 1 131071) ∷ []) arrived

abbrev pub half_the_window : Played
half_the_window = play (b (Read 1 1) ∷ Emit B 100 ∷ []) below_half_the_window.world

abbrev pub credit_comes_back : Played
credit_comes_back = play (Deliver BA 100 ∷ a (Write 1 (x 200000)) ∷ []) half_the_window.world

half_the_window_is : (below_half_the_window.answers ≡ GaveBytes (x 131071) ∷ [])
    × (is_ready below_half_the_window.world.b ≡ false)
    × (half_the_window.answers ≡ GaveBytes (x 1) ∷ Emitted 12 ∷ [])
    × (half_the_window.world.ba.bytes ≡ 0 ∷ 1 ∷ 0 ∷ 0 ∷ 0 ∷ 0 ∷ 0 ∷ 1 ∷ 0 ∷ 2 ∷ 0 ∷ 0 ∷ [])
    × (credit_comes_back.answers ≡ fed 12 ∷ took 131072 ∷ [])
half_the_window_is = (refl, refl, refl, refl, refl)

-- two streams take turns
abbrev pub turns : Played
turns = play (a Open ∷ a Open ∷ a (Write 1 (x 100000)) ∷ a (Write 3 (x 10)) ∷ Emit A 24 ∷ Emit A 16396 ∷ Deliver AB 16420 ∷ Emit A 22 ∷ []) start

turns_is : (turns.answers ≡ Opened 1 ∷ Opened 3 ∷ took 100000 ∷ took 10 ∷ Emitted 24 ∷ Emitted 16396 ∷ fed 16420 ∷ Emitted 22 ∷ [])
    × (turns.world.ab.bytes ≡ 0 ∷ 0 ∷ 0 ∷ 0 ∷ 0 ∷ 0 ∷ 0 ∷ 3 ∷ 0 ∷ 0 ∷ 0 ∷ 10 ∷ x 10)
turns_is = (refl, refl)

-- stream 1 sends seven frames, the last of 1,696 bytes
abbrev pub turns_rest : Played
turns_rest = play (Emit A 81980 ∷ Emit A 1709 ∷ []) (record turns.world { ab = start.ab })

turns_rest_is : (turns_rest.answers ≡ Emitted 81980 ∷ Emitted 1708 ∷ [])
    × (is_ready turns_rest.world.a ≡ false)
    × (take 12 (drop 81980 turns_rest.world.ab.bytes) ≡ 0 ∷ 0 ∷ 0 ∷ 0 ∷ 0 ∷ 0 ∷ 0 ∷ 1 ∷ 0 ∷ 0 ∷ 6 ∷ 0xa0 ∷ [])
turns_rest_is = (refl, refl, refl)

-- the window is used up
abbrev pub full : FedDone
full = play_feed (0 ∷ 0 ∷ 0 ∷ 0 ∷ 0 ∷ 0 ∷ 0 ∷ 1 ∷ 0 ∷ 4 ∷ 0 ∷ 0 ∷ x 262144) (play_feed (window_frame 1 1) server).state

full_is : ((play_feed (window_frame 1 1) server).fed.why ≡ All)
    × (full.fed ≡ record { taken = 262156; no_memory = 0; why = All })
    × ((play_feed (0 ∷ 0 ∷ 0 ∷ 0 ∷ 0 ∷ 0 ∷ 0 ∷ 1 ∷ 0 ∷ 0 ∷ 0 ∷ 1 ∷ 0x78 ∷ []) full.state).fed ≡ broken 12 WindowExceeded)
    × ((play_feed (0 ∷ 0 ∷ 0 ∷ 0 ∷ 0 ∷ 0 ∷ 0 ∷ 1 ∷ 0 ∷ 0 ∷ 0 ∷ 1 ∷ 0x78 ∷ []) (after_call Accept full.state).next).fed ≡ broken 12 WindowExceeded)
full_is = (refl, refl, refl, refl)
