-- Examples of streams: open, write, read, half-close, reset.
use Rattle.std.proofs.Common.{◌≡◌, [], ◌∷◌, ◌++◌, drop, replicate, true, false, Some, refl}
use Rattle.ymx_machine.specs.declared.types.Side.TheVariants.{A, B}
use Rattle.ymx_machine.specs.declared.types.Direction.TheVariants.{AB, BA}
use Rattle.ymx_machine.specs.declared.types.Step.TheVariants.{Emit, Deliver, End}
use Rattle.ymx_machine.specs.declared.types.Call.TheVariants.{Open, Accept, Write, Read, Finish, Reset}
use Rattle.ymx_machine.specs.declared.types.Answer.TheVariants.{Opened, Accepted, Read as GaveBytes, ReadEnd, Done, Refused, Emitted, NotStopped}
use Rattle.ymx_machine.specs.declared.types.CallFault.TheVariants as fault
use Rattle.ymx_model.specs.world.Worlds.{is_quiet}
use Rattle.ymx_headline.specs.worked.Plays.{Played, play}
use Rattle.ymx_headline.specs.worked.Words.{start, a, b, x, took, fed, rounds, window_frame, hello}

-- an open
abbrev pub plain_open : Played
plain_open = play (a Open ∷ Emit A 100 ∷ []) start

plain_open_is : (plain_open.answers ≡ Opened 1 ∷ Emitted 12 ∷ [])
    × (plain_open.world.ab.bytes ≡ window_frame 1 1)
plain_open_is = (refl, refl)

-- five bytes, delivered one at a time
abbrev pub hello_sent : Played
hello_sent = play (a Open ∷ a (Write 1 hello) ∷ Emit A 100 ∷ []) start

hello_sent_is : (hello_sent.answers ≡ Opened 1 ∷ took 5 ∷ Emitted 29 ∷ [])
    × (hello_sent.world.ab.bytes ≡ window_frame 1 1 ++ (0 ∷ 0 ∷ 0 ∷ 0 ∷ 0 ∷ 0 ∷ 0 ∷ 1 ∷ 0 ∷ 0 ∷ 0 ∷ 5 ∷ 0x68 ∷ 0x65 ∷ 0x6c ∷ 0x6c ∷ 0x6f ∷ []))
hello_sent_is = (refl, refl)

abbrev pub hello_read : Played
hello_read = play (replicate 29 (Deliver AB 1) ++ (b Accept ∷ b (Read 1 10) ∷ [])) hello_sent.world

hello_read_is : hello_read.answers ≡ replicate 29 (fed 1) ++ (Accepted (Some 1) ∷ GaveBytes hello ∷ [])
hello_read_is = refl

-- the acknowledgement
abbrev pub acknowledging : Played
acknowledging = play (Emit B 100 ∷ []) hello_read.world

abbrev pub acknowledged : Played
acknowledged = play (Deliver BA 100 ∷ []) acknowledging.world

acknowledging_is : (acknowledging.answers ≡ Emitted 12 ∷ [])
    × (acknowledging.world.ba.bytes ≡ window_frame 2 1)
    × (acknowledged.answers ≡ fed 12 ∷ [])
    × (is_quiet acknowledged.world ≡ true)
acknowledging_is = (refl, refl, refl, refl)

-- a half-close
abbrev pub half_closing : Played
half_closing = play (a Open ∷ a (Write 1 (0x61 ∷ 0x62 ∷ [])) ∷ a (Finish 1) ∷ Emit A 100 ∷ []) start

abbrev pub half_closed : Played
half_closed = play (Deliver AB 100 ∷ (rounds 1 ++ (b Accept ∷ b (Read 1 1) ∷ b (Read 1 1) ∷ b (Read 1 1) ∷ b (Read 1 1) ∷ []))) half_closing.world

half_closing_is : (half_closing.answers ≡ Opened 1 ∷ took 2 ∷ Done ∷ Emitted 38 ∷ [])
    × (drop 26 half_closing.world.ab.bytes ≡ 0 ∷ 1 ∷ 0 ∷ 4 ∷ 0 ∷ 0 ∷ 0 ∷ 1 ∷ 0 ∷ 0 ∷ 0 ∷ 0 ∷ [])
    × (drop 5 half_closed.answers ≡ Accepted (Some 1) ∷ GaveBytes (0x61 ∷ []) ∷ GaveBytes (0x62 ∷ []) ∷ ReadEnd ∷ ReadEnd ∷ [])
half_closing_is = (refl, refl, refl)

-- a finished stream takes nothing more
finished_takes_no_more : (play (a (Write 1 (0x63 ∷ [])) ∷ a (Finish 1) ∷ []) half_closed.world).answers ≡ Refused fault.Finished ∷ Refused fault.Finished ∷ []
finished_takes_no_more = refl

-- a reset leaves the other stream
abbrev pub one_reset_of_two : Played
one_reset_of_two = play (a Open ∷ a Open ∷ a (Write 3 (x 10)) ∷ (rounds 1 ++ (b Accept ∷ b Accept ∷ (rounds 1 ++ (a (Reset 1) ∷ Emit A 100 ∷ []))))) start

abbrev pub other_stream_goes_on : Played
other_stream_goes_on = play (Deliver AB 100 ∷ b (Read 3 10) ∷ b (Read 1 5) ∷ []) one_reset_of_two.world

one_reset_of_two_is : (drop 13 one_reset_of_two.answers ≡ Done ∷ Emitted 12 ∷ [])
    × (one_reset_of_two.world.ab.bytes ≡ window_frame 8 1)
    × (other_stream_goes_on.answers ≡ fed 12 ∷ GaveBytes (x 10) ∷ Refused fault.Reset ∷ [])
one_reset_of_two_is = (refl, refl, refl)

-- a pipe that was not stopped has no end
abbrev pub not_stopped : Played
not_stopped = play (End AB ∷ []) start

not_stopped_is : not_stopped.answers ≡ NotStopped ∷ []
not_stopped_is = refl

-- an open cut in two
abbrev pub cut_open : Played
cut_open = play (a Open ∷ Emit A 5 ∷ []) start

abbrev pub cut_rest : Played
cut_rest = play (Emit A 100 ∷ []) cut_open.world

abbrev pub cut_fed : Played
cut_fed = play (Deliver AB 12 ∷ []) cut_rest.world

cut_open_is : (cut_open.answers ≡ Opened 1 ∷ Emitted 5 ∷ [])
    × (is_quiet start ≡ true)
    × (is_quiet cut_open.world ≡ false)
    × (cut_rest.answers ≡ Emitted 7 ∷ [])
    × (is_quiet cut_rest.world ≡ false)
    × (cut_fed.answers ≡ fed 12 ∷ [])
    × (is_quiet cut_fed.world ≡ true)
cut_open_is = (refl, refl, refl, refl, refl, refl, refl)
