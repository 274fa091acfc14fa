-- Examples at the limits: streams offered and opened, records, answers.
use Rattle.std.proofs.Common.{◌≡◌, [], ◌∷◌, ◌++◌, length, drop, replicate, Some, refl}
use Rattle.ymx_header.specs.declared.fault.Fault.TheVariants.{BadGoAwayCode}
use Rattle.ymx_machine.specs.declared.types.Call.TheVariants.{Open, Accept, GoAway}
use Rattle.ymx_machine.specs.declared.types.Answer.TheVariants.{Opened, Accepted, Emitted}
use Rattle.ymx_machine.specs.declared.types.Reply.TheVariants as reply
use Rattle.ymx_machine.specs.declared.types.Why.TheVariants.{All}
use Rattle.ymx_machine.specs.declared.types.CallFault.TheVariants as fault
use Rattle.ymx_headline.specs.worked.Plays.{Played, play, Poured, play_emit, FedDone, play_feed}
use Rattle.ymx_headline.specs.worked.Words.{start, server, a, b, fed, held_after, broken, rounds, after_call, go_away_with, opened_to, pings, syns}

-- 256 streams not acknowledged
abbrev pub unacknowledged_256 : Played
unacknowledged_256 = play (replicate 256 (a Open)) start

unacknowledged_256_is : (unacknowledged_256.answers ≡ opened_to 256 1)
    × ((after_call Open unacknowledged_256.world.a).reply ≡ reply.Refused fault.OpensPending)
    × ((play (rounds 1 ++ (b Accept ∷ (rounds 1 ++ (a Open ∷ [])))) unacknowledged_256.world).answers ≡ Emitted 3072 ∷ fed 3072 ∷ Emitted 0 ∷ fed 0 ∷ Accepted (Some 1) ∷ Emitted 0 ∷ fed 0 ∷ Emitted 12 ∷ fed 12 ∷ Opened 513 ∷ [])
unacknowledged_256_is = (refl, refl, refl)

-- 1,024 answers unsent
abbrev pub unsent_1024 : FedDone
unsent_1024 = play_feed (pings 1025) server

unsent_1024_is : (unsent_1024.fed ≡ held_after 12288)
    × ((play_feed (drop 12288 (pings 1025)) (play_emit 12 unsent_1024.state).state).fed ≡ record { taken = 12; no_memory = 0; why = All })
unsent_1024_is = (refl, refl)

-- the 257th stream offered is rejected
abbrev pub offered_256 : FedDone
offered_256 = play_feed (syns 257 1) server

offered_256_is : (offered_256.fed ≡ record { taken = 3084; no_memory = 0; why = All })
    × ((play_emit 100 offered_256.state).out ≡ 0 ∷ 1 ∷ 0 ∷ 8 ∷ 0 ∷ 0 ∷ 2 ∷ 1 ∷ 0 ∷ 0 ∷ 0 ∷ 0 ∷ [])
offered_256_is = (refl, refl)

-- answers leave the row as they begin
abbrev pub pings_1100 : FedDone
pings_1100 = play_feed (pings 1100) server

abbrev pub two_left : Poured
two_left = play_emit 13 pings_1100.state

pings_1100_is : (length (pings 1100) ≡ 13200)
    × (pings_1100.fed ≡ held_after 12288)
    × (length two_left.out ≡ 13)
    × (length two_left.state.answers ≡ 1022)
    × ((play_feed (drop 12288 (pings 1100)) two_left.state).fed ≡ held_after 24)
pings_1100_is = (refl, refl, refl, refl, refl)

-- 1,024 rejections unsent
abbrev pub rejects : FedDone
rejects = play_feed (syns 1025 1) (after_call GoAway server).next

rejects_is : (rejects.fed ≡ held_after 12288)
    × ((play_feed (drop 12288 (syns 1025 1)) (play_emit 24 rejects.state).state).fed ≡ record { taken = 12; no_memory = 0; why = All })
rejects_is = (refl, refl)

-- a broken session takes nothing
still_broken : (play_feed (0x01 ∷ 0x02 ∷ []) (play_feed (go_away_with 3) server).state).fed ≡ broken 0 BadGoAwayCode
still_broken = refl
