-- Examples of windows: credit, announcements, turns, opening with data.
use Rattle.std.proofs.Common.{◌≡◌, [], ◌∷◌, Some, refl}
use Rattle.ymx_header.specs.declared.fault.Fault.TheVariants.{CreditOverflow}
use Rattle.ymx_machine.specs.declared.types.Side.TheVariants.{A, B}
use Rattle.ymx_machine.specs.declared.types.Direction.TheVariants.{AB, BA}
use Rattle.ymx_machine.specs.declared.types.Step.TheVariants.{Emit, Deliver}
use Rattle.ymx_machine.specs.declared.types.Call.TheVariants.{Open, OpenWith, Accept, Read, Reset, GoAway}
use Rattle.ymx_machine.specs.declared.types.Answer.TheVariants.{Opened, OpenedWith, Accepted, Read as GaveBytes, Done, Refused, Emitted}
use Rattle.ymx_machine.specs.declared.types.Why.TheVariants.{All}
use Rattle.ymx_machine.specs.declared.types.CallFault.TheVariants as fault
use Rattle.ymx_model.specs.world.Worlds.{new_world}
use Rattle.ymx_headline.specs.worked.Plays.{Played, play, play_feed}
use Rattle.ymx_headline.specs.worked.Words.{start, server, a, b, fed, broken, window_frame, look_credit}

-- a wide window is announced with the SYN
abbrev pub wide : Played
wide = play (a Open ∷ Emit A 100 ∷ []) (new_world 1048576 1 262144 2)

abbrev pub wide_fed : Played
wide_fed = play (Deliver AB 100 ∷ b Accept ∷ []) wide.world

wide_is : (wide.answers ≡ Opened 1 ∷ Emitted 12 ∷ [])
    × (wide.world.ab.bytes ≡ 0 ∷ 1 ∷ 0 ∷ 1 ∷ 0 ∷ 0 ∷ 0 ∷ 1 ∷ 0 ∷ 12 ∷ 0 ∷ 0 ∷ [])
    × (wide_fed.answers ≡ fed 12 ∷ Accepted (Some 1) ∷ [])
wide_is = (refl, refl, refl)

-- the greatest credit by a SYN
wide_syn : ((play_feed (0 ∷ 1 ∷ 0 ∷ 1 ∷ 0 ∷ 0 ∷ 0 ∷ 1 ∷ 0xff ∷ 0xfb ∷ 0xff ∷ 0xff ∷ []) server).fed ≡ record { taken = 12; no_memory = 0; why = All })
    × (look_credit 1 (play_feed (0 ∷ 1 ∷ 0 ∷ 1 ∷ 0 ∷ 0 ∷ 0 ∷ 1 ∷ 0xff ∷ 0xfb ∷ 0xff ∷ 0xff ∷ []) server).state ≡ 4294967295)
    × ((play_feed (0 ∷ 1 ∷ 0 ∷ 1 ∷ 0 ∷ 0 ∷ 0 ∷ 1 ∷ 0xff ∷ 0xfc ∷ 0 ∷ 0 ∷ []) server).fed ≡ broken 12 CreditOverflow)
    × ((play_feed (0 ∷ 1 ∷ 0 ∷ 1 ∷ 0 ∷ 0 ∷ 0 ∷ 1 ∷ 0xff ∷ 0xfc ∷ 0 ∷ 0 ∷ []) server).state.table.entries ≡ [])
wide_syn = (refl, refl, refl, refl)

-- opening with data
abbrev pub with_data : Played
with_data = play (a (OpenWith (0x68 ∷ 0x69 ∷ [])) ∷ Emit A 100 ∷ []) start

abbrev pub with_data_fed : Played
with_data_fed = play (Deliver AB 100 ∷ b Accept ∷ b (Read 1 10) ∷ []) with_data.world

with_data_is : (with_data.answers ≡ OpenedWith 1 2 ∷ Emitted 14 ∷ [])
    × (with_data.world.ab.bytes ≡ 0 ∷ 0 ∷ 0 ∷ 1 ∷ 0 ∷ 0 ∷ 0 ∷ 1 ∷ 0 ∷ 0 ∷ 0 ∷ 2 ∷ 0x68 ∷ 0x69 ∷ [])
    × (with_data_fed.answers ≡ fed 14 ∷ Accepted (Some 1) ∷ GaveBytes (0x68 ∷ 0x69 ∷ []) ∷ [])
with_data_is = (refl, refl, refl)

abbrev pub with_none : Played
with_none = play (a (OpenWith []) ∷ Emit A 100 ∷ []) start

with_none_is : (with_none.answers ≡ OpenedWith 1 0 ∷ Emitted 12 ∷ [])
    × (with_none.world.ab.bytes ≡ 0 ∷ 0 ∷ 0 ∷ 1 ∷ 0 ∷ 0 ∷ 0 ∷ 1 ∷ 0 ∷ 0 ∷ 0 ∷ 0 ∷ [])
with_none_is = (refl, refl)

abbrev pub with_reset : Played
with_reset = play (a (OpenWith (0x68 ∷ 0x69 ∷ [])) ∷ a (Reset 1) ∷ Emit A 100 ∷ []) start

with_reset_is : (with_reset.answers ≡ OpenedWith 1 2 ∷ Done ∷ Emitted 24 ∷ [])
    × (with_reset.world.ab.bytes ≡ 0 ∷ 0 ∷ 0 ∷ 1 ∷ 0 ∷ 0 ∷ 0 ∷ 1 ∷ 0 ∷ 0 ∷ 0 ∷ 0 ∷ window_frame 8 1)
with_reset_is = (refl, refl)

abbrev pub with_window : Played
with_window = play (a (OpenWith (0x61 ∷ [])) ∷ Emit A 100 ∷ []) (new_world 524288 1 262144 2)

with_window_is : (with_window.answers ≡ OpenedWith 1 1 ∷ Emitted 25 ∷ [])
    × (with_window.world.ab.bytes ≡ 0 ∷ 0 ∷ 0 ∷ 1 ∷ 0 ∷ 0 ∷ 0 ∷ 1 ∷ 0 ∷ 0 ∷ 0 ∷ 1 ∷ 0x61 ∷ 0 ∷ 1 ∷ 0 ∷ 0 ∷ 0 ∷ 0 ∷ 0 ∷ 1 ∷ 0 ∷ 4 ∷ 0 ∷ 0 ∷ [])
with_window_is = (refl, refl)

abbrev pub with_away : Played
with_away = play (b GoAway ∷ a (OpenWith (0x68 ∷ 0x69 ∷ [])) ∷ Emit A 100 ∷ Deliver AB 100 ∷ Emit B 100 ∷ Deliver BA 100 ∷ a (Read 1 5) ∷ []) start

with_away_is : with_away.answers ≡ Done ∷ OpenedWith 1 2 ∷ Emitted 14 ∷ fed 14 ∷ Emitted 24 ∷ fed 24 ∷ Refused fault.Reset ∷ []
with_away_is = refl
