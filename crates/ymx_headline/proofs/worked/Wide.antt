-- Examples of wide windows: credit after half of them.
use Rattle.std.proofs.Common.{◌≡◌, [], ◌∷◌, ◌++◌, true, false, refl}
use Rattle.ymx_machine.specs.declared.types.Call.TheVariants.{Open, Accept, Write, Read}
use Rattle.ymx_machine.specs.declared.types.Answer.TheVariants.{Read as GaveBytes}
use Rattle.ymx_model.specs.session.Emissions.{is_ready}
use Rattle.ymx_model.specs.world.Worlds.{new_world}
use Rattle.ymx_headline.specs.worked.Plays.{Played, play}
use Rattle.ymx_headline.specs.worked.Words.{a, b, x, rounds, unread_count}

-- half of an odd window
abbrev pub odd : Played
odd = play (a Open ∷ (rounds 1 ++ (b Accept ∷ b (Write 1 (x 140000)) ∷ rounds 1))) (new_world 262145 1 262144 2)

abbrev pub odd_read : Played
odd_read = play (a (Read 1 131072) ∷ []) odd.world

abbrev pub odd_one_more : Played
odd_one_more = play (a (Read 1 1) ∷ []) odd_read.world

odd_is : (is_ready odd.world.a ≡ false)
    × (unread_count 1 odd.world.a ≡ 140000)
    × (odd_read.answers ≡ GaveBytes (x 131072) ∷ [])
    × (is_ready odd_read.world.a ≡ false)
    × (odd_one_more.answers ≡ GaveBytes (x 1) ∷ [])
    × (is_ready odd_one_more.world.a ≡ true)
odd_is = (refl, refl, refl, refl, refl, refl)
