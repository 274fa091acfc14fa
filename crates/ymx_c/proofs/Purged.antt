-- Where no stream is released, there is nothing to look at.
use Rattle.std.proofs.Common.{◌≡◌, ℕ, ◌==◌, List, [], ◌∷◌, length, Bool, true, false, not, ◌||◌, if◌then◌else◌, refl, sym, ap, arith}
use Rattle.std.specs.Prelude.{filter}
use Rattle.std.proofs.lemmas.Bool.Decides.{nat_tests}
use Rattle.ymx_model.specs.session.Sessions.{Session, is_running}
use Rattle.ymx_session.specs.Touched.{Noted}
use Rattle.ymx_session.specs.Releases.{is_among, tended_all, forgets, looked_at, left_of}
use Rattle.ymx_c.specs.Handles.{Purges}

none-among : (xs : List ℕ) → filter (λ x. is_among x []) xs ≡ []
none-among [] = refl
none-among (x ∷ xs) = none-among xs

none-looked : (noted : Noted) (s : Session) → looked_at [] noted s ≡ []
none-looked noted s = of (noted.all || not (is_running s.status))
  where
    of : (b : Bool) → (if b then [] else filter (λ x. is_among x []) noted.ids) ≡ []
    of true = refl
    of false = none-among noted.ids

pub purges-none : (released : List ℕ) (noted : Noted) (s : Session) → (length released == 0) ≡ true → Purges (looked_at released noted s) released s (record { session = s; releases = released })
purges-none [] noted s e =
    let none = none-looked noted s in
    record { tends = ap (λ (xs : List ℕ). tended_all xs s) (sym none); left = ap (λ (xs : List ℕ). left_of (forgets xs s) [] s) (sym none) }
purges-none (x ∷ xs) noted s e = absurd (some e)
  where
    some : (length (x ∷ xs) == 0) ≡ true → ⊥
    some e = grind (arith, nat_tests)
