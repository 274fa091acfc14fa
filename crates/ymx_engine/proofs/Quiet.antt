-- Events that are no calls on a stream, and tests of lists.
use Rattle.std.proofs.Common.{◌≡◌, ℕ, List, [], ◌∷◌, Bool, true, false, ◌||◌, ◌&&◌, refl}
use Rattle.std.specs.List.{list_all}
use Rattle.ymx_machine.specs.shared.Events.{Call, Reply}
use Rattle.ymx_model.specs.session.Events.{Event}
use Rattle.ymx_model.specs.declared.types.Event.TheVariants as event
use Rattle.ymx_engine.specs.Events.{given, has_end, has_finish, has_reset, has_stop, taken}

abbrev pub IsQuiet : ℕ → List (Event × Reply) → Type 0
IsQuiet id es = (taken id es ≡ []) × (given id es ≡ []) × (has_end id es ≡ false) × (has_finish id es ≡ false) × (has_reset id es ≡ false) × (has_stop id es ≡ false)

quiet_behind : (k : Event → Bool) (none : (c : Call) → k (event.Call c) ≡ false) (id : ℕ) (e : Event) (told : Reply) (es : List (Event × Reply)) → k e ≡ true → IsQuiet id es → IsQuiet id ((e, told) ∷ es)
quiet_behind k none id (event.Call c) told es h x = let e : k (event.Call c) ≡ false = none c in let no : ⊥ = cc in absurd no
quiet_behind k none id (event.Feed bytes) told es h x = x
quiet_behind k none id event.FeedEnd told es h x = x
quiet_behind k none id (event.Emit room) told es h x = x

pub both : (a b : Bool) → (a && b) ≡ true → (a ≡ true) × (b ≡ true)
both true b h = (refl, h)
both false b h = let no : ⊥ = cc in absurd no

pub quiet : (k : Event → Bool) (none : (c : Call) → k (event.Call c) ≡ false) (id : ℕ) (es : List (Event × Reply)) → list_all (λ e. k e.0) es ≡ true → IsQuiet id es
quiet k none id [] h = (refl, refl, refl, refl, refl, refl)
quiet k none id (e ∷ es) h = let two = both (k e.0) (list_all (λ e. k e.0) es) h in quiet_behind k none id e.0 e.1 es two.0 (quiet k none id es two.1)

pub or_neither : (a b : Bool) → (a || b) ≡ false → (a ≡ false) × (b ≡ false)
or_neither true b h = let no : ⊥ = cc in absurd no
or_neither false b h = (refl, h)
