-- Each of a list of connections is called in turn.
use Rattle.std.proofs.Common.{◌≡◌, ◌⊎◌, ◌≤◌, ◌<◌, inl, inr, ℕ, suc, ◌+◌, List, [], ◌∷◌, length, take, Bool, true, false, ◌||◌, None, Some, refl, sym, ap, ◌∙◌, subst, cond, arith}
use Rattle.std.specs.Prelude.{nat_eq, slice_get, get_or, IsSome, option_map}
use Rattle.std.specs.List.{list_any}
use Rattle.std.specs.Map.{lookup, keys_of}
use Rattle.std.proofs.lemmas.List.{take_more}
use Rattle.std.proofs.lemmas.List.Folds.{list_any-append}
use Rattle.std.proofs.lemmas.Option.{slice_get_within, slice_get-get_or}
use Rattle.ymx_engine.specs.Turns.{Entry, Connections, Waits, Awaits}
use Rattle.ymx_engine.proofs.Entries.{eq_ids, same_id}

-- it holds of the first so many of a list
abbrev pub FirstAll : (ℕ → Type 0) → ℕ → List ℕ → Type 0
FirstAll P n xs = (k x : ℕ) → k < n → slice_get xs k ≡ Some x → P x

pub first_none : (P : ℕ → Type 0) (xs : List ℕ) → FirstAll P 0 xs
first_none P xs k x below at = absurd (omega (arith, below))

-- it holds of one more, and of the others still
pub first_more : (P Q : ℕ → Type 0) (n id : ℕ) (xs : List ℕ) → ((x : ℕ) → P x → Q x) → slice_get xs n ≡ Some id → Q id → FirstAll P n xs → FirstAll Q (n + 1) xs
first_more P Q n id xs on at q h k x below there = by (before k n below)
  where
    before : (k n : ℕ) → k < n + 1 → (k < n) ⊎ (k ≡ n)
    before k n below = grind arith

    by : (k < n) ⊎ (k ≡ n) → Q x
    by (inl less) = on x (h k x less there)
    by (inr same) =
        let one : Some id ≡ Some x = sym at ∙ ap (slice_get xs) (sym same) ∙ there in
        let is : id ≡ x = cc in subst Q is q

-- the place of one that is there
index_of : (id : ℕ) (es : List (ℕ × Entry)) → IsSome (option_map (λ (e : Entry). e.connection) (lookup (nat_eq id) es)) → (k : ℕ) × (slice_get (keys_of es) k ≡ Some id)
index_of id [] some = let no : ⊥ = cc in absurd no
index_of id (e ∷ es) some = by (nat_eq id e.0) refl (index_of id es) some
  where
    by : (b : Bool) → nat_eq id e.0 ≡ b → (IsSome (option_map (λ (x : Entry). x.connection) (lookup (nat_eq id) es)) → (k : ℕ) × (slice_get (keys_of es) k ≡ Some id)) → IsSome (option_map (λ (x : Entry). x.connection) (cond b (Some e.1) (lookup (nat_eq id) es))) →
        (k : ℕ) × (slice_get (e.0 ∷ keys_of es) k ≡ Some id)
    by true t rest h = (0, ap (λ (n : ℕ). Some n) (eq_ids id e.0 t))
    by false t rest h = let at = rest h in (suc at.0, at.1)

-- none is left
past_end : (n : ℕ) (xs : List ℕ) → slice_get xs n ≡ None → (length xs ≤ n) ⊎ (n < length xs) → length xs ≤ n
past_end n xs none (inl le) = le
past_end n xs none (inr lt) = let some : slice_get xs n ≡ Some (get_or xs n 0) = slice_get-get_or xs n 0 lt in let no : None ≡ Some (get_or xs n 0) = sym none ∙ some in absurd cc

pub all_past : (n : ℕ) (xs : List ℕ) → slice_get xs n ≡ None → length xs ≤ n
all_past n xs none = past_end n xs none (either (length xs) n)
  where
    either : (a b : ℕ) → (a ≤ b) ⊎ (b < a)
    either a b = grind arith

-- once all were called, each that is there was
pub all_called : (P : ℕ → Type 0) (n id : ℕ) (es : List (ℕ × Entry)) → FirstAll P n (keys_of es) → length (keys_of es) ≤ n → IsSome (option_map (λ (e : Entry). e.connection) (lookup (nat_eq id) es)) → P id
all_called P n id es h past some =
    let at = index_of id es some in
    let within : at.0 < length (keys_of es) = slice_get_within (keys_of es) at.0 id at.1 in h at.0 id (omega (arith, within, past)) at.1

-- one of a list more was called
pub called_more : (There : ℕ → Type 0) (t u : Connections) (xs : List ℕ) (n : ℕ) → n < length xs → ((id : ℕ) → Awaits id t → Awaits id u) → (There (get_or xs n 0) → Awaits (get_or xs n 0) u) →
    ((id : ℕ) → list_any (nat_eq id) (take n xs) ≡ true → There id → Awaits id t) → (id : ℕ) → list_any (nat_eq id) (take (n + 1) xs) ≡ true → There id → Awaits id u
called_more There t u xs n within on own before id among there =
    let parts : list_any (nat_eq id) (take (n + 1) xs) ≡ (list_any (nat_eq id) (take n xs) || list_any (nat_eq id) (get_or xs n 0 ∷ [])) = ap (list_any (nat_eq id)) (take_more xs n 0 within) ∙ list_any-append (nat_eq id) (take n xs) (get_or xs n 0 ∷ []) in
    by (list_any (nat_eq id) (take n xs)) (nat_eq id (get_or xs n 0)) refl refl (sym parts ∙ among)
  where
    by : (a b : Bool) → list_any (nat_eq id) (take n xs) ≡ a → nat_eq id (get_or xs n 0) ≡ b → (a || (b || false)) ≡ true → Awaits id u
    by true b p q h = on id (before id p there)
    by false true p q h = let same : get_or xs n 0 ≡ id = eq_ids id (get_or xs n 0) q in subst (λ (k : ℕ). Awaits k u) same (own (subst There (sym same) there))
    by false false p q h = let no : ⊥ = cc in absurd no

pub first_or : (a b : Bool) → a ≡ true → (a || b) ≡ true
first_or true b h = refl
first_or false b h = let no : false ≡ true = h in absurd cc

pub second_or : (a b : Bool) → b ≡ true → (a || b) ≡ true
second_or true b h = refl
second_or false b h = h

-- each that waits now waited before, or was called
pub called_only : (s t u : Connections) (xs : List ℕ) (n : ℕ) → n < length xs → ((id : ℕ) → Waits id u → Waits id t ⊎ (get_or xs n 0 ≡ id)) → ((id : ℕ) → Waits id t → Waits id s ⊎ (list_any (nat_eq id) (take n xs) ≡ true)) →
    (id : ℕ) → Waits id u → Waits id s ⊎ (list_any (nat_eq id) (take (n + 1) xs) ≡ true)
called_only s t u xs n within one before id waits = by (one id waits)
  where
    parts : list_any (nat_eq id) (take (n + 1) xs) ≡ (list_any (nat_eq id) (take n xs) || list_any (nat_eq id) (get_or xs n 0 ∷ []))
    parts = ap (list_any (nat_eq id)) (take_more xs n 0 within) ∙ list_any-append (nat_eq id) (take n xs) (get_or xs n 0 ∷ [])

    by : Waits id t ⊎ (get_or xs n 0 ≡ id) → Waits id s ⊎ (list_any (nat_eq id) (take (n + 1) xs) ≡ true)
    by (inl w) = elim (before id w) [ inl v ↦ inl v | inr among ↦ inr (parts ∙ first_or _ _ among) ]
    by (inr is) = inr (parts ∙ second_or _ _ (first_or _ _ (ap (nat_eq id) is ∙ same_id id)))

pub second_true : (a b : Bool) → a ≡ false → (a || b) ≡ true → b ≡ true
second_true true b e h = let no : true ≡ false = e in absurd cc
second_true false b e h = h

pub none_long : (xs : List ℕ) → length xs ≡ 0 → xs ≡ []
none_long [] h = refl
none_long (x ∷ xs) h = let no : ⊥ = cc in absurd no
