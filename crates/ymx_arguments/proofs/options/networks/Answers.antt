use Rattle.std.proofs.Common.{◌≡◌, ◌∙◌, ◌<◌, ◌≤◌, ◌-◌, ℕ, List, Option, Some, [], ap, codes, length, length-set, map, min, replicate, zero, suc, refl, subst, sym, arith}
use Rattle.std.proofs.lemmas.List.{length-map}
use Rattle.std.specs.Prelude.{IsSomeAnd, option_map, slice_get, unwrap_or}
use Rattle.std.specs.Borrow.{Bor}
use Rattle.clap.specs.Words.{Text, found_of, matched_of, raw_values, rows_of}
use Rattle.clap.specs.declared.parser.matches.Found.{Found}
use Rattle.clap.proofs.WalkLemmas.{raw_values-rows}
use Rattle.ymx_policy.specs.declared.options.Network.{Network}
use Rattle.ymx_arguments.specs.CommandLine.{IsIn, IsNoNetwork, StandsFor, from_texts}
use Rattle.ymx_arguments.proofs.Places.{placed}
use Rattle.ymx_arguments.proofs.options.networks.Goals as goal

-- the texts that clap gives are those of `--from`
given : (found : Found) (texts : Option (Bor (List (Bor Text)))) → option_map (λ s. map (λ v. v.now) s.now) texts ≡ option_map raw_values (matched_of found (codes "from"))
    → unwrap_or (option_map (λ s. map (λ v. v.now) s.now) texts) [] ≡ from_texts (rows_of found)
given found texts e = ap (λ o. unwrap_or o []) (e ∙ raw_values-rows found (codes "from"))

-- where none is given each place has all addresses
everywhere : (n k : ℕ) (all : Network) → all.bits ≡ 0 → k < n → IsSomeAnd (slice_get (replicate n all) k) (λ (network : Network). network.bits ≡ 0)
everywhere zero k all e lt = absurd (omega (arith, lt))
everywhere (suc n) zero all e lt = e
everywhere (suc n) (suc k) all e lt = everywhere n k all e (omega (arith, lt))

pub returns-in_default : goal.returns-in_default
returns-in_default c =
    let rows = rows_of (found_of c.args.found.now) in
    let none : [] ≡ from_texts rows =
    subst (λ (texts : Option (Bor (List (Bor Text)))). unwrap_or (option_map (λ s. map (λ v. v.now) s.now) texts) [] ≡ from_texts rows) c.in_default.is (given (found_of c.args.found.now) _ c.get_strs.ensures) in
    let each =
    subst (λ (texts : List Text). (length texts ≤ 8) × ((k : ℕ) → k < 8 → IsSomeAnd (slice_get c.all.result.networks k) (StandsFor (slice_get texts (min k (length texts - 1)))))) none
    (omega arith, λ k lt. rw c.all.ensures (everywhere 8 k _ refl lt)) in
    (c.in_ok-check_apart.ensures.read, each.0, each.1)

-- what holds of the texts as clap gives them holds of those of `--from`
as_given : (found : Found) (given_texts : Option (Bor (List (Bor Text)))) (texts : Bor (List (Bor Text))) (P : List Text → ℕ → Type 0) → given_texts ≡ Some texts →
    option_map (λ s. map (λ v. v.now) s.now) given_texts ≡ option_map raw_values (matched_of found (codes "from")) → P (map (λ text. text.now) texts.now) (length texts.now) →
    P (from_texts (rows_of found)) (length (from_texts (rows_of found)))
as_given found given_texts texts P is e h =
    let same : map (λ (text : Bor Text). text.now) texts.now ≡ from_texts (rows_of found) =
    subst (λ (o : Option (Bor (List (Bor Text)))). unwrap_or (option_map (λ s. map (λ v. v.now) s.now) o) [] ≡ from_texts (rows_of found)) is (given found given_texts e) in
    subst (λ (l : List Text). P l (length l)) same (subst (P (map (λ (text : Bor Text). text.now) texts.now)) (sym (length-map texts.now _)) h)

pub returns-then-texts-gt-MOST_NETWORKS : goal.returns-then-texts-gt-MOST_NETWORKS
returns-then-texts-gt-MOST_NETWORKS c =
    as_given (found_of c.args.found.now) _ _ (λ texts n. 8 < n) c.in-Some.is c.get_strs.ensures c.if-texts-gt-MOST_NETWORKS.true

pub returns-in-Err : goal.returns-in-Err
returns-in-Err c =
    as_given (found_of c.args.found.now) _ _ (λ texts n. IsIn texts c.in-Err.text.now × IsNoNetwork c.in-Err.text.now) c.in-Some.is c.get_strs.ensures c.in-Err.ensures

pub loop-place-preserved : goal.loop-place-preserved
loop-place-preserved c =
    let texts = map (λ text. text.now) c.in-Some.texts.now in
    let long = c.loop-place.invariant.0 in
    let lt = c.loop-place-test.true in (
      length-set _ _ _ ∙ long,
      placed (λ k network. StandsFor (slice_get texts (min k (length c.in-Some.texts.now - 1))) network) c.loop-place.from.networks c.loop-place.place c.in-Ok.network
          (omega (arith, long, lt)) c.loop-place.invariant.1 c.in-Ok.ensures,
    )

pub returns : goal.returns
returns c =
    let all = c.loop-place-test.false in
    let each = as_given (found_of c.args.found.now) _ _
    (λ texts n. (n ≤ 8) × ((k : ℕ) → k < 8 → IsSomeAnd (slice_get c.loop-place.from.networks k) (StandsFor (slice_get texts (min k (n - 1)))))) c.in-Some.is c.get_strs.ensures
    (c.if-texts-gt-MOST_NETWORKS.false, λ k lt. c.loop-place.invariant.1 k (omega (arith, all, lt))) in
    (c.in_ok-check_apart.ensures.read, each.0, each.1)
