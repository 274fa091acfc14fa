-- What a device has taken of some bytes, and what a call of it that fails says.
use Rattle.std.proofs.Common.{◌≡◌, ℕ, ◌+◌, List, ◌-◌, length, take, drop, Option, Result, Ok, Err, OnErr, arith, sym, subst, IsTrue, min}
use Rattle.std.specs.Io.KnownBytes.{Appends}
use Rattle.std.proofs.KnownBytes.{Appends-trans}
use Rattle.std.proofs.lemmas.List.{take_all, length-drop}
use Rattle.std.proofs.lemmas.Bool.Decides.{nat_tests}
use Rattle.std.proofs.Math.Seq.{take-add}
use Rattle.ymx_model.specs.devices.Devices.{has_failed, most_failures}

-- all that is after the first ones
pub whole_end : (count : ℕ) (rest : List ℕ) → take (length rest - count) (drop count rest) ≡ drop count rest
whole_end count rest = take_all (length rest - count) (drop count rest) (omega (arith, length-drop count rest))

-- of these bytes the first so many were pushed, and then some more
pub pushed_more : (bytes : List ℕ) (taken count : ℕ) (before mid after : Option (List ℕ)) →
    Appends before mid (take taken bytes) → Appends mid after (take count (take (length bytes - taken) (drop taken bytes))) → Appends before after (take (taken + count) bytes)
pushed_more bytes taken count before mid after p q =
    let q' : Appends mid after (take count (drop taken bytes)) = subst (λ (l : List ℕ). Appends mid after (take count l)) (whole_end taken bytes) q in
    subst (Appends before after) (sym (take-add taken count bytes)) (Appends-trans before mid after _ _ p q')

-- a call that fails is counted
pub counted : (old new : ℕ) → new ≡ min (old + 1) most_failures → IsTrue (has_failed old new)
counted old new e = grind (arith, nat_tests)

-- what holds anyway holds on failure
pub on_err : {T E : Type 0} (r : Result T E) (P : Type 0) → P → OnErr r P
on_err (Ok x) P p = tt
on_err (Err e) P p = p
