-- The words of a script, and what they stand for (this project's own).
use Rattle.std.specs.Prelude.{ℕ, ◌+◌, ◌-◌, ◌*◌, List, [], ◌∷◌, length, Bool, ◌||◌, ◌==◌, nat_lt, if◌then◌else◌, Option, None, Some, codes}
use Rattle.std.specs.Cmp.Lexicographic.{pointwise}
use Rattle.std.specs.Result.{result_ok}
use Rattle.hex.specs.Hex.{decode_of}
use Rattle.ymx_machine.specs.declared.types.Side.{Side}
use Rattle.ymx_machine.specs.declared.types.Side.TheVariants.{A, B}
use Rattle.ymx_machine.specs.declared.types.Direction.{Direction}
use Rattle.ymx_machine.specs.declared.types.Direction.TheVariants.{AB, BA}

-- the first word begins with this byte
abbrev pub onto : ℕ → List (List ℕ) → List (List ℕ)
onto b [] = (b ∷ []) ∷ []
onto b (word ∷ more) = (b ∷ word) ∷ more

-- the words of a line: one space stands between two of them
abbrev pub words : List ℕ → List (List ℕ)
words [] = [] ∷ []
words (b ∷ bs) = if b == 32 then [] ∷ words bs else onto b (words bs)

-- whether it is this word
abbrev pub is : List ℕ → List ℕ → Bool
is name word = pointwise (λ x y. x == y) word name

abbrev pub side : List ℕ → Option Side
side word = if is (codes "A") word then Some A else if is (codes "B") word then Some B else None

abbrev pub direction : List ℕ → Option Direction
direction word = if is (codes "AB") word then Some AB else if is (codes "BA") word then Some BA else None

-- the digits go on with a number, which is at most 4,294,967,295
abbrev pub digits : (so_far : ℕ) → List ℕ → Option ℕ
digits n [] = Some n
digits n (d ∷ ds) =
    if nat_lt d 48 || nat_lt 57 d || nat_lt 4294967295 (10 * n + (d - 48)) then None
    else digits (10 * n + (d - 48)) ds

-- a number: 1 to 10 decimal digits, at most 4,294,967,295
abbrev pub number : List ℕ → Option ℕ
number word = if length word == 0 || nat_lt 10 (length word) then None else digits 0 word

abbrev pub at_most : ℕ → Option ℕ → Option ℕ
at_most limit None = None
at_most limit (Some n) = if nat_lt limit n then None else Some n

-- a number of bytes, at most 1,000,000
abbrev pub count : List ℕ → Option ℕ
count word = at_most 1000000 (number word)

-- bytes: pairs of hexadecimal digits of either case; no bytes is `-`
abbrev pub payload_word : List ℕ → Option (List ℕ)
payload_word word = if is (codes "-") word then Some [] else if length word == 0 then None else result_ok (decode_of word)
