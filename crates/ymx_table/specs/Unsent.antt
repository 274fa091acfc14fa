-- How many bytes are unsent (this project's own).
use Rattle.std.specs.Prelude.{ℕ, ◌≡◌, ◌<◌, ◌^◌, List, length, map, sum, All}
use Rattle.ymx_model.specs.session.Tables.{Table}

-- for each record, in order, how many bytes were written and stand in no frame begun yet
abbrev pub unsent_counts : Table → List ℕ
unsent_counts t = map (λ p. length p.1.writer.unsent) t.entries

-- how many that are of all records
abbrev pub unsent_sum : Table → ℕ
unsent_sum t = sum (unsent_counts t)

-- `total` is the sum, and each of the numbers fits 64 bits
pub record IsTotal (counts : List ℕ) (total : ℕ) : Type 0 where
  pub total_is : total ≡ sum counts
  pub each_fits : All (λ n. n < 2 ^ 64) counts
