use Rattle.std.proofs.Common.{◌≡◌, ◌-◌, ◌<◌, ℕ, length, map, min}
use Rattle.std.specs.Prelude.{IsSomeAnd, slice_get}
use Rattle.ymx_arguments.specs.CommandLine.{StandsFor}
use Rattle.ymx_arguments.proofs.options.networks.Given as goal

-- each place so far has its network
abbrev pub invariant-loop-place : goal.invariant-loop-place
invariant-loop-place l =
    (length l.from.networks ≡ 8)
    × ((k : ℕ) → k < l.place → IsSomeAnd (slice_get l.from.networks k) (StandsFor (slice_get (map (λ text. text.now) l.texts) (min k (length l.texts - 1)))))
