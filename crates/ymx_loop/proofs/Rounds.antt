-- The rounds that a loop works.
use Rattle.std.proofs.Common.{inl, inr, ℕ, zero, suc, ◌≤◌, ◌+◌, arith}
use Rattle.ymx_engine.specs.Runs.{Runs}
use Rattle.ymx_engine.specs.Tunnels.{Tunnel}
use Rattle.ymx_engine.specs.Work.{WorksOnce}
use Rattle.ymx_engine.proofs.Attending.{has_read_then, has_written_then, one_then, runs_then}
use Rattle.ymx_sockets.specs.Counts.{CountsOne}
use Rattle.ymx_loop.specs.Loops.{WorksBetween, WorksTimes}

works_then : (a b c : Tunnel) → Runs a b → WorksOnce a b → Runs b c → WorksOnce a c
works_then a b c x w y = record { reads = has_read_then a b c w.reads y.moves; turns = one_then a b c x w.turns y; writes = has_written_then a b c w.writes y.moves }

-- it went on after them
pub rounds_then : (n : ℕ) (a b c : Tunnel) → WorksTimes n a b → Runs b c → WorksTimes n a c
rounds_then zero a b c x y = runs_then a b c x y
rounds_then (suc n) a b c x y = (x.0, x.1, runs_then x.0 b c x.2 y, works_then x.0 b c x.2 x.3 y)

-- one more was worked
pub round_more : (n : ℕ) (a b c d : Tunnel) → WorksTimes n a b → Runs b c → Runs c d → WorksOnce c d → WorksTimes (suc n) a d
round_more n a b c d x y z w = (c, rounds_then n a b c x y, z, w)

-- it looked at the events once more
pub looks_more : (before n k m : ℕ) → k ≤ before + n → CountsOne k m → m ≤ before + n + 1
looks_more before n k m few (inl one) = omega (arith, few, one)
looks_more before n k m few (inr (most, same)) = omega (arith, few, same)

-- it ended after a look
pub ends_behind : (n : ℕ) (a b c : Tunnel) (before k m : ℕ) → WorksTimes n a b → k ≤ before + n → Runs b c → CountsOne k m → WorksBetween a c before m
ends_behind n a b c before k m x few y one = record { rounds = n; works = rounds_then n a b c x y; counted = looks_more before n k m few one }

-- it ended after a round
pub ends_before : (n : ℕ) (a b : Tunnel) (before k : ℕ) → WorksTimes n a b → k ≤ before + n → WorksBetween a b before k
ends_before n a b before k x few = record { rounds = n; works = x; counted = omega (arith, few) }
