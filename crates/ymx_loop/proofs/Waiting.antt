-- The moments at which a loop waited for events.
use Rattle.std.proofs.Common.{◌≡◌, ◌⊎◌, inl, inr, ℕ, ◌≤◌, ◌+◌, List, [], ◌∷◌, ◌++◌, refl, arith, length-append}
use Rattle.ymx_sockets.specs.Counts.{CountsOne}
use Rattle.ymx_engine.specs.Runs.{Runs}
use Rattle.ymx_engine.specs.Served.{Serving}
use Rattle.ymx_engine.specs.Tunnels.{Tunnel}
use Rattle.ymx_engine.proofs.Attending.{runs_same, runs_then}
use Rattle.ymx_loop.specs.Loops.{NeedsEvents, RunsThrough, WaitsInNeed}

through_behind : (ms : List Tunnel) (a b c : Tunnel) → Runs a b → RunsThrough ms b c → RunsThrough ms a c
through_behind [] a b c x y = runs_then a b c x y
through_behind (m ∷ ms) a b c x y = (runs_then a b m x y.0, y.1, y.2)

through_then : (ms ns : List Tunnel) (a b c : Tunnel) → RunsThrough ms a b → RunsThrough ns b c → RunsThrough (ms ++ ns) a c
through_then [] ns a b c x y = through_behind ns a b c x y
through_then (m ∷ ms) ns a b c x y = (x.0, x.1, through_then ms ns m b c x.2 y)

waits_then : (a b c : Tunnel) (n m k : ℕ) → WaitsInNeed a b n m → WaitsInNeed b c m k → WaitsInNeed a c n k
waits_then a b c n m k x y = record {
  moments = x.moments ++ y.moments;
  through = through_then x.moments y.moments a b c x.through y.through;
  counted = let all = length-append x.moments y.moments in omega (arith, all, x.counted, y.counted);
}

-- it didn't wait
pub waits_never : (a b : Tunnel) (n m : ℕ) → Runs a b → m ≡ n → WaitsInNeed a b n m
waits_never a b n m x same = record { moments = []; through = x; counted = omega (arith, same) }

one_more : (n m : ℕ) → CountsOne n m → m ≤ n + 1
one_more n m (inl e) = omega (arith, e)
one_more n m (inr (full, e)) = omega (arith, e)

-- it waited once at most, in need
waits_once : (a b : Tunnel) (n m : ℕ) → Runs a b → (m ≡ n) ⊎ (NeedsEvents a × CountsOne n m) → WaitsInNeed a b n m
waits_once a b n m x (inl same) = waits_never a b n m x same
waits_once a b n m x (inr (need, one)) = record { moments = a ∷ []; through = (runs_same a, need, x); counted = one_more n m one }

-- it moved on without waiting
pub waits_before : (a b c : Tunnel) (n m : ℕ) → WaitsInNeed a b n m → Runs b c → WaitsInNeed a c n m
waits_before a b c n m x moves = waits_then a b c n m m x (waits_never b c m m moves refl)

-- It waited so up to here, moved on without waiting, and then waited once at most.
pub waits_behind : (a b c d : Tunnel) (n m k : ℕ) → Serving a → WaitsInNeed a b n m → Runs a c → Runs b c → Runs c d → (Serving c → (k ≡ m) ⊎ (NeedsEvents c × CountsOne m k)) → WaitsInNeed a d n k
waits_behind a b c d n m k serving x whole moves waits need =
    waits_then a c d n m k (waits_before a b c n m x moves) (waits_once c d m k waits (need (whole.attends.serves serving)))
