-- How the tunnel of a loop goes on.
use Rattle.std.proofs.Common.{◌≡◌, ◌⊎◌, inl, ◌<◌, ◌+◌, ℕ, length, true, false, Option, Some, sym, ap, ◌∙◌, subst, arith}
use Rattle.std.specs.Prelude.{min, option_map}
use Rattle.std.specs.Option.{option_map_or}
use Rattle.ymx_model.specs.session.Sessions.{is_running}
use Rattle.ymx_engine.specs.Runs.{Runs}
use Rattle.ymx_engine.specs.Tunnels.{Tunnel}
use Rattle.ymx_engine.specs.Turns.{Connection, Connections, connection_of, is_over_at, IsIdle, IsBehind}
use Rattle.ymx_engine.specs.Directions.{is_over}
use Rattle.ymx_engine.specs.Work.{HasRead, ServesFirst, ServesOne, WorksOnce, Writes}
use Rattle.ymx_engine.proofs.Turning.{behind_few}
use Rattle.ymx_engine.proofs.Attending.{has_read_then, has_written_then, one_then, runs_from, serves_first, serves_none, runs_same, then_has_read, then_has_written, then_one, runs_then, written_once}

-- nothing was done
pub same : (a b : Tunnel) → b ≡ a → Runs a b
same a b e = subst (λ (v : Tunnel). Runs a v) (sym e) (runs_same a)

pub unmoved : (a : Tunnel) → Runs a a
unmoved a = runs_same a

pub then : (a b c : Tunnel) → Runs a b → Runs b c → Runs a c
then a b c x y = runs_then a b c x y

-- what went on after, where nothing was done before
pub runs_behind : (a b c : Tunnel) → a ≡ b → Runs a c → Runs b c
runs_behind a b c e x = runs_from a b c e x

-- what went on before, where nothing was done after
pub runs_before : (a b c : Tunnel) → c ≡ b → Runs a b → Runs a c
runs_before a b c e x = subst (λ (v : Tunnel). Runs a v) (sym e) x

-- ---- what waits

-- none waited
pub none_served : (a b : Tunnel) → IsIdle a.connections → ServesOne a b
none_served a b i = serves_none a b i

-- the first had its turn
pub one_served : (a b c : Tunnel) (id gave : ℕ) → Runs a b → ServesFirst id gave a b → Runs b c → ServesOne a c
one_served a b c id gave runs turn on = one_then a b c runs (serves_first a b id gave turn) on

-- there are some where one stands after others, or is the first
pub some_queued : (id n : ℕ) (t : Connections) (most : ℕ) → 0 < most → IsBehind id n t → 0 < min (length t.fresh + length t.busy) most
some_queued id n t most many far = let some = behind_few id n t far in grind (arith, many, some)

-- ---- what is over

over_way : (o : Option Connection) (l : Connection) → o ≡ Some l → option_map_or is_over (option_map (λ (v : Connection). v.directions) o) true ≡ true → is_over l.directions ≡ true
over_way o l e h = sym (ap (λ (v : Option Connection). option_map_or is_over (option_map (λ (w : Connection). w.directions) v) true) e) ∙ h

-- a connection that is over may be let go of
pub over_there : (id : ℕ) (t : Tunnel) → is_over_at id t.connections ≡ true → (l : Connection) → connection_of id t.connections ≡ Some l → (is_over l.directions ≡ true) ⊎ (is_running t.engine.session.status ≡ false)
over_there id t h l e = inl (over_way (connection_of id t.connections) l e h)

-- ---- rounds

-- one round: what comes before the wire is read, and after it, until one has its turn and the wire is written to
pub works_once : (a b c d e f g : Tunnel) → Runs a b → Runs b c → HasRead b c → Runs c d → Runs d e → ServesOne d e → Runs e f → Writes e f → Runs f g → WorksOnce a g
works_once a b c d e f g x y reads z u turns v writes w =
    let to_d = runs_then a b d x (runs_then b c d y z) in
    let to_e = runs_then a d e to_d u in
    let from_e = runs_then e f g v w in
    let from_c = runs_then c d g z (runs_then d e g u from_e) in
    record {
      reads = then_has_read a b g x.moves (has_read_then b c g reads from_c.moves);
      turns = one_then a e g to_e (then_one a d e to_d u turns) from_e;
      writes = then_has_written a e g to_e.moves (has_written_then e f g (written_once e f writes) w.moves);
    }
