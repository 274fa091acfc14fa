-- How a tunnel goes on: who is served, and whose turn comes.
use Rattle.std.proofs.Common.{◌≡◌, ◌⊎◌, inl, inr, ◌++◌, ℕ, ◌+◌, ◌<◌, ◌≤◌, List, [], ◌∷◌, Bool, true, false, Some, length, refl, sym, ap, ◌∙◌, subst, arith, length-append}
use Rattle.std.specs.Prelude.{nat_eq}
use Rattle.std.specs.List.{list_all}
use Rattle.std.proofs.lemmas.List.Folds.{list_all-append}
use Rattle.ymx_machine.specs.shared.Events.{Reply}
use Rattle.ymx_model.specs.session.Events.{Event}
use Rattle.ymx_model.specs.session.Sessions.{is_running}
use Rattle.ymx_engine.specs.Devices.{Seen}
use Rattle.ymx_engine.specs.Exchanges.{has_bytes}
use Rattle.ymx_engine.specs.Joins.{Leaves}
use Rattle.ymx_engine.specs.Moves.{Moves}
use Rattle.ymx_engine.specs.Runs.{Runs}
use Rattle.ymx_engine.specs.Served.{Serving}
use Rattle.ymx_engine.specs.Passes.{is_of_reading}
use Rattle.ymx_engine.specs.Steps.{Keeps, ReadsOn, WritesOnce}
use Rattle.ymx_engine.specs.Tunnels.{Tunnel}
use Rattle.ymx_engine.specs.Turns.{Connection, connection_of, Extends, IsBehind, IsIdle, LeavesQueues}
use Rattle.ymx_engine.specs.Directions.{is_over}
use Rattle.ymx_engine.specs.Wires.{count_on, is_of_flush, rejections}
use Rattle.ymx_engine.specs.Work.{Attends, ComesNearer, HadTurn, HasLeft, ServesOne, ServesFirst, Reads, WasOver, Writes, HasRead, HasWritten, may_have_bytes}
use Rattle.ymx_engine.proofs.Carrying.{memory_then, memory_same}
use Rattle.ymx_engine.proofs.Entries.{eq_ids}
use Rattle.ymx_engine.proofs.Queueing.{extends_same, keeps_same, keeps_then}
use Rattle.ymx_engine.proofs.Running.{moves_same, moves_same_so, moves_then, moves_then_so}
use Rattle.ymx_engine.proofs.Turning.{extends_behind, left_behind, none_behind}

-- ---- one call after another

had_then : (id : ℕ) (a b c : Tunnel) → HadTurn id a b → Moves b c → HadTurn id a c
had_then id a b c x m = record { gave = x.gave; before = x.before; after = x.after; to = x.to; turn = x.turn; behind = moves_then x.after b c x.behind m }

then_had : (id : ℕ) (a b c : Tunnel) → Moves a b → HadTurn id b c → HadTurn id a c
then_had id a b c m x = record { gave = x.gave; before = x.before; after = x.after; to = moves_then a b x.before m x.to; turn = x.turn; behind = x.behind }

left_then : (id : ℕ) (a b c : Tunnel) → HasLeft id a b → Moves b c → HasLeft id a c
left_then id a b c x m = record { before = x.before; after = x.after; to = x.to; over = x.over; left = x.left; behind = moves_then x.after b c x.behind m }

then_left : (id : ℕ) (a b c : Tunnel) → Moves a b → HasLeft id b c → HasLeft id a c
then_left id a b c m x = record { before = x.before; after = x.after; to = moves_then a b x.before m x.to; over = x.over; left = x.left; behind = x.behind }

-- each comes nearer by what both say
pub nearer_then : (j k : ℕ) (a b c : Tunnel) → Moves a b → Moves b c → ComesNearer j a b → ComesNearer k b c → ComesNearer (j + k) a c
nearer_then j k a b c m n x y id far behind = first (x id far behind)
  where
    second : (near : ℕ) → near + j ≤ far → HadTurn id b c ⊎ (HasLeft id b c ⊎ ((last : ℕ) × (last + k ≤ near) × IsBehind id last c.connections)) →
        HadTurn id a c ⊎ (HasLeft id a c ⊎ ((last : ℕ) × (last + (j + k) ≤ far) × IsBehind id last c.connections))
    second near few (inl had) = inl (then_had id a b c m had)
    second near few (inr (inl left)) = inr (inl (then_left id a b c m left))
    second near few (inr (inr (last, fewer, at))) = inr (inr (last, omega (arith, few, fewer), at))

    first : HadTurn id a b ⊎ (HasLeft id a b ⊎ ((near : ℕ) × (near + j ≤ far) × IsBehind id near b.connections)) →
        HadTurn id a c ⊎ (HasLeft id a c ⊎ ((last : ℕ) × (last + (j + k) ≤ far) × IsBehind id last c.connections))
    first (inl had) = inl (had_then id a b c had n)
    first (inr (inl left)) = inr (inl (left_then id a b c left n))
    first (inr (inr (near, few, at))) = second near few (y id near at)

-- others that came to wait stand after
nearer_extends : (a b : Tunnel) → Extends a.connections b.connections → ComesNearer 0 a b
nearer_extends a b e id n far = inr (inr (n, omega arith, extends_behind id n a.connections b.connections e far))

-- the first had its turn
nearer_turn : (a b : Tunnel) (id gave : ℕ) → ServesFirst id gave a b → ComesNearer 1 a b
nearer_turn a b id gave turn other n far = by (turn.first.comes other n far)
  where
    by : (other ≡ id) ⊎ ((m : ℕ) × (m < n) × IsBehind other m turn.taken) → HadTurn other a b ⊎ (HasLeft other a b ⊎ ((m : ℕ) × (m + 1 ≤ n) × IsBehind other m b.connections))
    by (inl same) = inl (subst (λ (x : ℕ). HadTurn x a b) (sym same) (record { gave = gave; before = a; after = b; to = moves_same a; turn = turn; behind = moves_same b }))
    by (inr (m, less, near)) = inr (inr (m, omega (arith, less), extends_behind other m turn.taken b.connections turn.waits near))

nearer_weaker : (a b : Tunnel) → ComesNearer 1 a b → ComesNearer 0 a b
nearer_weaker a b x id n far = by (x id n far)
  where
    by : HadTurn id a b ⊎ (HasLeft id a b ⊎ ((m : ℕ) × (m + 1 ≤ n) × IsBehind id m b.connections)) → HadTurn id a b ⊎ (HasLeft id a b ⊎ ((m : ℕ) × (m + 0 ≤ n) × IsBehind id m b.connections))
    by (inl had) = inl had
    by (inr (inl left)) = inr (inl left)
    by (inr (inr (m, less, near))) = inr (inr (m, omega (arith, less), near))

-- nothing of it was left to move
abbrev pub IsDone : ℕ → Tunnel → Type 0
IsDone id a = (l : Connection) → connection_of id a.connections ≡ Some l → (is_over l.directions ≡ true) ⊎ (is_running a.engine.session.status ≡ false)

-- one was dropped
nearer_left : (a b : Tunnel) (id : ℕ) → IsDone id a → Leaves id a b → LeavesQueues id a.connections b.connections → ComesNearer 0 a b
nearer_left a b id over left q other n far = by (nat_eq id other) refl
  where
    by : (t : Bool) → nat_eq id other ≡ t → HadTurn other a b ⊎ (HasLeft other a b ⊎ ((m : ℕ) × (m + 0 ≤ n) × IsBehind other m b.connections))
    by true t = inr (inl (subst (λ (x : ℕ). HasLeft x a b) (sym (eq_ids id other t)) (record { before = a; after = b; to = moves_same a; over = over; left = left; behind = moves_same b })))
    by false t = inr (inr (left_behind id other n a.connections b.connections t q far))

pub attends_same : (a : Tunnel) → Attends a a
attends_same a = record { serves = λ s. s; turns = nearer_extends a a (extends_same a.connections) }

pub attends_on : (a b : Tunnel) → (Serving a → Serving b) → Extends a.connections b.connections → Attends a b
attends_on a b serves e = record { serves = serves; turns = nearer_extends a b e }

pub attends_then : (a b c : Tunnel) → Moves a b → Moves b c → Attends a b → Attends b c → Attends a c
attends_then a b c m n x y = record { serves = λ s. y.serves (x.serves s); turns = nearer_then 0 0 a b c m n x.turns y.turns }

pub runs_same : (a : Tunnel) → Runs a a
runs_same a = record { moves = moves_same a; attends = attends_same a }

pub runs_then : (a b c : Tunnel) → Runs a b → Runs b c → Runs a c
runs_then a b c x y = record { moves = moves_then a b c x.moves y.moves; attends = attends_then a b c x.moves y.moves x.attends y.attends }

-- nobody's turn came
pub runs_on : (a b : Tunnel) → Moves a b → (Serving a → Serving b) → Extends a.connections b.connections → Runs a b
runs_on a b m serves e = record { moves = m; attends = attends_on a b serves e }

pub runs_keep : (a b : Tunnel) → Keeps a b → Runs a b
runs_keep a b x = runs_on a b x.moves x.serves x.connections.queues

-- the first had its turn
pub runs_turn : (a b : Tunnel) (id gave : ℕ) → Moves a b → (Serving a → Serving b) → ServesFirst id gave a b → Runs a b
runs_turn a b id gave m serves turn = record { moves = m; attends = record { serves = serves; turns = nearer_weaker a b (nearer_turn a b id gave turn) } }

-- one was dropped
pub runs_left_one : (a b : Tunnel) (id : ℕ) → Moves a b → (Serving a → Serving b) → IsDone id a → Leaves id a b → LeavesQueues id a.connections b.connections → Runs a b
runs_left_one a b id m serves over left q = record { moves = m; attends = record { serves = serves; turns = nearer_left a b id over left q } }

pub runs_from : (a b c : Tunnel) → a ≡ b → Runs a c → Runs b c
runs_from a b c e x = subst (λ (v : Tunnel). Runs v c) e x

-- ---- one that waits

pub serves_first : (a b : Tunnel) (id gave : ℕ) → ServesFirst id gave a b → ServesOne a b
serves_first a b id gave turn = nearer_turn a b id gave turn

pub one_then : (a b c : Tunnel) → Runs a b → ServesOne a b → Runs b c → ServesOne a c
one_then a b c r x y = nearer_then 1 0 a b c r.moves y.moves x y.attends.turns

pub then_one : (a b c : Tunnel) → Runs a b → Runs b c → ServesOne b c → ServesOne a c
then_one a b c x y one = nearer_then 0 1 a b c x.moves y.moves x.attends.turns one

-- none waited
pub serves_none : (a b : Tunnel) → IsIdle a.connections → ServesOne a b
serves_none a b idle id n far = none_behind id n a.connections idle far

-- ---- the steps of a tunnel

-- events of one kind, one after another
pub all_then : (p : Event → Bool) (es fs all : List (Event × Reply)) → all ≡ es ++ fs → list_all (λ e. p e.0) es ≡ true → list_all (λ e. p e.0) fs ≡ true → list_all (λ e. p e.0) all ≡ true
all_then p es fs all e x y = ap (list_all (λ (k : Event × Reply). p k.0)) e ∙ rw (list_all-append (λ (k : Event × Reply). p k.0) es fs, x, y) refl

pub keeps_none : (a : Tunnel) → Keeps a a
keeps_none a = record { moves = (moves_same_so a).0; own = ap (list_all (λ (e : Event × Reply). is_of_reading e.0)) (moves_same_so a).1; wire = refl; over = refl; connections = keeps_same a.connections; serves = λ s. s; memory = memory_same a.no_memory a.no_memory (moves_same_so a).0.events refl (ap rejections (moves_same_so a).1) }

pub keeps_on : (a b c : Tunnel) → Keeps a b → Keeps b c → Keeps a c
keeps_on a b c x y = let both = moves_then_so a b c x.moves y.moves in record {
  moves = both.0;
  own = all_then is_of_reading x.moves.events y.moves.events both.0.events both.3 x.own y.own;
  wire = y.wire ∙ x.wire;
  over = y.over ∙ x.over;
  connections = keeps_then a.connections b.connections c.connections x.connections y.connections;
  serves = λ s. y.serves (x.serves s);
  memory = memory_then a.no_memory b.no_memory c.no_memory x.moves.events y.moves.events both.0.events both.3 x.memory y.memory;
}

-- it read on, and then what waited was fed
pub reads_on_then : (a b c : Tunnel) → ReadsOn a b → Keeps b c → ReadsOn a c
reads_on_then a b c x k =
    let both = moves_then_so a b c x.runs.moves k.moves in
    record {
      runs = record { moves = both.0; attends = attends_then a b c x.runs.moves k.moves x.runs.attends (attends_on b c k.serves k.connections.queues) };
      own = all_then is_of_reading x.runs.moves.events k.moves.events both.0.events both.3 x.own k.own;
      memory = memory_then a.no_memory b.no_memory c.no_memory x.runs.moves.events k.moves.events both.0.events both.3 x.memory k.memory;
    }

pub reads_on_from : (a b c : Tunnel) → a ≡ b → ReadsOn a c → ReadsOn b c
reads_on_from a b c e x = subst (λ (v : Tunnel). ReadsOn v c) e x

pub keeps_from : (a b c : Tunnel) → a ≡ b → Keeps a c → Keeps b c
keeps_from a b c e x = subst (λ (v : Tunnel). Keeps v c) e x

-- ---- what the wire gave and took

some_before : (xs ys : List ℕ) → has_bytes xs ≡ true → has_bytes (xs ++ ys) ≡ true
some_before [] ys h = let no : ⊥ = cc in absurd no
some_before (x ∷ xs) ys h = refl

same_may : (b c : Tunnel) → c.wire ≡ b.wire → c.is_wire_over ≡ b.is_wire_over → may_have_bytes c ≡ may_have_bytes b
same_may b c wire over = rw (wire, over) refl

-- what was done after a read left the wire alone
pub reads_then : (a b c : Tunnel) → Reads a b → (m : Moves b c) → list_all (λ e. is_of_reading e.0) m.events ≡ true → c.wire ≡ b.wire → c.is_wire_over ≡ b.is_wire_over → c.no_memory ≡ count_on b.no_memory (rejections m.events) → Reads a c
reads_then a b c x m own wire over memory =
    let both = moves_then_so a b c x.moves m in
    record {
      moves = both.0;
      own = all_then is_of_reading x.moves.events m.events both.0.events both.3 x.own own;
      asks = λ fed may. by both.1 (x.asks fed may);
      fills = λ fed may on near.
          let whole = x.fills fed may (sym (same_may b c wire over) ∙ on) (ap (λ (s : Seen). s.marks.is_closing) (sym wire) ∙ near) in
          let all = ap length both.1 in
          let long = length-append x.moves.came m.came in
          omega (arith, whole, all, long);
      over = λ h. still (x.over (sym over ∙ h));
      memory = memory_then a.no_memory b.no_memory c.no_memory x.moves.events m.events both.0.events both.3 x.memory memory;
    }
  where
    still : (a.is_wire_over ≡ true) ⊎ WasOver a b → (a.is_wire_over ≡ true) ⊎ WasOver a c
    still (inl h) = inl h
    still (inr w) = inr (record { between = w.between; before = w.before; over = w.over; behind = moves_then w.between b c w.behind m })

    by : {came : List ℕ} → came ≡ x.moves.came ++ m.came → (has_bytes x.moves.came ≡ true) ⊎ (may_have_bytes b ≡ false) → (has_bytes came ≡ true) ⊎ (may_have_bytes c ≡ false)
    by e (inl some) = inl (ap has_bytes e ∙ some_before x.moves.came m.came some)
    by e (inr none) = inr (same_may b c wire over ∙ none)

-- one write after another that goes on
pub writes_then : (on : Bool) (a b c : Tunnel) → WritesOnce true a b → WritesOnce on b c → WritesOnce on a c
writes_then on a b c x y =
    let both = moves_then_so a b c x.writes.moves y.writes.moves in
    let goes = x.going refl in
    let some : has_bytes both.0.sent ≡ true = ap has_bytes both.2 ∙ some_before x.writes.moves.sent y.writes.moves.sent goes.2 in
    record {
      writes = record {
        moves = both.0;
        own = all_then is_of_flush x.writes.moves.events y.writes.moves.events both.0.events both.3 x.writes.own y.writes.own;
        offers = λ may due. inl some;
        all = λ may. y.writes.all goes.1;
        releases = λ may none. y.writes.releases goes.1 none;
      };
      going = λ h. (goes.0, (y.going h).1, some);
      connections = keeps_then a.connections b.connections c.connections x.connections y.connections;
      serves = λ s. y.serves (x.serves s);
      pull = y.pull ∙ x.pull;
      push = λ h. x.push (y.push h);
      ended = y.ended ∙ x.ended;
      shut = y.shut ∙ x.shut;
      memory = y.memory ∙ x.memory;
    }

pub runs_written : (on : Bool) (a b : Tunnel) → WritesOnce on a b → Runs a b
runs_written on a b x = runs_on a b x.writes.moves x.serves x.connections.queues

-- ---- rounds

pub has_read : (a b c d : Tunnel) → Moves a b → Reads b c → Moves c d → HasRead a d
has_read a b c d m reads n = record { before = b; after = c; to = m; reads = reads; behind = n }

pub has_read_then : (a b c : Tunnel) → HasRead a b → Moves b c → HasRead a c
has_read_then a b c x m = record { before = x.before; after = x.after; to = x.to; reads = x.reads; behind = moves_then x.after b c x.behind m }

pub then_has_read : (a b c : Tunnel) → Moves a b → HasRead b c → HasRead a c
then_has_read a b c m x = record { before = x.before; after = x.after; to = moves_then a b x.before m x.to; reads = x.reads; behind = x.behind }

pub has_written_then : (a b c : Tunnel) → HasWritten a b → Moves b c → HasWritten a c
has_written_then a b c x m = record { before = x.before; after = x.after; to = x.to; writes = x.writes; behind = moves_then x.after b c x.behind m }

pub then_has_written : (a b c : Tunnel) → Moves a b → HasWritten b c → HasWritten a c
then_has_written a b c m x = record { before = x.before; after = x.after; to = moves_then a b x.before m x.to; writes = x.writes; behind = x.behind }

pub read_once : (a b : Tunnel) → Reads a b → HasRead a b
read_once a b x = record { before = a; after = b; to = moves_same a; reads = x; behind = moves_same b }

pub written_once : (a b : Tunnel) → Writes a b → HasWritten a b
written_once a b x = record { before = a; after = b; to = moves_same a; writes = x; behind = moves_same b }
