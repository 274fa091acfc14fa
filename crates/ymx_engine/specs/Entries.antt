-- What a contract sees of what a map keeps of a connection (this project's own).
use Rattle.std.specs.Prelude.{ℕ, ◌≡◌, List, map, cond, nat_eq, option_map}
use Rattle.std.specs.Map.{lookup}
use Rattle.ymx_engine.specs.declared.connections.Connection.{Connection as Kept}
use Rattle.ymx_engine.specs.declared.connections.Entry.{Entry as KeptEntry}
use Rattle.ymx_engine.specs.Devices.{Seen}
use Rattle.ymx_engine.specs.Turns.{Connection, Entry}

-- what is seen of its device, and how its directions stand
abbrev pub connection_seen : {D : Type 0} → (D → Seen) → Kept D → Connection
connection_seen seen l = record { seen = seen l.device; directions = l.directions }

-- the same, and its marks
abbrev pub entry_seen : {D : Type 0} → (D → Seen) → KeptEntry D → Entry
entry_seen seen e = record { connection = connection_seen seen e.connection; is_queued = e.is_queued; is_held = e.is_held }

-- the same of each connection
abbrev pub entries_seen : {D : Type 0} → (D → Seen) → List (ℕ × KeptEntry D) → List (ℕ × Entry)
entries_seen seen es = map (λ e. (e.0, entry_seen seen e.1)) es

-- the entry of this stream is changed so, if it is there, and each other is what it was
abbrev pub Rewrites : {E : Type 0} → ℕ → (E → E) → List (ℕ × E) → List (ℕ × E) → Type 0
Rewrites id f old new = (other : ℕ) → lookup (nat_eq other) new ≡ cond (nat_eq id other) (option_map f (lookup (nat_eq id) old)) (lookup (nat_eq other) old)
