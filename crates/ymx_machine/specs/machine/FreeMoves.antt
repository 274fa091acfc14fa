-- What may arrive at this side of the queue machine, at any time (this project's own).
use Rattle.std.specs.Prelude.{ℕ, ◌&&◌, ◌||◌, ◌≡◌, ◌+◌, ◌∷◌, ◌++◌, if◌then◌else◌, Bool, true, false, length, not, nat_le, Some, [], List}
use Rattle.ymx_machine.specs.shared.Limits.{most_offered, most_records}
use Rattle.ymx_machine.specs.stream.Streams.{Move, Stream, Allowed, after_move}
use Rattle.ymx_machine.specs.stream.Streams.Move.{SynOffered, SynRefused, Released, ResetArrives}
use Rattle.ymx_machine.specs.stream.Lanes.{is_unsaid}
use Rattle.ymx_machine.specs.machine.Machines.{Machine, recorded, hears}
use Rattle.ymx_machine.specs.stream.Lanes.Mark.{Said, Here}
use Rattle.ymx_machine.specs.shared.Lists.{look, change, drop_id}
use Rattle.ymx_machine.specs.machine.Machines.PingPlace.{Asked, There, Back}

-- Of one stream or of one mark. `counted`: the stream is refused because there was no memory for it.
pub data FreeMove : Type 0 where
  OfStream : (id : ℕ) (move : Move) → FreeMove
  SynArrives : (id : ℕ) (counted : Bool) → FreeMove
  AwayArrives : FreeMove
  PingThere : (number : ℕ) → FreeMove
  PingBack : (number : ℕ) → FreeMove

-- a SYN is a move of its own
abbrev pub move_is_syn : Move → Bool
move_is_syn SynOffered = true
move_is_syn SynRefused = true
move_is_syn _ = false

abbrev pub is_released : Move → Bool
is_released Released = true
is_released _ = false

-- a stream is refused if go away was said here, 256 streams are offered or 1,024 recorded
abbrev pub machine_refuses : Machine → Bool
machine_refuses m = not (is_unsaid m.me.away) || nat_le most_offered (length m.me.offered) || nat_le most_records (recorded m)

-- When it may: what comes from the other side only while this side hears. A refusal is counted only where nothing
-- but memory lacks.
abbrev pub MayMove : FreeMove → Machine → Type 0
MayMove (OfStream id move) m =
    ((is_released move || hears m) ≡ true) × (move_is_syn move ≡ false) × ((s : Stream) × (look id m.streams ≡ Some s) × Allowed move s)
MayMove (SynArrives id counted) m = (hears m ≡ true) × ((s : Stream) × (look id m.streams ≡ Some s) × Allowed SynOffered s) × ((counted && machine_refuses m) ≡ false)
MayMove AwayArrives m = (hears m ≡ true) × (m.you.away ≡ Said)
MayMove (PingThere number) m = (hears m ≡ true) × (look number m.you.pings ≡ Some Asked)
MayMove (PingBack number) m = (hears m ≡ true) × (look number m.me.pings ≡ Some There)

abbrev pub is_reset_arriving : Move → Bool
is_reset_arriving ResetArrives = true
is_reset_arriving _ = false

-- What it does. An offered stream whose reset arrives leaves the offered list.
abbrev pub moved_by : FreeMove → Machine → Machine
moved_by (OfStream id move) m = record m {
  streams = change id (after_move move) m.streams;
  me = if is_reset_arriving move then record m.me { offered = drop_id id m.me.offered } else m.me;
}
moved_by (SynArrives id counted) m =
    if machine_refuses m || counted then record m { streams = change id (after_move SynRefused) m.streams }
    else record m { streams = change id (after_move SynOffered) m.streams; me = record m.me { offered = m.me.offered ++ id ∷ [] } }
moved_by AwayArrives m = record m { you = record m.you { away = Here } }
moved_by (PingThere number) m = record m { you = record m.you { pings = change number (λ _. There) m.you.pings } }
moved_by (PingBack number) m = record m { me = record m.me { pings = change number (λ _. Back) m.me.pings } }

-- how many streams these moves refuse for lack of memory
abbrev pub counted_by : FreeMove → ℕ
counted_by (SynArrives id true) = 1
counted_by _ = 0

-- some moves, one after another, of which so many count
abbrev pub FreeMoves : List FreeMove → Machine → (counted : ℕ) → Machine → Type 0
FreeMoves [] m counted n = (n ≡ m) × (counted ≡ 0)
FreeMoves (move ∷ moves) m counted n =
    MayMove move m × ((more : ℕ) × (counted ≡ counted_by move + more) × FreeMoves moves (moved_by move m) more n)

-- records that were given up may go at any time
abbrev pub Releases : List ℕ → Machine → Machine → Type 0
Releases [] m n = n ≡ m
Releases (id ∷ ids) m n = MayMove (OfStream id Released) m × Releases ids (moved_by (OfStream id Released) m) n
