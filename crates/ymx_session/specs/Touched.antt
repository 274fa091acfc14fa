-- Which streams what came has changed (this project's own).
use Rattle.std.specs.Prelude.{◌≡◌, ◌⊎◌, ℕ, ◌+◌, ◌<◌, ◌≤◌, ◌&&◌, not, None, nat_eq, nat_lt, ◌==◌, List, [], ◌∷◌, ◌++◌, length, Bool, true, false, ◌||◌, if◌then◌else◌, Option, IfSome}
use Rattle.std.specs.List.{All, list_any, IsDistinct}
use Rattle.ymx_header.specs.declared.header.Header.{Header}
use Rattle.ymx_header.specs.Headers.{has_syn, header_of}
use Rattle.ymx_header.specs.Frames.{fault_of}
use Rattle.ymx_machine.specs.shared.Limits.{most_records}
use Rattle.ymx_machine.specs.shared.Lists.{look}
use Rattle.ymx_model.specs.session.Sessions.{Session, Incoming}
use Rattle.ymx_model.specs.session.Sessions.Incoming.{Head, Payload}
use Rattle.ymx_model.specs.session.Feeds.{Takes}

-- The ids of the streams that were touched, in the order of their first touch; whether others were touched too;
-- whether an answer to a ping came; and whether there is no memory for ids, so that `all` is always said.
pub record Noted : Type 0 where
  pub ids : List ℕ
  pub all : Bool
  pub ponged : Bool
  pub blind : Bool

-- nothing was touched; one that is blind says all
abbrev pub nothing_noted : Bool → Noted
nothing_noted blind = record { ids = []; all = blind; ponged = blind; blind = blind }

-- the stream is among those that were touched, or may be
abbrev pub is_noted : ℕ → Noted → Bool
is_noted id t = t.all || list_any (nat_eq id) t.ids

-- the stream is touched: where 1,024 others were, all are
abbrev pub note : ℕ → Noted → Noted
note id t =
    if is_noted id t then t
    else if nat_lt (length t.ids) most_records then record t { ids = t.ids ++ id ∷ [] }
    else record t { all = true }

-- whom a header touches: its stream, or those who wait for the answer to a ping
abbrev pub note_head : Header → Noted → Noted
note_head h t =
    if h.kind == 2 then (if has_syn h then t else record t { ponged = true })
    else if h.kind == 3 then t
    else note h.id t

-- What was noted stays so, ids are added after the others, and `all` is said only where 1,024 are there.
pub record StaysNoted (old new : Noted) : Type 0 where
  pub ids : (more : List ℕ) × (new.ids ≡ old.ids ++ more)
  pub all : old.all ≡ true → new.all ≡ true
  pub ponged : old.ponged ≡ true → new.ponged ≡ true
  pub blind : new.blind ≡ old.blind
  pub full : new.all ≡ true → (old.all ≡ true) ⊎ (most_records ≤ length new.ids)

-- The stream that the header of a frame is of, if it is one's.
abbrev pub is_head_of : ℕ → Header → Bool
is_head_of id h = nat_lt h.kind 2 && h.id == id

-- an answer to a ping
abbrev pub is_pong : Header → Bool
is_pong h = h.kind == 2 && not (has_syn h)

-- With these bytes, which follow what has come, a header that passes is whole and has no fault by itself; or they
-- are of a payload that a record takes, of a stream that passes.
abbrev pub IsPartOf : (head : Header → Bool) (stream : ℕ → Bool) (window : ℕ) → List ℕ → Incoming → Type 0
IsPartOf head stream window bytes (Head seen) =
    (length seen + length bytes ≡ 12) × (fault_of window (header_of (seen ++ bytes)) ≡ None) × (head (header_of (seen ++ bytes)) ≡ true)
IsPartOf head stream window bytes (Payload id missing fin discarded) = (0 < length bytes) × (discarded ≡ false) × (stream id ≡ true)

-- Such a part came among the bytes that s takes.
pub record Came (head : Header → Bool) (stream : ℕ → Bool) (bytes : List ℕ) (s : Session) : Type 0 where
  pub before : List ℕ
  pub part : List ℕ
  pub behind : List ℕ
  pub at : Session
  pub starved : ℕ
  pub are : bytes ≡ before ++ (part ++ behind)
  pub reached : Takes before s at starved
  pub came : IsPartOf head stream at.table.window part at.incoming

-- a part of a frame of this stream came: the end of its header, or payload of it
abbrev pub FrameCame : ℕ → List ℕ → Session → Type 0
FrameCame id = Came (is_head_of id) (nat_eq id)

-- Who is noted anew was touched: each id by a frame of its stream among these bytes, pings by an answer among them.
pub record NotesOnly (bytes : List ℕ) (s : Session) (old new : Noted) : Type 0 where
  pub ids : (more : List ℕ) × (new.ids ≡ old.ids ++ more) × All (λ id. FrameCame id bytes s) more
  pub pongs : new.ponged ≡ true → (old.ponged ≡ true) ⊎ Came is_pong (λ id. false) bytes s

-- Between s and t no record has changed but those of the streams noted, and no ping, unless that is noted.
pub record NotesChanges (s t : Session) (noted : Noted) : Type 0 where
  pub streams : (id : ℕ) → is_noted id noted ≡ false → look id t.table.entries ≡ look id s.table.entries
  pub pongs : noted.ponged ≡ false → t.pings ≡ s.pings

-- Each id is there once, and there is memory for 1,024; the last that was touched is among them.
pub record KeepsIds (ids : List ℕ) (capacity : ℕ) (last : Option ℕ) (all ponged blind : Bool) : Type 0 where
  pub distinct : IsDistinct nat_eq ids
  pub few : length ids ≤ most_records
  pub room : blind ≡ false → most_records ≤ capacity
  pub told : blind ≡ true → all ≡ true
  pub told_pongs : blind ≡ true → ponged ≡ true
  pub recent : IfSome last (λ id. list_any (nat_eq id) ids ≡ true)
