-- The stages of a delivery, as the queue machine stands at each (this project's own).
use Rattle.std.specs.Prelude.{◌≡◌, ◌≢◌, ◌<◌, ◌≤◌, ◌⊎◌, ◌++◌, ◌∷◌, ℕ, List, [], true, false, Option, Some, None}
use Rattle.ymx_machine.specs.shared.Phases.{is_unborn, is_lingering}
use Rattle.ymx_machine.specs.shared.Phases.Phase.{Unborn, Offered, Live, Refused}
use Rattle.ymx_machine.specs.stream.Lanes.{is_unsaid}
use Rattle.ymx_machine.specs.stream.Lanes.Mark.{Unsaid, Here}
use Rattle.ymx_machine.specs.stream.Streams.{Stream}
use Rattle.ymx_machine.specs.machine.Machines.{Machine, new_side, new_machine}
use Rattle.ymx_model.specs.world.Worlds.{World}
use Rattle.ymx_headline.specs.Agrees.{Agrees}
use Rattle.ymx_headline.specs.Laws.{IsOpenWorld}

-- ---- the stream of a delivery, as A sees it, and who waits at B to be accepted

-- Nothing has come to B. These bytes are on their way, and at least `room` more may be written.
pub record IsWritable (room : ℕ) (bytes : List ℕ) (s : Stream) (offered : List ℕ) : Type 0 where
  pub own : s.own ≡ true
  pub me : s.me ≡ Live
  pub you : s.you ≡ Unborn
  pub here : s.outbound.here ≡ []
  pub way : s.outbound.way ≡ bytes
  pub fin : s.outbound.fin ≡ Unsaid
  pub rst_outbound : s.rst_outbound ≡ Unsaid
  pub rst_inbound : s.rst_inbound ≡ Unsaid
  pub credit : room ≤ s.outbound.credit
  pub offered_none : offered ≡ []

-- B doesn't know the stream yet, or it waits there to be accepted
abbrev pub IsBeforeAccept : ℕ → Stream → List ℕ → Type 0
IsBeforeAccept id s offered = ((s.you ≡ Unborn) × (offered ≡ [])) ⊎ ((s.you ≡ Offered) × (offered ≡ id ∷ []))

-- A has finished. These bytes have come to B, or are on their way.
pub record IsComing (id : ℕ) (bytes : List ℕ) (s : Stream) (offered : List ℕ) : Type 0 where
  pub own : s.own ≡ true
  pub me : s.me ≡ Live
  pub you : IsBeforeAccept id s offered
  pub split : s.outbound.here ++ s.outbound.way ≡ bytes
  pub fin : is_unsaid s.outbound.fin ≡ false
  pub rst_outbound : s.rst_outbound ≡ Unsaid
  pub rst_inbound : s.rst_inbound ≡ Unsaid

-- B has refused the stream. In a delivery nothing but memory lacks for it, so it counts among the streams that were
-- refused for lack of memory.
pub record IsRefused (no_memory : ℕ) (s : Stream) (offered : List ℕ) : Type 0 where
  pub own : s.own ≡ true
  pub you : s.you ≡ Refused
  pub born : is_unborn s.me ≡ false
  pub stays : is_lingering s.me ≡ false
  pub offered_none : offered ≡ []
  pub counts : 0 < no_memory

-- while A's bytes are carried, on whose way so many streams were refused for lack of memory
abbrev pub IsComingOrRefused : (no_memory id : ℕ) → List ℕ → Stream → List ℕ → Type 0
IsComingOrRefused no_memory id bytes s offered = IsComing id bytes s offered ⊎ IsRefused no_memory s offered

-- the bytes and the end after them have come, and the stream waits to be accepted
pub record IsThere (id : ℕ) (bytes : List ℕ) (s : Stream) (offered : List ℕ) : Type 0 where
  pub you : s.you ≡ Offered
  pub here : s.outbound.here ≡ bytes
  pub fin : s.outbound.fin ≡ Here
  pub offered_one : offered ≡ id ∷ []

-- and when they were carried
abbrev pub IsDecided : (no_memory id : ℕ) → List ℕ → Stream → List ℕ → Type 0
IsDecided no_memory id bytes s offered = IsThere id bytes s offered ⊎ IsRefused no_memory s offered

-- B has accepted the stream. These bytes are left to be read, and then comes the end.
pub record IsReadable (rest : List ℕ) (s : Stream) (offered : List ℕ) : Type 0 where
  pub you : s.you ≡ Live
  pub here : s.outbound.here ≡ rest
  pub fin : s.outbound.fin ≡ Here
  pub offered_none : offered ≡ []

-- What a read gives that had room for all that was left: all of it, or the end where nothing was.
abbrev pub IsRead : (rest : List ℕ) → Option (List ℕ) → Type 0
IsRead rest (Some bytes) = (bytes ≡ rest) × (rest ≢ [])
IsRead rest None = rest ≡ []

-- ---- the world

-- what stays as it is: the windows and the next stream numbers of both sides
pub record Numbers : Type 0 where
  pub mine : ℕ
  pub next : ℕ
  pub yours : ℕ
  pub your_next : ℕ

-- a machine that has one stream, and in which nothing else was done
abbrev pub alone : Numbers → ℕ → Stream → List ℕ → Machine
alone k id s offered = record {
  streams = (id, s) ∷ [];
  me = new_side k.mine k.next;
  you = record (new_side k.yours k.your_next) { offered = offered };
  outbound_stopped = false;
  inbound_stopped = false;
}

-- Nothing was stopped, ended, closed or broken, and a machine that agrees with the world has one stream, which is so.
pub record Stands (id : ℕ) (Stage : Stream → List ℕ → Type 0) (w : World) : Type 0 where
  pub open_world : IsOpenWorld w
  pub numbers : Numbers
  pub stream : Stream
  pub offered : List ℕ
  pub agrees : Agrees w (alone numbers id stream offered)
  pub stage : Stage stream offered

-- a world of two sessions that have done nothing, and whose first stream numbers are the least
pub record IsNewWorld (w : World) : Type 0 where
  pub open_world : IsOpenWorld w
  pub window_a : ℕ
  pub window_b : ℕ
  pub agrees : Agrees w (new_machine window_a 1 window_b 2)
