-- Two tunnels over two pipes in memory, what happened at each, and both as one run (this project's own).
use Rattle.std.specs.Prelude.{ℕ, ◌≡◌, ◌+◌, ◌++◌, ◌∷◌, List, [], Some}
use Rattle.ymx_machine.specs.declared.types.Side.{Side}
use Rattle.ymx_machine.specs.declared.types.Side.TheVariants.{A, B}
use Rattle.ymx_machine.specs.declared.types.Step.{Step}
use Rattle.ymx_machine.specs.shared.Events.{Reply}
use Rattle.ymx_model.specs.declared.types.Entry.{Entry}
use Rattle.ymx_model.specs.declared.types.Role.TheVariants.{Client, Server}
use Rattle.ymx_model.specs.session.Events.{Event}
use Rattle.ymx_model.specs.session.Sessions.{Session, new_session}
use Rattle.ymx_model.specs.session.Emissions.{in_turn}
use Rattle.ymx_headline.specs.Laws.{AreGood}
use Rattle.ymx_headline.specs.audit.Told.{IsOneRun}
use Rattle.ymx_engine.specs.Engines.{Engine}
use Rattle.ymx_engine.specs.Runs.{Runs}
use Rattle.ymx_engine.specs.Tunnels.{Tunnel}
use Rattle.ymx_engine.specs.Turns.{Connections}

-- The sessions of two tunnels with the bytes that each has under way, their connections, the bytes that A's wire took and B's has
-- not given, and those of the other way.
pub record TunnelPair : Type 0 where
  pub a : Engine
  pub b : Engine
  pub connections_a : Connections
  pub connections_b : Connections
  pub ab : List ℕ
  pub ba : List ℕ

-- a session, and no byte under way between it and its wire
abbrev pub engine_of : Session → Engine
engine_of s = record { session = s; outgoing = []; incoming = [] }

-- ---- a turn of one side, at which these events happened; it reads the pipe `from`, and writes to the pipe `to`

-- A tunnel made any number of calls. Its wire gave the front of the pipe `from`, and put what it took after the bytes of the
-- pipe `to`. It may also have failed, or said that no more bytes come.
pub record Works (es : List (Event × Reply)) (old new : Engine) (connections connections_new : Connections) (to from to_new from_new : List ℕ) : Type 0 where
  pub before : Tunnel
  pub after : Tunnel
  pub runs : Runs before after
  pub events : es ≡ runs.moves.events
  pub engine : before.engine ≡ old
  pub engine_new : after.engine ≡ new
  pub begins : before.connections ≡ connections
  pub ends : after.connections ≡ connections_new
  pub left : before.wire.left ≡ Some from
  pub left_new : after.wire.left ≡ Some from_new
  pub had : before.wire.had ≡ Some to
  pub had_new : after.wire.had ≡ Some to_new

-- ---- the turns of both

-- whose turn, and what happened at it
pub record Turn : Type 0 where
  pub side : Side
  pub events : List (Event × Reply)

-- one side's tunnel works, and the other's stays as it was
abbrev pub OneWorks : Side → List (Event × Reply) → TunnelPair → TunnelPair → Type 0
OneWorks A es p q = Works es p.a q.a p.connections_a q.connections_a p.ab p.ba q.ab q.ba × (q.b ≡ p.b) × (q.connections_b ≡ p.connections_b)
OneWorks B es p q = Works es p.b q.b p.connections_b q.connections_b p.ba p.ab q.ba q.ab × (q.a ≡ p.a) × (q.connections_a ≡ p.connections_a)

-- now one, now the other, from p to q
abbrev pub BothWork : List Turn → TunnelPair → TunnelPair → Type 0
BothWork [] p q = q ≡ p
BothWork (t ∷ ts) p q = (next : TunnelPair) × OneWorks t.side t.events p next × BothWork ts next q

abbrev pub at_a : Side → List (Event × Reply) → List (Event × Reply)
at_a A es = es
at_a B es = []

abbrev pub at_b : Side → List (Event × Reply) → List (Event × Reply)
at_b A es = []
at_b B es = es

-- all that happened at A, and at B
abbrev pub events_at_a : List Turn → List (Event × Reply)
events_at_a [] = []
events_at_a (t ∷ ts) = at_a t.side t.events ++ events_at_a ts

abbrev pub events_at_b : List Turn → List (Event × Reply)
events_at_b [] = []
events_at_b (t ∷ ts) = at_b t.side t.events ++ events_at_b ts

-- Two tunnels of sessions that had done nothing, a client's and a server's, of good windows and first ids, with no connection and
-- over empty pipes, took these turns, and have come to q.
pub record HaveCome (ts : List Turn) (window_a first_a window_b first_b : ℕ) (q : TunnelPair) : Type 0 where
  pub good : AreGood window_a first_a window_b first_b
  pub new : TunnelPair
  pub a : new.a ≡ engine_of (new_session Client window_a first_a)
  pub b : new.b ≡ engine_of (new_session Server window_b first_b)
  pub none_a : new.connections_a.by_id ≡ []
  pub none_b : new.connections_b.by_id ≡ []
  pub ab : new.ab ≡ []
  pub ba : new.ba ≡ []
  pub work : BothWork ts new q

-- ---- both as one run

-- the events of a tunnel as entries, whose positions go up by one; one caller made them all
abbrev pub entries_from : ℕ → List (Event × Reply) → List Entry
entries_from at [] = []
entries_from at (e ∷ es) = record { position = at; seat = 0; event = e.0; reply = e.1 } ∷ entries_from (at + 1) es

abbrev pub entries : List (Event × Reply) → List Entry
entries events = entries_from 0 events

-- All that happened at two tunnels is one run of the world and of the queue machine, whatever they did, in whatever order.
abbrev pub AreOneTunnelRun : List Turn → Type 0
AreOneTunnelRun ts =
    (window_a first_a window_b first_b : ℕ) (q : TunnelPair) → HaveCome ts window_a first_a window_b first_b q →
    (steps : List Step) × IsOneRun in_turn (entries (events_at_a ts)) (entries (events_at_b ts)) steps window_a first_a window_b first_b q.a.session q.b.session
