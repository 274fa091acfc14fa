-- What two tunnels carry between the devices of their streams (this project's own).
use Rattle.std.specs.Prelude.{ℕ, ◌≡◌, ◌++◌, List, true, false, None, Some, IfSome}
use Rattle.std.specs.Io.KnownBytes.{Appends, Consumes}
use Rattle.ymx_machine.specs.shared.Events.{Reply}
use Rattle.ymx_model.specs.session.Events.{Event}
use Rattle.ymx_engine.specs.Devices.{Seen}
use Rattle.ymx_engine.specs.Events.{taken, given, has_end, has_finish}
use Rattle.ymx_engine.specs.Lives.{Trades, IsIdle, Life}
use Rattle.ymx_engine.specs.Turns.{look}
use Rattle.ymx_joined.specs.Tunnels.{TunnelPair, Turn, HaveCome, events_at_a, events_at_b}

-- What a stream gave at one end is a beginning of what it took at the other. Where its end was read there, it is all of
-- it, and the stream was finished at the other.
pub record Carries (id : ℕ) (from to : List (Event × Reply)) : Type 0 where
  pub begins : (rest : List ℕ) × (taken id from ≡ given id to ++ rest)
  pub whole : has_end id to ≡ true → taken id from ≡ given id to
  pub finished : has_end id to ≡ true → has_finish id from ≡ true

-- A stream at both ends: its devices, one after the other, gave what it took and took what it gave; and it carries bytes
-- both ways.
pub record CarriesBoth (id : ℕ) (at_a at_b : List (Event × Reply)) (q : TunnelPair) : Type 0 where
  pub a : Life id at_a None (look id q.connections_a)
  pub b : Life id at_b None (look id q.connections_b)
  pub to_b : Carries id at_a at_b
  pub to_a : Carries id at_b at_a

-- Whatever two tunnels did, in whatever order, each stream carries what its devices gave.
abbrev pub TunnelsCarry : List Turn → Type 0
TunnelsCarry ts =
    (window_a first_a window_b first_b : ℕ) (q : TunnelPair) → HaveCome ts window_a first_a window_b first_b q →
    (id : ℕ) → CarriesBoth id (events_at_a ts) (events_at_b ts) q

-- What one device took is a beginning of what the other gave. Where its end was passed on, it is all of it, and the other
-- had no more to give.
pub record IsPassedOn (giver giver_new taker taker_new : Seen) : Type 0 where
  pub came : List ℕ
  pub went : List ℕ
  pub rest : List ℕ
  pub gave : Consumes giver.left giver_new.left came
  pub took : Appends taker.had taker_new.had went
  pub begins : came ≡ went ++ rest
  pub whole : taker.ended ≡ Some false → taker_new.ended ≡ Some true → came ≡ went
  pub all : taker.ended ≡ Some false → taker_new.ended ≡ Some true → IfSome giver.left (λ bytes. bytes ≡ came)

-- One device and no other was joined to this stream, if these are all events of its session: what was seen of it as it
-- joined, and as it left, or now. Before and after it no byte moved.
pub record HadOne (id : ℕ) (events : List (Event × Reply)) (joined last : Seen) : Type 0 where
  pub before : List (Event × Reply)
  pub during : List (Event × Reply)
  pub after : List (Event × Reply)
  pub all : events ≡ before ++ (during ++ after)
  pub still : IsIdle id before
  pub trades : Trades id during joined last
  pub left : IsIdle id after
