-- What a tunnel moves over any number of turns (this project's own).
use Rattle.std.specs.Prelude.{ℕ, ◌≡◌, ◌||◌, ◌++◌, List, Bool, false, option_map}
use Rattle.std.specs.Io.KnownBytes.{Appends, Consumes}
use Rattle.ymx_model.specs.session.Events.{Event}
use Rattle.ymx_machine.specs.shared.Events.{Reply}
use Rattle.ymx_engine.specs.Events.{Happen, has_open_with}
use Rattle.ymx_engine.specs.Wires.{fed, emitted, has_feed_end, FeedsFront}
use Rattle.ymx_engine.specs.Tunnels.{Tunnel}
use Rattle.ymx_engine.specs.Turns.{look}
use Rattle.ymx_engine.specs.Lives.{Life}

-- Nothing happened but these events, at which no stream was opened with its first bytes. What the wire gave was fed in order or
-- waits; what was emitted was sent in order or waits; the session heard of an end exactly if the wire said so, failed, or was
-- shut here; and each line moved what its stream did.
pub record Moves (old new : Tunnel) : Type 0 where
  pub events : List (Event × Reply)
  pub happen : Happen events old.engine.session new.engine.session
  pub plain : has_open_with events ≡ false
  pub came : List ℕ
  pub gave : Consumes old.wire.left new.wire.left came
  pub fronts : FeedsFront (old.engine.incoming ++ came) events
  pub from_wire : old.engine.incoming ++ came ≡ fed events ++ new.engine.incoming
  pub sent : List ℕ
  pub took : Appends old.wire.had new.wire.had sent
  pub to_wire : old.engine.outgoing ++ emitted events ≡ sent ++ new.engine.outgoing
  pub said_end : Bool
  pub over : new.wire.over ≡ option_map (λ b. b || said_end) old.wire.over
  pub fails : Bool
  pub failed : new.wire.failed ≡ option_map (λ b. b || fails) old.wire.failed
  pub ends : Bool
  pub ended : new.wire.ended ≡ option_map (λ b. b || ends) old.wire.ended
  pub shuts : Bool
  pub shut : new.wire.shut ≡ option_map (λ b. b || shuts) old.wire.shut
  pub lost : has_feed_end events ≡ (said_end || fails || shuts)
  pub connections : (id : ℕ) → Life id events (look id old.connections) (look id new.connections)
