-- What a contract sees of the tunnel of one end, and what its calls leave alone (this project's own).
use Rattle.std.specs.Prelude.{ℕ, ◌≡◌, ◌⊎◌, ◌+◌, ◌&&◌, not, List, [], length, Bool, true, false, Option, option_map}
use Rattle.ymx_model.specs.session.Sessions.{Session}
use Rattle.ymx_model.specs.session.Feeds.{is_stuck}
use Rattle.ymx_model.specs.session.Emissions.{is_ready}
use Rattle.ymx_session.specs.Streams.{header_begun}
use Rattle.ymx_engine.specs.Exchanges.{has_bytes}

-- The session, the bytes that it emitted and the wire has not taken, and those that the wire gave and the session
-- has not taken.
pub record Engine : Type 0 where
  pub session : Session
  pub outgoing : List ℕ
  pub incoming : List ℕ

-- no byte came from the wire or went to it
pub record KeepsWire (old new : Engine) : Type 0 where
  pub outgoing : new.outgoing ≡ old.outgoing
  pub incoming : new.incoming ≡ old.incoming

-- All that the wire gave was fed; or the session takes no byte now, as it is broken or its row of answers is full.
abbrev pub IsFedOrStuck : Engine → Type 0
IsFedOrStuck e = (e.incoming ≡ []) ⊎ (is_stuck e.session ≡ true)

-- whether nothing is due, and the wire has taken all that was emitted
abbrev pub is_flushed : Engine → Bool
is_flushed e = not (has_bytes e.outgoing) && not (is_ready e.session)

-- Nothing is due, and the wire has taken all that was emitted.
abbrev pub IsFlushed : Engine → Type 0
IsFlushed e = (e.outgoing ≡ []) × (is_ready e.session ≡ false)

-- How many of the bytes that came stand after the last whole frame: those of a header that isn't whole, and those that the session has
-- not taken. None is said while the payload of a frame is under way.
abbrev pub unframed : Engine → Option ℕ
unframed e = option_map (λ n. n + length e.incoming) (header_begun e.session.incoming)
