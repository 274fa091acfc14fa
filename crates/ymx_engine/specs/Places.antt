-- When a frame of the wire waits for a place, which a connection may make in its turn (flags, this project's own limits).
use Rattle.std.specs.Prelude.{ℕ, ◌≡◌, ◌⊎◌, ◌+◌, ◌-◌, ◌*◌, ◌==◌, ◌∷◌, ◌&&◌, if◌then◌else◌, nat_lt, List, [], length, take, drop, max, Bool, true, false}
use Rattle.std.specs.Option.{option_map_or}
use Rattle.ymx_header.specs.declared.header.Header.{Header}
use Rattle.ymx_header.specs.Headers.{header_of, has_syn}
use Rattle.ymx_model.specs.session.Feeds.{byte_comes, is_between}
use Rattle.ymx_model.specs.session.Sessions.{Session, Incoming, is_running}
use Rattle.ymx_model.specs.session.Sessions.Incoming.{Head, Payload}
use Rattle.ymx_session.specs.Opens.{records_left}
use Rattle.ymx_session.specs.Streams.{header_begun}
use Rattle.ymx_engine.specs.Engines.{Engine, IsFedOrStuck}
use Rattle.ymx_engine.specs.Exchanges.{has_bytes}
use Rattle.ymx_engine.specs.Tunnels.{Tunnel}
use Rattle.ymx_engine.specs.Turns.{turns_left}

-- the frame of this header opens a stream
abbrev pub is_opening : Header → Bool
is_opening h = nat_lt h.kind 2 && has_syn h

-- the first frame of these bytes may open a stream: it does, or its header isn't whole yet
abbrev pub may_open : List ℕ → Bool
may_open waits = if nat_lt (length waits) 12 then has_bytes waits else is_opening (header_of (take 12 waits))

-- a frame comes next that may open a stream, and there is no place for one: the peer's stream would be rejected
abbrev pub lacks_place : Engine → Bool
lacks_place e = (records_left e.session == 0) && option_map_or (λ n. n == 0) (header_begun e.session.incoming) false && may_open e.incoming

-- It waits: a connection that has ended may make place for it, and one still has its turn that waited for it before.
abbrev pub is_put_off : Tunnel → Bool
is_put_off t = lacks_place t.engine && nat_lt 0 (turns_left t.connections)

-- All that the wire gave was fed; or the session takes no byte now; or the next frame waits for a place.
abbrev pub IsFedOrWaits : Tunnel → Type 0
IsFedOrWaits t = IsFedOrStuck t.engine ⊎ (is_put_off t ≡ true)

-- How many bytes are fed at once. Within a header: what lacks of it, and a header for each place but the first. Within a payload: the
-- rest of it, and a header for each place. At least one.
abbrev pub limit_at : Incoming → (places : ℕ) → ℕ
limit_at (Head begun) places = 12 * max 1 places - length begun
limit_at (Payload id missing fin discarded) places = missing + 12 * places

abbrev pub feed_limit : Session → ℕ
feed_limit s = max 1 (limit_at s.incoming (records_left s))

-- between two frames of a session that runs, and there is no place for one more stream
abbrev pub is_full_between : Session → Bool
is_full_between s = is_running s.status && is_between s.incoming && (records_left s == 0)

-- All these bytes come, one after the other. One after which the session is full between two frames is the last of them.
abbrev pub StopsWhereFull : List ℕ → Session → Session → Type 0
StopsWhereFull [] s t = t ≡ s
StopsWhereFull (b ∷ bs) s t = (no_memory : Bool) × (is_full_between (byte_comes no_memory b s) ≡ true → bs ≡ []) × StopsWhereFull bs (byte_comes no_memory b s) t

-- Of what waited a beginning came, and where the session was full after a frame, it was the last. So whether the next one waits for a
-- place is asked before it comes.
pub record FeedsToFull (old new : Engine) : Type 0 where
  pub count : ℕ
  pub came : StopsWhereFull (take count old.incoming) old.session new.session
  pub rest : new.incoming ≡ drop count old.incoming
