-- What a call that reads the wire does, step by step: no frame is fed that waits for a place (flags, this project's own limits).
use Rattle.std.specs.Prelude.{ℕ, ◌≡◌, ◌+◌, ◌-◌, ◌≤◌, ◌⊎◌, ◌∷◌, if◌then◌else◌, List, [], length, drop, false, None, Some}
use Rattle.std.specs.Io.KnownBytes.{Consumes}
use Rattle.ymx_machine.specs.declared.types.Reply.TheVariants as reply
use Rattle.ymx_model.specs.declared.types.Event.TheVariants as event
use Rattle.ymx_model.specs.session.Emissions.{in_turn}
use Rattle.ymx_model.specs.session.Histories.{Gives}
use Rattle.ymx_model.specs.session.Sessions.{is_running}
use Rattle.ymx_engine.specs.declared.row.Row.{Row}
use Rattle.ymx_engine.specs.Passes.{IsRow, behind_row, counts_of}
use Rattle.ymx_engine.specs.Places.{FeedsToFull, is_put_off, lacks_place}
use Rattle.ymx_engine.specs.Served.{Serving}
use Rattle.ymx_engine.specs.Steps.{Keeps, PassesPart}
use Rattle.ymx_engine.specs.Tunnels.{Tunnel}
use Rattle.ymx_engine.specs.Turns.{KeepsConnections, turns_left}

-- The wire was asked for bytes, as none waited. What it gave waits, and its first frame has not waited yet; or no more come, and the
-- session, which has lost its peer, heard that. Nobody who can be served was forgotten.
pub record PullsWire (old new : Tunnel) : Type 0 where
  pub none : old.engine.incoming ≡ []
  pub gave : Consumes old.wire.left new.wire.left new.engine.incoming
  pub heard : (new.engine.session ≡ old.engine.session) ⊎ ((is_running new.engine.session.status ≡ false) × Gives in_turn old.engine.session event.FeedEnd reply.Done new.engine.session)
  pub connections : KeepsConnections old.connections new.connections
  pub serves : Serving old → Serving new
  pub anew : new.connections.turns_to_place ≡ None

-- It was asked whether the next frame waits for a place. Where it lacks one, it is counted from now on for how many turns it waits.
pub record AsksPlace (old new : Tunnel) : Type 0 where
  pub engine : new.engine ≡ old.engine
  pub counts : new.connections ≡ record old.connections { turns_to_place = if lacks_place old.engine then Some (turns_left old.connections) else None }

-- Bytes that waited came, up to where the session was full after a frame, and nothing else happened. Nobody who can be served was
-- forgotten, and so each connection that may make a place waits for its turn. The frame after has not waited yet.
pub record FeedsOn (old new : Tunnel) : Type 0 where
  pub feeds : FeedsToFull old.engine new.engine
  pub keeps : Keeps old new
  pub anew : new.connections.turns_to_place ≡ None

-- the next frame didn't wait, and bytes came
abbrev pub FeedsFree : Tunnel → Tunnel → Type 0
FeedsFree old new = (is_put_off old ≡ false) × FeedsOn old new

-- Payload of one stream that waited in a row was offered to its device in one call. So many bytes of the row came then, and the
-- session has just what came of these, and of reads or a reset of this stream. None of the headers between opens a stream.
pub record OffersRow (row : Row) (count : ℕ) (old new : Tunnel) : Type 0 where
  pub is_row : IsRow row old.engine.incoming old.engine.session
  pub within : count + length (behind_row (counts_of row) old.engine.incoming) ≤ length old.engine.incoming
  pub part : PassesPart row.id old.engine.incoming old.engine.session new.engine.session old.connections new.connections count
  pub rest : new.engine.incoming ≡ drop count old.engine.incoming
  pub place : new.connections.turns_to_place ≡ old.connections.turns_to_place
  pub serves : Serving old → Serving new

-- A row was offered. Of its first frame that may have come too which the device didn't take, and no more.
pub record PassesRow (row : Row) (old new : Tunnel) : Type 0 where
  pub count : ℕ
  pub offered : Tunnel
  pub offers : OffersRow row count old offered
  pub behind : (new ≡ offered) ⊎ (FeedsOn offered new × (length offered.engine.incoming ≤ length new.engine.incoming + (row.first - count)))

-- one step of a call that reads
abbrev pub ReadsOnce : Tunnel → Tunnel → Type 0
ReadsOnce old new = PullsWire old new ⊎ (AsksPlace old new ⊎ (FeedsFree old new ⊎ ((row : Row) × PassesRow row old new)))

-- these steps, one after the other
abbrev pub ReadsSteps : List Tunnel → Tunnel → Tunnel → Type 0
ReadsSteps [] old new = new ≡ old
ReadsSteps (t ∷ ts) old new = ReadsOnce old t × ReadsSteps ts t new

-- nothing happened but such steps, so no frame came while it waited for a place
abbrev pub ReadsInPlace : Tunnel → Tunnel → Type 0
ReadsInPlace old new = (steps : List Tunnel) × ReadsSteps steps old new
