-- Two sessions and their pipes played by computation: ample memory, frames in turn (this project's own).
use Rattle.std.specs.Prelude.{ℕ, zero, suc, ◌-◌, List, [], ◌∷◌, ◌++◌, length, take, drop, Bool, true, false, not, ◌&&◌, ◌||◌, ◌==◌, if◌then◌else◌, Option, None, Some}
use Rattle.ymx_header.specs.Headers.{header_of}
use Rattle.ymx_machine.specs.declared.types.Step.{Step}
use Rattle.ymx_machine.specs.declared.types.Step.TheVariants as step
use Rattle.ymx_machine.specs.declared.types.Answer.{Answer}
use Rattle.ymx_machine.specs.declared.types.Answer.TheVariants as answer
use Rattle.ymx_machine.specs.declared.types.Fed.{Fed}
use Rattle.ymx_model.specs.session.FramesDue.{is_empty}
use Rattle.ymx_model.specs.session.Pings.{first_asked}
use Rattle.ymx_model.specs.session.GoAway.{away_due}
use Rattle.ymx_model.specs.session.Tables.{round}
use Rattle.ymx_model.specs.session.Sessions.{Session, Incoming, is_broken, is_deaf}
use Rattle.ymx_model.specs.session.Sessions.Incoming.{Head, Payload}
use Rattle.ymx_model.specs.session.Calls.{Outcome, outcome, feed_end}
use Rattle.ymx_model.specs.session.Arrivals.{head_comes, piece_comes}
use Rattle.ymx_model.specs.session.Feeds.{is_stuck, byte_comes, why_of}
use Rattle.ymx_model.specs.session.Emissions.{Choice, begin, moves_on, no_answers}
use Rattle.ymx_machine.specs.shared.Limits.{data_limit}
use Rattle.ymx_model.specs.session.Emissions.Choice.{TheErrorDue, TheGoAway, TheAnswer, ThePing, AStream}
use Rattle.ymx_model.specs.world.Worlds.{World, pushed, without_front, stopped_now, mirror_world}
use Rattle.ymx_machine.specs.shared.Steps.{answer_of, is_of_a}

-- ---- emission

-- bytes that go out, and the session after them
pub record Poured : Type 0 where
  pub out : List ℕ
  pub state : Session

abbrev pub pick_stream : List ℕ → Choice
pick_stream [] = TheErrorDue
pick_stream (id ∷ ids) = AStream id data_limit

abbrev pub pick_ping : Option ℕ → List ℕ → Choice
pick_ping None ids = pick_stream ids
pick_ping (Some n) ids = ThePing n

-- the frame that is next in turn, if one is due
abbrev pub pick : Session → Choice
pick s =
    if s.error_due && is_broken s.status then TheErrorDue
    else if away_due s.away.here then TheGoAway
    else if not (no_answers s.answers) then TheAnswer
    else pick_ping (first_asked s.pings.pending) (round s.table)

-- a frame is begun, or the next in turn begins
abbrev pub ready : Session → Option Session
ready s = if is_empty s.outgoing.bytes then begin (pick s) s else Some s

abbrev pub poured_before : List ℕ → Poured → Poured
poured_before bytes p = record { out = bytes ++ p.out; state = p.state }

abbrev pub pour_bytes : (Session → ℕ → Poured) → ℕ → Session → List ℕ → Poured
pour_bytes more room t bytes = poured_before bytes (more (moves_on (length bytes) t) (room - length bytes))

abbrev pub pour_on : (Session → ℕ → Poured) → ℕ → Session → Option Session → Poured
pour_on more room s None = record { out = []; state = s }
pour_on more room s (Some t) = pour_bytes more room t (take room t.outgoing.bytes)

-- at most so many frames, into so many bytes
abbrev pub pour : (frames : ℕ) → Session → (room : ℕ) → Poured
pour zero s room = record { out = []; state = s }
pour (suc frames) s room = if room == 0 then record { out = []; state = s } else pour_on (pour frames) room s (ready s)

-- a frame has a byte at least, so there are at most as many frames as bytes
abbrev pub play_emit : (room : ℕ) → Session → Poured
play_emit room s = pour room s room

-- ---- feeds, by blocks

pub record Drunk : Type 0 where
  pub rest : List ℕ
  pub state : Session

-- one block: a piece of payload, a whole header, or one byte of a header
abbrev pub piece : (bytes part : List ℕ) → (id missing : ℕ) → (fin discarded : Bool) → Session → Drunk
piece bytes part id missing fin discarded s = record { rest = drop missing bytes; state = piece_comes part id missing fin discarded s }

abbrev pub whole_head : (bytes twelve : List ℕ) → Session → Drunk
whole_head bytes twelve s =
    if length twelve == 12 then record { rest = drop 12 bytes; state = head_comes false (header_of twelve) s }
    else record { rest = []; state = record s { incoming = Head bytes } }

abbrev pub block : (bytes : List ℕ) → Session → Incoming → Drunk
block [] s i = record { rest = []; state = s }
block (b ∷ bs) s (Head []) = whole_head (b ∷ bs) (take 12 (b ∷ bs)) s
block (b ∷ bs) s (Head (c ∷ cs)) = record { rest = bs; state = byte_comes false b s }
block (b ∷ bs) s (Payload id missing fin discarded) = piece (b ∷ bs) (take missing (b ∷ bs)) id missing fin discarded s

abbrev pub drink_on : (Drunk → Drunk) → Drunk → Drunk
drink_on more d =
    if is_empty d.rest || is_stuck d.state then d
    else if is_deaf d.state.status then record { rest = []; state = d.state }
    else more (block d.rest d.state d.state.incoming)

-- at most so many blocks
abbrev pub drink : (blocks : ℕ) → Drunk → Drunk
drink zero d = d
drink (suc blocks) d = drink_on (drink blocks) d

-- a block has a byte at least
abbrev pub drunk : List ℕ → Session → Drunk
drunk bytes s = drink (length bytes) (record { rest = bytes; state = s })

pub record FedDone : Type 0 where
  pub fed : Fed
  pub state : Session

abbrev pub fed_done : (all : ℕ) → Drunk → FedDone
fed_done all d = record {
  fed = record { taken = all - length d.rest; no_memory = 0; why = why_of d.state.status (is_empty d.rest) };
  state = d.state;
}

abbrev pub play_feed : List ℕ → Session → FedDone
play_feed bytes s = fed_done (length bytes) (drunk bytes s)

-- ---- the world

pub record Moved : Type 0 where
  pub answer : Answer
  pub world : World

abbrev pub called : World → Outcome → Moved
called w o = record { answer = answer_of o.reply; world = record w { a = o.next } }

abbrev pub emitted : World → Poured → Moved
emitted w p = record { answer = answer.Emitted (length p.out); world = record w { a = p.state; ab = pushed p.out w.ab } }

abbrev pub delivered : World → FedDone → Moved
delivered w f = record { answer = answer.Fed f.fed; world = record w { b = f.state; ab = without_front f.fed.taken w.ab } }

abbrev pub step_of_a : Step → World → Moved
step_of_a (step.At side call) w = called w (outcome call w.a)
step_of_a (step.Emit side room) w = emitted w (play_emit room w.a)
step_of_a (step.Deliver direction n) w = delivered w (play_feed (take n w.ab.bytes) w.b)
step_of_a (step.Stop direction) w = record { answer = answer.Done; world = record w { ab = stopped_now w.ab } }
step_of_a (step.End direction) w =
    if w.ab.stopped then record { answer = answer.Done; world = record w { b = feed_end w.b; ab = record w.ab { ended = true } } }
    else record { answer = answer.NotStopped; world = w }

abbrev pub mirror_moved : Moved → Moved
mirror_moved m = record { answer = m.answer; world = mirror_world m.world }

abbrev pub play_step : Step → World → Moved
play_step st w = if is_of_a st then step_of_a st w else mirror_moved (step_of_a st (mirror_world w))

-- the answers of some steps, and the world after them
pub record Played : Type 0 where
  pub answers : List Answer
  pub world : World

abbrev pub behind : Answer → Played → Played
behind given p = record { answers = given ∷ p.answers; world = p.world }

abbrev pub played : (World → Played) → Moved → Played
played more m = behind m.answer (more m.world)

abbrev pub play : List Step → World → Played
play [] w = record { answers = []; world = w }
play (st ∷ sts) w = played (play sts) (play_step st w)
