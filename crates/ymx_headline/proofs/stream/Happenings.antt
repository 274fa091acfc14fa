-- What happens at two sides of all streams, and the steps of the machine's streams beside it.
use Rattle.std.specs.Prelude.{ℕ, ◌≡◌, ◌≢◌, ◌≤◌, ◌⊎◌, List, [], ◌∷◌, ◌++◌, length, take, drop, Bool, true, false, ◌==◌, if◌then◌else◌, Option, None, Some}
use Rattle.ymx_machine.specs.shared.Limits.{first_credit}
use Rattle.ymx_machine.specs.stream.Streams.{Stream, flip, Allowed, after_move, IsStill, opened_stream, stream_write, stream_accept}
use Rattle.ymx_machine.specs.shared.Phases.Phase.{Unborn, Offered, Live, Lingering}
use Rattle.ymx_machine.specs.stream.Streams.Move.{Released}
use Rattle.ymx_machine.specs.stream.StreamRules.{StreamCall, StreamRule}
use Rattle.ymx_machine.specs.shared.Events.{Reply}
use Rattle.ymx_machine.specs.declared.types.Reply.TheVariants.{Refused}
use Rattle.ymx_machine.specs.declared.types.CallFault.TheVariants.{NoStream}
use Rattle.ymx_model.specs.session.Records.{End, new_end, end_write, end_accept, receive_data}
use Rattle.ymx_model.specs.declared.types.FrameKind.{FrameKind}
use Rattle.ymx_model.specs.session.FramesDue.{next_kind, begin_frame}
use Rattle.ymx_model.specs.session.Parts.{Part, parts_of}
use Rattle.ymx_model.specs.session.Parts.Part.{Data}
use Rattle.ymx_headline.specs.stream.Flight.{load}
use Rattle.ymx_headline.specs.stream.Arrivals.{comes_to, Goes}
use Rattle.ymx_headline.specs.stream.Answers.{EndRule, end_released}
use Rattle.ymx_headline.specs.stream.OneStream.{IsQuiet}
use Rattle.ymx_headline.proofs.stream.Faults.{BreaksNothing}
use Rattle.ymx_headline.specs.stream.Worlds.{parts_of_stream, tagged, StreamSide, StreamWorld, Streams}
use Rattle.std.specs.Prelude.{ℕ, ◌+◌, ◌≡◌, List, [], ◌∷◌, ◌++◌, Bool, true, false}
use Rattle.ymx_model.specs.session.Parts.{Part}
use Rattle.ymx_model.specs.session.Parts.Part.{Data}
use Rattle.ymx_headline.specs.stream.Flight.{load}

-- a payload
abbrev pub part_is_data : Part → Bool
part_is_data (Data b) = true
part_is_data _ = false

-- at j this, and elsewhere as before
abbrev pub put : {A : Type 0} → ℕ → A → (ℕ → A) → ℕ → A
put j v f i = if i == j then v else f i

-- the same from the other side
abbrev pub stream_mirror : StreamWorld → StreamWorld
stream_mirror w = record { a = w.b; b = w.a; ab = w.ba; ba = w.ab; ab_stopped = w.ba_stopped; ba_stopped = w.ab_stopped }

-- no stream was opened yet: my window, your window
abbrev pub new_streams : ℕ → ℕ → StreamWorld
new_streams mine yours = record {
  a = record { window = mine; over = false; ends = λ i. new_end mine Unborn false false };
  b = record { window = yours; over = false; ends = λ i. new_end yours Unborn false false };
  ab = [];
  ba = [];
  ab_stopped = false;
  ba_stopped = false;
}

abbrev pub no_streams : Streams
no_streams i = None

abbrev pub flip_some : Option Stream → Option Stream
flip_some None = None
flip_some (Some s) = Some (flip s)

-- as the other side sees them
abbrev pub mirrored : Streams → Streams
mirrored m i = flip_some (m i)

-- the stream j goes from s to t, and all others stay
pub record Changes (j : ℕ) (s t : Stream) (m n : Streams) : Type 0 where
  pub here : m j ≡ Some s
  pub now : n j ≡ Some t
  pub others : (i : ℕ) → i ≢ j → n i ≡ m i

-- the stream j is new, and all others stay
pub record Adds (j : ℕ) (t : Stream) (m n : Streams) : Type 0 where
  pub none : m j ≡ None
  pub now : n j ≡ Some t
  pub others : (i : ℕ) → i ≢ j → n i ≡ m i

abbrev pub Same : Streams → Streams → Type 0
Same m n = (i : ℕ) → n i ≡ m i

pub data Act : Type 0 where
  -- the stream j is opened with these first bytes, whose SYN carries data or not
  Opens : (j : ℕ) → (with_data : Bool) → (bytes : List ℕ) → Act
  -- a call on the stream j has this reply, and the end is then `next`
  Calls : (j : ℕ) → (call : StreamCall) → (reply : Reply) → (next : End) → Act
  Accepts : (j : ℕ) → Act
  -- the frame of the stream j that is due goes out, of this kind, with this limit of its payload
  Sends : (j : ℕ) → (k : FrameKind) → (limit : ℕ) → Act
  -- the oldest part comes whole; a SYN may be refused
  Comes : (refuse : Bool) → Act
  -- n bytes of the oldest part, a payload, come
  ComesIn : (n : ℕ) → Act
  -- an end given up goes
  Releases : (j : ℕ) → Act
  -- this side is lost or closed
  Ends : Act
  -- the direction towards this side stops
  Stops : Act

pub data Happening : Type 0 where
  AtA : (act : Act) → Happening
  AtB : (act : Act) → Happening

abbrev pub put_end : ℕ → End → StreamSide → StreamSide
put_end j e s = record s { ends = put j e s.ends }

-- what is left of a payload of which n bytes came
abbrev pub rest_of : ℕ → Part → Part
rest_of n f = Data (drop n (load f))

abbrev pub came : Bool → List (ℕ × Part) → StreamWorld → StreamWorld
came refuse [] w = w
came refuse (p ∷ ps) w = record w { a = put_end p.0 (comes_to refuse w.a.window p.1 (w.a.ends p.0)) w.a; ba = ps }

abbrev pub came_in : ℕ → List (ℕ × Part) → StreamWorld → StreamWorld
came_in n [] w = w
came_in n (p ∷ ps) w = record w { a = put_end p.0 (receive_data (take n (load p.1)) (w.a.ends p.0)) w.a; ba = (p.0, rest_of n p.1) ∷ ps }

-- the two sides after an act at side a
abbrev pub acts : Act → StreamWorld → StreamWorld
acts (Opens j with_data bytes) w = record w { a = put_end j (end_write bytes (new_end w.a.window Live true with_data)) w.a }
acts (Calls j call reply next) w = record w { a = put_end j next w.a }
acts (Accepts j) w = record w { a = put_end j (end_accept w.a.over (w.a.ends j)) w.a }
acts (Sends j k limit) w = record w {
  a = put_end j (begin_frame w.a.window limit k (w.a.ends j)) w.a;
  ab = w.ab ++ tagged j (parts_of k w.a.window limit (w.a.ends j));
}
acts (Comes refuse) w = came refuse w.ba w
acts (ComesIn n) w = came_in n w.ba w
acts (Releases j) w = record w { a = put_end j (end_released (w.a.ends j)) w.a }
acts Ends w = record w { a = record w.a { over = true } }
acts Stops w = record w { ba_stopped = true }

abbrev pub happens : Happening → StreamWorld → StreamWorld
happens (AtA act) w = acts act w
happens (AtB act) w = stream_mirror (acts act (stream_mirror w))

abbrev pub is_payload : List (ℕ × Part) → Bool
is_payload [] = false
is_payload (p ∷ ps) = part_is_data p.1

-- When it may happen: a stream is opened under a number that neither side has used; a call is answered
-- by the end's own rule; an offered stream is accepted; what is due goes out, and what is under way
-- comes, while the side isn't over and the direction hasn't stopped; an end given up goes when nothing of it is due.
abbrev pub Can : Act → StreamWorld → Type 0
Can (Opens j with_data bytes) w =
    (w.a.over ≡ false) × ((w.a.ends j).phase ≡ Unborn) × ((w.b.ends j).phase ≡ Unborn) × (length bytes ≤ first_credit)
Can (Calls j call reply next) w = EndRule w.a.over call (w.a.ends j) reply next
Can (Accepts j) w = (w.a.ends j).phase ≡ Offered
Can (Sends j k limit) w = (w.a.over ≡ false) × (next_kind w.a.window (w.a.ends j) ≡ Some k)
Can (Comes refuse) w = (w.a.over ≡ false) × (w.ba_stopped ≡ false)
Can (ComesIn n) w = (w.a.over ≡ false) × (w.ba_stopped ≡ false) × (is_payload w.ba ≡ true)
Can (Releases j) w = ((w.a.ends j).phase ≡ Lingering) × ((w.a.over ≡ true) ⊎ (next_kind w.a.window (w.a.ends j) ≡ None))
Can Ends w = Unit {0}
Can Stops w = Unit {0}

abbrev pub CanHappen : Happening → StreamWorld → Type 0
CanHappen (AtA act) w = Can act w
CanHappen (AtB act) w = Can act (stream_mirror w)

-- the machine's moves where the oldest part comes, which breaks no rule
abbrev pub Delivers : (refuse : Bool) → (arrived : Part → Part) → List (ℕ × Part) → StreamWorld → Streams → Streams → Type 0
Delivers refuse arrived [] w m n = Same m n
Delivers refuse arrived (p ∷ ps) w m n =
    (s : Stream) × (t : Stream) × BreaksNothing w.b.window s.own p.1 (parts_of_stream p.0 ps) (w.a.ends p.0) × Goes refuse (arrived p.1) s t × Changes p.0 s t m n

-- the streams' step of an act at side a: a call by its rule, with this answer; what goes out changes nothing; what comes makes moves
abbrev pub StreamSteps : Act → StreamWorld → Streams → Streams → Type 0
StreamSteps (Opens j with_data bytes) w m n = Adds j (stream_write bytes (opened_stream w.a.window w.b.window)) m n
StreamSteps (Calls j call reply next) w m n =
    ((s : Stream) × (t : Stream) × StreamRule w.a.over call s reply t × Changes j s t m n)
    ⊎ ((m j ≡ None) × (reply ≡ Refused NoStream) × Same m n)
StreamSteps (Accepts j) w m n = (s : Stream) × (s.me ≡ Offered) × Changes j s (stream_accept w.a.over s) m n
StreamSteps (Sends j k limit) w m n = Same m n
StreamSteps (Comes refuse) w m n = Delivers refuse (λ f. f) w.ba w m n
StreamSteps (ComesIn k) w m n = Delivers false (λ f. Data (take k (load f))) w.ba w m n
StreamSteps (Releases j) w m n = (s : Stream) × Allowed Released s × Changes j s (after_move Released s) m n
StreamSteps Ends w m n = Same m n
StreamSteps Stops w m n = Same m n

abbrev pub StreamStepsAt : Happening → StreamWorld → Streams → Streams → Type 0
StreamStepsAt (AtA act) w m n = StreamSteps act w m n
StreamStepsAt (AtB act) w m n = StreamSteps act (stream_mirror w) (mirrored m) (mirrored n)

-- nothing is due and nothing under way, and no side is over
pub record IsQuietWorld (w : StreamWorld) : Type 0 where
  pub a_runs : w.a.over ≡ false
  pub b_runs : w.b.over ≡ false
  pub ab : w.ab ≡ []
  pub ba : w.ba ≡ []
  pub a : (i : ℕ) → IsQuiet w.a.window (w.a.ends i)
  pub b : (i : ℕ) → IsQuiet w.b.window (w.b.ends i)

abbrev pub StillIf : (wx wy : ℕ) → Option Stream → Type 0
StillIf wx wy None = Unit {0}
StillIf wx wy (Some s) = IsStill wx wy s

-- every stream is still
abbrev pub AllStill : StreamWorld → Streams → Type 0
AllStill w m = (i : ℕ) → StillIf w.a.window w.b.window (m i)
