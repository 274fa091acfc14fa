-- A stream of the queue machine: two lanes and a few marks (this project's own, after the flags SYN, ACK, FIN and RST).
use Rattle.std.specs.Prelude.{ℕ, ◌≤◌, ◌≡◌, if◌then◌else◌, ◌∷◌, ◌<◌, ◌⊎◌, ◌*◌, Bool, not, true, [], length, false, List}
use Rattle.ymx_machine.specs.stream.Lanes.{Mark, Lane, new_lane, taken_back, lane_arrive, lane_vanish, lane_return, lane_fin, lane_empty, lane_struck, lane_write, lane_read, lane_cut, is_said}
use Rattle.ymx_machine.specs.shared.Phases.{Phase, is_unborn, takes, struck, is_lingering}
use Rattle.ymx_machine.specs.stream.Lanes.Mark.{Unsaid, Said, Here}
use Rattle.ymx_machine.specs.shared.Phases.Phase.{Unborn, Live, Lingering, Offered, Refused, Gone}

-- A stream as one side sees it: whether it opened the stream, its own end and the other's, the lane
-- that it writes and the lane that it reads, the acknowledgement (which the acceptor says), its own
-- reset and the other side's.
pub record Stream : Type 0 where
  pub own : Bool
  pub me : Phase
  pub you : Phase
  pub outbound : Lane
  pub inbound : Lane
  pub ack : Mark
  pub rst_outbound : Mark
  pub rst_inbound : Mark

-- the same stream as the other side sees it
abbrev pub flip : Stream → Stream
flip s = record {
  own = not s.own;
  me = s.you;
  you = s.me;
  outbound = s.inbound;
  inbound = s.outbound;
  ack = s.ack;
  rst_outbound = s.rst_inbound;
  rst_inbound = s.rst_outbound;
}

-- a stream just opened, as its opener sees it: my window, your window
abbrev pub opened_stream : ℕ → ℕ → Stream
opened_stream mine yours = record {
  own = true;
  me = Live;
  you = Unborn;
  outbound = new_lane yours;
  inbound = new_lane mine;
  ack = Unsaid;
  rst_outbound = Unsaid;
  rst_inbound = Unsaid;
}

-- ---- what may arrive at this side of a stream

pub data Move : Type 0 where
  Arrive : (n : ℕ) → Move
  EndArrives : Move
  Return : (n : ℕ) → Move
  SynOffered : Move
  SynRefused : Move
  AckArrives : Move
  ResetArrives : Move
  Released : Move

-- when it may
abbrev pub Allowed : Move → Stream → Type 0
-- a beginning of what is on its way, at an end that is born
Allowed (Arrive n) s = (is_unborn s.me ≡ false) × (n ≤ length s.inbound.way)
-- the end comes after the last byte
Allowed EndArrives s = (s.inbound.way ≡ []) × (is_unborn s.me ≡ false) × (s.inbound.fin ≡ Said)
-- some of the owed credit of the lane that this side writes
Allowed (Return n) s = (takes s.me ≡ true) × (n ≤ s.outbound.owed)
Allowed SynOffered s = s.me ≡ Unborn
Allowed SynRefused s = s.me ≡ Unborn
Allowed AckArrives s = (s.own ≡ true) × (s.ack ≡ Said)
Allowed ResetArrives s = (s.rst_inbound ≡ Said) × (is_unborn s.me ≡ false)
Allowed Released s = s.me ≡ Lingering

-- what it does
abbrev pub after_move : Move → Stream → Stream
-- bytes go to an end that takes them, and else vanish
after_move (Arrive n) s = record s { inbound = if takes s.me then lane_arrive n s.inbound else lane_vanish n s.inbound }
after_move EndArrives s = record s { inbound = lane_fin Here s.inbound }
after_move (Return n) s = record s { outbound = lane_return n s.outbound }
after_move SynOffered s = record s { me = Offered }
-- a refused stream is answered by a reset
after_move SynRefused s = record s { me = Refused; rst_outbound = Said }
after_move AckArrives s = record s { ack = Here }
-- nothing of the stream is under way any more, and every other mark under way is taken back
after_move ResetArrives s = record s {
  me = struck s.me;
  outbound = lane_struck s.outbound;
  inbound = lane_empty (lane_struck s.inbound);
  ack = taken_back s.ack;
  rst_outbound = taken_back s.rst_outbound;
  rst_inbound = Here;
}
after_move Released s = record s { me = Gone }

-- some moves, one after another
abbrev pub Moves : List Move → Stream → Stream → Type 0
Moves [] s t = t ≡ s
Moves (m ∷ ms) s t = Allowed m s × Moves ms (after_move m s) t

-- ---- what a call does to the stream, seen from the caller's side

abbrev pub stream_write : List ℕ → Stream → Stream
stream_write bytes s = record s { outbound = lane_write bytes s.outbound }

abbrev pub stream_read : ℕ → Stream → Stream
stream_read n s = record s { inbound = lane_read n s.inbound }

abbrev pub stream_finish : Stream → Stream
stream_finish s = record s { outbound = lane_fin Said s.outbound }

-- a session that is lost says no acknowledgement
abbrev pub stream_accept : Bool → Stream → Stream
stream_accept lost s = record s { me = Live; ack = if lost then s.ack else Said }

-- given up, and nothing is said
abbrev pub stream_forget : Stream → Stream
stream_forget s = record s { me = Lingering; inbound = lane_empty s.inbound }

-- a reset, which leaves this side's end in `phase`: n bytes stay on their way, the end mark becomes m
-- and the acknowledgement a
abbrev pub stream_reset : Phase → ℕ → Mark → Mark → Stream → Stream
stream_reset phase n m a s = record s { me = phase; outbound = lane_cut n m s.outbound; inbound = lane_empty s.inbound; ack = a; rst_outbound = Said }

-- What a side that resets may take back: bytes from the back; the end, if it is under way, and always
-- if bytes were taken back; an acknowledgement of its own that is under way.
pub record TakesBack (n : ℕ) (m a : Mark) (s : Stream) : Type 0 where
  pub within : n ≤ length s.outbound.way
  pub shorter : n < length s.outbound.way → m ≡ taken_back s.outbound.fin
  pub fin : (m ≡ s.outbound.fin) ⊎ (m ≡ taken_back s.outbound.fin)
  pub ack : (a ≡ s.ack) ⊎ ((s.own ≡ false) × (a ≡ taken_back s.ack))

-- ---- still

-- Nothing of the stream is under way, and each open lane of an accepted stream owes less than half
-- its window: mine, yours.
pub record IsStill (mine yours : ℕ) (s : Stream) : Type 0 where
  pub me_born : is_unborn s.me ≡ false
  pub you_born : is_unborn s.you ≡ false
  pub me_gone : is_lingering s.me ≡ false
  pub you_gone : is_lingering s.you ≡ false
  pub way_outbound : s.outbound.way ≡ []
  pub way_inbound : s.inbound.way ≡ []
  pub fin_outbound : is_said s.outbound.fin ≡ false
  pub fin_inbound : is_said s.inbound.fin ≡ false
  pub ack : is_said s.ack ≡ false
  pub rst_outbound : is_said s.rst_outbound ≡ false
  pub rst_inbound : is_said s.rst_inbound ≡ false
  pub little_outbound : s.me ≡ Live → s.you ≡ Live → s.outbound.fin ≡ Unsaid → 2 * s.outbound.owed < yours
  pub little_inbound : s.me ≡ Live → s.you ≡ Live → s.inbound.fin ≡ Unsaid → 2 * s.inbound.owed < mine
