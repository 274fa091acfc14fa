-- Two ends and what is under way between them are one stream of the machine, also where a side is lost or closed (this project's own).
use Rattle.std.specs.Prelude.{ℕ, ◌≡◌, ◌⊎◌, List, Bool, true, false, not}
use Rattle.ymx_machine.specs.stream.Lanes.{is_unsaid, is_here}
use Rattle.ymx_machine.specs.shared.Phases.{Phase, is_live, is_lingering, takes}
use Rattle.ymx_machine.specs.stream.Streams.{Stream}
use Rattle.ymx_machine.specs.shared.Phases.Phase.{Lingering, Gone}
use Rattle.ymx_model.specs.session.Records.{End}
use Rattle.ymx_model.specs.session.FramesDue.{is_due}
use Rattle.ymx_model.specs.session.Parts.{Part}
use Rattle.ymx_headline.specs.stream.Links.{Related}

-- no caller has it any more
abbrev pub is_given_up : Phase → Bool
is_given_up Lingering = true
is_given_up Gone = true
is_given_up _ = false

-- `g` stands in the relation for the end `e`. It is e itself; only at a side that is over (its session is
-- lost or closed, so that it sends nothing more) an end that is given up may differ in all but its
-- phase: there g keeps what e had to send, and e holds nothing.
abbrev pub Stands : (over : Bool) → (e g : End) → Type 0
Stands over e g = (e ≡ g) ⊎ ((over ≡ true) × (e.phase ≡ g.phase) × (is_given_up e.phase ≡ true))

-- The end `x` of this side, of window `wx`, the end `y` of the other, of window `wy`, what is under way
-- from x to y and back, and the machine's stream `s` as this side sees it, are one stream. `over_x`, `over_y`:
-- that side is lost or closed.
pub record IsOneStream (over_x over_y : Bool) (wx wy : ℕ) (x y : End) (xy yx : List Part) (s : Stream) : Type 0 where
  pub mine : End
  pub yours : End
  pub mine_stands : Stands over_x x mine
  pub yours_stands : Stands over_y y yours
  pub related : Related wx wy mine yours xy yx s

-- What an end says of the machine's stream, also in a lost session: its phase; and where a caller has it,
-- whether it was finished, its credit, what is unread, whether the end has come, and at its opener
-- whether it is acknowledged.
pub record EndShows (e : End) (s : Stream) : Type 0 where
  pub phase : s.me ≡ e.phase
  pub finished : is_live e.phase ≡ true → not (is_unsaid s.outbound.fin) ≡ e.writer.finished
  pub credit : is_live e.phase ≡ true → s.outbound.credit ≡ e.writer.credit
  pub unread : takes e.phase ≡ true → s.inbound.here ≡ e.reader.unread
  pub ended : takes e.phase ≡ true → is_here s.inbound.fin ≡ e.reader.ended
  pub acked : is_live e.phase ≡ true → s.own ≡ true → is_here s.ack ≡ e.marks.acked

-- nothing is due of an end, and it isn't an end given up that is still kept
pub record IsQuiet (window : ℕ) (e : End) : Type 0 where
  pub nothing : is_due window e ≡ false
  pub gone : is_lingering e.phase ≡ false
