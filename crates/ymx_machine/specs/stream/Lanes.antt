-- One direction of one stream (flow control).
use Rattle.std.specs.Prelude.{ℕ, ◌-◌, ◌+◌, ◌++◌, Bool, true, false, List, [], length, take, drop}
use Rattle.ymx_machine.specs.shared.Limits.{first_credit}

-- how far something that one side says has come: not said, under way, arrived at the other side
pub data Mark : Type 0 where
  Unsaid : Mark
  Said : Mark
  Here : Mark

abbrev pub is_unsaid : Mark → Bool
is_unsaid Unsaid = true
is_unsaid Said = false
is_unsaid Here = false

abbrev pub is_said : Mark → Bool
is_said Unsaid = false
is_said Said = true
is_said Here = false

abbrev pub is_here : Mark → Bool
is_here Unsaid = false
is_here Said = false
is_here Here = true

-- `way`: the bytes written and not arrived. `here`: the bytes arrived and not read. `credit`: how
-- many bytes the writer may still write. `owed`: how many bytes were read whose credit isn't back at
-- the writer. `fin`: the writer's end mark.
pub record Lane : Type 0 where
  pub way : List ℕ
  pub here : List ℕ
  pub credit : ℕ
  pub owed : ℕ
  pub fin : Mark

-- a lane whose reader has this window: what the window has beyond the first credit is owed
abbrev pub new_lane : ℕ → Lane
new_lane window = record { way = []; here = []; credit = first_credit; owed = window - first_credit; fin = Unsaid }

-- bytes on their way and here, credit and owed: never more than the reader's window
abbrev pub lane_total : Lane → ℕ
lane_total l = ((length l.way + length l.here) + l.credit) + l.owed

-- these bytes are written
abbrev pub lane_write : List ℕ → Lane → Lane
lane_write bytes l = record l { way = l.way ++ bytes; credit = l.credit - length bytes }

-- the first n bytes on their way arrive
abbrev pub lane_arrive : ℕ → Lane → Lane
lane_arrive n l = record l { way = drop n l.way; here = l.here ++ take n l.way }

-- the first n bytes on their way come to an end that takes nothing
abbrev pub lane_vanish : ℕ → Lane → Lane
lane_vanish n l = record l { way = drop n l.way }

-- the first n bytes are read
abbrev pub lane_read : ℕ → Lane → Lane
lane_read n l = record l { here = drop n l.here; owed = l.owed + length (take n l.here) }

-- n of the owed credit is back at the writer
abbrev pub lane_return : ℕ → Lane → Lane
lane_return n l = record l { credit = l.credit + n; owed = l.owed - n }

abbrev pub lane_fin : Mark → Lane → Lane
lane_fin m l = record l { fin = m }

-- what is unread is dropped
abbrev pub lane_empty : Lane → Lane
lane_empty l = record l { here = [] }

-- what is on its way becomes its first n bytes, and the end mark becomes m
abbrev pub lane_cut : ℕ → Mark → Lane → Lane
lane_cut n m l = record l { way = take n l.way; fin = m }

-- what is under way is taken back
abbrev pub taken_back : Mark → Mark
taken_back Said = Unsaid
taken_back mark = mark

-- a reset has arrived: nothing is under way any more
abbrev pub lane_struck : Lane → Lane
lane_struck l = record l { way = []; fin = taken_back l.fin }
