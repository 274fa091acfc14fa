-- How many streams may still be opened (stream identifiers, flags, go away, this project's own limits).
use Rattle.std.specs.Prelude.{ℕ, ◌+◌, ◌-◌, ◌/◌, ◌||◌, if◌then◌else◌, min, length, count_by}
use Rattle.ymx_machine.specs.shared.Limits.{most_unacknowledged, most_records, first_exhausted}
use Rattle.ymx_model.specs.session.Sessions.{Session, is_lost, is_closed}
use Rattle.ymx_model.specs.session.Calls.{is_unacknowledged}

-- how many ids are left from the next one on: each stream takes two numbers, and from 4,294,967,294 on none is opened
abbrev pub ids_left : ℕ → ℕ
ids_left next = (first_exhausted + 1 - next) / 2

-- how many more own streams may be neither acknowledged, reset nor given up
abbrev pub unacknowledged_left : Session → ℕ
unacknowledged_left s = most_unacknowledged - count_by (is_unacknowledged s.role) s.table.entries

-- how many more records may be there
abbrev pub records_left : Session → ℕ
records_left s = most_records - length s.table.entries

-- how many streams may be opened one after another, while nothing else happens: none where the session isn't running, or
-- the peer is away
abbrev pub opens_left : Session → ℕ
opens_left s =
    if is_closed s.status || is_lost s.status || s.away.there then 0
    else min (min (ids_left s.next) (unacknowledged_left s)) (records_left s)
