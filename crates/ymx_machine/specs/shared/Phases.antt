-- The state of one end of a stream (flags).
use Rattle.std.specs.Prelude.{◌||◌, Bool, true, false}

-- The state of one end of a stream.
--
--   opener:    Live ──reset──▶ WasReset ──forget──▶ Lingering ──▶ Gone
--   acceptor:  Unborn ──SYN──▶ Offered ──accept──▶ Live (and on as above)
--                   └──SYN──▶ Refused
--
-- A Live end that is forgotten is Lingering until what it still has to send went out, and then Gone.
-- An Offered end whose opener resets is Gone at once.
pub data Phase : Type 0 where
  Unborn : Phase
  Offered : Phase
  Live : Phase
  WasReset : Phase
  Refused : Phase
  Lingering : Phase
  Gone : Phase

-- not reset, refused or given up
abbrev pub is_up : Phase → Bool
is_up Unborn = true
is_up Offered = true
is_up Live = true
is_up _ = false

-- takes what comes
abbrev pub takes : Phase → Bool
takes Offered = true
takes Live = true
takes _ = false

abbrev pub is_unborn : Phase → Bool
is_unborn Unborn = true
is_unborn _ = false

abbrev pub is_offered : Phase → Bool
is_offered Offered = true
is_offered _ = false

-- not yet accepted
abbrev pub is_early : Phase → Bool
is_early p = is_unborn p || is_offered p

abbrev pub is_live : Phase → Bool
is_live Live = true
is_live _ = false

abbrev pub is_reset : Phase → Bool
is_reset WasReset = true
is_reset _ = false

abbrev pub is_refused : Phase → Bool
is_refused Refused = true
is_refused _ = false

abbrev pub is_lingering : Phase → Bool
is_lingering Lingering = true
is_lingering _ = false

-- counts among the 1,024 records of its side
abbrev pub is_recorded : Phase → Bool
is_recorded p = is_offered p || is_live p || is_reset p || is_lingering p

-- where a reset that arrives leaves an end: only one that takes what comes is moved
abbrev pub struck : Phase → Phase
struck Offered = Gone
struck Live = WasReset
struck p = p
