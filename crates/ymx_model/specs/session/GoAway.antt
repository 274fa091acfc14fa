-- Go Away: what a session has said, and what the peer has (go away).
use Rattle.std.specs.Prelude.{Bool, false, true}
use Rattle.ymx_model.specs.declared.types.GoAwayMark.{GoAwayMark}
use Rattle.ymx_model.specs.declared.types.GoAwayMark.TheVariants.{Unsaid, Due, Sent}

-- the own mark, and whether the peer is away
pub record Away : Type 0 where
  pub here : GoAwayMark
  pub there : Bool

abbrev pub not_away : Away
not_away = record { here = Unsaid; there = false }

-- it is said once: a second time changes nothing
abbrev pub mark_said : GoAwayMark → GoAwayMark
mark_said Unsaid = Due
mark_said Due = Due
mark_said Sent = Sent

abbrev pub was_said : GoAwayMark → Bool
was_said Unsaid = false
was_said Due = true
was_said Sent = true

abbrev pub away_due : GoAwayMark → Bool
away_due Unsaid = false
away_due Due = true
away_due Sent = false

-- go away is said here
abbrev pub say_away : Away → Away
say_away a = record a { here = mark_said a.here }

-- its frame begins
abbrev pub begin_away : Away → Away
begin_away a = record a { here = Sent }

-- the peer's comes
abbrev pub receive_away : Away → Away
receive_away a = record a { there = true }
