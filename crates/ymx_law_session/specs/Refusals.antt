-- What a call or a frame leaves as it was (this project's own).
use Rattle.std.specs.Prelude.{◌≡◌, ◌≢◌, ℕ, List, [], ◌∷◌, Bool, true, false, ◌==◌, if◌then◌else◌}
use Rattle.ymx_machine.specs.shared.Events.{Reply}
use Rattle.ymx_machine.specs.declared.types.Reply.TheVariants.{Refused}
use Rattle.ymx_model.specs.session.Records.{End}
use Rattle.ymx_machine.specs.shared.Lists.{look}
use Rattle.ymx_model.specs.session.Sessions.{Session}

abbrev pub reply_is_refused : Reply → Bool
reply_is_refused (Refused fault) = true
reply_is_refused _ = false

-- every record but that of `id` is in t as it is in s
abbrev pub OthersSame : (id : ℕ) → Session → Session → Type 0
OthersSame id s t = (j : ℕ) → j ≢ id → look j t.table.entries ≡ look j s.table.entries

-- t is s, but for its table
abbrev pub OnlyTable : Session → Session → Type 0
OnlyTable s t = t ≡ record s { table = t.table }

-- the records but that of `id`, in their order
abbrev pub others : ℕ → List (ℕ × End) → List (ℕ × End)
others id [] = []
others id (p ∷ ps) = if p.0 == id then others id ps else p ∷ others id ps

-- t is s, but for the record of `id`: the window stays, and the other records, in their order
pub record OnlyRecord (id : ℕ) (s t : Session) : Type 0 where
  pub only : OnlyTable s t
  pub window : t.table.window ≡ s.table.window
  pub rest : others id t.table.entries ≡ others id s.table.entries

-- t is s, but for its table and for what has come of a frame
abbrev pub OnlyArrived : Session → Session → Type 0
OnlyArrived s t = t ≡ record s { table = t.table; incoming = t.incoming }

-- What Data and Window Updates leave alone: the own ids, pings, go away, and the rest of a frame begun.
pub record KeepsOwn (s t : Session) : Type 0 where
  pub role : t.role ≡ s.role
  pub window : t.table.window ≡ s.table.window
  pub next : t.next ≡ s.next
  pub pings : t.pings ≡ s.pings
  pub away : t.away ≡ s.away
  pub outgoing : t.outgoing ≡ s.outgoing

-- What Pings and Go Aways leave alone: all streams, and the rest of a frame begun.
pub record KeepsStreams (s t : Session) : Type 0 where
  pub role : t.role ≡ s.role
  pub table : t.table ≡ s.table
  pub next : t.next ≡ s.next
  pub offered : t.offered ≡ s.offered
  pub outgoing : t.outgoing ≡ s.outgoing
  pub incoming : t.incoming ≡ s.incoming
