-- When a stream that the peer opens is offered, and when it is rejected (flags).
use Rattle.std.specs.Prelude.{◌≡◌, ◌<◌, ◌≤◌, ◌⊎◌, ◌≢◌, [], ◌∷◌, ◌++◌, length, true, false, None}
use Rattle.ymx_header.specs.declared.header.Header.{Header}
use Rattle.ymx_header.specs.Headers.{has_syn}
use Rattle.ymx_model.specs.declared.types.GoAwayMark.TheVariants.{Unsaid}
use Rattle.ymx_model.specs.declared.types.Response.TheVariants.{Reject}
use Rattle.ymx_machine.specs.shared.Limits.{most_records, most_offered}
use Rattle.ymx_model.specs.session.Tables.{insert_record}
use Rattle.ymx_model.specs.session.Sessions.{Session}
use Rattle.ymx_model.specs.session.Arrivals.{header_fault, syn_fault, take_head, offer}

-- Data or a Window Update with SYN, of which nothing is wrong.
pub record IsGoodSyn (h : Header) (s : Session) : Type 0 where
  pub kind : h.kind < 2
  pub syn : has_syn h ≡ true
  pub header : header_fault h s ≡ None
  pub fault : syn_fault h s ≡ None

-- why a stream is rejected though there is memory: go away was said here, 256 wait to be accepted, or
-- 1,024 records are there
abbrev pub HasCause : Session → Type 0
HasCause s = (s.away.here ≢ Unsaid) ⊎ (most_offered ≤ length s.offered) ⊎ (most_records ≤ length s.table.entries)

-- it is offered, after those that came before; its record is that of a new stream, to which the frame's
-- credit and end have come
pub record IsOffered (h : Header) (s t : Session) : Type 0 where
  pub list : t.offered ≡ s.offered ++ h.id ∷ []
  pub table : t.table ≡ insert_record h.id (take_head false h (offer s)) s.table
  pub answers : t.answers ≡ s.answers

-- it is rejected: an answer more, and no record
pub record IsRejected (h : Header) (s t : Session) : Type 0 where
  pub answers : t.answers ≡ s.answers ++ Reject h.id ∷ []
  pub table : t.table ≡ s.table
  pub offered : t.offered ≡ s.offered

-- it comes and goes, since it was reset by its first frame: no record, and no answer
pub record LeavesNoTrace (s t : Session) : Type 0 where
  pub table : t.table ≡ s.table
  pub offered : t.offered ≡ s.offered
  pub answers : t.answers ≡ s.answers
