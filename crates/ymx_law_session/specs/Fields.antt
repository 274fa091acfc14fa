-- Numbers that fit the fields of a header, of 32 bits each (framing).
use Rattle.std.specs.Prelude.{◌<◌, ◌^◌, ℕ, List, All}
use Rattle.ymx_model.specs.session.Events.{Event}
use Rattle.ymx_model.specs.declared.types.Event.TheVariants as event
use Rattle.ymx_model.specs.declared.types.Response.{Response}
use Rattle.ymx_model.specs.declared.types.Response.TheVariants.{Pong, Reject}
use Rattle.ymx_model.specs.session.Records.{End}
use Rattle.ymx_model.specs.session.Pings.{Ping}
use Rattle.ymx_model.specs.session.Sessions.{Session, Incoming}
use Rattle.ymx_model.specs.session.Sessions.Incoming.{Head, Payload}

-- a number fits a field
abbrev pub Fits : ℕ → Type 0
Fits n = n < 2 ^ 32

abbrev pub IsByte : ℕ → Type 0
IsByte n = n < 256

abbrev pub IdFits : (ℕ × End) → Type 0
IdFits p = Fits p.0

abbrev pub PingFits : Ping → Type 0
PingFits p = Fits p.number

-- the value of a pong, the id of a stream that is rejected
abbrev pub ResponseFits : Response → Type 0
ResponseFits (Pong value) = Fits value
ResponseFits (Reject id) = Fits id

-- the bytes of a header are bytes; the id of a payload fits, and how much of it lacks
abbrev pub IncomingFits : Incoming → Type 0
IncomingFits (Head bytes) = All IsByte bytes
IncomingFits (Payload id missing fin discarded) = Fits id × Fits missing

-- the ids of the records, the answers, the numbers of the pings, what has come of a frame
pub record PartsFit (entries : List (ℕ × End)) (responses : List Response) (pending : List Ping) (coming : Incoming) : Type 0 where
  pub ids : All IdFits entries
  pub answers : All ResponseFits responses
  pub pings : All PingFits pending
  pub incoming : IncomingFits coming

abbrev pub NumbersFit : Session → Type 0
NumbersFit s = PartsFit s.table.entries s.answers s.pings.pending s.incoming

-- the credit of a record, what its peer may send, and what is owed
pub record HalvesFit (e : End) : Type 0 where
  pub credit : Fits e.writer.credit
  pub granted : Fits e.reader.granted
  pub owed : Fits e.reader.owed

-- what is fed are bytes
abbrev pub FeedsBytes : Event → Type 0
FeedsBytes (event.Feed bytes) = All IsByte bytes
FeedsBytes _ = Unit
