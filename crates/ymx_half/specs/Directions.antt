-- The two directions of a stream at one end, by the halves that hold them (flow control).
use Rattle.std.specs.Prelude.{Bool, true, false}
use Rattle.ymx_model.specs.session.Records.{Writer, Reader, dead_writer, dead_reader}
use Rattle.ymx_half.specs.declared.directions.Sending.{Sending}
use Rattle.ymx_half.specs.declared.directions.Sending.TheVariants.{Open as OpenWriter, Done as DoneWriter, Dead as DeadWriter}
use Rattle.ymx_half.specs.declared.directions.Receiving.{Receiving}
use Rattle.ymx_half.specs.declared.directions.Receiving.TheVariants.{Open as OpenReader, Ended as EndedReader, Dead as DeadReader}

-- what is written: an open half was not finished, one that is done was, and one that is over holds nothing
abbrev pub writer_of : Sending → Writer
writer_of (OpenWriter w) = record w { finished = false; fin_sent = false }
writer_of (DoneWriter w) = record w { finished = true }
writer_of (DeadWriter d) = dead_writer

-- what is read: the end has not arrived at an open half, and at an ended one it has
abbrev pub reader_of : Receiving → Reader
reader_of (OpenReader r) = record r { ended = false }
reader_of (EndedReader r) = record r { ended = true }
reader_of (DeadReader d) = dead_reader

-- nothing is sent any more
abbrev pub sends_nothing : Sending → Bool
sends_nothing (OpenWriter w) = false
sends_nothing (DoneWriter w) = false
sends_nothing (DeadWriter d) = true

-- nothing is received any more
abbrev pub receives_nothing : Receiving → Bool
receives_nothing (OpenReader r) = false
receives_nothing (EndedReader r) = false
receives_nothing (DeadReader d) = true
