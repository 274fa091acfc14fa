-- A record of a stream as one end of it (flow control, flags).
use Rattle.std.specs.Prelude.{◌≡◌, true, false}
use Rattle.ymx_machine.specs.shared.Phases.{takes}
use Rattle.ymx_model.specs.session.Records.{End, Marks}
use Rattle.ymx_half.specs.declared.directions.Sending.{Sending}
use Rattle.ymx_half.specs.declared.directions.Receiving.{Receiving}
use Rattle.ymx_half.specs.declared.stream.Stage.{Stage}
use Rattle.ymx_half.specs.declared.stream.Marks.{Marks as MarksHeld}
use Rattle.ymx_half.specs.Directions.{writer_of, reader_of, sends_nothing, receives_nothing}
use Rattle.ymx_half.specs.Stages.{phase_of}

-- the marks of that name
abbrev pub marks_of : MarksHeld → Marks
marks_of m = record { syn = m.syn; with_data = m.with_data; ack = m.ack; rst = m.rst; credit_at_once = m.credit_at_once; acked = m.acked }

-- the end that a record keeps
abbrev pub end_of : Stage → Sending → Receiving → MarksHeld → End
end_of stage sending receiving marks = record { phase = phase_of stage; writer = writer_of sending; reader = reader_of receiving; marks = marks_of marks }

-- a stream that takes what comes has both its halves
pub record HasHalves (stage : Stage) (sending : Sending) (receiving : Receiving) : Type 0 where
  pub sends : takes (phase_of stage) ≡ true → sends_nothing sending ≡ false
  pub receives : takes (phase_of stage) ≡ true → receives_nothing receiving ≡ false
