-- What a part of a frame that comes does to an end of its stream (flags, flow control).
use Rattle.std.specs.Prelude.{ℕ, ◌≡◌, ◌⊎◌, List, [], ◌∷◌, length, Bool, true, false, if◌then◌else◌}
use Rattle.ymx_machine.specs.stream.Streams.{Stream, Move, Moves}
use Rattle.ymx_machine.specs.stream.Streams.Move.{Arrive, EndArrives, Return, SynOffered, SynRefused, AckArrives, ResetArrives}
use Rattle.ymx_machine.specs.shared.Phases.Phase.{Offered, Refused}
use Rattle.ymx_model.specs.session.Records.{End, dead_writer, dead_reader, new_end, receive_data, receive_credit, receive_fin, receive_ack, receive_rst}
use Rattle.ymx_model.specs.session.Parts.{Part}
use Rattle.ymx_model.specs.session.Parts.Part.{Syn, Ack, Data, Credit, Fin, Rst}

-- an end whose stream is refused: its rejection is due
abbrev pub refused_end : End
refused_end = record {
  phase = Refused;
  writer = dead_writer;
  reader = dead_reader;
  marks = record { syn = false; with_data = false; ack = false; rst = true; credit_at_once = false; acked = false };
}

-- the SYN of a stream comes, with the credit that it announces
abbrev pub receive_syn : (refuse : Bool) → (window d : ℕ) → End
receive_syn refuse window d = if refuse then refused_end else receive_credit d (new_end window Offered false false)

-- a whole part comes to an end of a session of this window, where a SYN may be refused
abbrev pub comes_to : (refuse : Bool) → (window : ℕ) → Part → End → End
comes_to refuse window (Syn d) e = receive_syn refuse window d
comes_to refuse window (Ack d) e = receive_credit d (receive_ack e)
comes_to refuse window (Data b) e = receive_data b e
comes_to refuse window (Credit d) e = receive_credit d e
comes_to refuse window Fin e = receive_fin e
comes_to refuse window Rst e = receive_rst e

-- the moves of the machine that a part stands for: none where it means nothing any more
abbrev pub MovesOf : (refuse : Bool) → Part → List Move → Type 0
MovesOf refuse (Syn d) ms = ms ≡ (if refuse then SynRefused ∷ [] else SynOffered ∷ Return d ∷ [])
MovesOf refuse (Ack d) ms = (ms ≡ []) ⊎ (ms ≡ AckArrives ∷ []) ⊎ (ms ≡ AckArrives ∷ Return d ∷ [])
MovesOf refuse (Data b) ms = (ms ≡ []) ⊎ (ms ≡ Arrive (length b) ∷ [])
MovesOf refuse (Credit d) ms = (ms ≡ []) ⊎ (ms ≡ Return d ∷ [])
MovesOf refuse Fin ms = (ms ≡ []) ⊎ (ms ≡ EndArrives ∷ [])
MovesOf refuse Rst ms = (ms ≡ []) ⊎ (ms ≡ ResetArrives ∷ [])

-- by moves of this part the stream s becomes t
abbrev pub Goes : (refuse : Bool) → Part → Stream → Stream → Type 0
Goes refuse f s t = (ms : List Move) × MovesOf refuse f ms × Moves ms s t
