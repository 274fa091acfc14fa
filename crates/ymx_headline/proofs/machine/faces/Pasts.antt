-- What one side wrote and what the other got (this project's own).
use Rattle.std.specs.Prelude.{ℕ, ◌+◌, ◌≡◌, ◌≤◌, List, [], ◌++◌, length, Bool, true, false}
use Rattle.ymx_machine.specs.stream.Lanes.{Mark, Lane, is_unsaid, is_here}
use Rattle.ymx_machine.specs.shared.Phases.{Phase, is_up}
use Rattle.ymx_machine.specs.stream.Streams.{Stream}

-- What has happened to a lane so far: the bytes written, the bytes got, whether its writer's Finish was
-- done, and whether a read of it was answered with the end.
pub record Past : Type 0 where
  pub written : List ℕ
  pub got : List ℕ
  pub finished : Bool
  pub ended : Bool

-- How a lane stands to its past. `rest`: what was written and not got. `back`: what was taken back.
pub record Faces (window : ℕ) (writer reader : Phase) (l : Lane) (h : Past) (rest back : List ℕ) : Type 0 where
  pub begins : h.written ≡ h.got ++ rest
  pub holds : is_up reader ≡ true → rest ≡ l.here ++ (l.way ++ back)
  pub whole : is_up reader ≡ true → is_up writer ≡ true → back ≡ []
  pub kept : is_up reader ≡ true → is_unsaid l.fin ≡ false → back ≡ []
  pub empty : is_here l.fin ≡ true → l.way ≡ []
  pub said : is_unsaid l.fin ≡ false → h.finished ≡ true
  pub over_fin : h.ended ≡ true → is_here l.fin ≡ true
  pub over_here : h.ended ≡ true → l.here ≡ []
  pub over_rest : h.ended ≡ true → rest ≡ []
  pub near : (length rest + l.credit) + l.owed ≤ window

abbrev pub HasFace : (window : ℕ) → (writer reader : Phase) → Lane → Past → Type 0
HasFace window writer reader l h = (rest : List ℕ) × (back : List ℕ) × Faces window writer reader l h rest back

-- To a reader that is up, from a writer that said no reset, nothing was taken back, and a finish that was done was said.
abbrev pub IsWhole : (reader : Phase) → (rst : Mark) → Lane → Past → (back : List ℕ) → Type 0
IsWhole reader rst l h back = is_up reader ≡ true → is_unsaid rst ≡ true → (back ≡ []) × (h.finished ≡ true → is_unsaid l.fin ≡ false)

-- Both lanes of a stream. A reset that was said leaves its sayer's end down, and one that came the other end.
pub record HasFaces (mine yours : ℕ) (s : Stream) (past_out past_inbound : Past) : Type 0 where
  pub outbound : HasFace yours s.me s.you s.outbound past_out
  pub inbound : HasFace mine s.you s.me s.inbound past_inbound
  pub rst_outbound : is_unsaid s.rst_outbound ≡ false → is_up s.me ≡ false
  pub rst_inbound : is_unsaid s.rst_inbound ≡ false → is_up s.you ≡ false
  pub came_outbound : is_here s.rst_outbound ≡ true → is_up s.you ≡ false
  pub came_inbound : is_here s.rst_inbound ≡ true → is_up s.me ≡ false
  pub whole_outbound : IsWhole s.you s.rst_outbound s.outbound past_out outbound.1
  pub whole_inbound : IsWhole s.me s.rst_inbound s.inbound past_inbound inbound.1
