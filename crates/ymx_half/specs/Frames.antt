-- The frames of a stream that go out, by what the code calls them (framing, flags).
use Rattle.std.specs.Prelude.{ℕ, List, [], take}
use Rattle.ymx_model.specs.session.Records.{End}
use Rattle.ymx_model.specs.declared.types.FrameKind.{FrameKind}
use Rattle.ymx_model.specs.declared.types.FrameKind.TheVariants.{Open, OpenWith, Accept, Reset, Credit, Data, Fin}

-- the bytes after the header: of Data a beginning of the unsent bytes, of any other frame none
abbrev pub frame_payload : FrameKind → ℕ → End → List ℕ
frame_payload Open limit e = []
frame_payload OpenWith limit e = take limit e.writer.unsent
frame_payload Accept limit e = []
frame_payload Reset limit e = []
frame_payload Credit limit e = []
frame_payload Data limit e = take limit e.writer.unsent
frame_payload Fin limit e = []
