-- The frames of one stream under way, by what they do: a frame of Data with SYN is a SYN, then Data (flags).
use Rattle.std.specs.Prelude.{ℕ, ◌-◌, ◌∷◌, List, [], take}
use Rattle.ymx_machine.specs.shared.Limits.{first_credit}
use Rattle.ymx_model.specs.session.Records.{End}
use Rattle.ymx_model.specs.declared.types.FrameKind.{FrameKind}
use Rattle.ymx_model.specs.declared.types.FrameKind.TheVariants.{Open, OpenWith, Accept, Reset, Credit as CreditFrame, Data as DataFrame, Fin as FinFrame}

pub data Part : Type 0 where
  Syn : (delta : ℕ) → Part
  Ack : (delta : ℕ) → Part
  Data : (bytes : List ℕ) → Part
  Credit : (delta : ℕ) → Part
  Fin : Part
  Rst : Part

-- what a frame that goes out consists of
abbrev pub parts_of : FrameKind → ℕ → ℕ → End → List Part
parts_of Open window limit e = Syn (window - first_credit) ∷ []
parts_of OpenWith window limit e = Syn 0 ∷ Data (take limit e.writer.unsent) ∷ []
parts_of Accept window limit e = Ack (window - first_credit) ∷ []
parts_of Reset window limit e = Rst ∷ []
parts_of CreditFrame window limit e = Credit e.reader.owed ∷ []
parts_of DataFrame window limit e = Data (take limit e.writer.unsent) ∷ []
parts_of FinFrame window limit e = Fin ∷ []
