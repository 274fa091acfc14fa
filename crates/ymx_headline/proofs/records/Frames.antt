-- The frames of a stream that a session sends, and what they say.
use Rattle.std.proofs.Common.{◌≡◌, ℕ, ◌^◌, ◌<◌, refl, arith}
use Rattle.std.proofs.lemmas.Grind.{common_steps}
use Rattle.ymx_model.specs.session.Records.{End}
use Rattle.ymx_model.specs.declared.types.FrameKind.{FrameKind}
use Rattle.ymx_model.specs.session.FramesDue.{spelled}
use Rattle.ymx_model.specs.declared.types.FrameKind.TheVariants.{Open, OpenWith, Accept, Reset, Credit, Data, Fin}
use Rattle.ymx_model.specs.session.Parts.{parts_of}
use Rattle.ymx_headline.specs.records.Sides.{bytes_say}

-- ---- what it says

pub said : (k : FrameKind) (window limit id : ℕ) (e : End) → window < 2 ^ 32 → e.reader.owed < 2 ^ 32 → bytes_say (spelled k window limit id e) ≡ parts_of k window limit e
said Open window limit id e w o = grind (arith, common_steps)
said OpenWith window limit id e w o = refl
said Accept window limit id e w o = grind (arith, common_steps)
said Reset window limit id e w o = refl
said Credit window limit id e w o = grind (arith, common_steps)
said Data window limit id e w o = refl
said Fin window limit id e w o = refl
