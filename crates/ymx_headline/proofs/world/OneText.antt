-- A text is frames in one way alone.
use Rattle.std.proofs.Common.{◌≡◌, List, ℕ, sym, ◌∙◌}
use Rattle.std.specs.List.{concat}
use Rattle.ymx_header.proofs.Frames.{same-front, one-text as one-text-of}
use Rattle.ymx_machine.specs.shared.Limits.{first_credit}
use Rattle.ymx_model.specs.session.Sessions.{Session}
use Rattle.ymx_model.specs.world.Worlds.{Pipe}
use Rattle.ymx_model.specs.world.UnderWay.{IsUnderWay}

-- the same bytes are the same frames, after the rest of a payload
pub one-text : (receiver : Session) (pipe : Pipe) (sender : Session) (frames others : List (List ℕ)) →
    IsUnderWay receiver pipe sender frames → IsUnderWay receiver pipe sender others → frames ≡ others
one-text receiver pipe sender frames others u v =
    let texts = same-front u.tail (concat frames) v.tail (concat others) (u.missing ∙ sym v.missing) (sym u.text ∙ v.text) in
    one-text-of first_credit frames others u.each v.each texts.1
