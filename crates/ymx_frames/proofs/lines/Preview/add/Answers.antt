use Rattle.std.proofs.Common.{◌≤◌, ◌+◌, length, take, arith, ◌∙◌}
use Rattle.std.proofs.lemmas.List.{length-take}
use Rattle.ymx_frames.proofs.Previews.{preview_added, was_ok}
use Rattle.ymx_frames.proofs.lines.Preview.add.Goals as goal

pub returns : goal.returns
returns c = λ payload was.
    let fits : length c.self.inside.bytes.items + length (take c.min-fits.result c.args.piece.now) ≤ 16 =
    omega (arith, length-take c.min-fits.result c.args.piece.now) in
    preview_added payload c.args.piece.now _ _ _ _ _ (c.self.view_is ∙ was) c.remaining_capacity-room.ensures c.min-fits.ensures
    (was_ok _ _ (c.try_extend_from_slice.ensures.variant.1 fits) c.try_extend_from_slice.ensures.ok)
