use Rattle.ymx_frames.proofs.Joined.{three_parts}
use Rattle.ymx_frames.proofs.lines.append_frame.Goals as goal

pub returns-clause-ok : goal.returns-clause-ok
returns-clause-ok c = three_parts _ _ _ _ _ _ _ _ c.in_ok-write_fields.ensures.ok c.in_ok-write.ensures.ok c.extend.ensures.items
