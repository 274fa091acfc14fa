-- The place of a header has as many bytes as a header.
use Rattle.std.proofs.Common.{arith}
use Rattle.std.proofs.lemmas.List.{length-take}
use Rattle.ymx_header.proofs.header.write_header.Goals as goal

pub copy_from_slice-requires : goal.copy_from_slice-requires
copy_from_slice-requires c = rw c.encode.ensures.spelled (simp length-take (omega arith))
