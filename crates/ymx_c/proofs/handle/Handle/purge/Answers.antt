-- Where no stream is released, there is nothing to look at.
use Rattle.std.proofs.Common.{◌≡◌, ◌==◌, length, true, arith}
use Rattle.std.proofs.lemmas.Bool.Decides.{nat_tests}
use Rattle.ymx_c.proofs.Purged.{purges-none}
use Rattle.ymx_c.proofs.handle.Handle.purge.Goals as goal

pub returns-else-not-is_empty : goal.returns-else-not-is_empty
returns-else-not-is_empty c =
    let e : (length c.args.self.now.releases == 0) ≡ true = grind (arith, nat_tests) in
    purges-none c.args.self.now.releases c.args.touched.now c.args.self.now.session e
