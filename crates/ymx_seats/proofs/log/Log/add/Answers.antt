use Rattle.std.proofs.Common.{refl, arith}
use Rattle.ymx_seats.proofs.Parts.{rises_pushed}
use Rattle.ymx_seats.proofs.log.Log.add.Goals as goal

pub invariant_of-self : goal.invariant_of-self
invariant_of-self g c =
    let pushed = rises_pushed c.self.inside.entries.items c.push_reserved.new.self.items _ c.len-position.result c.push_reserved.ensures.items refl (c.self.invariant.0, omega (arith, c.self.invariant.1, c.len-position.ensures)) in
    (pushed.0, omega (arith, pushed.1, c.push_reserved.ensures.len, c.len-position.ensures), c.self.invariant.2)
