-- Two histories of new sessions, in a joint order, are one run of the queue machine.
use Rattle.std.proofs.Common.{List, Bool}
use Rattle.ymx_model.specs.declared.types.Role.TheVariants.{Client, Server}
use Rattle.ymx_machine.specs.declared.types.Step.{Step}
use Rattle.ymx_model.specs.declared.types.Entry.{Entry}
use Rattle.ymx_model.specs.session.Sessions.{Session, new_session}
use Rattle.ymx_model.specs.session.Emissions.{Choice}
use Rattle.ymx_machine.specs.machine.Machines.{new_machine}
use Rattle.ymx_headline.proofs.relation.Begins.{begins}
use Rattle.ymx_headline.specs.audit.Joints.{IsJointOrder}
use Rattle.ymx_headline.specs.audit.Told.{AreOneRun}
use Rattle.ymx_headline.proofs.audit.Orders.{are-answered}

pub are-one-run : (may : Choice → Session → Bool) (xs ys : List Entry) (steps : List Step) → IsJointOrder xs ys steps → AreOneRun may xs ys steps
are-one-run may xs ys steps order wa fa wb fb s t g r k =
    let h = are-answered may xs ys steps order.0 (new_session Client wa fa) (new_session Server wb fb) s t order.1 r k in
    record { turns = order.0; joint = order.1; world = h.world; runs = h.runs; side_a = h.side_a; side_b = h.side_b; machine = h.machine (new_machine wa fa wb fb) (begins wa fa wb fb g.low_a g.high_a g.low_b g.high_b g.client g.server g.small_a g.some_b g.small_b) }
