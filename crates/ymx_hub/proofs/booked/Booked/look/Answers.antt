-- Nothing more comes, and the half is spent.
use Rattle.std.proofs.Common.{Bool, Ok, subst}
use Rattle.ymx_hub.specs.Books.{Books}
use Rattle.ymx_hub.specs.Releasing.{ReadsUp}
use Rattle.ymx_hub.proofs.Released.{looks_spent, stay_closed}
use Rattle.ymx_hub.proofs.booked.Booked.look.Goals as goal

pub returns-in-Ok-true-clause-booked : goal.returns-in-Ok-true-clause-booked
returns-in-Ok-true-clause-booked g c =
    looks_spent g.R.Recorder.KEEPS c.args.seat.now c.read_up.new.seat c.close_half.new.seat c.args.id c.close_half.result
    (subst (λ (b : Bool). Books g.R.Recorder.KEEPS c.args.seat.now c.read_up.new.seat (ReadsUp c.args.id c.args.seat.now.number (Ok b))) c.in-Ok-true.field-0-test c.in-Ok-true.ensures.booked)
    c.close_half.ensures.booked

pub returns-in-Ok-true-clause-others : goal.returns-in-Ok-true-clause-others
returns-in-Ok-true-clause-others g c =
    stay_closed g.R.Recorder.KEEPS c.read_up.new.seat.number c.args.id c.close_half.result c.args.self.now.session c.read_up.new.self c.close_half.new.self
    c.read_up.ensures.others c.close_half.ensures.steps
