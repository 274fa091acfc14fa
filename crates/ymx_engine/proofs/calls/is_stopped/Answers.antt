use Rattle.std.specs.Prelude.{Ok}
use Rattle.ymx_engine.proofs.Asking.{writes_nothing}
use Rattle.ymx_engine.proofs.calls.is_stopped.Goals as goal

pub returns-in-Ok-clause-same : goal.returns-in-Ok-clause-same
returns-in-Ok-clause-same c = writes_nothing c.args.id _ _ (Ok c.in-Ok.field-0) c.in-Ok.ensures.outcome c.in-Ok.ensures.refused
