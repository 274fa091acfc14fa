use Rattle.std.proofs.Common.{◌∙◌, ℕ, rules}
use Rattle.std.specs.Prelude.{nat_eq, not}
use Rattle.std.proofs.lemmas.Fn.{filter_same}
use Rattle.ymx_engine.proofs.Once.{filter_without}
use Rattle.ymx_engine.proofs.connections.leave_queue.Goals as goal

pub returns : goal.returns
returns c = filter_same _ (λ (x : ℕ). not (nat_eq x c.args.id)) _ (λ x b f r. search rules) _ _ c.retain.ensures.filtered ∙ filter_without c.args.id _
