use Rattle.std.proofs.Common.{◌∙◌, ap}
use Rattle.ymx_engine.specs.Events.{is_stop}
use Rattle.ymx_engine.proofs.Asking.{empty_told}
use Rattle.ymx_engine.proofs.Parts.{stopped, goes, broken_to}
use Rattle.ymx_engine.proofs.exchange.shut_if_stopped.Goals as goal

pub returns-then-is_stopped-clause-part : goal.returns-then-is_stopped-clause-part
returns-then-is_stopped-clause-part g c = let h = c.is_stopped.ensures.happened in stopped h.0 c.shut.ensures c.break_off.ensures h.1 (h.2 ∙ c.if-is_stopped.true)

pub returns-else-is_stopped-clause-part : goal.returns-else-is_stopped-clause-part
returns-else-is_stopped-clause-part g c = let h = c.is_stopped.ensures.happened in goes h.0 h.1 (h.2 ∙ c.if-is_stopped.false)

pub returns-then-is_stopped-clause-tells : goal.returns-then-is_stopped-clause-tells
returns-then-is_stopped-clause-tells g c = λ on. let off = broken_to _ _ c.break_off.ensures in absurd cc

pub returns-else-is_stopped-clause-tells : goal.returns-else-is_stopped-clause-tells
returns-else-is_stopped-clause-tells g c = λ on. let h = c.is_stopped.ensures.happened in ap is_stop (empty_told c.args.id _ _ h.0 h.1) ∙ h.2 ∙ c.if-is_stopped.false
