use Rattle.std.proofs.Common.{refl, ◌∷◌, []}
use Rattle.ymx_machine.specs.declared.types.Reply.TheVariants as reply
use Rattle.ymx_model.specs.declared.types.Event.TheVariants as event
use Rattle.ymx_engine.proofs.Coming.{due_waits}
use Rattle.ymx_engine.proofs.Serving.{puts_none, puts_one}
use Rattle.ymx_engine.proofs.sending.put_due.Goals as goal

pub returns-then-not-due-clause-put : goal.returns-then-not-due-clause-put
returns-then-not-due-clause-put c = puts_none _ _ _ refl

pub returns-then-is_empty-clause-put : goal.returns-then-is_empty-clause-put
returns-then-is_empty-clause-put c = let h = c.emit_behind.ensures.emitted in puts_one _ _ h.0 _ h.1 _ _ h.2 refl h.3

pub returns-then-is_empty-clause-waits : goal.returns-then-is_empty-clause-waits
returns-then-is_empty-clause-waits c id = let h = c.emit_behind.ensures.emitted in due_waits id ((event.Emit h.0, reply.Emitted h.1) ∷ []) _ _ (_, h.2, refl) refl c.due.ensures.within
