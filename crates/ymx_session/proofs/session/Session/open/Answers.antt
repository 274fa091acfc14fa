use Rattle.std.proofs.Common.{ap, subst}
use Rattle.ymx_machine.specs.declared.types.Call.TheVariants as call
use Rattle.ymx_model.specs.declared.types.Event.TheVariants as event
use Rattle.ymx_model.specs.session.Sessions.{Session}
use Rattle.ymx_model.specs.session.Histories.{CallGives}
use Rattle.ymx_session.specs.Replies.{opened_or}
use Rattle.ymx_session.proofs.Sounds.{gives-sound, memory-gives, memory-refused}
use Rattle.ymx_session.proofs.session.Session.open.Goals as goal

pub invariant_of-self : goal.invariant_of-self
invariant_of-self c =
    let result = c.open.result in
    gives-sound _ _ (event.Call call.Open) (opened_or result) (memory-gives result call.Open (opened_or result) _ _ c.open.ensures.outcome c.open.ensures.out_of_memory (λ fault e. ap opened_or e)) c.self.invariant

pub returns-clause-event : goal.returns-clause-event
returns-clause-event c =
    let result = c.open.result in
    let given = memory-gives result call.Open (opened_or result) _ _ c.open.ensures.outcome c.open.ensures.out_of_memory (λ fault e. ap opened_or e) in
    subst (λ (x : Session). CallGives x call.Open (opened_or result) c.open.new.self) c.self.view_is given

pub returns-clause-refused : goal.returns-clause-refused
returns-clause-refused c =
    let result = c.open.result in
    memory-refused result call.Open (opened_or result) _ _ _ c.self.view_is c.open.ensures.outcome c.open.ensures.out_of_memory (λ fault e. ap opened_or e)
