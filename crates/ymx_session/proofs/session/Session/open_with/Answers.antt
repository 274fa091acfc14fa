use Rattle.std.proofs.Common.{◌≡◌, false, ap, subst}
use Rattle.ymx_machine.specs.declared.types.Call.TheVariants as call
use Rattle.ymx_model.specs.declared.types.Event.TheVariants as event
use Rattle.ymx_model.specs.session.Sessions.{Session}
use Rattle.ymx_model.specs.session.Calls.{open_with}
use Rattle.ymx_model.specs.session.Histories.{CallGives}
use Rattle.ymx_session.specs.Replies.{opened_with_or, is_out_of_memory}
use Rattle.ymx_session.proofs.Sounds.{gives-sound, memory-gives, memory-refused}
use Rattle.ymx_session.proofs.session.Session.open_with.Goals as goal

pub invariant_of-self : goal.invariant_of-self
invariant_of-self c =
    let result = c.open_with.result in
    gives-sound _ _ (event.Call (call.OpenWith c.args.bytes.now)) (opened_with_or result) (memory-gives result (call.OpenWith c.args.bytes.now) (opened_with_or result) _ _ c.open_with.ensures.outcome c.open_with.ensures.out_of_memory (λ fault e. ap opened_with_or e)) c.self.invariant

pub returns-clause-event : goal.returns-clause-event
returns-clause-event c =
    let result = c.open_with.result in
    let given = memory-gives result (call.OpenWith c.args.bytes.now) (opened_with_or result) _ _ c.open_with.ensures.outcome c.open_with.ensures.out_of_memory (λ fault e. ap opened_with_or e) in
    subst (λ (x : Session). CallGives x (call.OpenWith c.args.bytes.now) (opened_with_or result) c.open_with.new.self) c.self.view_is given

pub returns-clause-outcome : goal.returns-clause-outcome
returns-clause-outcome c =
    subst (λ (x : Session). is_out_of_memory c.open_with.result ≡ false → (opened_with_or c.open_with.result ≡ (open_with c.args.bytes.now x).reply) × (c.open_with.new.self ≡ (open_with c.args.bytes.now x).next))
    c.self.view_is c.open_with.ensures.outcome

pub returns-clause-refused : goal.returns-clause-refused
returns-clause-refused c =
    let result = c.open_with.result in
    memory-refused result (call.OpenWith c.args.bytes.now) (opened_with_or result) _ _ _ c.self.view_is c.open_with.ensures.outcome c.open_with.ensures.out_of_memory (λ fault e. ap opened_with_or e)
