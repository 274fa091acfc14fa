use Rattle.std.proofs.Common.{◌≡◌, true, ap, subst}
use Rattle.ymx_machine.specs.declared.types.Call.TheVariants as call
use Rattle.ymx_model.specs.declared.types.Event.TheVariants as event
use Rattle.ymx_model.specs.session.Sessions.{Session}
use Rattle.ymx_model.specs.session.Calls.{takes_memory}
use Rattle.ymx_model.specs.session.Histories.{CallGives}
use Rattle.ymx_session.specs.Replies.{wrote_or, is_out_of_memory}
use Rattle.ymx_session.proofs.Sounds.{gives-sound, memory-gives, memory-refused, write-in_room}
use Rattle.ymx_session.proofs.session.Session.write.Goals as goal

pub invariant_of-self : goal.invariant_of-self
invariant_of-self c =
    let result = c.write.result in
    gives-sound _ _ (event.Call (call.Write c.args.id c.args.bytes.now)) (wrote_or result) (memory-gives result (call.Write c.args.id c.args.bytes.now) (wrote_or result) _ _ c.write.ensures.outcome c.write.ensures.out_of_memory (λ fault e. ap wrote_or e)) c.self.invariant

pub returns-clause-event : goal.returns-clause-event
returns-clause-event c =
    let result = c.write.result in
    let given = memory-gives result (call.Write c.args.id c.args.bytes.now) (wrote_or result) _ _ c.write.ensures.outcome c.write.ensures.out_of_memory (λ fault e. ap wrote_or e) in
    subst (λ (x : Session). CallGives x (call.Write c.args.id c.args.bytes.now) (wrote_or result) c.write.new.self) c.self.view_is given

pub returns-clause-in_room : goal.returns-clause-in_room
returns-clause-in_room c l =
    let lack = subst (λ (x : Session). is_out_of_memory c.write.result ≡ true → (takes_memory (call.Write c.args.id c.args.bytes.now) x ≡ true) × (c.write.new.self ≡ x)) c.self.view_is c.write.ensures.out_of_memory in
    write-in_room c.args.id c.args.bytes.now c.args.self.now (is_out_of_memory c.write.result) l (λ t. (lack t).0)

pub returns-clause-refused : goal.returns-clause-refused
returns-clause-refused c =
    let result = c.write.result in
    memory-refused result (call.Write c.args.id c.args.bytes.now) (wrote_or result) _ _ _ c.self.view_is c.write.ensures.outcome c.write.ensures.out_of_memory (λ fault e. ap wrote_or e)
