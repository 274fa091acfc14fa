use Rattle.ymx_law_session.proofs.due.Ready.{due-gives, given-due, none-due, always-gives, none-given, emission, due-kind}
use Rattle.ymx_law_session.proofs.due.Goes.{emits-freely}
use Rattle.ymx_law_session.proofs.due_is_exact.Goals as goal

pub returns : goal.returns
returns c = record {
  due_gives = due-gives;
  given_was_due = λ may s room b bytes t e. given-due may s b bytes t e.flows;
  none_due_gives_none = λ may s room out t n e. none-due may s out t n e.flows;
  none_given_none_due = none-given;
  any_room = λ room s w. let e = emission room s w in (e.out, e.after, e.emits);
  any_order = emits-freely;
  of_a_stream = due-kind;
  due_always_gives = always-gives;
}
