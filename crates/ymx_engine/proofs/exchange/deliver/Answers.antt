use Rattle.std.proofs.Common.{◌≤◌, ◌∙◌, inl, inr, sym, length, arith}
use Rattle.ymx_session.specs.Streams.{waiting}
use Rattle.ymx_engine.proofs.Parts.{part_same, part_then, part_within, part_beside, pushed_within, push_off, went_first}
use Rattle.ymx_engine.proofs.exchange.deliver.Goals as goal

pub returns-then-not-may_push-clause-delivered : goal.returns-then-not-may_push-clause-delivered
returns-then-not-may_push-clause-delivered g c = record { part = part_beside _ part_same; delivers = λ may. inr (sym c.may_push.ensures ∙ c.if-not-may_push.true) }

pub returns-then-unread_count-eq0-clause-delivered : goal.returns-then-unread_count-eq0-clause-delivered
returns-then-unread_count-eq0-clause-delivered g c = record {
  part = part_beside _ (part_within (omega arith) c.on_silence.ensures.part);
  delivers = λ may. inl (let none : length (waiting c.args.id c.args.session.now) ≤ 0 = omega (arith, c.unread_count.ensures, c.if-unread_count-eq0.true) in omega (arith, none));
}

pub returns-clause-delivered : goal.returns-clause-delivered
returns-clause-delivered g c =
    let p = c.push_once.ensures.delivered in
    let q = part_beside _ c.on_silence-2.ensures.part in
    record {
      part = part_then p.part q;
      delivers = λ may. elim (p.delivers may) [
        | inl all ↦ inl (went_first (length (waiting c.args.id c.args.session.now)) p.part q all)
        | inr off ↦ inr (push_off q off)
      ];
    }

pub returns-then-not-push_once-clause-delivered : goal.returns-then-not-push_once-clause-delivered
returns-then-not-push_once-clause-delivered g c = pushed_within c.push_once.ensures.delivered

pub returns-then-unread_count-gt0-clause-delivered : goal.returns-then-unread_count-gt0-clause-delivered
returns-then-unread_count-gt0-clause-delivered g c = pushed_within c.push_once.ensures.delivered
