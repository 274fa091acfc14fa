use Rattle.std.proofs.Common.{sym, ◌∙◌, refl}
use Rattle.ymx_engine.proofs.Carrying.{empty_of}
use Rattle.ymx_engine.proofs.Flushing.{may_not, writes_none, writes_put, writes_from, not_empty}
use Rattle.ymx_engine.proofs.tunnel.Tunnel.write_once.Goals as goal

pub returns-then-not-may_push : goal.returns-then-not-may_push
returns-then-not-may_push g c = may_not _ _ c.self.view_is (sym c.may_push.ensures ∙ c.if-not-may_push.true)

pub returns-then-is_empty : goal.returns-then-is_empty
returns-then-is_empty g c =
    let put = c.put_due.ensures in
    writes_from _ _ _ _ c.self.view_is
    (writes_none _ _ put.put put.due put.more (empty_of _ _ c.is_empty.result c.is_empty.ensures c.waiting.ensures c.if-is_empty.true) refl refl c.release.ensures.keeps c.release.ensures.none refl)

pub returns : goal.returns
returns g c =
    let put = c.put_due.ensures in
    writes_from _ _ _ _ c.self.view_is
    (writes_put _ _ _ _ put.put refl refl refl (not_empty _ _ c.is_empty.result c.is_empty.ensures c.waiting.ensures c.if-is_empty.false) refl c.push_wire.ensures)
