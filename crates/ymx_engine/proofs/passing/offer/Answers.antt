use Rattle.std.proofs.Common.{◌<◌, refl, arith}
use Rattle.ymx_engine.specs.Passes.{counts_of, payload_of}
use Rattle.ymx_engine.proofs.Advancing.{offered_none, offered_some, offered_failed}
use Rattle.ymx_engine.proofs.Gaining.{reset_gains}
use Rattle.ymx_engine.proofs.Rows.{behind_fewer, row_some}
use Rattle.ymx_engine.proofs.Steady.{reset_stays}
use Rattle.ymx_engine.proofs.passing.offer.Goals as goal

pub returns-in-Took-clause-offered : goal.returns-in-Took-clause-offered
returns-in-Took-clause-offered g c =
    let x = c.commit.ensures in
    let some : 0 < c.in-Took.count = c.in-Took.ensures.some refl (row_some c.args.row c.args.waits.now c.args.session.now c.requires.row c.requires.some) in
    offered_some c.args.row.id c.in-Took.count c.commit.result _ _ (payload_of c.args.row c.args.waits.now) c.args.waits.now _ _ _ c.in-Took.ensures some x.within x.committed

pub returns-in-NotNow-clause-offered : goal.returns-in-NotNow-clause-offered
returns-in-NotNow-clause-offered g c = offered_none c.args.row.id _ (payload_of c.args.row c.args.waits.now) c.args.waits.now _ _ _ c.in-NotNow.ensures

pub returns-in-Failed-clause-offered : goal.returns-in-Failed-clause-offered
returns-in-Failed-clause-offered g c =
    let h = c.reset_and_shut.ensures in
    offered_failed c.args.row.id h.reset.0 _ _ (payload_of c.args.row c.args.waits.now) c.args.waits.now _ _ _ _ _ c.in-Failed.ensures h.reset.1 h.shut h.broken

pub returns-in-Failed-clause-others : goal.returns-in-Failed-clause-others
returns-in-Failed-clause-others g c = let h = c.reset_and_shut.ensures.reset in λ other ne. reset_gains c.args.row.id other h.0 _ _ h.1 ne

pub returns-in-Failed-clause-status : goal.returns-in-Failed-clause-status
returns-in-Failed-clause-status g c = let h = c.reset_and_shut.ensures.reset in reset_stays c.args.row.id h.0 _ _ h.1

pub returns-in-NotNow-clause-in_row : goal.returns-in-NotNow-clause-in_row
returns-in-NotNow-clause-in_row g c = let fewer = behind_fewer (counts_of c.args.row) c.args.waits.now in omega (arith, fewer)

pub returns-in-Failed-clause-in_row : goal.returns-in-Failed-clause-in_row
returns-in-Failed-clause-in_row g c = let fewer = behind_fewer (counts_of c.args.row) c.args.waits.now in omega (arith, fewer)
