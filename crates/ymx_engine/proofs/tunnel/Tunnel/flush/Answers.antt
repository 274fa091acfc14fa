use Rattle.std.proofs.Common.{inl, refl, arith}
use Rattle.ymx_engine.proofs.Attending.{runs_written}
use Rattle.ymx_engine.proofs.Flushing.{writes_on, goes_on, went_on, stays_written, rests_written}
use Rattle.ymx_engine.proofs.tunnel.Tunnel.flush.Goals as goal

pub write-init : goal.write-init
write-init g c = inl (refl, refl)

pub returns-then-not-write_once-clause-runs : goal.returns-then-not-write_once-clause-runs
returns-then-not-write_once-clause-runs g c = runs_written _ _ _ (writes_on c.write.turn _ _ _ _ c.write.invariant c.write_once.ensures)

pub returns-then-not-write_once-clause-stays : goal.returns-then-not-write_once-clause-stays
returns-then-not-write_once-clause-stays g c = stays_written _ _ _ (writes_on c.write.turn _ _ _ _ c.write.invariant c.write_once.ensures)

pub returns-then-not-write_once-clause-rests : goal.returns-then-not-write_once-clause-rests
returns-then-not-write_once-clause-rests g c = rests_written _ _ _ (writes_on c.write.turn _ _ _ _ c.write.invariant c.write_once.ensures)

pub returns-then-not-write_once-clause-writes : goal.returns-then-not-write_once-clause-writes
returns-then-not-write_once-clause-writes g c = (writes_on c.write.turn _ _ _ _ c.write.invariant c.write_once.ensures).writes

pub write-preserved : goal.write-preserved
write-preserved g c = goes_on c.write.turn c.write_once.result _ _ _ c.if-not-write_once.false c.write.invariant c.write_once.ensures

pub returns-clause-runs : goal.returns-clause-runs
returns-clause-runs g c = runs_written _ _ _ (went_on c.write.turn _ _ c.write.invariant (omega (arith, c.write-test.false)))

pub returns-clause-stays : goal.returns-clause-stays
returns-clause-stays g c = stays_written _ _ _ (went_on c.write.turn _ _ c.write.invariant (omega (arith, c.write-test.false)))

pub returns-clause-rests : goal.returns-clause-rests
returns-clause-rests g c = rests_written _ _ _ (went_on c.write.turn _ _ c.write.invariant (omega (arith, c.write-test.false)))

pub returns-clause-writes : goal.returns-clause-writes
returns-clause-writes g c = (went_on c.write.turn _ _ c.write.invariant (omega (arith, c.write-test.false))).writes

pub returns-then-not-write_once-clause-memory : goal.returns-then-not-write_once-clause-memory
returns-then-not-write_once-clause-memory g c = (writes_on c.write.turn _ _ _ _ c.write.invariant c.write_once.ensures).memory

pub returns-clause-memory : goal.returns-clause-memory
returns-clause-memory g c = (went_on c.write.turn _ _ c.write.invariant (omega (arith, c.write-test.false))).memory
