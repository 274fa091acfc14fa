use Rattle.std.proofs.Common.{arith}
use Rattle.ymx_engine.proofs.Attending.{reads_on_then}
use Rattle.ymx_engine.proofs.InPlace.{passes_offered, passes_rest}
use Rattle.ymx_engine.proofs.Readings.{rests_on, stays_kept, stays_then}
use Rattle.ymx_engine.proofs.tunnel.Tunnel.pass.Goals as goal

pub returns-then-taken-count-clause-runs : goal.returns-then-taken-count-clause-runs
returns-then-taken-count-clause-runs g c = reads_on_then _ _ _ c.offer-taken.ensures.runs c.feed_payload.ensures.keeps

pub returns-then-taken-count-clause-stays : goal.returns-then-taken-count-clause-stays
returns-then-taken-count-clause-stays g c =
    let k = c.feed_payload.ensures.keeps in
    stays_then _ _ _ c.offer-taken.ensures.stays (stays_kept _ _ k.wire k.connections.connections)

pub returns-then-taken-count-clause-rests : goal.returns-then-taken-count-clause-rests
returns-then-taken-count-clause-rests g c =
    let k = c.feed_payload.ensures.keeps in
    rests_on _ _ _ c.offer-taken.ensures.rests k.wire k.connections.connections

pub returns-then-taken-count-clause-passed : goal.returns-then-taken-count-clause-passed
returns-then-taken-count-clause-passed g c =
    let f = c.feed_payload.ensures in
    passes_rest c.args.row c.offer-taken.result _ _ _ _ c.offer-taken.ensures.passed (omega (arith, c.count-then-taken-count.ensures)) f.placed f.most f.keeps f.anew

pub returns-else-taken-count-clause-passed : goal.returns-else-taken-count-clause-passed
returns-else-taken-count-clause-passed g c = passes_offered c.args.row c.offer-taken.result _ _ c.offer-taken.ensures.passed
