use Rattle.std.proofs.Common.{◌<◌, ℕ, List, ap, drop, arith}
use Rattle.ymx_engine.specs.Passes.{behind_row, payload_of}
use Rattle.ymx_engine.proofs.Rows.{going_row, going_at, going_header, going_ends, going_on, behind_at, behind_on, ends_within, piece_some, ends_beside, ends_status}
use Rattle.ymx_engine.proofs.passing.commit.Goals as goal

pub piece-init : goal.piece-init
piece-init c = record {
  going = going_row c.args.row c.args.taken c.counts.result c.args.waits.now c.args.session.now c.counts.ensures c.requires.row c.requires.first c.requires.some c.requires.within;
  counts = c.counts.ensures;
  behind = ap (λ (v : List ℕ). behind_row v c.args.waits.now) c.counts.ensures;
}

pub pass-requires-clause-some : goal.pass-requires-clause-some
pass-requires-clause-some c =
    let x = going_at c.args.row c.args.row.id c.piece.at c.piece.left c.args.taken c.piece.piece-index c.counts.result (payload_of c.args.row c.args.waits.now) c.args.waits.now c.args.session.now c.piece.session c.counts.ensures c.piece.invariant.going c.piece-test.true in
    piece_some c.args.row.id c.piece.at c.piece.left c.args.taken _ c.min-count.result _ (payload_of c.args.row c.args.waits.now) c.args.waits.now c.args.session.now c.piece.session x c.min-count.ensures

pub returns-then-left-eq0-clause-committed : goal.returns-then-left-eq0-clause-committed
returns-then-left-eq0-clause-committed c =
    let x = going_at c.args.row c.args.row.id c.piece.at c.piece.left c.args.taken c.piece.piece-index c.counts.result (payload_of c.args.row c.args.waits.now) c.args.waits.now c.args.session.now c.piece.session c.counts.ensures c.piece.invariant.going c.piece-test.true in
    going_ends c.args.row.id c.piece.at c.piece.left c.args.taken _ c.min-count.result _ (payload_of c.args.row c.args.waits.now) c.args.waits.now c.args.session.now c.piece.session _ x c.min-count.ensures c.if-left-eq0.true c.pass.ensures

pub returns-then-left-eq0-clause-others : goal.returns-then-left-eq0-clause-others
returns-then-left-eq0-clause-others c =
    let x = going_at c.args.row c.args.row.id c.piece.at c.piece.left c.args.taken c.piece.piece-index c.counts.result (payload_of c.args.row c.args.waits.now) c.args.waits.now c.args.session.now c.piece.session c.counts.ensures c.piece.invariant.going c.piece-test.true in
    ends_beside c.args.row.id c.piece.at c.piece.left c.args.taken _ c.min-count.result _ (payload_of c.args.row c.args.waits.now) c.args.waits.now c.args.session.now c.piece.session _ x c.min-count.ensures c.pass.ensures

pub returns-then-left-eq0-clause-status : goal.returns-then-left-eq0-clause-status
returns-then-left-eq0-clause-status c =
    let x = going_at c.args.row c.args.row.id c.piece.at c.piece.left c.args.taken c.piece.piece-index c.counts.result (payload_of c.args.row c.args.waits.now) c.args.waits.now c.args.session.now c.piece.session c.counts.ensures c.piece.invariant.going c.piece-test.true in
    ends_status c.args.row.id c.piece.at c.piece.left c.args.taken _ c.min-count.result _ (payload_of c.args.row c.args.waits.now) c.args.waits.now c.args.session.now c.piece.session _ x c.min-count.ensures c.pass.ensures

pub slice_bounds-feed-end : goal.slice_bounds-feed-end
slice_bounds-feed-end c =
    let x = going_at c.args.row c.args.row.id c.piece.at c.piece.left c.args.taken c.piece.piece-index c.counts.result (payload_of c.args.row c.args.waits.now) c.args.waits.now c.args.session.now c.piece.session c.counts.ensures c.piece.invariant.going c.piece-test.true in
    let less : c.min-count.result < c.piece.left = omega (arith, c.if-left-eq0.false) in
    going_header c.args.row.id c.piece.at c.piece.left c.args.taken _ c.min-count.result _ (payload_of c.args.row c.args.waits.now) c.args.waits.now c.args.session.now c.piece.session x c.min-count.ensures less

pub piece-preserved : goal.piece-preserved
piece-preserved c =
    let x = going_at c.args.row c.args.row.id c.piece.at c.piece.left c.args.taken c.piece.piece-index c.counts.result (payload_of c.args.row c.args.waits.now) c.args.waits.now c.args.session.now c.piece.session c.counts.ensures c.piece.invariant.going c.piece-test.true in
    let less : c.min-count.result < c.piece.left = omega (arith, c.if-left-eq0.false) in record {
      going = going_on c.payload_follows.ensures.follows c.args.row.id c.piece.at c.piece.left c.args.taken _ c.min-count.result _ (payload_of c.args.row c.args.waits.now) c.args.waits.now _ c.args.session.now c.piece.session _ _ x c.min-count.ensures less c.pass.ensures c.feed-fed.ensures.event;
      counts = c.counts.ensures;
      behind = behind_on c.args.row.id c.piece.at c.piece.left c.args.taken _ c.min-count.result _ (payload_of c.args.row c.args.waits.now) c.args.waits.now _ c.args.session.now c.piece.session x c.min-count.ensures less
          (behind_at c.args.row c.piece.piece-index c.counts.result (drop c.piece.at c.args.waits.now) _ c.counts.ensures c.piece-test.true c.piece.invariant.behind);
    }

pub returns-then-left-eq0-clause-in_row : goal.returns-then-left-eq0-clause-in_row
returns-then-left-eq0-clause-in_row c =
    let x = going_at c.args.row c.args.row.id c.piece.at c.piece.left c.args.taken c.piece.piece-index c.counts.result (payload_of c.args.row c.args.waits.now) c.args.waits.now c.args.session.now c.piece.session c.counts.ensures c.piece.invariant.going c.piece-test.true in
    ends_within c.args.row.id c.piece.at c.piece.left c.args.taken _ c.min-count.result _ (payload_of c.args.row c.args.waits.now) c.args.waits.now _ c.args.session.now c.piece.session x c.min-count.ensures
    (behind_at c.args.row c.piece.piece-index c.counts.result (drop c.piece.at c.args.waits.now) _ c.counts.ensures c.piece-test.true c.piece.invariant.behind)
