use Rattle.ymx_loop.proofs.Pieces.{all_fit, one_more_fits, too_many}
use Rattle.ymx_loop.proofs.socket.fit.Goals as goal

pub returns-then-bytes-left : goal.returns-then-bytes-left
returns-then-bytes-left c = too_many c.args.pieces.now c.piece.at _ _ c.piece.left c.args.count c.piece-test.true c.as_slice-bytes.ensures c.piece.invariant c.if-bytes-left.true

pub piece-preserved : goal.piece-preserved
piece-preserved c = one_more_fits c.args.pieces.now c.piece.at _ _ c.piece.left c.args.count c.piece-test.true c.as_slice-bytes.ensures c.piece.invariant c.if-bytes-left.false

pub returns : goal.returns
returns c = all_fit c.args.pieces.now c.piece.at c.piece.left c.args.count c.piece-test.false c.piece.invariant
