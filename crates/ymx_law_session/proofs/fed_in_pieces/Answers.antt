use Rattle.ymx_law_session.proofs.pieces.Chunks.{takes-join, takes-split, feeds-join, feeds-split, feeds-inside, feeds-before}
use Rattle.ymx_law_session.proofs.pieces.Ample.{with-memory}
use Rattle.ymx_law_session.proofs.fed_in_pieces.Goals as goal

pub returns : goal.returns
returns c = record {
  bytes_join = takes-join;
  bytes_split = λ a b s u n p. let r = takes-split a b s u n p in (r.mid, r.one, r.two, r.sum, r.first, r.second);
  feeds_join = feeds-join;
  feeds_split = feeds-split;
  feed_stops_inside = feeds-inside;
  with_memory = with-memory;
  feed_stops_before = feeds-before;
}
