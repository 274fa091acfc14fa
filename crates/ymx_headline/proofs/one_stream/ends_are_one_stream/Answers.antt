-- Each law by a lemma of its own: of both directions while the stream is alive, of little once a reset has arrived.
use Rattle.ymx_headline.proofs.stream.OneStream.{one-begins, one-flip, one-calls, one-accepts, one-shows, one-sends, one-comes, one-pieces, one-over, one-releases, one-loses, one-still}
use Rattle.ymx_headline.proofs.one_stream.ends_are_one_stream.Goals as goal

pub returns : goal.returns
returns c = record { begins = λ bytes with_data oy wx wy. one-begins bytes with_data oy wx wy; flips = one-flip; calls = one-calls; accepts = one-accepts; shows = one-shows; sends = one-sends; comes = one-comes; pieces = one-pieces; payload_over = one-over; releases = one-releases; loses = one-loses; still = one-still }
