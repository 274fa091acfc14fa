-- The place after a header is filled with the next unsent bytes.
use Rattle.std.proofs.Common.{◌≡◌, ap}
use Rattle.ymx_model.specs.session.Records.{End}
use Rattle.ymx_half.proofs.Buffers.{put_mid-filled}
use Rattle.ymx_half.specs.Directions.{writer_of}
use Rattle.ymx_half.proofs.stream.StreamRec.put_payload.Goals as goal

pub returns-clause-written : goal.returns-clause-written
returns-clause-written c =
    let same : (writer_of c.self.inside.writer).unsent ≡ c.args.self.now.writer.unsent = ap (λ (e : End). e.writer.unsent) c.self.view_is in
    put_mid-filled 12 c.args.count c.take.result c.args.buffer.now c.args.self.now.writer.unsent c.take.new.buffer
    c.requires.fits
    c.requires.there
    (rw (← same) c.take.ensures.count)
    (rw (← same) c.take.ensures.taken)
