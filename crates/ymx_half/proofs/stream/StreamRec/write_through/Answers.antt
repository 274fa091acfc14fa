-- The bytes stand after their header, and only their credit is spent.
use Rattle.std.proofs.Common.{◌≡◌, ◌≤◌, ◌++◌, ℕ, List, [], length, drop, ap, refl, ◌∙◌}
use Rattle.ymx_header.specs.Headers.{spelling}
use Rattle.ymx_header.specs.declared.header.Header.{Header}
use Rattle.ymx_machine.specs.shared.Limits.{data_limit}
use Rattle.ymx_model.specs.session.Records.{End, Writer, writer_write, writer_send}
use Rattle.ymx_half.specs.Directions.{writer_of}
use Rattle.ymx_half.specs.Through.{writer_spend, sent}
use Rattle.ymx_half.specs.contracts.stream.StreamRec.{the_view}
use Rattle.ymx_half.proofs.Buffers.{length-spelling, put-behind, drop-all}
use Rattle.ymx_half.proofs.stream.StreamRec.write_through.Goals as goal

-- what is written and goes into one frame leaves no byte unsent
spend-sends : (bytes : List ℕ) (w : Writer) → w.unsent ≡ [] → length bytes ≤ data_limit → writer_spend (length bytes) w ≡ writer_send data_limit (writer_write bytes w)
spend-sends bytes w none few =
    let d : drop data_limit (w.unsent ++ bytes) ≡ w.unsent = rw none (drop-all data_limit bytes few) in
    rw d refl

pub returns-clause-written : goal.returns-clause-written
returns-clause-written c =
    let head : Header = record { version = 0; kind = 0; flags = 0; id = c.args.id; length = length c.args.bytes.now } in
    let put : c.put_header.new.buffer ≡ spelling head ++ drop 12 c.args.buffer.now = rw c.data.ensures at c.put_header.ensures in
    put-behind 12 (spelling head) c.args.bytes.now c.args.buffer.now c.put_header.new.buffer c.copy_from_slice.new.self
    (length-spelling head) put c.copy_from_slice.ensures.after c.requires.fits

pub returns-clause-after : goal.returns-clause-after
returns-clause-after c =
    let before = writer_of c.self.inside.writer in
    let none : before.unsent ≡ [] = ap (λ (e : End). e.writer.unsent) c.self.view_is ∙ c.requires.may.all_sent in
    let sends = spend-sends c.args.bytes.now before none c.requires.may.one_frame in
    ap (λ (w : Writer). record (the_view c.self.inside) { writer = w }) (c.spend.ensures.spent ∙ sends) ∙ ap (sent c.args.bytes.now) c.self.view_is
