use Rattle.std.proofs.Common.{◌∙◌, ap, subst, length, arith}
use Rattle.std.proofs.lemmas.Bool.Decides.{nat_tests}
use Rattle.ymx_model.specs.session.Tables.{Table}
use Rattle.ymx_session.specs.contracts.state.State.{the_view}
use Rattle.ymx_session.proofs.Records.{MayRead, read-gives, read-leaves, read-rest}
use Rattle.ymx_session.proofs.state.State.read.Goals as goal

-- the stream is there as callers see the session, and gives bytes
may-read : (c : goal.After-slice_known-then-unread_len-gt0-1) → MayRead c.args.id (length c.args.buffer.now) c.in_ok-stream.stream.now c.args.self.now
may-read c =
    let same = ap (λ (x : Table). record (the_view c.self.inside) { table = x }) c.locate.ensures ∙ c.self.view_is in
    subst (MayRead c.args.id (length c.args.buffer.now) c.in_ok-stream.stream.now) same
    (record { may = c.in_ok-stream.ensures.may; there = c.in_ok-stream.ensures.there; asked = grind (arith, nat_tests); unread = omega arith })

pub returns-then-unread_len-gt0-clause-reply : goal.returns-then-unread_len-gt0-clause-reply
returns-then-unread_len-gt0-clause-reply c =
    let e = c.in_ok-stream.stream.now in
    let here = c.in_ok-stream.ensures.there in
    read-gives c.args.id c.read-count.result c.args.buffer.now c.read-count.new.buffer e c.args.self.now (may-read c) (c.read-count.ensures.count e here) (c.read-count.ensures.gave e here)

pub returns-then-unread_len-gt0-clause-state : goal.returns-then-unread_len-gt0-clause-state
returns-then-unread_len-gt0-clause-state c =
    let e = c.in_ok-stream.stream.now in
    let same = ap (λ (x : Table). record (the_view c.self.inside) { table = x }) c.locate.ensures ∙ c.self.view_is in
    let here = c.in_ok-stream.ensures.there in
    read-leaves c.args.id c.read-count.result (length c.args.buffer.now) e _ _ _ same (may-read c) (c.read-count.ensures.count e here) c.read-count.ensures.after

pub returns-then-unread_len-gt0-clause-rest : goal.returns-then-unread_len-gt0-clause-rest
returns-then-unread_len-gt0-clause-rest c =
    let e = c.in_ok-stream.stream.now in
    let here = c.in_ok-stream.ensures.there in
    read-rest c.read-count.result e.reader.unread c.args.buffer.now c.read-count.new.buffer (c.read-count.ensures.count e here) (c.read-count.ensures.gave e here)
