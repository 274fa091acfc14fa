use Rattle.std.proofs.Common.{◌∙◌, ap, subst, arith}
use Rattle.std.proofs.lemmas.Bool.Decides.{nat_tests}
use Rattle.ymx_model.specs.session.Tables.{Table}
use Rattle.ymx_session.specs.contracts.state.State.{the_view}
use Rattle.ymx_session.proofs.Records.{MayRead, read-leaves, consume-gives, consume-within}
use Rattle.ymx_session.proofs.state.State.consume.Goals as goal

-- the stream is there as callers see the session, and gives bytes
may-read : (c : goal.After-consume-taken) → MayRead c.args.id c.args.count c.in_ok-stream.stream.now c.args.self.now
may-read c =
    let same = ap (λ (x : Table). record (the_view c.self.inside) { table = x }) c.locate.ensures ∙ c.self.view_is in
    subst (MayRead c.args.id c.args.count c.in_ok-stream.stream.now) same
    (record { may = c.in_ok-stream.ensures.may; there = c.in_ok-stream.ensures.there; asked = grind (arith, nat_tests); unread = grind (arith, nat_tests) })

pub returns-then-has_bytes-clause-reply : goal.returns-then-has_bytes-clause-reply
returns-then-has_bytes-clause-reply c =
    let e = c.in_ok-stream.stream.now in
    let here = c.in_ok-stream.ensures.there in
    consume-gives c.args.id c.consume-taken.result c.args.count e c.args.self.now (may-read c) (c.consume-taken.ensures.count e here)

pub returns-then-has_bytes-clause-state : goal.returns-then-has_bytes-clause-state
returns-then-has_bytes-clause-state c =
    let e = c.in_ok-stream.stream.now in
    let same = ap (λ (x : Table). record (the_view c.self.inside) { table = x }) c.locate.ensures ∙ c.self.view_is in
    let here = c.in_ok-stream.ensures.there in
    read-leaves c.args.id c.consume-taken.result c.args.count e _ _ _ same (may-read c) (c.consume-taken.ensures.count e here) c.consume-taken.ensures.after

pub returns-then-has_bytes-clause-there : goal.returns-then-has_bytes-clause-there
returns-then-has_bytes-clause-there c =
    let e = c.in_ok-stream.stream.now in
    let here = c.in_ok-stream.ensures.there in
    consume-within c.args.id c.consume-taken.result c.args.count e c.args.self.now (may-read c) (c.consume-taken.ensures.count e here)
