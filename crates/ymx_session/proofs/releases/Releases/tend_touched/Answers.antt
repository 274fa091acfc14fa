-- One more of those that were touched, which gets its call if it is released.
use Rattle.std.proofs.Common.{sym, ◌∙◌}
use Rattle.std.proofs.lemmas.List.{take_more}
use Rattle.ymx_session.specs.Releases.{is_among}
use Rattle.ymx_session.proofs.Ends.{touched-more, touched-none}
use Rattle.ymx_session.proofs.releases.Releases.tend_touched.Goals as goal
use Rattle.ymx_session.proofs.releases.Releases.tend_touched.Goals.{then-contains, else-contains}

pub loop-id-preserved : goal.loop-id-preserved
loop-id-preserved c =
    let more = take_more c.args.touched.now c.loop-id.id-index 0 c.loop-id-test.true in
    elim c.if-contains.branch [
      | then-contains w ↦ rw (w.session-is, w.forgot-is) (touched-more (λ x. is_among x c.args.self.now) _ _ _ c.loop-id.forgot w.tend.result c.loop-id.session c.args.session.now w.tend.new.self more (sym c.contains.ensures ∙ w.if-contains.true) c.loop-id.invariant w.tend.ensures.goes_on w.tend.ensures.tends)
      | else-contains w ↦ rw (w.session-is, w.forgot-is) (touched-none (λ x. is_among x c.args.self.now) _ _ _ c.loop-id.forgot c.loop-id.session c.args.session.now more (sym c.contains.ensures ∙ w.if-contains.false) c.loop-id.invariant)
    ]
