-- One more gets its call.
use Rattle.std.proofs.lemmas.List.{take_more}
use Rattle.ymx_session.proofs.Ends.{tends-more, forgets-more}
use Rattle.ymx_session.proofs.releases.tend_all.Goals as goal

pub loop-id-preserved : goal.loop-id-preserved
loop-id-preserved c =
    let more = take_more c.args.ids.now c.loop-id.id-index 0 c.loop-id-test.true in
    record {
      tends = tends-more _ _ _ _ c.args.session.now _ more c.loop-id.invariant.tends c.tend.ensures.tends;
      forgot = forgets-more _ _ _ _ _ _ c.args.session.now more c.loop-id.invariant.tends c.loop-id.invariant.forgot c.tend.ensures.goes_on;
    }
