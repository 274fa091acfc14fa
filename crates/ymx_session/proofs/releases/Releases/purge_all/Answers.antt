-- All released streams got their calls, and those that were forgotten are released no more.
use Rattle.std.proofs.Common.{◌≡◌, ℕ, List, refl, sym, ap, ◌∙◌}
use Rattle.ymx_session.specs.Releases.{has_stream, tended_all, forgets, is_among}
use Rattle.ymx_session.proofs.Ends.{some-calls, some-leave, purge-quiet, filter-among}
use Rattle.ymx_session.proofs.releases.Releases.purge_all.Goals as goal
use Rattle.ymx_session.proofs.releases.Releases.purge_all.Goals.{After-tend_all}

-- what was looked at are the released ones
tends : (c : After-tend_all) → c.tend_all.new.session ≡ tended_all c.args.self.now c.args.session.now
tends c = c.tend_all.ensures.tends ∙ ap (λ (xs : List ℕ). tended_all xs c.args.session.now) (c.as_slice.ensures.value ∙ c.self.view_is)

forgot : (c : After-tend_all) → forgets c.args.self.now c.args.session.now ≡ c.tend_all.result
forgot c = sym (c.tend_all.ensures.forgot ∙ ap (λ (xs : List ℕ). forgets xs c.args.session.now) (c.as_slice.ensures.value ∙ c.self.view_is))

pub returns-then-tend_all-clause-calls : goal.returns-then-tend_all-clause-calls
returns-then-tend_all-clause-calls c = some-calls c.args.self.now c.args.self.now c.args.session.now c.tend_all.new.session (tends (goal.at.returns-then-tend_all-clause-calls c).After-tend_all) (λ x h. h)

pub returns-then-tend_all-clause-others : goal.returns-then-tend_all-clause-others
returns-then-tend_all-clause-others c = some-leave c.args.self.now c.args.self.now c.args.session.now c.tend_all.new.session (tends (goal.at.returns-then-tend_all-clause-others c).After-tend_all) (λ x h. h)

pub returns-then-tend_all-clause-quiet : goal.returns-then-tend_all-clause-quiet
returns-then-tend_all-clause-quiet c id running h =
    let at = (goal.at.returns-then-tend_all-clause-quiet c).After-tend_all in
    purge-quiet c.args.self.now c.args.self.now c.args.session.now c.tend_all.new.session c.forget_gone.new.self id (tends at)
    (rw (forgot at ∙ c.if-tend_all.true) c.forget_gone.ensures) c.ids_differ.ensures running (filter-among (λ x. has_stream x c.tend_all.new.session) id c.args.self.now (ap (is_among id) (sym c.forget_gone.ensures) ∙ h)) h

pub returns-else-tend_all-clause-calls : goal.returns-else-tend_all-clause-calls
returns-else-tend_all-clause-calls c = some-calls c.args.self.now c.args.self.now c.args.session.now c.tend_all.new.session (tends (goal.at.returns-else-tend_all-clause-calls c).After-tend_all) (λ x h. h)

pub returns-else-tend_all-clause-others : goal.returns-else-tend_all-clause-others
returns-else-tend_all-clause-others c = some-leave c.args.self.now c.args.self.now c.args.session.now c.tend_all.new.session (tends (goal.at.returns-else-tend_all-clause-others c).After-tend_all) (λ x h. h)

pub returns-else-tend_all-clause-quiet : goal.returns-else-tend_all-clause-quiet
returns-else-tend_all-clause-quiet c id running h =
    let at = (goal.at.returns-else-tend_all-clause-quiet c).After-tend_all in
    purge-quiet c.args.self.now c.args.self.now c.args.session.now c.tend_all.new.session c.args.self.now id (tends at)
    (rw (forgot at ∙ c.if-tend_all.false) refl) c.ids_differ.ensures running h h
