-- The released streams among those that were touched got their calls, and those that were forgotten are released no more.
use Rattle.std.proofs.Common.{◌≡◌, ℕ, List, refl, sym, ap, ◌∙◌, if◌then◌else◌}
use Rattle.std.specs.Prelude.{filter}
use Rattle.ymx_session.specs.Releases.{is_among, tended_all, forgets, looked_at, OnlyEnds}
use Rattle.ymx_session.proofs.Ends.{some-calls, some-leave, purge-quiet, touched-among}
use Rattle.ymx_session.proofs.releases.Releases.purge.Goals as goal
use Rattle.ymx_session.proofs.releases.Releases.purge.Goals.{After-tend_touched}

-- what was looked at are the touched ones
looked : (c : After-tend_touched) → filter (λ x. is_among x c.args.self.now) c.ids.result.now ≡ looked_at c.args.self.now c.args.touched.now c.args.session.now
looked c =
    ap (filter (λ x. is_among x c.args.self.now)) c.ids.ensures.value
    ∙ sym (ap (λ b. if b then c.args.self.now else filter (λ x. is_among x c.args.self.now) c.args.touched.now.ids) (sym c.looks_at_all.ensures ∙ c.if-looks_at_all.false))

tends : (c : After-tend_touched) → c.tend_touched.new.session ≡ tended_all (looked_at c.args.self.now c.args.touched.now c.args.session.now) c.args.session.now
tends c = c.tend_touched.ensures.tends ∙ ap (λ (xs : List ℕ). tended_all xs c.args.session.now) (looked c)

forgot : (c : After-tend_touched) → forgets (looked_at c.args.self.now c.args.touched.now c.args.session.now) c.args.session.now ≡ c.tend_touched.result
forgot c = sym (c.tend_touched.ensures.forgot ∙ ap (λ (xs : List ℕ). forgets xs c.args.session.now) (looked c))

calls : (c : After-tend_touched) → OnlyEnds c.args.self.now c.args.session.now c.tend_touched.new.session
calls c = some-calls c.args.self.now _ c.args.session.now c.tend_touched.new.session c.tend_touched.ensures.tends (touched-among c.args.self.now c.ids.result.now)

pub returns-then-tend_touched-clause-calls : goal.returns-then-tend_touched-clause-calls
returns-then-tend_touched-clause-calls c = calls (goal.at.returns-then-tend_touched-clause-calls c).After-tend_touched

pub returns-then-tend_touched-clause-others : goal.returns-then-tend_touched-clause-others
returns-then-tend_touched-clause-others c = some-leave c.args.self.now (filter (λ x. is_among x c.args.self.now) c.ids.result.now) c.args.session.now c.tend_touched.new.session c.tend_touched.ensures.tends (touched-among c.args.self.now c.ids.result.now)

pub returns-then-tend_touched-clause-quiet : goal.returns-then-tend_touched-clause-quiet
returns-then-tend_touched-clause-quiet c id running m h =
    let at = (goal.at.returns-then-tend_touched-clause-quiet c).After-tend_touched in
    purge-quiet c.args.self.now (looked_at c.args.self.now c.args.touched.now c.args.session.now) c.args.session.now c.tend_touched.new.session c.forget_gone.new.self id (tends at)
    (rw (forgot at ∙ c.if-tend_touched.true) c.forget_gone.ensures) c.ids_differ.ensures running m h

pub returns-else-tend_touched-clause-calls : goal.returns-else-tend_touched-clause-calls
returns-else-tend_touched-clause-calls c = calls (goal.at.returns-else-tend_touched-clause-calls c).After-tend_touched

pub returns-else-tend_touched-clause-others : goal.returns-else-tend_touched-clause-others
returns-else-tend_touched-clause-others c = some-leave c.args.self.now (filter (λ x. is_among x c.args.self.now) c.ids.result.now) c.args.session.now c.tend_touched.new.session c.tend_touched.ensures.tends (touched-among c.args.self.now c.ids.result.now)

pub returns-else-tend_touched-clause-quiet : goal.returns-else-tend_touched-clause-quiet
returns-else-tend_touched-clause-quiet c id running m h =
    let at = (goal.at.returns-else-tend_touched-clause-quiet c).After-tend_touched in
    purge-quiet c.args.self.now (looked_at c.args.self.now c.args.touched.now c.args.session.now) c.args.session.now c.tend_touched.new.session c.args.self.now id (tends at)
    (rw (forgot at ∙ c.if-tend_touched.false) refl) c.ids_differ.ensures running m h
