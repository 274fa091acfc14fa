-- It is finished, and then tended; whether it goes on a finish leaves as it was.
use Rattle.std.proofs.Common.{◌≡◌, refl, sym, ◌∙◌}
use Rattle.ymx_session.specs.Releases.{goes_on, let_go}
use Rattle.ymx_session.proofs.Ends.{let-go-is, goes-before, release-calls, release-leaves, release-quiets}
use Rattle.ymx_session.proofs.releases.Releases.release.Goals as goal
use Rattle.ymx_session.proofs.releases.Releases.release.Goals.{After-tend}

went : (c : After-tend) → c.tend.new.self ≡ let_go c.args.id c.args.session.now
went c = let-go-is c.args.id c.args.session.now c.finish.new.self c.tend.new.self _ c.finish.ensures.event c.tend.ensures.tends

goes : (c : After-tend) → goes_on c.args.id c.args.session.now ≡ c.tend.result
goes c = sym (goes-before c.args.id c.args.session.now c.finish.new.self _ c.finish.ensures.event) ∙ sym c.tend.ensures.goes_on

pub returns-then-tend-clause-kept : goal.returns-then-tend-clause-kept
returns-then-tend-clause-kept c = rw (goes (goal.at.returns-then-tend-clause-kept c).After-tend ∙ c.if-tend.true) c.add.ensures

pub returns-then-tend-clause-calls : goal.returns-then-tend-clause-calls
returns-then-tend-clause-calls c = release-calls c.args.id c.args.session.now c.tend.new.self (went (goal.at.returns-then-tend-clause-calls c).After-tend)

pub returns-then-tend-clause-others : goal.returns-then-tend-clause-others
returns-then-tend-clause-others c = release-leaves c.args.id c.args.session.now c.tend.new.self (went (goal.at.returns-then-tend-clause-others c).After-tend)

pub returns-then-tend-clause-quiet : goal.returns-then-tend-clause-quiet
returns-then-tend-clause-quiet c = release-quiets c.args.id c.args.session.now c.tend.new.self (went (goal.at.returns-then-tend-clause-quiet c).After-tend)

pub returns-else-tend-clause-kept : goal.returns-else-tend-clause-kept
returns-else-tend-clause-kept c = rw (goes (goal.at.returns-else-tend-clause-kept c).After-tend ∙ c.if-tend.false) refl

pub returns-else-tend-clause-calls : goal.returns-else-tend-clause-calls
returns-else-tend-clause-calls c = release-calls c.args.id c.args.session.now c.tend.new.self (went (goal.at.returns-else-tend-clause-calls c).After-tend)

pub returns-else-tend-clause-others : goal.returns-else-tend-clause-others
returns-else-tend-clause-others c = release-leaves c.args.id c.args.session.now c.tend.new.self (went (goal.at.returns-else-tend-clause-others c).After-tend)

pub returns-else-tend-clause-quiet : goal.returns-else-tend-clause-quiet
returns-else-tend-clause-quiet c = release-quiets c.args.id c.args.session.now c.tend.new.self (went (goal.at.returns-else-tend-clause-quiet c).After-tend)
