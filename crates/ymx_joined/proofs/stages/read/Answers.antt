use Rattle.std.proofs.Common.{inl, inr}
use Rattle.ymx_joined.proofs.Worlds.{reads}
use Rattle.ymx_joined.proofs.Told.{read-some, read-none, read-stands}
use Rattle.ymx_joined.proofs.stages.read.Goals as goal

pub returns-in-Read-clause-told : goal.returns-in-Read-clause-told
returns-in-Read-clause-told c = λ rest fits h.
    read-some c.in_ok-answer.answer c.in-Read.bytes rest _ _ c.in-Read.is
    (reads c.args.id c.args.max rest c.in_ok-answer.answer c.args.world.now c.step.new.self c.requires.room fits h c.in_ok-answer.ensures.steps c.in_ok-answer.ensures.machine)

pub returns-in-Read-clause-after : goal.returns-in-Read-clause-after
returns-in-Read-clause-after c = λ rest fits h.
    read-stands c.in_ok-answer.answer rest _
    (reads c.args.id c.args.max rest c.in_ok-answer.answer c.args.world.now c.step.new.self c.requires.room fits h c.in_ok-answer.ensures.steps c.in_ok-answer.ensures.machine)

pub returns-in-ReadEnd-clause-told : goal.returns-in-ReadEnd-clause-told
returns-in-ReadEnd-clause-told c = λ rest fits h.
    read-none c.in_ok-answer.answer rest _ _ c.in-ReadEnd.is
    (reads c.args.id c.args.max rest c.in_ok-answer.answer c.args.world.now c.step.new.self c.requires.room fits h c.in_ok-answer.ensures.steps c.in_ok-answer.ensures.machine)

pub returns-in-ReadEnd-clause-after : goal.returns-in-ReadEnd-clause-after
returns-in-ReadEnd-clause-after c = λ rest fits h.
    read-stands c.in_ok-answer.answer rest _
    (reads c.args.id c.args.max rest c.in_ok-answer.answer c.args.world.now c.step.new.self c.requires.room fits h c.in_ok-answer.ensures.steps c.in_ok-answer.ensures.machine)

pub unreachable-requires : goal.unreachable-requires
unreachable-requires c =
    elim (reads c.args.id c.args.max c.requires.stands.0 c.in_ok-answer.answer c.args.world.now c.step.new.self c.requires.room c.requires.stands.1 c.requires.stands.2 c.in_ok-answer.ensures.steps c.in_ok-answer.ensures.machine) [
      | inl made ↦ c.in_default.not-Read c.requires.stands.0 made.0
      | inr none ↦ c.in_default.not-ReadEnd none.0
    ]
