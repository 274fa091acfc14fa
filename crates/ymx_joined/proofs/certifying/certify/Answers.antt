-- What the audit answers of the entries holds of the transcripts, whose entries they are.
use Rattle.ymx_world.proofs.Headlines.{ok-then, some-then}
use Rattle.ymx_joined.proofs.Certificates.{none-then, certified, not_joint}
use Rattle.ymx_joined.proofs.certifying.certify.Goals as goal

pub returns-clause-one_run : goal.returns-clause-one_run
returns-clause-one_run c =
    ok-then c.audit.result _ _
    (λ found h. some-then found _ _
    (λ steps run. certified c.args.client.now c.args.server.now _ _ steps.items c.requires.client c.requires.server
    c.entries.ensures.replays c.entries-2.ensures.replays c.entries.ensures.entries c.entries-2.ensures.entries run) h)
    c.audit.ensures.one_run

pub returns-clause-none : goal.returns-clause-none
returns-clause-none c =
    ok-then c.audit.result _ _
    (λ found h. none-then found _ _ (not_joint _ _ _ _ c.entries.ensures.entries c.entries-2.ensures.entries) h)
    c.audit.ensures.none
