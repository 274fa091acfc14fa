use Rattle.std.proofs.Common.{inl}
use Rattle.ymx_tunnel.proofs.Moving.{finishes, finished_or, no_source_finishes, unless_ended}
use Rattle.ymx_tunnel.proofs.copying.copy_in.Goals as goal

pub returns-clause-finished : goal.returns-clause-finished
returns-clause-finished g c =
    finishes _ (λ s r. g.S.Sink.Finishes s c.finish-left.result.0 r) c.fill-bytes.new.sink c.finish-left.result.1 c.why_of_finish-why.result.0 c.why_of_finish-why.result.1 c.finish-left.ensures.finished c.why_of_finish-why.ensures

pub returns-clause-spent : goal.returns-clause-spent
returns-clause-spent g c =
    finished_or _ _ (λ s r. g.S.Sink.Finishes s c.finish-left.result.0 r) c.fill-bytes.new.sink c.finish-left.result.1 c.why_of_finish-why.result.0 c.why_of_finish-why.result.1 c.finish-left.ensures.finished c.why_of_finish-why.ensures

pub returns-clause-reset : goal.returns-clause-reset
returns-clause-reset g c = λ e. absurd (no_source_finishes c.finish-left.result.1 c.why_of_finish-why.result.0 c.why_of_finish-why.result.1 c.why_of_finish-why.ensures e)

pub returns-clause-source : goal.returns-clause-source
returns-clause-source g c = λ e. absurd (no_source_finishes c.finish-left.result.1 c.why_of_finish-why.result.0 c.why_of_finish-why.result.1 c.why_of_finish-why.ensures e)

pub returns-then-ne-clause-spent : goal.returns-then-ne-clause-spent
returns-then-ne-clause-spent g c =
    unless_ended _ _ _ c.fill-bytes.ensures.why (λ s. inl (c.fill-bytes.new.sink, c.reset-left.result.1, s, c.reset-left.ensures.reset))
