use Rattle.std.proofs.Common.{arith, refl, ◌∙◌, inl, inr}
use Rattle.ymx_tunnel.proofs.Moving.{counted, fill_begins, fill_fails, fill_ends, fill_goes_on, fill_stops, no_end, no_source, sink_is_no_end}
use Rattle.ymx_tunnel.proofs.copying.fill.Goals as goal

pub round-init : goal.round-init
round-init g c = fill_begins _ _ _

pub round-preserved : goal.round-preserved
round-preserved g c =
    fill_goes_on _ _ _ _ _ _ _ _ _ _ _ c.in-Ok.count c.pull.new.buffer c.round.invariant c.in-Ok.ensures.moved.0 c.in-Ok-write_all.ensures.took
    (omega (arith, c.in-Ok.ensures.within)) c.in-Ok.ensures.counted.0 c.saturating_add-bytes.ensures

pub returns-in_default-clause-moved : goal.returns-in_default-clause-moved
returns-in_default-clause-moved g c = fill_fails _ _ _ _ _ _ _ _ c.round.invariant c.in_default.ensures.moved

pub returns-in_default-clause-why : goal.returns-in_default-clause-why
returns-in_default-clause-why g c = inr (inl (refl, refl))

pub returns-in_default-clause-source : goal.returns-in_default-clause-source
returns-in_default-clause-source g c = λ e. counted _ _ _ c.in_default.ensures.counted c.round.invariant.kept

pub returns-in_default-clause-reader_kept : goal.returns-in_default-clause-reader_kept
returns-in_default-clause-reader_kept g c = inl refl

pub returns-then-count-eq0-clause-moved : goal.returns-then-count-eq0-clause-moved
returns-then-count-eq0-clause-moved g c =
    fill_ends _ _ _ _ _ _ _ _ _ c.pull.new.buffer c.round.invariant c.in-Ok.ensures.moved c.if-count-eq0.true (omega arith)

pub returns-then-count-eq0-clause-why : goal.returns-then-count-eq0-clause-why
returns-then-count-eq0-clause-why g c = inl (refl, refl)

pub returns-then-count-eq0-clause-source : goal.returns-then-count-eq0-clause-source
returns-then-count-eq0-clause-source g c = λ e. cc

pub returns-then-count-eq0-clause-reader_kept : goal.returns-then-count-eq0-clause-reader_kept
returns-then-count-eq0-clause-reader_kept g c = inr (c.in-Ok.ensures.counted.0 ∙ c.round.invariant.kept)

pub returns-in-Err-clause-moved : goal.returns-in-Err-clause-moved
returns-in-Err-clause-moved g c =
    fill_stops _ _ _ _ _ _ _ _ _ _ c.in-Ok.count c.in-Err.stop.taken c.pull.new.buffer _ c.round.invariant c.in-Ok.ensures.moved.0 c.in-Err.ensures.took
    c.in-Err.ensures.within c.saturating_add-bytes-in-Err.ensures (no_end _ _ _ c.why_of_fault-why.ensures.0 sink_is_no_end)

pub returns-in-Err-clause-why : goal.returns-in-Err-clause-why
returns-in-Err-clause-why g c = inr (inr (_, c.why_of_fault-why.ensures, c.in-Err.ensures.refused))

pub returns-in-Err-clause-source : goal.returns-in-Err-clause-source
returns-in-Err-clause-source g c = λ e. absurd (no_source _ _ c.why_of_fault-why.ensures.0 e)

pub returns-in-Err-clause-reader_kept : goal.returns-in-Err-clause-reader_kept
returns-in-Err-clause-reader_kept g c = inr (c.in-Ok.ensures.counted.0 ∙ c.round.invariant.kept)
