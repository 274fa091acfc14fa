use Rattle.std.proofs.Common.{arith, refl, inl, inr}
use Rattle.ymx_tunnel.proofs.Moving.{empty_begins, empty_at_end, empty_ends, empty_goes_on, empty_stops, no_sink}
use Rattle.ymx_tunnel.proofs.copying.empty.Goals as goal

pub round-init : goal.round-init
round-init g c = empty_begins _ _ _

pub round-preserved : goal.round-preserved
round-preserved g c =
    empty_goes_on _ _ _ _ _ _ _ _ _ _ _ c.in-Ok.count c.read.new.buffer c.round.invariant c.in-Ok.ensures.gave c.in-Ok-push_all.ensures.ok
    (omega (arith, c.in-Ok.ensures.within)) c.in-Ok-push_all.ensures.kept c.saturating_add-bytes.ensures

pub returns-then-count-eq0-clause-moved : goal.returns-then-count-eq0-clause-moved
returns-then-count-eq0-clause-moved g c = empty_at_end _ _ _ _ _ _ _ _ c.in-Ok.count c.read.new.buffer _ c.round.invariant c.in-Ok.ensures.gave c.if-count-eq0.true

pub returns-then-count-eq0-clause-ended : goal.returns-then-count-eq0-clause-ended
returns-then-count-eq0-clause-ended g c = λ e. c.in-Ok.ensures.ended c.if-count-eq0.true

pub returns-then-count-eq0-clause-why : goal.returns-then-count-eq0-clause-why
returns-then-count-eq0-clause-why g c = inl (refl, refl)

pub returns-then-count-eq0-clause-sink : goal.returns-then-count-eq0-clause-sink
returns-then-count-eq0-clause-sink g c = λ e. cc

pub returns-then-count-eq0-clause-writer_kept : goal.returns-then-count-eq0-clause-writer_kept
returns-then-count-eq0-clause-writer_kept g c = inr c.round.invariant.kept

pub returns-in-Err-clause-moved : goal.returns-in-Err-clause-moved
returns-in-Err-clause-moved g c = empty_ends _ _ _ _ _ _ _ _ _ c.round.invariant c.in-Err.ensures.gave

pub returns-in-Err-clause-why : goal.returns-in-Err-clause-why
returns-in-Err-clause-why g c = inr (inr (_, c.why_of_fault-why.ensures, c.in-Err.ensures.refused))

pub returns-in-Err-clause-sink : goal.returns-in-Err-clause-sink
returns-in-Err-clause-sink g c = λ e. absurd (no_sink _ _ c.why_of_fault-why.ensures.0 e)

pub returns-in-Err-clause-writer_kept : goal.returns-in-Err-clause-writer_kept
returns-in-Err-clause-writer_kept g c = inr c.round.invariant.kept

pub returns-in-Err-push_all-clause-moved : goal.returns-in-Err-push_all-clause-moved
returns-in-Err-push_all-clause-moved g c =
    empty_stops _ _ _ _ _ _ _ _ _ _ c.in-Ok.count c.in-Err-push_all.taken c.read.new.buffer c.round.invariant c.in-Ok.ensures.gave c.in-Err-push_all.ensures.taken
    c.saturating_add.ensures

pub returns-in-Err-push_all-clause-ended : goal.returns-in-Err-push_all-clause-ended
returns-in-Err-push_all-clause-ended g c = λ e. cc

pub returns-in-Err-push_all-clause-why : goal.returns-in-Err-push_all-clause-why
returns-in-Err-push_all-clause-why g c = inr (inl (refl, refl))

pub returns-in-Err-push_all-clause-writer_kept : goal.returns-in-Err-push_all-clause-writer_kept
returns-in-Err-push_all-clause-writer_kept g c = inl refl
