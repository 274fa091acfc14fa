use Rattle.std.proofs.Common.{◌+◌, ◌<◌, ◌≤◌, [], min, arith, length, ◌∙◌, ap, inr, rules}
use Rattle.std.proofs.KnownBytes.{Appends-nil, Consumes-nil}
use Rattle.ymx_model.specs.devices.Devices.{most_failures}
use Rattle.ymx_model.proofs.Pushed.{counted}
use Rattle.ymx_frames.proofs.Rounds.{nothing_printed_of_nothing, run_begins, read_fails, write_fails, run_ends, run_goes_on, if_failed, if_not_failed}
use Rattle.ymx_frames.proofs.print.frames.Goals as goal

pub returns-in-Err-clause-printed : goal.returns-in-Err-clause-printed
returns-in-Err-clause-printed g c = ([], [], Consumes-nil _, Appends-nil _, nothing_printed_of_nothing c.args.limit)

pub returns-in-Err-new-clause-printed : goal.returns-in-Err-new-clause-printed
returns-in-Err-new-clause-printed g c = ([], [], Consumes-nil _, Appends-nil _, nothing_printed_of_nothing c.args.limit)

pub round-init : goal.round-init
round-init g c =
    let room : 0 < length c.as_mut_slice-input.result.now = search rules in
    (run_begins _ _ _ _ _ _ c.in-Ok-new.ensures, room)

pub returns-in_default-clause-printed : goal.returns-in_default-clause-printed
returns-in_default-clause-printed g c = read_fails _ _ _ _ _ _ _ _ _ _ _ c.round.invariant.0 c.in_default.ensures.moved

pub returns-in_default-clause-reading : goal.returns-in_default-clause-reading
returns-in_default-clause-reading g c = λ e.
    counted _ _ (c.in_default.ensures.counted ∙ ap (λ n. min (n + 1) most_failures) c.round.invariant.0.reader)

pub returns-then-is_err-clause-printed : goal.returns-then-is_err-clause-printed
returns-then-is_err-clause-printed g c =
    let fits : c.in-Ok-pull.count ≤ length c.pull.new.buffer = omega (arith, c.in-Ok-pull.ensures.within) in
    let some : 0 < length c.pull.new.buffer = omega arith in
    write_fails _ _ _ _ _ _ _ _ _ _ _ c.in-Ok-pull.count c.pull.new.buffer _ _ _ _ c.round.invariant.0 c.in-Ok-pull.ensures.moved fits some
    (c.print-end.ensures.printed _ _ _ c.round.invariant.0.printing) c.lines.ensures
    (if_failed _ _ _ c.is_err.ensures.value c.if-is_err.true c.push_all.ensures.err)

pub returns-in-Some-end-clause-printed : goal.returns-in-Some-end-clause-printed
returns-in-Some-end-clause-printed g c =
    let fits : c.in-Ok-pull.count ≤ length c.pull.new.buffer = omega (arith, c.in-Ok-pull.ensures.within) in
    let some : 0 < length c.pull.new.buffer = omega arith in
    run_ends _ _ _ _ _ _ _ _ _ _ _ c.in-Ok-pull.count c.pull.new.buffer _ _ _ _ _ c.round.invariant.0 c.in-Ok-pull.ensures.moved fits some
    (c.print-end.ensures.printed _ _ _ c.round.invariant.0.printing) c.in-Some-end.is c.lines.ensures
    (if_not_failed _ _ _ c.is_err.ensures.value c.if-is_err.false c.push_all.ensures.ok)

pub returns-in-Some-end-clause-writer_kept : goal.returns-in-Some-end-clause-writer_kept
returns-in-Some-end-clause-writer_kept g c = inr (if_not_failed _ _ _ c.is_err.ensures.value c.if-is_err.false c.push_all.ensures.kept ∙ c.round.invariant.0.writer)

pub round-preserved : goal.round-preserved
round-preserved g c = (
  run_goes_on _ _ _ _ _ _ _ _ _ _ _ _ _ c.in-Ok-pull.count c.pull.new.buffer _ _ _ _ _ c.round.invariant.0 c.in-Ok-pull.ensures.moved.0
      (c.print-end.ensures.printed _ _ _ c.round.invariant.0.printing) c.in_default-end.is c.lines.ensures
      (if_not_failed _ _ _ c.is_err.ensures.value c.if-is_err.false c.push_all.ensures.ok)
      c.clear.ensures c.in-Ok-pull.ensures.counted.0
      (if_not_failed _ _ _ c.is_err.ensures.value c.if-is_err.false c.push_all.ensures.kept),
  omega arith,
)
