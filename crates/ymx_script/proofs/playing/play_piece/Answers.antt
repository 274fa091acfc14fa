use Rattle.std.proofs.Common.{◌<◌, ◌≤◌, arith, length}
use Rattle.ymx_model.proofs.Pushed.{counted}
use Rattle.ymx_frames.proofs.Rounds.{if_failed, if_not_failed}
use Rattle.ymx_script.proofs.Rounds.{ended_reading, ended_writing, ended_itself, run_goes_on}
use Rattle.ymx_script.proofs.playing.play_piece.Goals as goal

pub returns-in_default : goal.returns-in_default
returns-in_default g c = λ was had read written h.
    ended_reading was _ had _ _ read _ _ written _ _ h c.in_default.ensures.moved (counted _ _ c.in_default.ensures.counted)

pub returns-then-is_err : goal.returns-then-is_err
returns-then-is_err g c =
    let fits : c.in-Ok.count ≤ length c.pull.new.buffer = omega (arith, c.in-Ok.ensures.within) in
    let some : 0 < length c.pull.new.buffer = omega arith in
    λ was had read written h.
    ended_writing was _ had _ _ _ read _ _ written _ _ c.in-Ok.count c.pull.new.buffer _ _ _ _ c.in-Ok.ensures.moved fits some
    c.round-end.ensures.leaves c.text.ensures
    (if_failed _ _ _ c.is_err.ensures.value c.if-is_err.true c.push_all.ensures.err) c.in-Ok.ensures.counted.0
    (if_failed _ _ _ c.is_err.ensures.value c.if-is_err.true c.push_all.ensures.failed) h

pub returns-in-Some : goal.returns-in-Some
returns-in-Some g c =
    let fits : c.in-Ok.count ≤ length c.pull.new.buffer = omega (arith, c.in-Ok.ensures.within) in
    let some : 0 < length c.pull.new.buffer = omega arith in
    λ was had read written h.
    ended_itself was _ had _ _ _ read _ _ written _ _ c.in-Ok.count c.pull.new.buffer _ _ _ _ _ c.in-Ok.ensures.moved fits some
    c.round-end.ensures.leaves c.round-end.ensures.own c.in-Some.is c.text.ensures
    (if_not_failed _ _ _ c.is_err.ensures.value c.if-is_err.false c.push_all.ensures.ok) c.in-Ok.ensures.counted.0
    (if_not_failed _ _ _ c.is_err.ensures.value c.if-is_err.false c.push_all.ensures.kept) h

pub returns : goal.returns
returns g c = λ was had read written h.
    run_goes_on was _ had _ _ _ read _ _ written _ _ c.in-Ok.count c.pull.new.buffer _ _ _ _ _ h c.in-Ok.ensures.moved.0
    c.round-end.ensures.leaves c.in_default-end.is c.text.ensures
    (if_not_failed _ _ _ c.is_err.ensures.value c.if-is_err.false c.push_all.ensures.ok)
    c.clear.ensures c.in-Ok.ensures.counted.0
    (if_not_failed _ _ _ c.is_err.ensures.value c.if-is_err.false c.push_all.ensures.kept)
