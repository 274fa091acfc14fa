use Rattle.std.proofs.Common.{refl, ap, arith, suc}
use Rattle.ymx_engine.proofs.Attending.{runs_then}
use Rattle.ymx_loop.specs.declared.session.SessionLoop.{SessionLoop}
use Rattle.ymx_loop.proofs.Going.{runs_before, same}
use Rattle.ymx_loop.proofs.Rounds.{ends_before, ends_behind, looks_more, round_more}
use Rattle.ymx_loop.proofs.Waiting.{waits_never, waits_behind, waits_before}
use Rattle.ymx_loop.proofs.session.SessionLoop.run.Goals as goal
use Rattle.ymx_loop.proofs.session.SessionLoop.run.Goals.{then-self, else-self}

pub loop-init : goal.loop-init
loop-init g c = elim c.if-self.branch [ then-self w ↦ let r = runs_before _ _ _ (ap (λ (v : SessionLoop _ _). v.tunnel) w.self-is) w.ask.ensures in record { next = (tt, tt); runs = r; rounds = (0, r, omega arith); waits = waits_never _ _ _ _ r refl } | else-self w ↦ let r = same _ _ (ap (λ (v : SessionLoop _ _). v.tunnel) w.self-is) in record { next = (tt, tt); runs = r; rounds = (0, r, omega arith); waits = waits_never _ _ _ _ r refl } ]

pub loop-preserved : goal.loop-preserved
loop-preserved g c = record {
  next = (tt, tt);
  runs = runs_then _ _ _ c.loop.invariant.runs (runs_then _ _ _ c.on_silence-limit.ensures (runs_then _ _ _ c.await_events.ensures.runs c.take_turn.ensures.runs));
  rounds = let r = c.loop.invariant.rounds in (
    suc r.0,
    round_more r.0 _ _ _ _ r.1 (runs_then _ _ _ c.on_silence-limit.ensures c.await_events.ensures.runs) c.take_turn.ensures.runs c.take_turn.ensures.works,
    let few = looks_more _ r.0 _ _ r.2 c.await_events.ensures.looked in omega (arith, few),
  );
  waits = waits_before _ _ _ _ _ (waits_behind _ _ _ _ _ _ _ c.requires.serves c.loop.invariant.waits (runs_then _ _ _ c.loop.invariant.runs c.on_silence-limit.ensures) c.on_silence-limit.ensures c.await_events.ensures.runs c.await_events.ensures.waits) c.take_turn.ensures.runs;
}

pub returns-in-Err-clause-runs : goal.returns-in-Err-clause-runs
returns-in-Err-clause-runs g c = runs_then _ _ _ c.loop.invariant.runs (runs_then _ _ _ c.on_silence-limit.ensures (runs_then _ _ _ c.await_events.ensures.runs (runs_then _ _ _ c.give_up_wire.ensures.runs c.leave_all.ensures)))

pub returns-in-Err-clause-waits : goal.returns-in-Err-clause-waits
returns-in-Err-clause-waits g c = waits_before _ _ _ _ _ (waits_behind _ _ _ _ _ _ _ c.requires.serves c.loop.invariant.waits (runs_then _ _ _ c.loop.invariant.runs c.on_silence-limit.ensures) c.on_silence-limit.ensures c.await_events.ensures.runs c.await_events.ensures.waits) (runs_then _ _ _ c.give_up_wire.ensures.runs c.leave_all.ensures)

pub returns-then-is_to_be_left-clause-runs : goal.returns-then-is_to_be_left-clause-runs
returns-then-is_to_be_left-clause-runs g c = runs_then _ _ _ c.loop.invariant.runs (runs_then _ _ _ c.on_silence-limit.ensures (runs_then _ _ _ c.await_events.ensures.runs c.leave_all-then-is_to_be_left.ensures))

pub returns-then-is_to_be_left-clause-waits : goal.returns-then-is_to_be_left-clause-waits
returns-then-is_to_be_left-clause-waits g c = waits_before _ _ _ _ _ (waits_behind _ _ _ _ _ _ _ c.requires.serves c.loop.invariant.waits (runs_then _ _ _ c.loop.invariant.runs c.on_silence-limit.ensures) c.on_silence-limit.ensures c.await_events.ensures.runs c.await_events.ensures.waits) c.leave_all-then-is_to_be_left.ensures

pub returns-then-is_over-clause-rounds : goal.returns-then-is_over-clause-rounds
returns-then-is_over-clause-rounds g c = let r = c.loop.invariant.rounds in ends_before r.0 _ _ _ _ r.1 r.2

pub returns-in-Err-clause-rounds : goal.returns-in-Err-clause-rounds
returns-in-Err-clause-rounds g c = let r = c.loop.invariant.rounds in
    ends_behind r.0 _ _ _ _ _ _ r.1 r.2 (runs_then _ _ _ c.on_silence-limit.ensures (runs_then _ _ _ c.await_events.ensures.runs (runs_then _ _ _ c.give_up_wire.ensures.runs c.leave_all.ensures))) c.await_events.ensures.looked

pub returns-then-is_to_be_left-clause-rounds : goal.returns-then-is_to_be_left-clause-rounds
returns-then-is_to_be_left-clause-rounds g c = let r = c.loop.invariant.rounds in
    ends_behind r.0 _ _ _ _ _ _ r.1 r.2 (runs_then _ _ _ c.on_silence-limit.ensures (runs_then _ _ _ c.await_events.ensures.runs c.leave_all-then-is_to_be_left.ensures)) c.await_events.ensures.looked
