use Rattle.ymx_engine.proofs.Attending.{read_once, runs_then}
use Rattle.ymx_loop.proofs.Going.{runs_before, runs_behind, works_once}
use Rattle.ymx_loop.proofs.session.SessionLoop.take_turn.Goals as goal

pub returns-clause-works : goal.returns-clause-works
returns-clause-works g c =
    works_once _ _ _ _ _ _ _ (runs_then _ _ _ c.note_pace.ensures (runs_before _ _ _ c.note_users.ensures c.accept_users.ensures)) c.read_wire.ensures.runs (read_once _ _ c.read_wire.ensures.reads)
    (runs_behind _ _ _ c.log_peer.ensures (runs_behind _ _ _ c.abort_idle.ensures (runs_then _ _ _ c.heed_drain.ensures c.accept_streams.ensures))) c.serve_queued.ensures.runs c.serve_queued.ensures.turns c.flush.ensures.runs c.flush.ensures.writes (runs_before _ _ _ c.log_counts.ensures (runs_then _ _ _ c.end_lost_wire.ensures c.note_pace-2.ensures))

pub returns-clause-runs : goal.returns-clause-runs
returns-clause-runs g c =
    runs_then _ _ _ (runs_then _ _ _ c.note_pace.ensures (runs_before _ _ _ c.note_users.ensures c.accept_users.ensures)) (runs_then _ _ _ c.read_wire.ensures.runs (runs_then _ _ _ (runs_behind _ _ _ c.log_peer.ensures (runs_behind _ _ _ c.abort_idle.ensures (runs_then _ _ _ c.heed_drain.ensures c.accept_streams.ensures)))
    (runs_then _ _ _ c.serve_queued.ensures.runs (runs_then _ _ _ c.flush.ensures.runs (runs_before _ _ _ c.log_counts.ensures (runs_then _ _ _ c.end_lost_wire.ensures c.note_pace-2.ensures))))))
