use Rattle.std.proofs.Common.{◌∙◌, ap}
use Rattle.ymx_engine.proofs.Attending.{runs_same}
use Rattle.ymx_loop.proofs.Going.{runs_behind, same}
use Rattle.ymx_loop.specs.declared.session.SessionLoop.{SessionLoop}
use Rattle.ymx_loop.proofs.session.SessionLoop.await_events.Goals as goal
use Rattle.ymx_loop.proofs.session.SessionLoop.await_events.Goals.{then-has_work+in_ok-look, else-has_work+in_ok-wait+then-is_some, then-is_none, else-is_none, else-has_work+in_ok-wait+else-is_some+in-Users, else-has_work+in_ok-wait+else-is_some+in_default}

pub returns-in_err-look-clause-runs : goal.returns-in_err-look-clause-runs
returns-in_err-look-clause-runs g c = runs_same _

pub returns-in_err-wait-clause-runs : goal.returns-in_err-wait-clause-runs
returns-in_err-wait-clause-runs g c = elim c.if-is_none.branch [ then-is_none w ↦ same _ _ (ap (λ (v : SessionLoop _ _). v.tunnel) w.self-is) | else-is_none w ↦ same _ _ (ap (λ (v : SessionLoop _ _). v.tunnel) w.self-is) ]

pub returns-clause-runs : goal.returns-clause-runs
returns-clause-runs g c = runs_behind _ _ _ (elim c.if-has_work.branch [ then-has_work+in_ok-look w ↦ ap (λ (v : SessionLoop _ _). v.tunnel) w.self-is | else-has_work+in_ok-wait+then-is_some w ↦ ap (λ (v : SessionLoop _ _). v.tunnel) w.self-is ∙ elim w.if-is_none.branch [ then-is_none v ↦ ap (λ (v : SessionLoop _ _). v.tunnel) v.self-is | else-is_none v ↦ ap (λ (v : SessionLoop _ _). v.tunnel) v.self-is ] | else-has_work+in_ok-wait+else-is_some+in-Users w ↦ ap (λ (v : SessionLoop _ _). v.tunnel) w.self-is ∙ elim w.if-is_none.branch [ then-is_none v ↦ ap (λ (v : SessionLoop _ _). v.tunnel) v.self-is | else-is_none v ↦ ap (λ (v : SessionLoop _ _). v.tunnel) v.self-is ] | else-has_work+in_ok-wait+else-is_some+in_default w ↦ ap (λ (v : SessionLoop _ _). v.tunnel) w.self-is ∙ elim w.if-is_none.branch [ then-is_none v ↦ ap (λ (v : SessionLoop _ _). v.tunnel) v.self-is | else-is_none v ↦ ap (λ (v : SessionLoop _ _). v.tunnel) v.self-is ] ]) c.note_all.ensures
