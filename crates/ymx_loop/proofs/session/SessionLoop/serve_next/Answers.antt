use Rattle.std.proofs.Common.{◌∙◌, ap}
use Rattle.ymx_engine.proofs.Attending.{runs_then}
use Rattle.ymx_loop.proofs.Going.{none_served, one_served, runs_before, runs_behind, same}
use Rattle.ymx_loop.specs.declared.session.SessionLoop.{SessionLoop}
use Rattle.ymx_loop.proofs.session.SessionLoop.serve_next.Goals as goal
use Rattle.ymx_loop.proofs.session.SessionLoop.serve_next.Goals.{then-is_connection_over, else-is_connection_over, in-Some-device, in_default-device}

pub returns-clause-runs : goal.returns-clause-runs
returns-clause-runs g c = elim c.if-is_connection_over.branch [ then-is_connection_over w ↦ runs_then _ _ _ c.serve_next.ensures.runs (runs_before _ _ _ (ap (λ (v : SessionLoop _ _). v.tunnel) w.self-is) (runs_behind _ _ _ (elim c.match-device.branch [ in-Some-device v ↦ ap (λ (v : SessionLoop _ _). v.tunnel) v.self-is ∙ v.add_passed.ensures | in_default-device v ↦ ap (λ (v : SessionLoop _ _). v.tunnel) v.self-is ]) w.forget.ensures.runs)) | else-is_connection_over w ↦ runs_then _ _ _ c.serve_next.ensures.runs (same _ _ (ap (λ (v : SessionLoop _ _). v.tunnel) w.self-is ∙ (elim c.match-device.branch [ in-Some-device v ↦ ap (λ (v : SessionLoop _ _). v.tunnel) v.self-is ∙ v.add_passed.ensures | in_default-device v ↦ ap (λ (v : SessionLoop _ _). v.tunnel) v.self-is ]))) ]

pub returns-clause-turns : goal.returns-clause-turns
returns-clause-turns g c = elim c.if-is_connection_over.branch [ then-is_connection_over w ↦ one_served _ _ _ c.in-Some.served.id c.in-Some.served.gave c.serve_next.ensures.runs c.in-Some.ensures.turn (runs_before _ _ _ (ap (λ (v : SessionLoop _ _). v.tunnel) w.self-is) (runs_behind _ _ _ (elim c.match-device.branch [ in-Some-device v ↦ ap (λ (v : SessionLoop _ _). v.tunnel) v.self-is ∙ v.add_passed.ensures | in_default-device v ↦ ap (λ (v : SessionLoop _ _). v.tunnel) v.self-is ]) w.forget.ensures.runs)) | else-is_connection_over w ↦ one_served _ _ _ c.in-Some.served.id c.in-Some.served.gave c.serve_next.ensures.runs c.in-Some.ensures.turn (same _ _ (ap (λ (v : SessionLoop _ _). v.tunnel) w.self-is ∙ (elim c.match-device.branch [ in-Some-device v ↦ ap (λ (v : SessionLoop _ _). v.tunnel) v.self-is ∙ v.add_passed.ensures | in_default-device v ↦ ap (λ (v : SessionLoop _ _). v.tunnel) v.self-is ]))) ]

pub returns-in_default-clause-turns : goal.returns-in_default-clause-turns
returns-in_default-clause-turns g c = none_served _ _ c.in_default.ensures.none
