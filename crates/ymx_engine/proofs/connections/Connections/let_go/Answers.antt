use Rattle.std.proofs.Common.{ap, ◌∙◌, refl, false}
use Rattle.ymx_engine.specs.Turns.{Entry, connection_of}
use Rattle.ymx_engine.proofs.Entries.{rewrites_seen, rewrites_keeps}
use Rattle.ymx_engine.proofs.Marking.{listed_marks, held_let_go}
use Rattle.ymx_engine.proofs.connections.Connections.let_go.Goals as goal

pub invariant_of-self-2 : goal.invariant_of-self-2
invariant_of-self-2 g c =
    let r = rewrites_seen g.D.Device.seen c.in_ok-id.id _ (λ (e : Entry). record e { is_held = false }) _ _ (λ e. refl) c.note_let_go.ensures in (
      listed_marks _ _ _ _ c.self.invariant.0 (rewrites_keeps (λ (e : Entry). e.is_queued) c.in_ok-id.id (λ (e : Entry). record e { is_held = false }) _ _ (λ e. refl) r),
      held_let_go c.in_ok-id.id _ _ _ _ c.self.invariant.1 r c.in_ok-id.ensures.items,
    )

pub returns-clause-connections : goal.returns-clause-connections
returns-clause-connections g c = λ other.
    let r = rewrites_seen g.D.Device.seen c.in_ok-id.id _ (λ (e : Entry). record e { is_held = false }) _ _ (λ e. refl) c.note_let_go.ensures in
    rewrites_keeps (λ (e : Entry). e.connection) c.in_ok-id.id (λ (e : Entry). record e { is_held = false }) _ _ (λ e. refl) r other ∙ ap (connection_of other) c.self.view_is
