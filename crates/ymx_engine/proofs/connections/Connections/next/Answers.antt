use Rattle.std.proofs.Common.{◌≡◌, ap, ◌∙◌, refl, subst, false}
use Rattle.std.specs.Prelude.{IsSome}
use Rattle.ymx_engine.specs.Entries.{entries_seen}
use Rattle.ymx_engine.specs.Turns.{Entry, Connections, connection_of}
use Rattle.ymx_engine.proofs.Entries.{rewrites_seen, rewrites_keeps, rewrites_self}
use Rattle.ymx_engine.proofs.Marking.{listed_turned, listed_there, held_marks, unmarked_by}
use Rattle.ymx_engine.proofs.Turning.{takes_turn, turn_from, turned_taken}
use Rattle.ymx_engine.proofs.connections.Connections.next.Goals as goal

pub invariant_of-self-2 : goal.invariant_of-self-2
invariant_of-self-2 g c =
    let id = c.in_ok-id.id in
    let seen = g.D.Device.seen in
    let old = entries_seen seen c.self.inside.by_id.entries in
    let new = entries_seen seen c.note_turn.new.by_id.entries in
    let r = rewrites_seen seen id _ (λ (e : Entry). record e { is_queued = false }) _ _ (λ e. refl) c.note_turn.ensures in (
      listed_turned id old new _ _ _ _ c.self.invariant.0 r (turned_taken id _ _ _ _ _ c.in_ok-id.ensures.busy c.in_ok-id.ensures.fresh),
      held_marks old new _ c.self.invariant.1 (rewrites_keeps (λ (e : Entry). e.is_held) id (λ (e : Entry). record e { is_queued = false }) old new (λ e. refl) r),
    )

pub returns-clause-connections : goal.returns-clause-connections
returns-clause-connections g c = λ other.
    let seen = g.D.Device.seen in
    let r = rewrites_seen seen c.in_ok-id.id _ (λ (e : Entry). record e { is_queued = false }) _ _ (λ e. refl) c.note_turn.ensures in
    rewrites_keeps (λ (e : Entry). e.connection) c.in_ok-id.id (λ (e : Entry). record e { is_queued = false }) _ _ (λ e. refl) r other ∙ ap (connection_of other) c.self.view_is

pub returns-clause-some : goal.returns-clause-some
returns-clause-some g c = turn_from _ _ _ _ c.self.view_is (takes_turn c.in_ok-id.id _ _ c.in_ok-id.ensures.busy c.in_ok-id.ensures.fresh c.one_less-self-inside.ensures)

pub returns-clause-there : goal.returns-clause-there
returns-clause-there g c =
    let id = c.in_ok-id.id in
    subst (λ (t : Connections). IsSome (connection_of id t)) c.self.view_is (listed_there id _ _ _ _ _ c.self.invariant.0 (turned_taken id _ _ _ _ _ c.in_ok-id.ensures.busy c.in_ok-id.ensures.fresh))

pub returns-clause-unmarked : goal.returns-clause-unmarked
returns-clause-unmarked g c =
    let seen = g.D.Device.seen in
    let r = rewrites_seen seen c.in_ok-id.id _ (λ (e : Entry). record e { is_queued = false }) _ _ (λ e. refl) c.note_turn.ensures in
    unmarked_by _ (rewrites_self (λ (e : Entry). e.is_queued ≡ false) c.in_ok-id.id (λ (e : Entry). record e { is_queued = false }) _ _ (λ e. refl) r)
