use Rattle.std.proofs.Common.{◌≡◌, ap, ◌∙◌, refl, sym, inl, true, false, Some}
use Rattle.std.specs.Prelude.{option_map}
use Rattle.std.specs.Map.{keys_of}
use Rattle.ymx_engine.specs.Turns.{Entry, Connections, connection_of}
use Rattle.ymx_engine.proofs.Entries.{is_some_at, seen_keys, rewrites_seen, rewrites_keeps, rewrites_found, unwritten_seen, written_seen, written_at, mark_found, queue_mark_found, absent}
use Rattle.ymx_engine.proofs.Marking.{listed_marked, listed_stay, listed_same, listed_found, held_marks, held_same, stand_behind}
use Rattle.ymx_engine.proofs.connections.Connections.enqueue.Goals as goal

pub invariant_of-self : goal.invariant_of-self
invariant_of-self g c =
    let found = sym c.in-Some.ensures.value in
    let seen = g.D.Device.seen in
    let x = c.in-Some.found.now in
    let w = record x { is_queued = true } in
    let r = rewrites_seen seen c.args.id (λ e. record e { is_queued = true }) (λ (e : Entry). record e { is_queued = true }) _ _ (λ e. refl) (rewrites_found c.args.id (λ e. record e { is_queued = true }) x _ _ found (λ other. ((c.get_mut.follows.holds w).3 (is_some_at found)).0 other)) in (
      listed_marked c.args.id _ _ _ _ _ _ c.self.invariant.0 r (mark_found seen c.self.inside.by_id.entries c.args.id x found ∙ ap (λ b. Some b) c.if-not-found.true) c.in-Ok.ensures.stands,
      held_marks _ _ _ c.self.invariant.1 (rewrites_keeps (λ (e : Entry). e.is_held) c.args.id (λ (e : Entry). record e { is_queued = true }) _ _ (λ e. refl) r),
    )

pub invariant_of-self-in-Err : goal.invariant_of-self-in-Err
invariant_of-self-in-Err g c =
    let found = sym c.in-Some.ensures.value in
    let same = unwritten_seen g.D.Device.seen c.args.id c.in-Some.found.now _ _ found (λ other. ((c.get_mut.follows.holds c.in-Some.found.now).3 (is_some_at found)).0 other) in
    (listed_stay _ _ _ _ _ _ c.self.invariant.0 same c.in-Err.ensures.refused.0 c.in-Err.ensures.refused.1, held_same _ _ _ c.self.invariant.1 same)

pub invariant_of-self-else-not-found : goal.invariant_of-self-else-not-found
invariant_of-self-else-not-found g c =
    let found = sym c.in-Some.ensures.value in
    let same = unwritten_seen g.D.Device.seen c.args.id c.in-Some.found.now _ _ found (λ other. ((c.get_mut.follows.holds c.in-Some.found.now).3 (is_some_at found)).0 other) in
    (listed_same _ _ _ _ c.self.invariant.0 same, held_same _ _ _ c.self.invariant.1 same)

pub returns-in-Ok-clause-connections : goal.returns-in-Ok-clause-connections
returns-in-Ok-clause-connections g c = λ other.
    let found = sym c.in-Some.ensures.value in
    let seen = g.D.Device.seen in
    let x = c.in-Some.found.now in
    let w = record x { is_queued = true } in
    let r = rewrites_seen seen c.args.id (λ e. record e { is_queued = true }) (λ (e : Entry). record e { is_queued = true }) _ _ (λ e. refl) (rewrites_found c.args.id (λ e. record e { is_queued = true }) x _ _ found (λ other. ((c.get_mut.follows.holds w).3 (is_some_at found)).0 other)) in
    rewrites_keeps (λ (e : Entry). e.connection) c.args.id (λ (e : Entry). record e { is_queued = true }) _ _ (λ e. refl) r other ∙ ap (connection_of other) c.self.view_is

pub returns-in-Ok-clause-keys : goal.returns-in-Ok-clause-keys
returns-in-Ok-clause-keys g c = seen_keys g.D.Device.seen _ ∙ (c.get_mut.follows.holds (record c.in-Some.found.now { is_queued = true })).1 ∙ sym (seen_keys g.D.Device.seen c.self.inside.by_id.entries) ∙ ap (λ (t : Connections). keys_of t.by_id) c.self.view_is

pub returns-in-Ok-clause-marked : goal.returns-in-Ok-clause-marked
returns-in-Ok-clause-marked g c = λ some.
    let found = sym c.in-Some.ensures.value in
    let w = record c.in-Some.found.now { is_queued = true } in
    inl (ap (option_map (λ (e : Entry). e.is_queued)) (written_at c.args.id _ _ _ (written_seen g.D.Device.seen c.args.id w _ _ (λ other. ((c.get_mut.follows.holds w).3 (is_some_at found)).0 other))))

pub returns-in-Ok-clause-once : goal.returns-in-Ok-clause-once
returns-in-Ok-clause-once g c = λ on.
    let is = queue_mark_found g.D.Device.seen c.self.inside.by_id.entries c.args.id c.in-Some.found.now c.args.self.now (ap (λ (t : Connections). t.by_id) c.self.view_is) (sym c.in-Some.ensures.value) in
    let no : Some c.in-Some.found.now.is_queued ≡ Some true = sym is ∙ on in
    let off : c.in-Some.found.now.is_queued ≡ false = c.if-not-found.true in
    absurd cc

pub returns-in-Ok-clause-waits : goal.returns-in-Ok-clause-waits
returns-in-Ok-clause-waits g c = λ some room. stand_behind c.args.id _ _ _ _ c.in-Ok.ensures.stands

pub returns-in-Ok-clause-awaits : goal.returns-in-Ok-clause-awaits
returns-in-Ok-clause-awaits g c = λ some. inl (stand_behind c.args.id _ _ _ _ c.in-Ok.ensures.stands)

pub returns-in-Err-clause-connections : goal.returns-in-Err-clause-connections
returns-in-Err-clause-connections g c = λ other.
    let found = sym c.in-Some.ensures.value in
    let same = unwritten_seen g.D.Device.seen c.args.id c.in-Some.found.now _ _ found (λ other. ((c.get_mut.follows.holds c.in-Some.found.now).3 (is_some_at found)).0 other) in
    ap (option_map (λ (e : Entry). e.connection)) (same other) ∙ ap (connection_of other) c.self.view_is

pub returns-in-Err-clause-keys : goal.returns-in-Err-clause-keys
returns-in-Err-clause-keys g c = seen_keys g.D.Device.seen _ ∙ (c.get_mut.follows.holds c.in-Some.found.now).1 ∙ sym (seen_keys g.D.Device.seen c.self.inside.by_id.entries) ∙ ap (λ (t : Connections). keys_of t.by_id) c.self.view_is

pub returns-else-not-found-clause-connections : goal.returns-else-not-found-clause-connections
returns-else-not-found-clause-connections g c = λ other.
    let found = sym c.in-Some.ensures.value in
    let same = unwritten_seen g.D.Device.seen c.args.id c.in-Some.found.now _ _ found (λ other. ((c.get_mut.follows.holds c.in-Some.found.now).3 (is_some_at found)).0 other) in
    ap (option_map (λ (e : Entry). e.connection)) (same other) ∙ ap (connection_of other) c.self.view_is

pub returns-else-not-found-clause-waits : goal.returns-else-not-found-clause-waits
returns-else-not-found-clause-waits g c = λ some room. listed_found g.D.Device.seen c.self.inside.by_id.entries c.args.id c.in-Some.found.now _ _ c.self.invariant.0 (sym c.in-Some.ensures.value) c.if-not-found.false

pub returns-else-not-found-clause-awaits : goal.returns-else-not-found-clause-awaits
returns-else-not-found-clause-awaits g c = λ some. inl (listed_found g.D.Device.seen c.self.inside.by_id.entries c.args.id c.in-Some.found.now _ _ c.self.invariant.0 (sym c.in-Some.ensures.value) c.if-not-found.false)

pub returns-else-not-found-clause-keys : goal.returns-else-not-found-clause-keys
returns-else-not-found-clause-keys g c = seen_keys g.D.Device.seen _ ∙ (c.get_mut.follows.holds c.in-Some.found.now).1 ∙ sym (seen_keys g.D.Device.seen c.self.inside.by_id.entries) ∙ ap (λ (t : Connections). keys_of t.by_id) c.self.view_is

pub returns-else-not-found-clause-marked : goal.returns-else-not-found-clause-marked
returns-else-not-found-clause-marked g c = λ some.
    let found = sym c.in-Some.ensures.value in
    let x = c.in-Some.found.now in
    inl (ap (option_map (λ (e : Entry). e.is_queued)) (written_at c.args.id _ _ _ (written_seen g.D.Device.seen c.args.id x _ _ (λ other. ((c.get_mut.follows.holds x).3 (is_some_at found)).0 other))) ∙ ap (λ b. Some b) c.if-not-found.false)

pub returns-in_default-clause-waits : goal.returns-in_default-clause-waits
returns-in_default-clause-waits g c = λ some room. absent g.D.Device.seen c.self.inside.by_id.entries c.args.id c.args.self.now (ap (λ (t : Connections). t.by_id) c.self.view_is) (sym c.in_default.ensures.value) some

pub returns-in_default-clause-awaits : goal.returns-in_default-clause-awaits
returns-in_default-clause-awaits g c = λ some. absent g.D.Device.seen c.self.inside.by_id.entries c.args.id c.args.self.now (ap (λ (t : Connections). t.by_id) c.self.view_is) (sym c.in_default.ensures.value) some

pub returns-in_default-clause-marked : goal.returns-in_default-clause-marked
returns-in_default-clause-marked g c = λ some. absent g.D.Device.seen c.self.inside.by_id.entries c.args.id c.args.self.now (ap (λ (t : Connections). t.by_id) c.self.view_is) (sym c.in_default.ensures.value) some
