use Rattle.std.proofs.Common.{◌≡◌, ℕ, List, ap, ◌∙◌, refl, sym, subst, inl, inr, true, false, Some}
use Rattle.std.specs.Prelude.{option_map, Contains}
use Rattle.std.proofs.lemmas.List.Elements.{Contains-push}
use Rattle.ymx_engine.specs.Turns.{Entry, Connections, connection_of}
use Rattle.ymx_engine.proofs.Entries.{is_some_at, rewrites_seen, rewrites_keeps, rewrites_found, unwritten_seen, written_seen, written_at, held_mark_found, absent}
use Rattle.ymx_engine.proofs.Marking.{listed_marks, listed_same, held_marked, held_on, held_same, held_found}
use Rattle.ymx_engine.proofs.connections.Connections.hold.Goals as goal

pub invariant_of-self : goal.invariant_of-self
invariant_of-self g c =
    let found = sym c.in-Some.ensures.value in
    let seen = g.D.Device.seen in
    let x = c.in-Some.found.now in
    let w = record x { is_held = true } in
    let r = rewrites_seen seen c.args.id (λ e. record e { is_held = true }) (λ (e : Entry). record e { is_held = true }) _ _ (λ e. refl) (rewrites_found c.args.id (λ e. record e { is_held = true }) x _ _ found (λ other. ((c.get_mut.follows.holds w).3 (is_some_at found)).0 other)) in (
      listed_marks _ _ _ _ c.self.invariant.0 (rewrites_keeps (λ (e : Entry). e.is_queued) c.args.id (λ (e : Entry). record e { is_held = true }) _ _ (λ e. refl) r),
      held_marked c.args.id _ _ _ _ c.self.invariant.1 r c.in-Ok.ensures.items,
    )

pub invariant_of-self-in-Err : goal.invariant_of-self-in-Err
invariant_of-self-in-Err g c =
    let found = sym c.in-Some.ensures.value in
    let same = unwritten_seen g.D.Device.seen c.args.id c.in-Some.found.now _ _ found (λ other. ((c.get_mut.follows.holds c.in-Some.found.now).3 (is_some_at found)).0 other) in
    (listed_same _ _ _ _ c.self.invariant.0 same, held_on _ _ _ _ c.self.invariant.1 same (λ other h. subst (λ (v : List ℕ). Contains v other) (sym c.in-Err.ensures.items) h))

pub invariant_of-self-else-not-found : goal.invariant_of-self-else-not-found
invariant_of-self-else-not-found g c =
    let found = sym c.in-Some.ensures.value in
    let same = unwritten_seen g.D.Device.seen c.args.id c.in-Some.found.now _ _ found (λ other. ((c.get_mut.follows.holds c.in-Some.found.now).3 (is_some_at found)).0 other) in
    (listed_same _ _ _ _ c.self.invariant.0 same, held_same _ _ _ c.self.invariant.1 same)

pub returns-in-Ok-clause-connections : goal.returns-in-Ok-clause-connections
returns-in-Ok-clause-connections g c = λ other.
    let found = sym c.in-Some.ensures.value in
    let seen = g.D.Device.seen in
    let x = c.in-Some.found.now in
    let w = record x { is_held = true } in
    let r = rewrites_seen seen c.args.id (λ e. record e { is_held = true }) (λ (e : Entry). record e { is_held = true }) _ _ (λ e. refl) (rewrites_found c.args.id (λ e. record e { is_held = true }) x _ _ found (λ other. ((c.get_mut.follows.holds w).3 (is_some_at found)).0 other)) in
    rewrites_keeps (λ (e : Entry). e.connection) c.args.id (λ (e : Entry). record e { is_held = true }) _ _ (λ e. refl) r other ∙ ap (connection_of other) c.self.view_is

pub returns-in-Ok-clause-attended : goal.returns-in-Ok-clause-attended
returns-in-Ok-clause-attended g c = λ some. inr (subst (λ (v : List ℕ). Contains v c.args.id) (sym c.in-Ok.ensures.items) (Contains-push _ c.args.id))

pub returns-in-Ok-clause-marked : goal.returns-in-Ok-clause-marked
returns-in-Ok-clause-marked g c = λ some.
    let found = sym c.in-Some.ensures.value in
    let w = record c.in-Some.found.now { is_held = true } in
    inl (ap (option_map (λ (e : Entry). e.is_held)) (written_at c.args.id _ _ _ (written_seen g.D.Device.seen c.args.id w _ _ (λ other. ((c.get_mut.follows.holds w).3 (is_some_at found)).0 other))))

pub returns-in-Ok-clause-once : goal.returns-in-Ok-clause-once
returns-in-Ok-clause-once g c = λ on.
    let is = held_mark_found g.D.Device.seen c.self.inside.by_id.entries c.args.id c.in-Some.found.now c.args.self.now (ap (λ (t : Connections). t.by_id) c.self.view_is) (sym c.in-Some.ensures.value) in
    let no : Some c.in-Some.found.now.is_held ≡ Some true = sym is ∙ on in
    let off : c.in-Some.found.now.is_held ≡ false = c.if-not-found.true in
    absurd cc

pub returns-in-Err-clause-connections : goal.returns-in-Err-clause-connections
returns-in-Err-clause-connections g c = λ other.
    let found = sym c.in-Some.ensures.value in
    let same = unwritten_seen g.D.Device.seen c.args.id c.in-Some.found.now _ _ found (λ other. ((c.get_mut.follows.holds c.in-Some.found.now).3 (is_some_at found)).0 other) in
    ap (option_map (λ (e : Entry). e.connection)) (same other) ∙ ap (connection_of other) c.self.view_is

pub returns-else-not-found-clause-connections : goal.returns-else-not-found-clause-connections
returns-else-not-found-clause-connections g c = λ other.
    let found = sym c.in-Some.ensures.value in
    let same = unwritten_seen g.D.Device.seen c.args.id c.in-Some.found.now _ _ found (λ other. ((c.get_mut.follows.holds c.in-Some.found.now).3 (is_some_at found)).0 other) in
    ap (option_map (λ (e : Entry). e.connection)) (same other) ∙ ap (connection_of other) c.self.view_is

pub returns-else-not-found-clause-attended : goal.returns-else-not-found-clause-attended
returns-else-not-found-clause-attended g c = λ some. inr (held_found g.D.Device.seen c.self.inside.by_id.entries c.args.id c.in-Some.found.now _ c.self.invariant.1 (sym c.in-Some.ensures.value) c.if-not-found.false)

pub returns-else-not-found-clause-marked : goal.returns-else-not-found-clause-marked
returns-else-not-found-clause-marked g c = λ some.
    let found = sym c.in-Some.ensures.value in
    let x = c.in-Some.found.now in
    inl (ap (option_map (λ (e : Entry). e.is_held)) (written_at c.args.id _ _ _ (written_seen g.D.Device.seen c.args.id x _ _ (λ other. ((c.get_mut.follows.holds x).3 (is_some_at found)).0 other))) ∙ ap (λ b. Some b) c.if-not-found.false)

pub returns-in_default-clause-attended : goal.returns-in_default-clause-attended
returns-in_default-clause-attended g c = λ some. absent g.D.Device.seen c.self.inside.by_id.entries c.args.id c.args.self.now (ap (λ (t : Connections). t.by_id) c.self.view_is) (sym c.in_default.ensures.value) some

pub returns-in_default-clause-marked : goal.returns-in_default-clause-marked
returns-in_default-clause-marked g c = λ some. absent g.D.Device.seen c.self.inside.by_id.entries c.args.id c.args.self.now (ap (λ (t : Connections). t.by_id) c.self.view_is) (sym c.in_default.ensures.value) some
