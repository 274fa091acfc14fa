use Rattle.std.proofs.Common.{◌≡◌, refl, sym, ap, ◌∙◌, length, subst, arith}
use Rattle.std.specs.Prelude.{slice_get, Some, IsSome}
use Rattle.std.specs.Map.{keys_of}
use Rattle.std.proofs.lemmas.Map.Entries.{length-keys_of}
use Rattle.ymx_engine.specs.Turns.{Connections, Awaits, connection_of}
use Rattle.ymx_engine.proofs.Entries.{seen_length}
use Rattle.ymx_engine.proofs.Queueing.{keeps_same, keeps_then, keeps_added, awaits_added}
use Rattle.ymx_engine.proofs.Calling.{first_none, first_more, all_past, all_called}
use Rattle.ymx_engine.proofs.connections.Connections.enqueue_all.Goals as goal

pub place-init : goal.place-init
place-init g c = (keeps_same _, refl, refl, refl, first_none _ _)

pub place-preserved : goal.place-preserved
place-preserved g c =
    let i = c.place.invariant in
    let e = c.enqueue.ensures in
    let at : slice_get (keys_of c.args.self.now.by_id) c.place.place ≡ Some c.in-Some.id = ap (λ xs. slice_get xs c.place.place) (sym i.2) ∙ sym c.id_at.ensures ∙ c.in-Some.is in (
      keeps_then _ _ _ i.0 (keeps_added c.in-Some.id _ _ e.connections e.turn),
      e.turn.held ∙ i.1,
      e.keys ∙ i.2,
      e.place ∙ i.3,
      first_more (λ id. IsSome (connection_of id c.args.self.now) → Awaits id c.place.self) (λ id. IsSome (connection_of id c.args.self.now) → Awaits id c.enqueue.new.self) c.place.place c.in-Some.id (keys_of c.args.self.now.by_id)
          (λ x h some. awaits_added c.in-Some.id x c.place.self c.enqueue.new.self e.turn (h some)) at (λ some. e.awaits (subst (λ o. IsSome o) (sym (i.0.connections c.in-Some.id)) some)) i.4,
    )

pub returns-in_default-clause-keeps : goal.returns-in_default-clause-keeps
returns-in_default-clause-keeps g c = c.place.invariant.0

pub returns-in_default-clause-held : goal.returns-in_default-clause-held
returns-in_default-clause-held g c = c.place.invariant.1

pub returns-in_default-clause-all : goal.returns-in_default-clause-all
returns-in_default-clause-all g c = λ id some.
    let past = all_past c.place.place (keys_of c.args.self.now.by_id) (ap (λ xs. slice_get xs c.place.place) (sym c.place.invariant.2) ∙ sym c.id_at.ensures ∙ c.in_default.is) in
    all_called (λ id. IsSome (connection_of id c.args.self.now) → Awaits id c.place.self) c.place.place id c.args.self.now.by_id c.place.invariant.4 past some some

pub returns-clause-keeps : goal.returns-clause-keeps
returns-clause-keeps g c = c.place.invariant.0

pub returns-clause-held : goal.returns-clause-held
returns-clause-held g c = c.place.invariant.1

pub returns-clause-all : goal.returns-clause-all
returns-clause-all g c = λ id some.
    let seen = ap (λ (t : Connections). length t.by_id) c.self.view_is in
    let count = seen_length g.D.Device.seen c.self.inside.by_id.entries in
    let keys = length-keys_of c.args.self.now.by_id in
    all_called (λ id. IsSome (connection_of id c.args.self.now) → Awaits id c.place.self) c.place.place id c.args.self.now.by_id c.place.invariant.4 (omega (arith, seen, count, keys, c.len-place-end.ensures.len, c.place-test.false)) some some

pub returns-in_default-clause-place : goal.returns-in_default-clause-place
returns-in_default-clause-place g c = c.place.invariant.3

pub returns-clause-place : goal.returns-clause-place
returns-clause-place g c = c.place.invariant.3
