-- How a connection has its turn in the map of all.
use Rattle.std.proofs.Common.{◌≡◌, ℕ, List, Bool, true, false, ◌&&◌, ◌==◌, Option, None, Some, refl, sym, ap, ◌∙◌, subst}
use Rattle.std.specs.Prelude.{IsSome}
use Rattle.ymx_model.specs.session.Sessions.{Session}
use Rattle.ymx_engine.specs.Serves.{Turn}
use Rattle.ymx_engine.specs.Steps.{TakesPart}
use Rattle.ymx_engine.specs.Turns.{Connection, Connections, connection_of, Awaits, Attended, Puts, SameConnections, SameQueues, SameTurns, WaitsAlone, Extends, StaysMissed, StaysOrAdds, KeepsOthers}
use Rattle.ymx_engine.specs.Directions.{may_pull}
use Rattle.ymx_engine.specs.Served.{Serving, ServingBut}
use Rattle.ymx_engine.specs.Tunnels.{Tunnel}
use Rattle.ymx_engine.specs.Work.{HasItsTurn, share}
use Rattle.ymx_engine.proofs.Marking.{stays_or_adds}
use Rattle.ymx_engine.proofs.Queueing.{connection_put_at, connection_put_there, puts_then_same, extends_then, extends_queues, adds_from, others_put, others_same, others_from}
use Rattle.ymx_engine.proofs.Tending.{but_same, serving_with, serving_part, served_none, serving_but_from}

holds_off : (most : ℕ) (may : Bool) → most ≡ 0 → may ≡ true → ((most == 0) && may) ≡ true
holds_off most may none on = rw (none, on) refl

pub takes_part : (id gave most : ℕ) (more holds may : Bool) (was x l : Connection) (s t : Session) (out out_new : List ℕ) (old mid new : Connections) → connection_of id old ≡ Some x → Puts id (Some l) old mid →
    Turn id most s t out out_new x.seen l.seen x.directions l.directions more gave → may ≡ may_pull l.directions l.seen.marks → SameQueues old mid → holds ≡ ((most == 0) && may) →
    SameConnections mid new → Extends mid new → (more ≡ true → IsSome (connection_of id mid) → Awaits id new) → StaysMissed mid new → StaysOrAdds id mid.held new.held →
    (holds ≡ true → IsSome (connection_of id mid) → Attended id new) → (more ≡ false → SameTurns mid new) → WaitsAlone id mid new → connection_of id old ≡ Some was → TakesPart id most was s t out out_new old new gave
takes_part id gave most more holds may was x l s t out out_new old mid new at put turn gives queues held_back same extends awaits missed held attended rests alone there =
    let e : x ≡ was = let e : Some x ≡ Some was = sym at ∙ there in cc in
    let is_there = connection_put_there id l old mid put in
    subst (λ (w : Connection). TakesPart id most w s t out out_new old new gave) e (record {
      now = l;
      connections = puts_then_same id (Some l) old mid new put same;
      more = more;
      turn = turn;
      queues = extends_then old mid new (extends_queues old mid queues) extends;
      missed = λ h. missed (queues.missed ∙ h);
      held = adds_from id old.held mid.held new.held queues.held held;
      again = λ h. awaits h is_there;
      rests = λ h. let r = rests h in (r.0 ∙ queues.fresh, r.1 ∙ queues.busy);
      alone = (adds_from id old.fresh mid.fresh new.fresh queues.fresh alone.0, adds_from id old.busy mid.busy new.busy queues.busy alone.1);
      put_off = λ r m. attended (held_back ∙ holds_off most may r (gives ∙ m)) is_there;
    })

-- ---- in a tunnel

-- the connection of this stream had its turn, if it was there
abbrev Partakes : ℕ → ℕ → Tunnel → Tunnel → ℕ → Type 0
Partakes id most a b gave = (was : Connection) → connection_of id a.connections ≡ Some was → TakesPart id most was a.engine.session b.engine.session a.engine.outgoing b.engine.outgoing a.connections b.connections gave

-- and if not, nothing happened
abbrev IsIdleAt : ℕ → Tunnel → Tunnel → ℕ → Type 0
IsIdleAt id a b gave = connection_of id a.connections ≡ None → (b.connections ≡ a.connections) × (b.engine.session ≡ a.engine.session) × (b.engine.outgoing ≡ a.engine.outgoing) × (gave ≡ 0)

turned : (id gave most : ℕ) (was : Connection) (a b : Tunnel) → most ≡ share a.connections a → TakesPart id most was a.engine.session b.engine.session a.engine.outgoing b.engine.outgoing a.connections b.connections gave → HasItsTurn id gave was a.connections a b
turned id gave most was a b e x = record {
  now = x.now;
  there = connection_put_at id (Some x.now) a.connections b.connections x.connections;
  more = x.more;
  turn = subst (λ (r : ℕ). Turn id r a.engine.session b.engine.session a.engine.outgoing b.engine.outgoing was.seen x.now.seen was.directions x.now.directions x.more gave) e x.turn;
  rests = x.rests;
  alone = x.alone;
}

pub has_its_turn : (id gave most : ℕ) (was : Connection) (before a b : Tunnel) → before ≡ a → most ≡ share a.connections a → Partakes id most before b gave → connection_of id a.connections ≡ Some was → HasItsTurn id gave was a.connections a b
has_its_turn id gave most was before a b view e x =
    subst (λ (v : Tunnel). most ≡ share v.connections v → connection_of id v.connections ≡ Some was → HasItsTurn id gave was v.connections v b) view (λ r there. turned id gave most was before b r (x was there)) e

others_partake : (id gave most : ℕ) (s t : Session) (out out_new : List ℕ) (a b : Connections) → ((was : Connection) → connection_of id a ≡ Some was → TakesPart id most was s t out out_new a b gave) → (connection_of id a ≡ None → (b ≡ a) × (t ≡ s) × (out_new ≡ out) × (gave ≡ 0)) → KeepsOthers id a b
others_partake id gave most s t out out_new a b x idle = by (connection_of id a) refl
  where
    by : (o : Option Connection) → connection_of id a ≡ o → KeepsOthers id a b
    by (Some was) e = let y = x was e in others_put id (Some y.now) a b y.connections y.queues y.missed (λ other h. stays_or_adds id other a.held b.held y.held h)
    by None e = subst (λ (v : Connections). KeepsOthers id a v) (sym (idle e).0) (others_same id a)

pub others_turn : (id gave most : ℕ) (s t : Session) (out out_new : List ℕ) (before a b : Connections) → before ≡ a → ((was : Connection) → connection_of id before ≡ Some was → TakesPart id most was s t out out_new before b gave) → (connection_of id before ≡ None → (b ≡ before) × (t ≡ s) × (out_new ≡ out) × (gave ≡ 0)) → KeepsOthers id a b
others_turn id gave most s t out out_new before a b view x idle = others_from id before a b view (others_partake id gave most s t out out_new before b x idle)

serving_partake : (id gave most : ℕ) (a b : Tunnel) → Partakes id most a b gave → IsIdleAt id a b gave → ServingBut id a → Serving b
serving_partake id gave most a b x idle h = by (connection_of id a.connections) refl
  where
    others : KeepsOthers id a.connections b.connections
    others = others_partake id gave most a.engine.session b.engine.session a.engine.outgoing b.engine.outgoing a.connections b.connections x idle

    by : (o : Option Connection) → connection_of id a.connections ≡ o → Serving b
    by (Some was) e = serving_part id most was a b gave (x was e) others h
    by None e = serving_with id a b (λ w. but_same id a.engine.session b.engine.session (idle e).1 w) others (λ w. served_none id b (ap (connection_of id) (idle e).0 ∙ e)) h

pub serving_turned : (id gave most : ℕ) (before a b : Tunnel) → before ≡ a → Partakes id most before b gave → IsIdleAt id before b gave → ServingBut id a → Serving b
serving_turned id gave most before a b view x idle = serving_but_from id before a b view (serving_partake id gave most before b x idle)
