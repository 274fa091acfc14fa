-- One turn of a connection, and that of the first that waits, seen from the tunnel.
use Rattle.std.proofs.Common.{◌≡◌, ◌⊎◌, inl, inr, ℕ, Bool, true, false, not, ◌&&◌, Option, None, Some, refl, sym, ap, ◌∙◌, subst, cond}
use Rattle.std.specs.Prelude.{nat_eq, option_map, is_some, IsSome}
use Rattle.ymx_engine.specs.Events.{has_stop}
use Rattle.ymx_engine.specs.Devices.{Seen}
use Rattle.ymx_engine.specs.Moves.{Moves}
use Rattle.ymx_engine.specs.Runs.{Runs, Stays, Rests}
use Rattle.ymx_engine.specs.Served.{Serving, ServingBut}
use Rattle.ymx_engine.specs.Tunnels.{Tunnel}
use Rattle.ymx_engine.specs.Turns.{Connection, Connections, connection_of, look, SameConnections, SameQueues, TakesTurn, KeepsOthers}
use Rattle.ymx_engine.specs.declared.directions.Directions.{Directions}
use Rattle.ymx_engine.specs.Directions.{is_over}
use Rattle.ymx_engine.specs.Work.{HasItsTurn, ServesFirst}
use Rattle.ymx_engine.proofs.Attending.{runs_on, runs_turn, runs_from}
use Rattle.ymx_engine.proofs.Queueing.{keeps_queues, extends_queues}
use Rattle.ymx_engine.proofs.Running.{eq_ids, moves_same, moves_then, moves_served, moves_still}
use Rattle.ymx_engine.proofs.Tending.{serving_connections, serving_turn}
use Rattle.ymx_engine.proofs.DirectionsAfter.{stop_breaks_to, stop_breaks_from}

-- ---- one that was served

-- the connection of this stream had its turn, or is not there
pub record IsTurned (id gave : ℕ) (a b : Tunnel) : Type 0 where
  pub served : (was : Connection) → connection_of id a.connections ≡ Some was → HasItsTurn id gave was a.connections a b
  pub none : connection_of id a.connections ≡ None → (b ≡ a) × (gave ≡ 0)
  pub others : KeepsOthers id a.connections b.connections
  pub incoming : b.engine.incoming ≡ a.engine.incoming
  pub wire : b.wire ≡ a.wire
  pub serves : ServingBut id a → Serving b

looks : (id gave other : ℕ) (was : Connection) (a b : Tunnel) → IsTurned id gave a b → (t : HasItsTurn id gave was a.connections a b) → (test : Bool) → nat_eq id other ≡ test → look other b.connections ≡ cond test (Some t.now.seen) (look other a.connections)
looks id gave other was a b x t true e = ap (option_map (λ (l : Connection). l.seen)) (ap (λ (n : ℕ). connection_of n b.connections) (eq_ids id other e) ∙ t.there)
looks id gave other was a b x t false e = ap (option_map (λ (l : Connection). l.seen)) (x.others.connections other e)

turned_moves : (id gave : ℕ) (a b : Tunnel) → IsTurned id gave a b → Moves a b
turned_moves id gave a b x = by (connection_of id a.connections) refl
  where
    by : (o : Option Connection) → connection_of id a.connections ≡ o → Moves a b
    by (Some was) e = let t = x.served was e in moves_served a b id was.seen t.now.seen t.turn.moved x.incoming x.wire (ap (option_map (λ (l : Connection). l.seen)) e) (λ other. looks id gave other was a b x t (nat_eq id other) refl)
    by None e = subst (λ (v : Tunnel). Moves a v) (sym (x.none e).0) (moves_same a)

turned_joined : (id gave other : ℕ) (a b : Tunnel) → IsTurned id gave a b → is_some (look other b.connections) ≡ is_some (look other a.connections)
turned_joined id gave other a b x = by (connection_of id a.connections) refl
  where
    there : (was : Connection) (t : HasItsTurn id gave was a.connections a b) → connection_of id a.connections ≡ Some was → (test : Bool) → nat_eq id other ≡ test → is_some (look other b.connections) ≡ is_some (look other a.connections)
    there was t e true same = ap is_some (looks id gave other was a b x t true same) ∙ sym (ap is_some (ap (option_map (λ (l : Connection). l.seen)) (ap (λ (n : ℕ). connection_of n a.connections) (eq_ids id other same) ∙ e)))
    there was t e false same = ap is_some (looks id gave other was a b x t false same)

    by : (o : Option Connection) → connection_of id a.connections ≡ o → is_some (look other b.connections) ≡ is_some (look other a.connections)
    by (Some was) e = there was (x.served was e) e (nat_eq id other) refl
    by None e = ap (λ (v : Tunnel). is_some (look other v.connections)) (x.none e).0

-- ---- marks

both_off : (a b : Bool) → (a ≡ true → ⊥) → (b ≡ true → ⊥) → (not a && not b) ≡ true
both_off true b x y = absurd (x refl)
both_off false true x y = absurd (y refl)
both_off false false x y = refl

stop_is_over : (id gave : ℕ) (was : Connection) (a b : Tunnel) (t : HasItsTurn id gave was a.connections a b) → has_stop id t.turn.moved.events ≡ true → is_over t.now.directions ≡ true
stop_is_over id gave was a b t h =
    subst (λ (w : Directions). is_over w ≡ true) (sym t.turn.directions) (both_off _ _ (stop_breaks_to id t.turn.moved.events was.directions h) (stop_breaks_from id t.turn.moved.events was.directions h))

-- such a mark of this connection's device was on before, or the connection is over
abbrev WasOn : (Seen → Bool) → ℕ → Tunnel → Tunnel → Type 0
WasOn mark id a b = (l : Connection) → connection_of id b.connections ≡ Some l → mark l.seen ≡ true → (is_over l.directions ≡ true) ⊎ ((was : Connection) × (connection_of id a.connections ≡ Some was) × (mark was.seen ≡ true))

turned_on : (mark : Seen → Bool) (id gave other : ℕ) (a b : Tunnel) → IsTurned id gave a b →
    ((was : Connection) (t : HasItsTurn id gave was a.connections a b) → mark t.now.seen ≡ true → (mark was.seen ≡ true) ⊎ (has_stop id t.turn.moved.events ≡ true)) → WasOn mark other a b
turned_on mark id gave other a b x on = λ l there is. by (nat_eq id other) refl l there is
  where
    own : (o : Option Connection) → connection_of id a.connections ≡ o → WasOn mark id a b
    own (Some was) e = λ l there is.
        let t = x.served was e in
        let same : t.now ≡ l = let s : Some t.now ≡ Some l = sym t.there ∙ there in cc in
        subst (λ (v : Connection). (is_over v.directions ≡ true) ⊎ ((w : Connection) × (connection_of id a.connections ≡ Some w) × (mark w.seen ≡ true))) same
        (elim (on was t (subst (λ (v : Connection). mark v.seen ≡ true) (sym same) is)) [ inl h ↦ inr (was, e, h) | inr h ↦ inl (stop_is_over id gave was a b t h) ])
    own None e = λ l there is. let no : None ≡ Some l = sym e ∙ ap (λ (v : Tunnel). connection_of id v.connections) (sym (x.none e).0) ∙ there in absurd cc

    by : (test : Bool) → nat_eq id other ≡ test → WasOn mark other a b
    by true e = subst (λ (n : ℕ). WasOn mark n a b) (sym (eq_ids id other e)) (own (connection_of id a.connections) refl)
    by false e = λ l there is. inr (l, sym (x.others.connections other e) ∙ there, is)

turned_rests : (id gave : ℕ) (a b : Tunnel) → IsTurned id gave a b → Rests a b
turned_rests id gave a b x = record {
  wire_pull = λ h. ap (λ (s : Seen). s.marks.may_pull) (sym x.wire) ∙ h;
  wire_push = λ h. ap (λ (s : Seen). s.marks.may_push) (sym x.wire) ∙ h;
  pull = λ other. turned_on (λ s. s.marks.may_pull) id gave other a b x (λ was t. t.turn.pull_on);
  push = λ other. turned_on (λ s. s.marks.may_push) id gave other a b x (λ was t. t.turn.push_on);
}

-- ---- the first that waits

-- this one was taken out of the queues, and then served
pub record IsFirstServed (id gave : ℕ) (a b : Tunnel) (taken : Connections) : Type 0 where
  pub connections : SameConnections a.connections taken
  pub first : TakesTurn id a.connections taken
  pub there : IsSome (connection_of id a.connections)
  pub missed : taken.missed ≡ a.connections.missed
  pub held : taken.held ≡ a.connections.held
  pub turned : IsTurned id gave (record a { connections = taken }) b

some_connection : (o : Option Connection) → IsSome o → (l : Connection) × (o ≡ Some l)
some_connection (Some l) h = (l, refl)
some_connection None h = let no : ⊥ = cc in absurd no

first_serves : (id gave : ℕ) (a b : Tunnel) (taken : Connections) → IsFirstServed id gave a b taken → ServesFirst id gave a b
first_serves id gave a b taken x =
    let was = some_connection (connection_of id a.connections) x.there in
    let y = x.turned.served was.0 (x.connections id ∙ was.1) in
    record {
      taken = taken;
      first = x.first;
      waits = x.turned.others.queues;
      was = was.0;
      there = was.1;
      served = record { now = y.now; there = y.there; more = y.more; turn = y.turn; rests = y.rests; alone = y.alone };
    }

first_runs : (id gave : ℕ) (a b : Tunnel) (taken : Connections) → IsFirstServed id gave a b taken → Runs a b
first_runs id gave a b taken x =
    let m : Tunnel = record a { connections = taken } in
    runs_turn a b id gave (moves_then a m b (moves_still a m refl (record { outgoing = refl; incoming = refl }) refl (λ other. ap (option_map (λ (l : Connection). l.seen)) (x.connections other))) (turned_moves id gave m b x.turned))
    (λ h. x.turned.serves (serving_turn id a m refl x.connections x.first x.missed x.held h)) (first_serves id gave a b taken x)

first_stays : (id gave : ℕ) (a b : Tunnel) (taken : Connections) → IsFirstServed id gave a b taken → Stays a b
first_stays id gave a b taken x = record {
  joined = λ other. turned_joined id gave other (record a { connections = taken }) b x.turned ∙ ap (λ (o : Option Connection). is_some (option_map (λ (l : Connection). l.seen) o)) (x.connections other);
  ended = ap (λ (s : Seen). s.ended) x.turned.wire;
  shut = ap (λ (s : Seen). s.shut) x.turned.wire;
}

first_rests : (id gave : ℕ) (a b : Tunnel) (taken : Connections) → IsFirstServed id gave a b taken → Rests a b
first_rests id gave a b taken x =
    let r = turned_rests id gave (record a { connections = taken }) b x.turned in
    record {
      wire_pull = r.wire_pull;
      wire_push = r.wire_push;
      pull = λ other l there is. elim (r.pull other l there is) [ inl h ↦ inl h | inr h ↦ inr (h.0, sym (x.connections other) ∙ h.1, h.2) ];
      push = λ other l there is. elim (r.push other l there is) [ inl h ↦ inl h | inr h ↦ inr (h.0, sym (x.connections other) ∙ h.1, h.2) ];
    }

-- nobody waits
pub none_runs : (before a : Tunnel) (q : Connections) → before ≡ a → SameConnections before.connections q → SameQueues before.connections q → Runs a (record before { connections = q })
none_runs before a q view same queues =
    let b : Tunnel = record before { connections = q } in
    runs_from before a b view (runs_on before b (moves_still before b refl (record { outgoing = refl; incoming = refl }) refl (λ other. ap (option_map (λ (l : Connection). l.seen)) (same other)))
    (serving_connections before b refl (keeps_queues before.connections q same queues)) (extends_queues before.connections q queues))

-- all that a turn says, where the tunnel is seen from outside
pub record FirstHasTurn (id gave : ℕ) (a b : Tunnel) : Type 0 where
  pub runs : Runs a b
  pub stays : Stays a b
  pub rests : Rests a b
  pub turn : ServesFirst id gave a b

pub first_has_turn : (id gave : ℕ) (before a b : Tunnel) (taken : Connections) → before ≡ a → IsFirstServed id gave before b taken → FirstHasTurn id gave a b
first_has_turn id gave before a b taken view x =
    subst (λ (v : Tunnel). FirstHasTurn id gave v b) view (record { runs = first_runs id gave before b taken x; stays = first_stays id gave before b taken x; rests = first_rests id gave before b taken x; turn = first_serves id gave before b taken x })
