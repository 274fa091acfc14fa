-- How the queues of connections go on, and who waits in them then.
use Rattle.std.proofs.Common.{◌≡◌, ◌⊎◌, inl, inr, ℕ, List, [], ◌∷◌, ◌++◌, length, Bool, true, false, ◌&&◌, ◌==◌, Option, Some, refl, sym, ap, ◌∙◌, subst, cond, append-nil, append_assoc, length-append, arith}
use Rattle.std.specs.Prelude.{nat_eq, Contains, IsSome}
use Rattle.std.proofs.lemmas.List.Elements.{Contains-append_left, Contains-push_cases}
use Rattle.std.proofs.lemmas.Bool.Decides.{nat_tests}
use Rattle.ymx_engine.specs.declared.device.Readiness.{Readiness}
use Rattle.ymx_engine.specs.Devices.{Seen, IsNoted}
use Rattle.ymx_engine.specs.Turns.{Connection, Connections, connection_of, Waits, Awaits, Attended, is_idle, Puts, SameConnections, Extends, StaysMissed, SameQueues, StaysOrAdds, AddsTurn, KeepsConnections, KeepsOthers, Adds, Notes}
use Rattle.ymx_engine.proofs.Entries.{eq_ids, same_id, some_is, is_some_at}
use Rattle.ymx_engine.proofs.Marking.{popped}

-- ---- one connection, and each other

-- the connection of this stream is what was put there
pub connection_put_at : (id : ℕ) (what : Option Connection) (a b : Connections) → Puts id what a b → connection_of id b ≡ what
connection_put_at id what a b put = put id ∙ ap (λ (t : Bool). cond t what (connection_of id a)) (same_id id)

-- each other is what it was
pub connection_put_other : (id other : ℕ) (what : Option Connection) (a b : Connections) → Puts id what a b → nat_eq id other ≡ false → connection_of other b ≡ connection_of other a
connection_put_other id other what a b put ne = put other ∙ ap (λ (t : Bool). cond t what (connection_of other a)) ne

pub connection_put_there : (id : ℕ) (connection : Connection) (a b : Connections) → Puts id (Some connection) a b → IsSome (connection_of id b)
connection_put_there id connection a b put = is_some_at (connection_put_at id (Some connection) a b put)

-- nothing changed after, or before
pub puts_then_same : (id : ℕ) (what : Option Connection) (a b c : Connections) → Puts id what a b → SameConnections b c → Puts id what a c
puts_then_same id what a b c put same other = same other ∙ put other

pub puts_behind_same : (id : ℕ) (what : Option Connection) (a b c : Connections) → SameConnections a b → Puts id what b c → Puts id what a c
puts_behind_same id what a b c same put other = put other ∙ ap (cond (nat_eq id other) what) (same other)

-- ---- queues that grow

pub extends_same : (a : Connections) → Extends a a
extends_same a = record { more_fresh = []; fresh = sym (append-nil a.fresh); more_busy = []; busy = sym (append-nil a.busy); flag = refl }

pub extends_then : (a b c : Connections) → Extends a b → Extends b c → Extends a c
extends_then a b c x y = record {
  more_fresh = x.more_fresh ++ y.more_fresh;
  fresh = y.fresh ∙ ap (λ (v : List ℕ). v ++ y.more_fresh) x.fresh ∙ append_assoc a.fresh x.more_fresh y.more_fresh;
  more_busy = x.more_busy ++ y.more_busy;
  busy = y.busy ∙ ap (λ (v : List ℕ). v ++ y.more_busy) x.busy ∙ append_assoc a.busy x.more_busy y.more_busy;
  flag = y.flag ∙ x.flag;
}

-- both queues stay
pub extends_stay : (a b : Connections) → b.fresh ≡ a.fresh → b.busy ≡ a.busy → b.is_for_busy ≡ a.is_for_busy → Extends a b
extends_stay a b f g flag = record { more_fresh = []; fresh = f ∙ sym (append-nil a.fresh); more_busy = []; busy = g ∙ sym (append-nil a.busy); flag = flag }

pub extends_queues : (a b : Connections) → SameQueues a b → Extends a b
extends_queues a b x = extends_stay a b x.fresh x.busy x.flag

grown : (id : ℕ) (old new : List ℕ) → StaysOrAdds id old new → (more : List ℕ) × (new ≡ old ++ more)
grown id old new (inl e) = ([], e ∙ sym (append-nil old))
grown id old new (inr e) = (id ∷ [], e)

pub extends_added : (id : ℕ) (a b : Connections) → AddsTurn id a b → Extends a b
extends_added id a b x =
    let f = grown id a.fresh b.fresh x.fresh in
    let g = grown id a.busy b.busy x.busy in
    record { more_fresh = f.0; fresh = f.1; more_busy = g.0; busy = g.1; flag = x.flag }

-- nothing changed in the queues before
pub extends_after : (a b c : Connections) → Extends b c → b.fresh ≡ a.fresh → b.busy ≡ a.busy → b.is_for_busy ≡ a.is_for_busy → Extends a c
extends_after a b c x f g flag = extends_then a b c (extends_stay a b f g flag) x

-- one that waited waits on
pub extends_waits : (id : ℕ) (a b : Connections) → Extends a b → Waits id a → Waits id b
extends_waits id a b x (inl h) = inl (subst (λ (v : List ℕ). Contains v id) (sym x.fresh) (Contains-append_left a.fresh x.more_fresh id h))
extends_waits id a b x (inr h) = inr (subst (λ (v : List ℕ). Contains v id) (sym x.busy) (Contains-append_left a.busy x.more_busy id h))

idle_before : (f m g k : List ℕ) → ((length f == 0) && (length g == 0)) ≡ false → ((length (f ++ m) == 0) && (length (g ++ k) == 0)) ≡ false
idle_before f m g k h = let x = length-append f m in let y = length-append g k in grind (arith, nat_tests)

-- where one waited, one does
pub extends_idle : (a b : Connections) → Extends a b → is_idle a ≡ false → is_idle b ≡ false
extends_idle a b x h =
    ap (λ (v : List ℕ). (length v == 0) && (length b.busy == 0)) x.fresh ∙ ap (λ (v : List ℕ). (length (a.fresh ++ x.more_fresh) == 0) && (length v == 0)) x.busy
    ∙ idle_before a.fresh x.more_fresh a.busy x.more_busy h

-- ---- one more turn

-- none is added
pub adds_none : (id : ℕ) (a : Connections) → AddsTurn id a a
adds_none id a = record { fresh = inl refl; busy = inl refl; held = refl; flag = refl; missed = λ h. h }

pub adds_from : (id : ℕ) (a b c : List ℕ) → b ≡ a → StaysOrAdds id b c → StaysOrAdds id a c
adds_from id a b c e h = subst (λ (v : List ℕ). StaysOrAdds id v c) e h

-- one is added where the queues stayed before
pub adds_behind_same : (id : ℕ) (a b c : Connections) → SameQueues a b → AddsTurn id b c → AddsTurn id a c
adds_behind_same id a b c x y = record {
  fresh = adds_from id a.fresh b.fresh c.fresh x.fresh y.fresh;
  busy = adds_from id a.busy b.busy c.busy x.busy y.busy;
  held = y.held ∙ x.held;
  flag = y.flag ∙ x.flag;
  missed = λ h. y.missed (x.missed ∙ h);
}

pub queues_same : (a : Connections) → SameQueues a a
queues_same a = record { fresh = refl; busy = refl; held = refl; flag = refl; missed = refl }

pub queues_then : (a b c : Connections) → SameQueues a b → SameQueues b c → SameQueues a c
queues_then a b c x y = record { fresh = y.fresh ∙ x.fresh; busy = y.busy ∙ x.busy; held = y.held ∙ x.held; flag = y.flag ∙ x.flag; missed = y.missed ∙ x.missed }

-- ---- who waits, or is held back

-- one that waits waits on, and what was missed stays so
pub await_on : (id : ℕ) (a b : Connections) → (Waits id a → Waits id b) → StaysMissed a b → Awaits id a → Awaits id b
await_on id a b on missed (inl h) = inl (on h)
await_on id a b on missed (inr h) = inr (missed h)

-- one that waited, or was held back, does so or is so still
pub attended_on : (id : ℕ) (a b : Connections) → (Awaits id a → Awaits id b) → (Contains a.held id → Attended id b) → Attended id a → Attended id b
attended_on id a b on holds (inl h) = inl (on h)
attended_on id a b on holds (inr h) = holds h

pub attended_held : (a b : Connections) → b.held ≡ a.held → (id : ℕ) → Contains a.held id → Attended id b
attended_held a b e id h = inr (subst (λ (v : List ℕ). Contains v id) (sym e) h)

pub extends_awaits : (id : ℕ) (a b : Connections) → Extends a b → StaysMissed a b → Awaits id a → Awaits id b
extends_awaits id a b x missed = await_on id a b (extends_waits id a b x) missed

pub awaits_added : (id other : ℕ) (a b : Connections) → AddsTurn id a b → Awaits other a → Awaits other b
awaits_added id other a b x = extends_awaits other a b (extends_added id a b x) x.missed

-- one that stands in a queue now stood there before, or is this one
stood : (id other : ℕ) (old new : List ℕ) → StaysOrAdds id old new → Contains new other → Contains old other ⊎ (id ≡ other)
stood id other old new (inl e) h = inl (subst (λ (v : List ℕ). Contains v other) e h)
stood id other old new (inr e) h = Contains-push_cases old id other (subst (λ (v : List ℕ). Contains v other) e h)

pub waited : (id other : ℕ) (a b : Connections) → AddsTurn id a b → Waits other b → Waits other a ⊎ (id ≡ other)
waited id other a b x (inl h) = elim (stood id other a.fresh b.fresh x.fresh h) [ inl w ↦ inl (inl w) | inr e ↦ inr e ]
waited id other a b x (inr h) = elim (stood id other a.busy b.busy x.busy h) [ inl w ↦ inl (inr w) | inr e ↦ inr e ]

-- ---- what is kept

pub keeps_same : (a : Connections) → KeepsConnections a a
keeps_same a = record { connections = λ id. refl; queues = extends_same a; awaits = λ id some h. h; holds = λ id some h. inr h }

pub keeps_then : (a b c : Connections) → KeepsConnections a b → KeepsConnections b c → KeepsConnections a c
keeps_then a b c x y = record {
  connections = λ id. y.connections id ∙ x.connections id;
  queues = extends_then a b c x.queues y.queues;
  awaits = λ id some h. y.awaits id (subst (λ (o : Option Connection). IsSome o) (sym (x.connections id)) some) (x.awaits id some h);
  holds = λ id some h.
      let still = subst (λ (o : Option Connection). IsSome o) (sym (x.connections id)) some in
      attended_on id b c (y.awaits id still) (y.holds id still) (x.holds id some h);
}

-- the queues grew, what was missed stays so, and so do those that are held back
pub keeps_grown : (a b : Connections) → SameConnections a b → Extends a b → StaysMissed a b → b.held ≡ a.held → KeepsConnections a b
keeps_grown a b same x missed held = record { connections = same; queues = x; awaits = λ id some h. extends_awaits id a b x missed h; holds = λ id some. attended_held a b held id }

pub keeps_added : (id : ℕ) (a b : Connections) → SameConnections a b → AddsTurn id a b → KeepsConnections a b
keeps_added id a b same x = keeps_grown a b same (extends_added id a b x) x.missed x.held

-- the queues stay
pub keeps_queues : (a b : Connections) → SameConnections a b → SameQueues a b → KeepsConnections a b
keeps_queues a b same x = keeps_grown a b same (extends_queues a b x) (λ h. x.missed ∙ h) x.held

-- only the turns are others that a frame waits for
pub keeps_counted : (a : Connections) (turns : Option ℕ) → KeepsConnections a (record a { turns_to_place = turns })
keeps_counted a turns = keeps_queues a (record a { turns_to_place = turns }) (λ id. refl) (record { fresh = refl; busy = refl; held = refl; flag = refl; missed = refl })

-- one that was held back was dropped, and waits for a turn now
pub keeps_let_go : (id : ℕ) (a b c : Connections) → SameConnections a b → Extends a b → b.missed ≡ a.missed → a.held ≡ id ∷ b.held → SameConnections b c → AddsTurn id b c → (IsSome (connection_of id b) → Awaits id c) → KeepsConnections a c
keeps_let_go id a b c same x missed first after turn own =
    let y : Extends a c = extends_then a b c x (extends_added id b c turn) in
    let still_missed : StaysMissed a c = λ h. turn.missed (missed ∙ h) in
    record {
      connections = λ other. after other ∙ same other;
      queues = y;
      awaits = λ other some h. extends_awaits other a c y still_missed h;
      holds = λ other some h. by other some (nat_eq id other) refl (subst (λ (v : List ℕ). Contains v other) first h);
    }
  where
    by : (other : ℕ) → IsSome (connection_of other a) → (t : Bool) → nat_eq id other ≡ t → Contains (id ∷ b.held) other → Attended other c
    by other some true t k =
        let is : other ≡ id = eq_ids id other t in
        let there : IsSome (connection_of id b) = subst (λ (n : ℕ). IsSome (connection_of n b)) is (subst (λ (o : Option Connection). IsSome o) (sym (same other)) some) in
        subst (λ (n : ℕ). Attended n c) (sym is) (inl (own there))
    by other some false t k = inr (subst (λ (v : List ℕ). Contains v other) (sym turn.held) (popped (id ∷ b.held) b.held id other refl t k))

-- ---- one that was added, or of whose device an event spoke

pub added_from : (id : ℕ) (old before mid new : Connections) (connection is : Connection) → before ≡ old → connection ≡ is → Puts id (Some connection) before mid → SameQueues before mid → SameConnections mid new → AddsTurn id mid new → (IsSome (connection_of id mid) → Waits id new) → Adds id is old new
added_from id old before mid new connection is at same put queues after turn waits =
    subst (λ (t : Connections). Adds id is t new) at (subst (λ (l : Connection). Adds id l before new) same (record {
      connections = puts_then_same id (Some connection) before mid new put after;
      waits = waits (connection_put_there id connection before mid put);
      turn = adds_behind_same id before mid new queues turn;
    }))

pub notes_from : (id : ℕ) (ready : Readiness) (old before mid new : Connections) (x was : Connection) (now : Seen) → before ≡ old → connection_of id before ≡ Some x → IsNoted ready x.seen now → Puts id (Some (record { seen = now; directions = x.directions })) before mid → SameQueues before mid →
    SameConnections mid new → AddsTurn id mid new → (IsSome (connection_of id mid) → Awaits id new) → connection_of id old ≡ Some was → Notes id ready was old new
notes_from id ready old before mid new x was now at there noted put queues after turn awaits is =
    subst (λ (t : Connections). Notes id ready was t new) at (subst (λ (l : Connection). Notes id ready l before new) (some_is (sym there ∙ ap (connection_of id) at ∙ is)) (record {
      now = now;
      noted = noted;
      connections = puts_then_same id (Some (record { seen = now; directions = x.directions })) before mid new put after;
      turn = adds_behind_same id before mid new queues turn;
      awaits = awaits (connection_put_there id (record { seen = now; directions = x.directions }) before mid put);
    }))

pub adds_turn_from : (id : ℕ) (a b c : Connections) → a ≡ b → AddsTurn id a c → AddsTurn id b c
adds_turn_from id a b c e x = subst (λ (t : Connections). AddsTurn id t c) e x

pub extends_from : (a b c : Connections) → a ≡ b → Extends a c → Extends b c
extends_from a b c e x = subst (λ (t : Connections). Extends t c) e x

pub keeps_from : (a b c : Connections) → a ≡ b → KeepsConnections a c → KeepsConnections b c
keeps_from a b c e x = subst (λ (t : Connections). KeepsConnections t c) e x

pub others_from : (id : ℕ) (a b c : Connections) → a ≡ b → KeepsOthers id a c → KeepsOthers id b c
others_from id a b c e x = subst (λ (t : Connections). KeepsOthers id t c) e x

-- ---- what is kept of the others

pub others_same : (id : ℕ) (a : Connections) → KeepsOthers id a a
others_same id a = record { connections = λ other ne. refl; queues = extends_same a; awaits = λ other ne some h. h; holds = λ other ne some h. inr h }

pub others_keep : (id : ℕ) (a b : Connections) → KeepsConnections a b → KeepsOthers id a b
others_keep id a b x = record { connections = λ other ne. x.connections other; queues = x.queues; awaits = λ other ne. x.awaits other; holds = λ other ne. x.holds other }

pub others_then : (id : ℕ) (a b c : Connections) → KeepsOthers id a b → KeepsOthers id b c → KeepsOthers id a c
others_then id a b c x y = record {
  connections = λ other ne. y.connections other ne ∙ x.connections other ne;
  queues = extends_then a b c x.queues y.queues;
  awaits = λ other ne some h. y.awaits other ne (subst (λ (o : Option Connection). IsSome o) (sym (x.connections other ne)) some) (x.awaits other ne some h);
  holds = λ other ne some h.
      let still = subst (λ (o : Option Connection). IsSome o) (sym (x.connections other ne)) some in
      attended_on other b c (y.awaits other ne still) (y.holds other ne still) (x.holds other ne some h);
}

-- one connection changed, and the queues grew
pub others_put : (id : ℕ) (what : Option Connection) (a b : Connections) → Puts id what a b → Extends a b → StaysMissed a b → ((other : ℕ) → Contains a.held other → Contains b.held other) → KeepsOthers id a b
others_put id what a b put x missed held = record {
  connections = λ other ne. connection_put_other id other what a b put ne;
  queues = x;
  awaits = λ other ne some h. extends_awaits other a b x missed h;
  holds = λ other ne some h. inr (held other h);
}
