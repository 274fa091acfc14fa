-- A tunnel that has no work: what may still wait.
use Rattle.std.proofs.Common.{◌≡◌, ◌⊎◌, ◌==◌, ◌<◌, inl, inr, ℕ, zero, suc, List, [], ◌∷◌, length, Bool, true, false, ◌&&◌, ◌||◌, not, if◌then◌else◌, refl, sym, ◌∙◌, arith}
use Rattle.std.specs.Prelude.{Contains}
use Rattle.ymx_model.specs.session.Emissions.{is_ready}
use Rattle.ymx_model.specs.session.Sessions.{is_running}
use Rattle.ymx_session.specs.Streams.{waiting, room_of}
use Rattle.ymx_engine.specs.Engines.{IsFlushed}
use Rattle.ymx_engine.specs.Exchanges.{has_bytes}
use Rattle.ymx_engine.specs.Directions.{is_open, may_push, may_pull}
use Rattle.ymx_engine.specs.Served.{Serving, NoneWaits, NoneGives, NoneEnds, NoneStops, NoneHangs}
use Rattle.ymx_engine.specs.Serves.{is_silent, is_stopped}
use Rattle.ymx_engine.specs.Tunnels.{Tunnel}
use Rattle.ymx_engine.specs.Turns.{Connections, is_idle, Awaits, Attended}
use Rattle.ymx_engine.specs.Work.{has_work, has_to_send, has_to_write, may_read_wire, may_have_bytes}

nothing_left : (idle missed reads sends : Bool) → (not idle || missed || reads || sends) ≡ false → (idle ≡ true) × (missed ≡ false) × (reads ≡ false) × (sends ≡ false)
nothing_left true false false false h = (refl, refl, refl, refl)
nothing_left true false false true h = let no : ⊥ = cc in absurd no
nothing_left true false true sends h = let no : ⊥ = cc in absurd no
nothing_left true true reads sends h = let no : ⊥ = cc in absurd no
nothing_left false missed reads sends h = let no : ⊥ = cc in absurd no

takes_none : (takes sends : Bool) → takes ≡ true → (takes && sends) ≡ false → sends ≡ false
takes_none true sends t h = h
takes_none false sends t h = let no : ⊥ = cc in absurd no

neither : (a b : Bool) → (a || b) ≡ false → (a ≡ false) × (b ≡ false)
neither false false h = (refl, refl)
neither false true h = let no : ⊥ = cc in absurd no
neither true b h = let no : ⊥ = cc in absurd no

is_true : (b : Bool) → not b ≡ false → b ≡ true
is_true true h = refl
is_true false h = let no : ⊥ = cc in absurd no

none_sent : (out : List ℕ) (ready : Bool) → (has_bytes out || ready) ≡ false → (out ≡ []) × (ready ≡ false)
none_sent [] false h = (refl, refl)
none_sent [] true h = let no : ⊥ = cc in absurd no
none_sent (x ∷ xs) ready h = let no : ⊥ = cc in absurd no

none_read : (out come : List ℕ) (runs may : Bool) → out ≡ [] → runs ≡ true → (if has_bytes come then not (has_bytes out) && runs else may) ≡ false → come ≡ []
none_read out [] runs may e r h = refl
none_read [] (x ∷ xs) true may e r h = let no : ⊥ = cc in absurd no
none_read [] (x ∷ xs) false may e r h = let no : ⊥ = cc in absurd no
none_read (y ∷ ys) (x ∷ xs) runs may e r h = let no : ⊥ = cc in absurd no

both_true : (a b : Bool) → (a && b) ≡ true → (a ≡ true) × (b ≡ true)
both_true true true h = (refl, refl)
both_true true false h = let no : ⊥ = cc in absurd no
both_true false b h = let no : ⊥ = cc in absurd no

is_zero : (n : ℕ) → (n == 0) ≡ true → n ≡ 0
is_zero n h = grind arith

pub none_long : (xs : List ℕ) → length xs ≡ 0 → xs ≡ []
none_long [] h = refl
none_long (x ∷ xs) h = let no : ⊥ = cc in absurd no

none_queued : (fresh busy : List ℕ) → ((length fresh == 0) && (length busy == 0)) ≡ true → (fresh ≡ []) × (busy ≡ [])
none_queued fresh busy h =
    let two = both_true (length fresh == 0) (length busy == 0) h in (none_long fresh (is_zero (length fresh) two.0), none_long busy (is_zero (length busy) two.1))

has_none : (xs : List ℕ) (id : ℕ) → xs ≡ [] → Contains xs id → ⊥
has_none [] id e h = let less : h.0 < 0 = h.1 in omega (arith, less)
has_none (x ∷ xs) id e h = let no : x ∷ xs ≡ [] = e in absurd cc

none_awaits : (t : Connections) (id : ℕ) → is_idle t ≡ true → t.missed ≡ false → Awaits id t → ⊥
none_awaits t id idle missed (inl (inl x)) = let q = none_queued t.fresh t.busy idle in has_none t.fresh id q.0 x
none_awaits t id idle missed (inl (inr x)) = let q = none_queued t.fresh t.busy idle in has_none t.busy id q.1 x
none_awaits t id idle missed (inr m) = let no : true ≡ false = sym m ∙ missed in absurd cc

none_waits : (xs : List ℕ) (may : Bool) → (may ≡ true → 0 < length xs → ⊥) → (xs ≡ []) ⊎ (may ≡ false)
none_waits [] may h = inl refl
none_waits (x ∷ xs) false h = inr refl
none_waits (x ∷ xs) true h = absurd (h refl (omega arith))

abbrev Left : Tunnel → Type 0
Left t = (is_idle t.connections ≡ true) × (t.connections.missed ≡ false) × (may_read_wire t ≡ false) × ((t.wire.marks.may_push && has_to_write t) ≡ false)

left_of : (t : Tunnel) → has_work t ≡ false → Left t
left_of t h = nothing_left (is_idle t.connections) t.connections.missed (may_read_wire t) (t.wire.marks.may_push && has_to_write t) h

-- where its wire may take bytes, nothing is due and none wait for the wire
pub rest_flushed : (t : Tunnel) → has_work t ≡ false → t.wire.marks.may_push ≡ true → IsFlushed t.engine
rest_flushed t h takes = none_sent t.engine.outgoing (is_ready t.engine.session) (neither (has_to_send t.engine) (not (length t.connections.held == 0)) (takes_none t.wire.marks.may_push (has_to_write t) takes (left_of t h).3)).0

-- where its session runs too, none wait to be fed
pub rest_fed : (t : Tunnel) → has_work t ≡ false → t.wire.marks.may_push ≡ true → is_running t.engine.session.status ≡ true → t.engine.incoming ≡ []
rest_fed t h takes runs = none_read t.engine.outgoing t.engine.incoming (is_running t.engine.session.status) (may_have_bytes t) (rest_flushed t h takes).0 runs (left_of t h).2

-- where nobody is forgotten, no bytes of a stream wait that its connection's device may take
pub rest_none : (t : Tunnel) → Serving t → has_work t ≡ false → NoneWaits t
rest_none t s h = let left = left_of t h in λ id l there. none_waits (waiting id t.engine.session) (may_push l.directions l.seen.marks) (λ may some. none_awaits t.connections id left.0 left.1 ((s.each id).gets l there may some))

takes_some : (n : ℕ) (may : Bool) → (may ≡ true → 0 < n → ⊥) → (may ≡ false) ⊎ (n ≡ 0)
takes_some n false h = inl refl
takes_some zero true h = inr refl
takes_some (suc n) true h = absurd (h refl (omega arith))

none_attends : (t : Connections) (id : ℕ) → is_idle t ≡ true → t.missed ≡ false → t.held ≡ [] → Attended id t → ⊥
none_attends t id idle missed none (inl waits) = none_awaits t id idle missed waits
none_attends t id idle missed none (inr held) = has_none t.held id none held

-- where its wire may take bytes, no stream takes bytes that its connection's device may have
pub rest_takes : (t : Tunnel) → Serving t → has_work t ≡ false → t.wire.marks.may_push ≡ true → NoneGives t
rest_takes t s h takes =
    let left = left_of t h in
    let none : t.connections.held ≡ [] = none_long t.connections.held (is_zero (length t.connections.held) (is_true (length t.connections.held == 0) (neither (has_to_send t.engine) (not (length t.connections.held == 0)) (takes_none t.wire.marks.may_push (has_to_write t) takes left.3)).1)) in
    λ id l there. takes_some (room_of id t.engine.session) (may_pull l.directions l.seen.marks) (λ may some. none_attends t.connections id left.0 left.1 none ((s.each id).gives l there may some))

hangs_none : (opens : Bool) → (opens ≡ true → ⊥) → opens ≡ false
hangs_none false h = refl
hangs_none true h = absurd (h refl)

-- where its session is over, no direction to the peer is open
pub rest_hears : (t : Tunnel) → Serving t → has_work t ≡ false → NoneHangs t
rest_hears t s h =
    let left = left_of t h in
    λ over id l there. hangs_none (is_open l.directions.to_peer) (λ opens. none_awaits t.connections id left.0 left.1 ((s.each id).hears l there over opens))

ends_none : (silent may : Bool) → (may ≡ true → silent ≡ true → ⊥) → (silent ≡ false) ⊎ (may ≡ false)
ends_none false may h = inl refl
ends_none true false h = inr refl
ends_none true true h = absurd (h refl refl)

-- more may come on each stream whose connection's device may take bytes now
pub rest_ends : (t : Tunnel) → Serving t → has_work t ≡ false → NoneEnds t
rest_ends t s h =
    let left = left_of t h in
    λ id l there. ends_none (is_silent id t.engine.session) (may_push l.directions l.seen.marks) (λ may silent. none_awaits t.connections id left.0 left.1 ((s.each id).ends l there may silent))

-- each stream takes bytes, or was finished here, whose connection's direction to the peer is open
pub rest_stops : (t : Tunnel) → Serving t → has_work t ≡ false → NoneStops t
rest_stops t s h =
    let left = left_of t h in
    λ id l there. ends_none (is_stopped id t.engine.session) (is_open l.directions.to_peer) (λ opens stopped. none_awaits t.connections id left.0 left.1 ((s.each id).stops l there opens stopped))
