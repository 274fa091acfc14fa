-- Two tunnels over two pipes: what each stream carries between its devices.
use Rattle.std.proofs.Common.{◌≡◌, ℕ, List, [], ◌∷◌, ◌++◌, Bool, true, false, ◌||◌, Option, None, Some, refl, sym, ap, subst, ◌∙◌, append-nil, append_assoc}
use Rattle.std.specs.Prelude.{option_map, nat_eq}
use Rattle.std.specs.Map.{lookup}
use Rattle.ymx_machine.specs.declared.types.Side.{Side}
use Rattle.ymx_machine.specs.declared.types.Side.TheVariants.{A, B}
use Rattle.ymx_machine.specs.declared.types.Step.{Step}
use Rattle.ymx_machine.specs.declared.types.Answer.{Answer}
use Rattle.ymx_machine.specs.shared.Events.{Reply}
use Rattle.ymx_machine.specs.Promise.{written, got, ended, finished}
use Rattle.ymx_model.specs.session.Events.{Event}
use Rattle.ymx_model.specs.session.Emissions.{in_turn}
use Rattle.ymx_model.specs.world.Worlds.{new_pipe}
use Rattle.ymx_headline.specs.machine.Faces.{DeliversWithin}
use Rattle.ymx_headline.specs.audit.Told.{IsOneRun, told}
use Rattle.ymx_headline.proofs.runs.Runs.{run-face}
use Rattle.ymx_engine.specs.Devices.{Seen}
use Rattle.ymx_engine.specs.Engines.{Engine}
use Rattle.ymx_engine.specs.Events.{taken, given, has_end, has_finish, has_open_with, lacks_memory}
use Rattle.ymx_engine.specs.Exchanges.{has_bytes}
use Rattle.ymx_engine.specs.Lives.{all_of, kept_of, loses, Trades, IsIdle, Change, Lives, sinces, Life}
use Rattle.ymx_engine.proofs.Quiet.{or_neither}
use Rattle.ymx_engine.proofs.Exchanging.{taken_then, given_then, end_then, finish_then, lacks_then, or_none}
use Rattle.ymx_engine.specs.Turns.{Connection, Entry, Connections, look}
use Rattle.ymx_engine.proofs.Listing.{plain_then}
use Rattle.ymx_engine.proofs.Trading.{life_then, life_quiet}
use Rattle.ymx_joined.specs.Tunnels.{TunnelPair, Works, Turn, OneWorks, BothWork, at_a, at_b, events_at_a, events_at_b, entries}
use Rattle.ymx_joined.specs.Carried.{Carries, TunnelsCarry, IsPassedOn, HadOne}
use Rattle.ymx_joined.proofs.Piping.{are_one_tunnel_run}
use Rattle.ymx_joined.proofs.Tracing.{gathers_a, gathers_b, writes_of, all_written, reads_of, all_read, ends_of, all_ended, finishes_of, all_finished}

-- ---- no stream is opened with its first bytes

works_plain : (es : List (Event × Reply)) (old new : Engine) (ls ms : Connections) (to from to_new from_new : List ℕ) → Works es old new ls ms to from to_new from_new → has_open_with es ≡ false
works_plain es old new ls ms to from to_new from_new w = ap has_open_with w.events ∙ w.runs.moves.plain

plain_at_a : (side : Side) (es : List (Event × Reply)) (p q : TunnelPair) → OneWorks side es p q → has_open_with (at_a side es) ≡ false
plain_at_a A es p q t = works_plain es _ _ _ _ _ _ _ _ t.0
plain_at_a B es p q t = refl

plain_at_b : (side : Side) (es : List (Event × Reply)) (p q : TunnelPair) → OneWorks side es p q → has_open_with (at_b side es) ≡ false
plain_at_b A es p q t = refl
plain_at_b B es p q t = works_plain es _ _ _ _ _ _ _ _ t.0

pub plain_a : (ts : List Turn) (p q : TunnelPair) → BothWork ts p q → has_open_with (events_at_a ts) ≡ false
plain_a [] p q h = refl
plain_a (t ∷ ts) p q h = plain_then (at_a t.side t.events) (events_at_a ts) (plain_at_a t.side t.events p h.0 h.1) (plain_a ts h.0 q h.2)

pub plain_b : (ts : List Turn) (p q : TunnelPair) → BothWork ts p q → has_open_with (events_at_b ts) ≡ false
plain_b [] p q h = refl
plain_b (t ∷ ts) p q h = plain_then (at_b t.side t.events) (events_at_b ts) (plain_at_b t.side t.events p h.0 h.1) (plain_b ts h.0 q h.2)

-- ---- the devices of a stream

works_life : (id : ℕ) (es : List (Event × Reply)) (old new : Engine) (ls ms : Connections) (to from to_new from_new : List ℕ) → Works es old new ls ms to from to_new from_new → Life id es (look id ls) (look id ms)
works_life id es old new ls ms to from to_new from_new w =
    subst (λ (v : List (Event × Reply)). Life id v (look id ls) (look id ms)) (sym w.events)
    (subst (λ (v : Connections). Life id w.runs.moves.events (look id v) (look id ms)) w.begins
    (subst (λ (v : Connections). Life id w.runs.moves.events (look id w.before.connections) (look id v)) w.ends (w.runs.moves.connections id)))

stays : (id : ℕ) (ls ms : Connections) → ms ≡ ls → Life id [] (look id ls) (look id ms)
stays id ls ms e = subst (λ (v : Connections). Life id [] (look id ls) (look id v)) (sym e) (life_quiet id [] (look id ls) (refl, refl, refl, refl, refl, refl))

life_at_a : (id : ℕ) (side : Side) (es : List (Event × Reply)) (p q : TunnelPair) → OneWorks side es p q → Life id (at_a side es) (look id p.connections_a) (look id q.connections_a)
life_at_a id A es p q t = works_life id es _ _ _ _ _ _ _ _ t.0
life_at_a id B es p q t = stays id p.connections_a q.connections_a t.2

life_at_b : (id : ℕ) (side : Side) (es : List (Event × Reply)) (p q : TunnelPair) → OneWorks side es p q → Life id (at_b side es) (look id p.connections_b) (look id q.connections_b)
life_at_b id A es p q t = stays id p.connections_b q.connections_b t.2
life_at_b id B es p q t = works_life id es _ _ _ _ _ _ _ _ t.0

life_a : (id : ℕ) (ts : List Turn) (p q : TunnelPair) → BothWork ts p q → Life id (events_at_a ts) (look id p.connections_a) (look id q.connections_a)
life_a id [] p q h = stays id p.connections_a q.connections_a (ap (λ (v : TunnelPair). v.connections_a) h)
life_a id (t ∷ ts) p q h = life_then id (at_a t.side t.events) (events_at_a ts) _ _ _ (life_at_a id t.side t.events p h.0 h.1) (life_a id ts h.0 q h.2)

life_b : (id : ℕ) (ts : List Turn) (p q : TunnelPair) → BothWork ts p q → Life id (events_at_b ts) (look id p.connections_b) (look id q.connections_b)
life_b id [] p q h = stays id p.connections_b q.connections_b (ap (λ (v : TunnelPair). v.connections_b) h)
life_b id (t ∷ ts) p q h = life_then id (at_b t.side t.events) (events_at_b ts) _ _ _ (life_at_b id t.side t.events p h.0 h.1) (life_b id ts h.0 q h.2)

-- no device was there before
none_before : (id : ℕ) (es : List (Event × Reply)) (ls : Connections) (p : Option Seen) → ls.by_id ≡ [] → Life id es (look id ls) p → Life id es None p
none_before id es ls p e h =
    subst (λ (v : List (ℕ × Entry)). Life id es (option_map (λ (l : Connection). l.seen) (option_map (λ (x : Entry). x.connection) (lookup (nat_eq id) v))) p) e h

-- ---- what is carried

-- what the promise says of a run, said of the events of both sides
carried : (writer reader : Side) (window id : ℕ) (steps : List Step) (answers : List Answer) (from to : List (Event × Reply)) → DeliversWithin window writer reader id steps answers →
    written writer id steps answers ≡ taken id from → got reader id steps answers ≡ given id to → ended reader id steps answers ≡ has_end id to →
    (finished writer id steps answers ≡ true → has_finish id from ≡ true) → Carries id from to
carried writer reader window id steps answers from to d w g e f = record {
  begins = (d.face.begins.0, sym w ∙ d.face.begins.1 ∙ ap (λ (v : List ℕ). v ++ d.face.begins.0) g);
  whole = λ h. sym w ∙ d.face.whole (e ∙ h) ∙ g;
  finished = λ h. f (d.face.finish (e ∙ h));
}

pub tunnels_carry : (ts : List Turn) → TunnelsCarry ts
tunnels_carry ts = λ wa fa wb fb q h id.
    let p = h.new in
    let r = h.work in
    let es = events_at_a ts in
    let fs = events_at_b ts in
    let o = are_one_tunnel_run ts wa fa wb fb q h in
    let one : IsOneRun in_turn (entries es) (entries fs) o.0 wa fa wb fb q.a.session q.b.session = o.1 in
    let answers = told one.turns (entries es) (entries fs) in
    let face = run-face in_turn o.0 answers wa fa wb fb one.world h.good one.runs id in
    let plain_es = plain_a ts p q r in
    let plain_fs = plain_b ts p q r in
    record {
      a = none_before id es p.connections_a _ h.none_a (life_a id ts p q r);
      b = none_before id fs p.connections_b _ h.none_b (life_b id ts p q r);
      to_b = carried A B wb id o.0 answers es fs face.0
          (gathers_a (writes_of A B refl id) one.turns new_pipe new_pipe false false 0 0 es fs o.0 one.joint refl refl plain_es ∙ all_written A B refl id es)
          (gathers_b (reads_of B A refl id) one.turns new_pipe new_pipe false false 0 0 es fs o.0 one.joint refl refl plain_fs ∙ all_read B A refl id fs)
          (gathers_b (ends_of B A refl id) one.turns new_pipe new_pipe false false 0 0 es fs o.0 one.joint refl refl plain_fs ∙ all_ended B A refl id fs)
          (λ k. all_finished A B refl id es (sym (gathers_a (finishes_of A B refl id) one.turns new_pipe new_pipe false false 0 0 es fs o.0 one.joint refl refl plain_es) ∙ k));
      to_a = carried B A wa id o.0 answers fs es face.1
          (gathers_b (writes_of B A refl id) one.turns new_pipe new_pipe false false 0 0 es fs o.0 one.joint refl refl plain_fs ∙ all_written B A refl id fs)
          (gathers_a (reads_of A B refl id) one.turns new_pipe new_pipe false false 0 0 es fs o.0 one.joint refl refl plain_es ∙ all_read A B refl id es)
          (gathers_a (ends_of A B refl id) one.turns new_pipe new_pipe false false 0 0 es fs o.0 one.joint refl refl plain_es ∙ all_ended A B refl id es)
          (λ k. all_finished B A refl id fs (sym (gathers_b (finishes_of B A refl id) one.turns new_pipe new_pipe false false 0 0 es fs o.0 one.joint refl refl plain_fs) ∙ k));
    }

-- ---- what two devices of a stream pass on

-- where none were lost the stream took all
no_bytes_of : (xs : List ℕ) → has_bytes xs ≡ false → xs ≡ []
no_bytes_of [] h = refl
no_bytes_of (x ∷ xs) h = cc

pub nothing_lost : (ps : List (List ℕ × List ℕ)) → loses ps ≡ false → all_of ps ≡ kept_of ps
nothing_lost [] h = refl
nothing_lost (p ∷ ps) h =
    let two = or_neither (has_bytes p.1) (loses ps) h in
    ap (λ (v : List ℕ). (p.0 ++ v) ++ all_of ps) (no_bytes_of p.1 two.0) ∙ ap (λ (v : List ℕ). v ++ all_of ps) (append-nil p.0) ∙ ap (λ (v : List ℕ). p.0 ++ v) (nothing_lost ps two.1)

-- bytes are lost only for lack of memory
pub no_cause : (b c : Bool) → c ≡ false → (b ≡ true → c ≡ true) → b ≡ false
no_cause true c h f = sym (f refl) ∙ h
no_cause false c h f = refl

raised : (o p : Option Bool) (b : Bool) → p ≡ option_map (λ x. x || b) o → o ≡ Some false → p ≡ Some true → b ≡ true
raised o p true e f g = refl
raised o p false e f g = let q : p ≡ Some false = e ∙ ap (option_map (λ x. x || false)) f in let no : ⊥ = cc in absurd no

pub devices_get : (id : ℕ) (from to : List (Event × Reply)) (d d2 e e2 : Seen) → Trades id from d d2 → Trades id to e e2 → Carries id from to → lacks_memory id from ≡ false → IsPassedOn d d2 e e2
devices_get id from to d d2 e e2 x y c plenty =
    let whole_pieces : loses x.pieces ≡ false = no_cause (loses x.pieces) (lacks_memory id from) plenty x.cause in
    let same : all_of x.pieces ≡ taken id from = nothing_lost x.pieces whole_pieces ∙ sym x.kept in
    let end_of : e.ended ≡ Some false → e2.ended ≡ Some true → has_end id to ≡ true = λ f g. raised e.ended e2.ended (has_end id to) y.ended f g in
    record {
      came = all_of x.pieces;
      went = given id to;
      rest = c.begins.0;
      gave = x.to_peer;
      took = y.from_peer;
      begins = same ∙ c.begins.1;
      whole = λ f g. same ∙ c.whole (end_of f g);
      all = λ f g. x.whole (c.finished (end_of f g));
    }

-- ---- one device

-- what moved in all events moved while the device was there

pub taken_during : (id : ℕ) (before during after : List (Event × Reply)) → IsIdle id before → IsIdle id after → taken id (before ++ (during ++ after)) ≡ taken id during
taken_during id before during after x y =
    taken_then id before (during ++ after) ∙ ap (λ (v : List ℕ). v ++ taken id (during ++ after)) x.0 ∙ taken_then id during after ∙ ap (λ (v : List ℕ). taken id during ++ v) y.0 ∙ append-nil (taken id during)

pub given_during : (id : ℕ) (before during after : List (Event × Reply)) → IsIdle id before → IsIdle id after → given id (before ++ (during ++ after)) ≡ given id during
given_during id before during after x y =
    given_then id before (during ++ after) ∙ ap (λ (v : List ℕ). v ++ given id (during ++ after)) x.1 ∙ given_then id during after ∙ ap (λ (v : List ℕ). given id during ++ v) y.1 ∙ append-nil (given id during)

finish_during : (id : ℕ) (before during after : List (Event × Reply)) → IsIdle id before → IsIdle id after → has_finish id (before ++ (during ++ after)) ≡ has_finish id during
finish_during id before during after x y =
    finish_then id before (during ++ after) ∙ ap (λ (v : Bool). v || has_finish id (during ++ after)) x.2 ∙ finish_then id during after ∙ ap (λ (v : Bool). has_finish id during || v) y.2 ∙ or_none (has_finish id during)

end_during : (id : ℕ) (before during after : List (Event × Reply)) → IsIdle id before → IsIdle id after → has_end id (before ++ (during ++ after)) ≡ has_end id during
end_during id before during after x y =
    end_then id before (during ++ after) ∙ ap (λ (v : Bool). v || has_end id (during ++ after)) x.3 ∙ end_then id during after ∙ ap (λ (v : Bool). has_end id during || v) y.3 ∙ or_none (has_end id during)

pub plenty_during : (id : ℕ) (before during after : List (Event × Reply)) → lacks_memory id (before ++ (during ++ after)) ≡ false → lacks_memory id during ≡ false
plenty_during id before during after h =
    let tail = or_neither (lacks_memory id before) (lacks_memory id (during ++ after)) (sym (lacks_then id before (during ++ after)) ∙ h) in
    let parts = or_neither (lacks_memory id during) (lacks_memory id after) (sym (lacks_then id during after) ∙ tail.1) in
    parts.0

pub one_gets : (id : ℕ) (from to : List (Event × Reply)) (d d2 e e2 : Seen) → HadOne id from d d2 → HadOne id to e e2 → Carries id from to → lacks_memory id from ≡ false → IsPassedOn d d2 e e2
one_gets id from to d d2 e e2 x y c plenty =
    let came = ap (taken id) x.all ∙ taken_during id x.before x.during x.after x.still x.left in
    let went = ap (given id) y.all ∙ given_during id y.before y.during y.after y.still y.left in
    let done = ap (has_finish id) x.all ∙ finish_during id x.before x.during x.after x.still x.left in
    let over = ap (has_end id) y.all ∙ end_during id y.before y.during y.after y.still y.left in
    let carries : Carries id x.during y.during = record {
      begins = (c.begins.0, sym came ∙ c.begins.1 ∙ ap (λ (v : List ℕ). v ++ c.begins.0) went);
      whole = λ h. sym came ∙ c.whole (over ∙ h) ∙ went;
      finished = λ h. sym done ∙ c.finished (over ∙ h);
    } in
    devices_get id x.during y.during d d2 e e2 x.trades y.trades carries (plenty_during id x.before x.during x.after (sym (ap (lacks_memory id) x.all) ∙ plenty))

nothing_idle : (id : ℕ) → IsIdle id []
nothing_idle id = (refl, refl, refl, refl)

same_some : (now b : Seen) → Some now ≡ Some b → b ≡ now
same_some now b e = cc

pub one_stays : (id : ℕ) (joined : Change) (rest : List (Event × Reply)) (now : Seen) → Lives id (joined ∷ []) rest None (Some now) → HadOne id (sinces (joined ∷ []) ++ rest) joined.seen now
one_stays id joined rest now x = record {
  before = joined.since;
  during = rest;
  after = [];
  all = ap (λ (v : List (Event × Reply)). v ++ rest) (append-nil joined.since) ∙ ap (λ (v : List (Event × Reply)). joined.since ++ v) (sym (append-nil rest));
  still = x.1;
  trades = subst (Trades id rest joined.seen) (same_some now x.2.0 x.2.1) x.2.2;
  left = nothing_idle id;
}

pub one_left : (id : ℕ) (joined left : Change) (rest : List (Event × Reply)) → Lives id (joined ∷ left ∷ []) rest None None → HadOne id (sinces (joined ∷ left ∷ []) ++ rest) joined.seen left.seen
one_left id joined left rest x = record {
  before = joined.since;
  during = left.since;
  after = rest;
  all = append_assoc joined.since (left.since ++ []) rest ∙ ap (λ (v : List (Event × Reply)). joined.since ++ (v ++ rest)) (append-nil left.since);
  still = x.1;
  trades = x.2.1;
  left = x.2.2.1;
}
