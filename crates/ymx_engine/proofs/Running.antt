-- How a tunnel moves bytes, step by step.
use Rattle.std.proofs.Common.{◌≡◌, ℕ, List, [], ◌∷◌, ◌++◌, Bool, true, false, ◌||◌, Option, None, Some, refl, sym, ap, ◌∙◌, subst, append-nil, append_assoc, cond, ◌==◌, arith}
use Rattle.std.specs.Prelude.{option_map, nat_eq}
use Rattle.std.specs.List.{list_all}
use Rattle.std.proofs.KnownBytes.{Appends-nil, Appends-trans, Consumes-nil, Consumes-trans}
use Rattle.ymx_machine.specs.shared.Events.{Call, Reply}
use Rattle.ymx_machine.specs.declared.types.Call.TheVariants as call
use Rattle.ymx_machine.specs.declared.types.CallFault.{CallFault}
use Rattle.ymx_machine.specs.declared.types.Reply.TheVariants as reply
use Rattle.ymx_model.specs.declared.types.Event.TheVariants as event
use Rattle.ymx_model.specs.session.Emissions.{in_turn}
use Rattle.ymx_model.specs.session.Events.{Event}
use Rattle.ymx_model.specs.session.Histories.{Gives}
use Rattle.ymx_model.specs.session.Sessions.{Session}
use Rattle.ymx_engine.specs.declared.device.Readiness.{Readiness}
use Rattle.ymx_engine.specs.Devices.{Seen, IsEnded, IsNoted, IsShut}
use Rattle.ymx_engine.specs.Engines.{Engine, KeepsWire}
use Rattle.ymx_engine.specs.Events.{Happen, opens_with, has_open_with}
use Rattle.ymx_engine.specs.Joins.{Joins, DropsOut}
use Rattle.ymx_engine.specs.Lives.{IsIdle, Life, Trades, opens_at}
use Rattle.ymx_engine.specs.Moves.{Moves}
use Rattle.ymx_engine.specs.Passes.{PassesOn, is_of_reading}
use Rattle.ymx_engine.specs.declared.directions.Directions.{Directions}
use Rattle.ymx_engine.specs.Refusals.{OpensNone, OffersNone, GivesUp}
use Rattle.ymx_engine.specs.Serves.{Exchanges}
use Rattle.ymx_engine.specs.Tunnels.{Tunnel}
use Rattle.ymx_engine.specs.Turns.{Connection, Connections, connection_of, look, Puts}
use Rattle.ymx_engine.specs.Directions.{new_directions}
use Rattle.ymx_engine.specs.Wires.{fed, emitted, is_of_read, is_of_flush, has_feed_end, FeedsFront, ReadsWire, FlushesWire, HandlesIn}
use Rattle.ymx_engine.proofs.Advancing.{rest_of, fed_then, fronts_then, fronts_more}
use Rattle.ymx_engine.proofs.Quiet.{quiet, IsQuiet}
use Rattle.ymx_engine.proofs.Carrying.{feed_end_then, reads_handled_so, emitted_then, waits_on}
use Rattle.ymx_engine.proofs.Exchanging.{happen_then, or_none, or_same, or_true, or_twice, same_id, same_appends, same_consumes}
use Rattle.ymx_engine.proofs.Listing.{reads_reading, passes_reading, FeedsNone, flush_feeds, read_emits, LeavesWire, PassEmits, pass_emits, other_id, others_quiet_passed, IsCalm, turn_calm, others_quiet_turned, plain_list, plain_then, read_plain, flush_plain}
use Rattle.ymx_engine.proofs.Trading.{life_quiet, life_then, life_trades, life_leaves, life_joins, life_idle, trades_passed}

-- the device of each stream is what it was
abbrev pub SameSeen : Tunnel → Tunnel → Type 0
SameSeen a b = (id : ℕ) → look id b.connections ≡ look id a.connections

or_swap_three : (a b c x y z : Bool) → (((a || b) || c) || ((x || y) || z)) ≡ (((a || x) || (b || y)) || (c || z))
or_swap_three true b c x y z = refl
or_swap_three false true c true y z = refl
or_swap_three false true c false y z = refl
or_swap_three false false c true y z = or_true_end c
  where
    or_true_end : (c : Bool) → (c || true) ≡ true
    or_true_end true = refl
    or_true_end false = refl
or_swap_three false false true false true z = refl
or_swap_three false false false false true z = refl
or_swap_three false false true false false z = refl
or_swap_three false false false false false z = refl

-- nothing happened
pub moves_same : (a : Tunnel) → Moves a a
moves_same a = record {
  events = [];
  happen = refl;
  plain = refl;
  came = [];
  gave = Consumes-nil a.wire.left;
  fronts = tt;
  from_wire = append-nil a.engine.incoming;
  sent = [];
  took = Appends-nil a.wire.had;
  to_wire = append-nil a.engine.outgoing;
  said_end = false;
  over = or_same a.wire.over;
  fails = false;
  failed = or_same a.wire.failed;
  ends = false;
  ended = or_same a.wire.ended;
  shuts = false;
  shut = or_same a.wire.shut;
  lost = refl;
  connections = λ id. life_quiet id [] (look id a.connections) (refl, refl, refl, refl, refl, refl);
}

-- and that is no event
pub moves_same_so : (a : Tunnel) → (m : Moves a a) × (m.events ≡ [])
unfolding moves_same
moves_same_so a = (moves_same a, refl)

-- one run after another
pub moves_then : (a b c : Tunnel) → Moves a b → Moves b c → Moves a c
moves_then a b c x y =
    let es = x.events in
    let fs = y.events in
    let waits : (a.engine.incoming ++ x.came) ++ y.came ≡ fed es ++ (b.engine.incoming ++ y.came) =
    ap (λ (v : List ℕ). v ++ y.came) x.from_wire ∙ append_assoc (fed es) b.engine.incoming y.came in
    record {
      events = es ++ fs;
      happen = happen_then es fs _ _ _ x.happen y.happen;
      plain = plain_then es fs x.plain y.plain;
      came = x.came ++ y.came;
      gave = Consumes-trans a.wire.left b.wire.left c.wire.left _ _ x.gave y.gave;
      fronts = subst (λ (v : List ℕ). FeedsFront v (es ++ fs)) (append_assoc a.engine.incoming x.came y.came)
          (fronts_then es fs ((a.engine.incoming ++ x.came) ++ y.came) (b.engine.incoming ++ y.came) (rest_of es _ _ waits) (fronts_more (a.engine.incoming ++ x.came) y.came es x.fronts) y.fronts);
      from_wire = waits_on a.engine.incoming b.engine.incoming c.engine.incoming x.came (fed es) y.came (fed fs) x.from_wire y.from_wire ∙ ap (λ (v : List ℕ). v ++ c.engine.incoming) (sym (fed_then es fs));
      sent = x.sent ++ y.sent;
      took = Appends-trans a.wire.had b.wire.had c.wire.had _ _ x.took y.took;
      to_wire = ap (λ (v : List ℕ). a.engine.outgoing ++ v) (emitted_then es fs) ∙ waits_on a.engine.outgoing b.engine.outgoing c.engine.outgoing (emitted es) x.sent (emitted fs) y.sent x.to_wire y.to_wire;
      said_end = x.said_end || y.said_end;
      over = y.over ∙ ap (option_map (λ v. v || y.said_end)) x.over ∙ or_twice x.said_end y.said_end a.wire.over;
      fails = x.fails || y.fails;
      failed = y.failed ∙ ap (option_map (λ v. v || y.fails)) x.failed ∙ or_twice x.fails y.fails a.wire.failed;
      lost = feed_end_then es fs ∙ ap (λ (v : Bool). v || has_feed_end fs) x.lost ∙ ap (λ (v : Bool). ((x.said_end || x.fails) || x.shuts) || v) y.lost ∙ or_swap_three x.said_end x.fails x.shuts y.said_end y.fails y.shuts;
      ends = x.ends || y.ends;
      ended = y.ended ∙ ap (option_map (λ v. v || y.ends)) x.ended ∙ or_twice x.ends y.ends a.wire.ended;
      shuts = x.shuts || y.shuts;
      shut = y.shut ∙ ap (option_map (λ v. v || y.shuts)) x.shut ∙ or_twice x.shuts y.shuts a.wire.shut;
      connections = λ id. life_then id es fs (look id a.connections) (look id b.connections) (look id c.connections) (x.connections id) (y.connections id);
    }

-- and what happened, and what the wire gave and took, is that of both
pub moves_then_so : (a b c : Tunnel) (x : Moves a b) (y : Moves b c) → (m : Moves a c) × (m.came ≡ x.came ++ y.came) × (m.sent ≡ x.sent ++ y.sent) × (m.events ≡ x.events ++ y.events)
unfolding moves_then
moves_then_so a b c x y = (moves_then a b c x y, refl, refl, refl)

-- lines that stay as they are
still_connections : (a b : Tunnel) (es : List (Event × Reply)) → SameSeen a b → ((id : ℕ) → IsQuiet id es) → (id : ℕ) → Life id es (look id a.connections) (look id b.connections)
still_connections a b es same q id = subst (λ (v : Option Seen). Life id es (look id a.connections) v) (sym (same id)) (life_quiet id es (look id a.connections) (q id))

-- the wire was read
pub moves_read : (a b : Tunnel) (n : ℕ) → ReadsWire a.engine b.engine a.wire b.wire n → SameSeen a b → Moves a b
moves_read a b n x same = record {
  events = x.events;
  happen = x.happen;
  plain = plain_list is_of_read read_plain x.events x.own;
  came = x.came;
  gave = x.gave;
  fronts = x.fronts;
  from_wire = x.from_wire;
  sent = [];
  took = same_appends a.wire.had b.wire.had x.had;
  to_wire = ap (λ (v : List ℕ). a.engine.outgoing ++ v) (read_emits x.events x.own) ∙ append-nil a.engine.outgoing ∙ sym x.outgoing;
  said_end = x.said_end;
  over = x.over;
  fails = x.fails;
  failed = x.failed;
  lost = x.lost ∙ sym (or_none (x.said_end || x.fails));
  ends = false;
  ended = x.ended ∙ or_same a.wire.ended;
  shuts = false;
  shut = x.shut ∙ or_same a.wire.shut;
  connections = still_connections a b x.events same (λ id. quiet is_of_read (λ c. refl) id x.events x.own);
}

-- and what came is what the wire gave, and just that happened
pub moves_read_so : (a b : Tunnel) (n : ℕ) (x : ReadsWire a.engine b.engine a.wire b.wire n) → SameSeen a b → (m : Moves a b) × (m.came ≡ x.came) × (m.events ≡ x.events)
unfolding moves_read
moves_read_so a b n x same = (moves_read a b n x same, refl, refl)

-- what waited was fed, and nothing else happened
pub moves_handled : (a b : Tunnel) (x : HandlesIn false a.engine b.engine) → b.wire ≡ a.wire → SameSeen a b → (m : Moves a b) × (list_all (λ e. is_of_reading e.0) m.events ≡ true) × (m.events ≡ x.events)
moves_handled a b x wire same =
    let reads = reads_handled_so a.engine b.engine a.wire b.wire 0 x wire in
    let moved = moves_read_so a b 0 reads.0 same in
    (moved.0, ap (list_all (λ (e : Event × Reply). is_of_reading e.0)) moved.2 ∙ reads_reading (reads.0).events (reads.0).own, moved.2 ∙ reads.1)

-- the wire was written to
pub moves_flushed : (a b : Tunnel) (n : ℕ) → FlushesWire a.engine b.engine a.wire b.wire n → SameSeen a b → Moves a b
moves_flushed a b n x same =
    let none : FeedsNone x.events = flush_feeds x.events x.own in
    record {
      events = x.events;
      happen = x.happen;
      plain = plain_list is_of_flush flush_plain x.events x.own;
      came = [];
      gave = same_consumes a.wire.left b.wire.left x.left;
      fronts = none.1 (a.engine.incoming ++ []);
      from_wire = append-nil a.engine.incoming ∙ sym x.incoming ∙ ap (λ (v : List ℕ). v ++ b.engine.incoming) (sym none.0);
      sent = x.sent;
      took = x.took;
      to_wire = x.to_wire;
      said_end = false;
      over = x.over ∙ or_same a.wire.over;
      fails = x.fails;
      failed = x.failed;
      lost = x.lost ∙ sym (or_none x.fails);
      ends = false;
      ended = x.ended ∙ or_same a.wire.ended;
      shuts = false;
      shut = x.shut ∙ or_same a.wire.shut;
      connections = still_connections a b x.events same (λ id. quiet is_of_flush (λ c. refl) id x.events x.own);
    }

-- and just that happened and went
pub moves_flushed_so : (a b : Tunnel) (n : ℕ) (x : FlushesWire a.engine b.engine a.wire b.wire n) → SameSeen a b → (m : Moves a b) × (m.sent ≡ x.sent) × (m.events ≡ x.events)
unfolding moves_flushed
moves_flushed_so a b n x same = (moves_flushed a b n x same, refl, refl)

-- ---- one line's turn

pub eq_ids : (id other : ℕ) → nat_eq id other ≡ true → other ≡ id
eq_ids id other h = grind arith

not_eq_ids : (id other : ℕ) → nat_eq id other ≡ false → (other == id) ≡ false
not_eq_ids id other h = grind arith

-- this line moves, and the others stay
served_connection : (id other : ℕ) (a b : Connections) (d e : Seen) (es : List (Event × Reply)) (test : Bool) → nat_eq id other ≡ test → look id a ≡ Some d → look other b ≡ cond test (Some e) (look other a) →
    Life id es (Some d) (Some e) → ((other == id) ≡ false → IsQuiet other es) → Life other es (look other a) (look other b)
served_connection id other a b d e es true t at now moved own =
    let same : other ≡ id = eq_ids id other t in
    let there : look other a ≡ Some d = ap (λ (n : ℕ). look n a) same ∙ at in
    let at_other : Life other es (Some d) (Some e) = subst (λ (n : ℕ). Life n es (Some d) (Some e)) (sym same) moved in
    subst (λ (v : Option Seen). Life other es (look other a) v) (sym now) (subst (λ (v : Option Seen). Life other es v (Some e)) (sym there) at_other)
served_connection id other a b d e es false t at now moved own =
    subst (λ (v : Option Seen). Life other es (look other a) v) (sym now) (life_quiet other es (look other a) (own (not_eq_ids id other t)))

-- nothing was fed, what was emitted waits, and the wire was left alone
moves_moved : (a b : Tunnel) (es : List (Event × Reply)) → Happen es a.engine.session b.engine.session → FeedsNone es → has_feed_end es ≡ false → has_open_with es ≡ false →
    a.engine.outgoing ++ emitted es ≡ b.engine.outgoing → b.engine.incoming ≡ a.engine.incoming → b.wire ≡ a.wire → ((id : ℕ) → Life id es (look id a.connections) (look id b.connections)) → Moves a b
moves_moved a b es h feeds heard plain to_wire incoming wire connections = record {
  events = es;
  happen = h;
  plain = plain;
  came = [];
  gave = same_consumes a.wire.left b.wire.left (ap (λ (s : Seen). s.left) wire);
  fronts = feeds.1 (a.engine.incoming ++ []);
  from_wire = append-nil a.engine.incoming ∙ sym incoming ∙ ap (λ (v : List ℕ). v ++ b.engine.incoming) (sym feeds.0);
  sent = [];
  took = same_appends a.wire.had b.wire.had (ap (λ (s : Seen). s.had) wire);
  to_wire = to_wire;
  said_end = false;
  over = ap (λ (s : Seen). s.over) wire ∙ or_same a.wire.over;
  fails = false;
  failed = ap (λ (s : Seen). s.failed) wire ∙ or_same a.wire.failed;
  lost = heard;
  ends = false;
  ended = ap (λ (s : Seen). s.ended) wire ∙ or_same a.wire.ended;
  shuts = false;
  shut = ap (λ (s : Seen). s.shut) wire ∙ or_same a.wire.shut;
  connections = connections;
}

-- calls alone happened, and the wire was left alone
pub moves_called : (a b : Tunnel) (es : List (Event × Reply)) → Happen es a.engine.session b.engine.session → LeavesWire es → KeepsWire a.engine b.engine → b.wire ≡ a.wire → ((id : ℕ) → Life id es (look id a.connections) (look id b.connections)) → Moves a b
moves_called a b es h leaves keeps wire connections =
    moves_moved a b es h leaves.0 leaves.2 leaves.3 (ap (λ (v : List ℕ). a.engine.outgoing ++ v) leaves.1 ∙ append-nil a.engine.outgoing ∙ sym keeps.outgoing) keeps.incoming wire connections

-- a stream and its own device had a turn
pub moves_served : (a b : Tunnel) (id : ℕ) (d e : Seen) → Exchanges id a.engine.session b.engine.session a.engine.outgoing b.engine.outgoing d e → b.engine.incoming ≡ a.engine.incoming → b.wire ≡ a.wire → look id a.connections ≡ Some d →
    ((other : ℕ) → look other b.connections ≡ cond (nat_eq id other) (Some e) (look other a.connections)) → Moves a b
moves_served a b id d e x incoming wire at now =
    let calm : IsCalm x.events = turn_calm id x.events x.own in
    moves_moved a b x.events x.happen calm.0 calm.1 calm.2 x.to_wire incoming wire
    (λ other. served_connection id other a.connections b.connections d e x.events (nat_eq id other) refl at (now other) (life_trades id x.events d e x.trades) (others_quiet_turned id other x.events x.own))

-- and just these events happened in it
pub served_run : (a b : Tunnel) (id : ℕ) (d e : Seen) → (x : Exchanges id a.engine.session b.engine.session a.engine.outgoing b.engine.outgoing d e) → b.engine.incoming ≡ a.engine.incoming → b.wire ≡ a.wire → look id a.connections ≡ Some d →
    ((other : ℕ) → look other b.connections ≡ cond (nat_eq id other) (Some e) (look other a.connections)) → (r : Moves a b) × (x.events ≡ r.events)
unfolding moves_served moves_moved
served_run a b id d e x incoming wire at now = (moves_served a b id d e x incoming wire at now, refl)

-- payload was passed to a stream's own device
pub moves_passed : (a b : Tunnel) (id : ℕ) (d e : Seen) (n : ℕ) (v w : Directions) → PassesOn id a.engine b.engine d e n v w → b.wire ≡ a.wire → look id a.connections ≡ Some d →
    ((other : ℕ) → look other b.connections ≡ cond (nat_eq id other) (Some e) (look other a.connections)) → Moves a b
moves_passed a b id d e n v w x wire at now =
    let none : PassEmits x.events = pass_emits id x.events x.own in
    record {
      events = x.events;
      happen = x.happen;
      plain = none.2;
      came = [];
      gave = same_consumes a.wire.left b.wire.left (ap (λ (s : Seen). s.left) wire);
      fronts = subst (λ (v : List ℕ). FeedsFront v x.events) (sym (append-nil a.engine.incoming)) x.fronts;
      from_wire = append-nil a.engine.incoming ∙ x.from_wire;
      sent = [];
      took = same_appends a.wire.had b.wire.had (ap (λ (s : Seen). s.had) wire);
      to_wire = ap (λ (v : List ℕ). a.engine.outgoing ++ v) none.0 ∙ append-nil a.engine.outgoing ∙ sym x.outgoing;
      said_end = false;
      over = ap (λ (s : Seen). s.over) wire ∙ or_same a.wire.over;
      fails = false;
      failed = ap (λ (s : Seen). s.failed) wire ∙ or_same a.wire.failed;
      lost = none.1;
      ends = false;
      ended = ap (λ (s : Seen). s.ended) wire ∙ or_same a.wire.ended;
      shuts = false;
      shut = ap (λ (s : Seen). s.shut) wire ∙ or_same a.wire.shut;
      connections = λ other. served_connection id other a.connections b.connections d e x.events (nat_eq id other) refl at (now other) (life_trades id x.events d e (trades_passed id n a.engine b.engine d e v w x)) (others_quiet_passed id other x.events x.own);
    }

-- and nothing else happened
pub moves_passed_so : (a b : Tunnel) (id : ℕ) (d e : Seen) (n : ℕ) (v w : Directions) (x : PassesOn id a.engine b.engine d e n v w) → b.wire ≡ a.wire → look id a.connections ≡ Some d →
    ((other : ℕ) → look other b.connections ≡ cond (nat_eq id other) (Some e) (look other a.connections)) → (m : Moves a b) × (list_all (λ e. is_of_reading e.0) m.events ≡ true) × (m.events ≡ x.events)
unfolding moves_passed
moves_passed_so a b id d e n v w x wire at now = (moves_passed a b id d e n v w x wire at now, passes_reading id x.events x.own, refl)

-- one call that moves no byte happened, and the device of a stream joined or left
changed_connection : (id other : ℕ) (a b : Connections) (to : Option Seen) (es : List (Event × Reply)) (test : Bool) → nat_eq id other ≡ test → look other b ≡ cond test to (look other a) →
    Life id es (look id a) to → IsQuiet other es → Life other es (look other a) (look other b)
changed_connection id other a b to es true t now life q =
    subst (λ (v : Option Seen). Life other es (look other a) v) (sym now) (subst (λ (n : ℕ). Life n es (look n a) to) (sym (eq_ids id other t)) life)
changed_connection id other a b to es false t now life q = subst (λ (v : Option Seen). Life other es (look other a) v) (sym now) (life_quiet other es (look other a) q)

-- a device left, and its stream was forgotten
pub moves_forgot : (a b : Tunnel) (id : ℕ) (told : Reply) → Gives in_turn a.engine.session (event.Call (call.Forget id)) told b.engine.session → KeepsWire a.engine b.engine → b.wire ≡ a.wire →
    ((other : ℕ) → look other b.connections ≡ cond (nat_eq id other) None (look other a.connections)) → Moves a b
moves_forgot a b id told g keeps wire now =
    let es : List (Event × Reply) = (event.Call (call.Forget id), told) ∷ [] in
    moves_called a b es (b.engine.session, g, refl) ((refl, λ w. (tt, tt)), refl, refl, refl) keeps wire
    (λ other. changed_connection id other a.connections b.connections None es (nat_eq id other) refl (now other) (life_leaves id told (look id a.connections)) (refl, refl, refl, refl, refl, refl))

-- what is seen of the devices where a connection was put in, or dropped
pub puts_look : (id other : ℕ) (what : Option Connection) (a b : Connections) → Puts id what a b → look other b ≡ cond (nat_eq id other) (option_map (λ (l : Connection). l.seen) what) (look other a)
puts_look id other what a b puts = ap (option_map (λ (l : Connection). l.seen)) (puts other) ∙ by (nat_eq id other)
  where
    by : (t : Bool) → option_map (λ (l : Connection). l.seen) (cond t what (connection_of other a)) ≡ cond t (option_map (λ (l : Connection). l.seen) what) (look other a)
    by true = refl
    by false = refl

-- a stream was opened or accepted, and a device joined it
moves_joined : (a b c : Tunnel) (id : ℕ) (d : Seen) (k : Event × Reply) → opens_at id k.0 k.1 ≡ true → ((other : ℕ) → IsQuiet other (k ∷ [])) → LeavesWire (k ∷ []) →
    Gives in_turn a.engine.session k.0 k.1 b.engine.session → KeepsWire a.engine b.engine → b.wire ≡ a.wire → SameSeen a b → Joins id d b c → Moves a c
moves_joined a b c id d k opens quiet leaves g keeps wire same j =
    let es : List (Event × Reply) = k ∷ [] in
    let none : look id a.connections ≡ None = sym (same id) ∙ ap (option_map (λ (l : Connection). l.seen)) j.free in
    let life : Life id es (look id a.connections) (Some d) = subst (λ (v : Option Seen). Life id es v (Some d)) (sym none) (life_joins id k d opens (quiet id)) in
    let g2 : Gives in_turn a.engine.session k.0 k.1 c.engine.session = subst (λ (v : Engine). Gives in_turn a.engine.session k.0 k.1 v.session) (sym j.engine) g in
    let keeps2 : KeepsWire a.engine c.engine = subst (λ (v : Engine). KeepsWire a.engine v) (sym j.engine) keeps in
    moves_called a c es (c.engine.session, g2, refl) leaves keeps2 (j.wire ∙ wire)
    (λ other. changed_connection id other a.connections c.connections (Some d) es (nat_eq id other) refl
    (puts_look id other (Some (record { seen = d; directions = new_directions })) b.connections c.connections j.connections.connections ∙ ap (λ (v : Option Seen). cond (nat_eq id other) (Some d) v) (same other)) life (quiet other))

pub moves_opened : (a b c : Tunnel) (id : ℕ) (d : Seen) → Gives in_turn a.engine.session (event.Call call.Open) (reply.Opened id) b.engine.session → KeepsWire a.engine b.engine → b.wire ≡ a.wire → SameSeen a b → Joins id d b c → Moves a c
moves_opened a b c id d g keeps wire same j =
    moves_joined a b c id d (event.Call call.Open, reply.Opened id) (same_id id) (λ other. (refl, refl, refl, refl, refl, refl)) ((refl, λ w. (tt, tt)), refl, refl, refl) g keeps wire same j

pub moves_accepted : (a b c : Tunnel) (id : ℕ) (d : Seen) → Gives in_turn a.engine.session (event.Call call.Accept) (reply.Accepted (Some id)) b.engine.session → KeepsWire a.engine b.engine → b.wire ≡ a.wire → SameSeen a b → Joins id d b c → Moves a c
moves_accepted a b c id d g keeps wire same j =
    moves_joined a b c id d (event.Call call.Accept, reply.Accepted (Some id)) (same_id id) (λ other. (refl, refl, refl, refl, refl, refl)) ((refl, λ w. (tt, tt)), refl, refl, refl) g keeps wire same j

-- calls that are quiet on every stream, but may reset and forget one that has no device
pub moves_idle : (a b : Tunnel) (es : List (Event × Reply)) → Happen es a.engine.session b.engine.session → LeavesWire es → KeepsWire a.engine b.engine → b.wire ≡ a.wire → SameSeen a b →
    ((id : ℕ) → Life id es (look id a.connections) (look id a.connections)) → Moves a b
moves_idle a b es h leaves keeps wire same life =
    moves_called a b es h leaves keeps wire (λ id. subst (λ (v : Option Seen). Life id es (look id a.connections) v) (sym (same id)) (life id))

-- where a stream has no device no byte of it moves, and another one is left alone
given_up_life : (id other : ℕ) (connections : Connections) (es : List (Event × Reply)) (test : Bool) → nat_eq id other ≡ test → look id connections ≡ None → IsIdle other es → ((other == id) ≡ false → IsQuiet other es) → Life other es (look other connections) (look other connections)
given_up_life id other connections es true t none idle q =
    let there : look other connections ≡ None = ap (λ (n : ℕ). look n connections) (eq_ids id other t) ∙ none in
    subst (λ (v : Option Seen). Life other es v v) (sym there) (life_idle other es idle)
given_up_life id other connections es false t none idle q = life_quiet other es (look other connections) (q (not_eq_ids id other t))

-- one call was made that moves no byte of a stream, and no device joins or leaves
pub moves_alone : (a b : Tunnel) (k : Event × Reply) → ((id : ℕ) → IsQuiet id (k ∷ [])) → LeavesWire (k ∷ []) → Gives in_turn a.engine.session k.0 k.1 b.engine.session → KeepsWire a.engine b.engine → b.wire ≡ a.wire → SameSeen a b → Moves a b
moves_alone a b k quiet leaves g keeps wire same = moves_idle a b (k ∷ []) (b.engine.session, g, refl) leaves keeps wire same (λ id. life_quiet id (k ∷ []) (look id a.connections) (quiet id))

pub moves_opened_alone : (a b : Tunnel) (told : Reply) → Gives in_turn a.engine.session (event.Call call.Open) told b.engine.session → KeepsWire a.engine b.engine → b.wire ≡ a.wire → SameSeen a b → Moves a b
moves_opened_alone a b told g keeps wire same = moves_alone a b (event.Call call.Open, told) (λ id. (refl, refl, refl, refl, refl, refl)) ((refl, λ w. (tt, tt)), refl, refl, refl) g keeps wire same

pub moves_accepted_alone : (a b : Tunnel) (told : Reply) → Gives in_turn a.engine.session (event.Call call.Accept) told b.engine.session → KeepsWire a.engine b.engine → b.wire ≡ a.wire → SameSeen a b → Moves a b
moves_accepted_alone a b told g keeps wire same = moves_alone a b (event.Call call.Accept, told) (λ id. (refl, refl, refl, refl, refl, refl)) ((refl, λ w. (tt, tt)), refl, refl, refl) g keeps wire same

-- the session is as it was
pub moves_still : (a b : Tunnel) → b.engine.session ≡ a.engine.session → KeepsWire a.engine b.engine → b.wire ≡ a.wire → SameSeen a b → Moves a b
moves_still a b still keeps wire same = moves_idle a b [] still ((refl, λ w. tt), refl, refl, refl) keeps wire same (λ id. life_quiet id [] (look id a.connections) (refl, refl, refl, refl, refl, refl))

-- no stream was opened, or none was offered
pub moves_opens_none : (a b : Tunnel) (fault : CallFault) → OpensNone fault a.engine.session b.engine.session → KeepsWire a.engine b.engine → b.wire ≡ a.wire → SameSeen a b → Moves a b
moves_opens_none a b fault x keeps wire same = moves_still a b x.0 keeps wire same

pub moves_offers_none : (a b : Tunnel) → OffersNone a.engine.session b.engine.session → KeepsWire a.engine b.engine → b.wire ≡ a.wire → SameSeen a b → Moves a b
moves_offers_none a b x keeps wire same = moves_still a b x.0 keeps wire same

-- the events at which a stream is given up
abbrev given_up_by : (id : ℕ) (s t : Session) → GivesUp id s t → List (Event × Reply)
given_up_by id s t up = (event.Call (call.Reset id), up.told_reset) ∷ (event.Call (call.Forget id), up.told_forget) ∷ []

-- a stream was opened or accepted, which no device could join, and given up
moves_given_up : (a b c : Tunnel) (id : ℕ) (k : Event × Reply) → Gives in_turn a.engine.session k.0 k.1 b.engine.session → KeepsWire a.engine b.engine → b.wire ≡ a.wire → SameSeen a b →
    (j : DropsOut id b c) → LeavesWire (k ∷ given_up_by id b.engine.session c.engine.session j.up) →
    ((other : ℕ) → IsIdle other (k ∷ given_up_by id b.engine.session c.engine.session j.up)) →
    ((other : ℕ) → (other == id) ≡ false → IsQuiet other (k ∷ given_up_by id b.engine.session c.engine.session j.up)) → Moves a c
moves_given_up a b c id k g keeps wire same j leaves idle quiet =
    let up = j.up in
    let none : look id a.connections ≡ None = sym (same id) ∙ ap (option_map (λ (l : Connection). l.seen)) j.free in
    let es : List (Event × Reply) = k ∷ given_up_by id b.engine.session c.engine.session up in
    let kept : KeepsWire a.engine c.engine = record { outgoing = j.keeps.outgoing ∙ keeps.outgoing; incoming = j.keeps.incoming ∙ keeps.incoming } in
    moves_idle a c es (b.engine.session, g, (up.between, up.reset, (c.engine.session, up.forgotten, refl))) leaves kept (j.wire ∙ wire) (λ other. ap (look other) j.connections ∙ same other)
    (λ other. given_up_life id other a.connections es (nat_eq id other) refl none (idle other) (quiet other))

-- another stream is reset and forgotten
off : (id other : ℕ) → (other == id) ≡ false → ((id == other) || false) ≡ false
off id other ne = ap (λ (v : Bool). v || false) (other_id id id other (same_id id) ne)

pub moves_not_opened : (a b c : Tunnel) (id : ℕ) → Gives in_turn a.engine.session (event.Call call.Open) (reply.Opened id) b.engine.session → KeepsWire a.engine b.engine → b.wire ≡ a.wire → SameSeen a b → DropsOut id b c → Moves a c
moves_not_opened a b c id g keeps wire same j =
    moves_given_up a b c id (event.Call call.Open, reply.Opened id) g keeps wire same j ((refl, λ w. (tt, (tt, (tt, tt)))), refl, refl, refl) (λ other. (refl, refl, refl, refl))
    (λ other ne. (refl, refl, refl, refl, off id other ne, off id other ne))

pub moves_not_accepted : (a b c : Tunnel) (id : ℕ) → Gives in_turn a.engine.session (event.Call call.Accept) (reply.Accepted (Some id)) b.engine.session → KeepsWire a.engine b.engine → b.wire ≡ a.wire → SameSeen a b → DropsOut id b c → Moves a c
moves_not_accepted a b c id g keeps wire same j =
    moves_given_up a b c id (event.Call call.Accept, reply.Accepted (Some id)) g keeps wire same j ((refl, λ w. (tt, (tt, (tt, tt)))), refl, refl, refl) (λ other. (refl, refl, refl, refl))
    (λ other ne. (refl, refl, refl, refl, off id other ne, off id other ne))

-- an event said something of a device, which moved no byte
trades_noted : (id : ℕ) (ready : Readiness) (d e : Seen) → IsNoted ready d e → Trades id [] d e
trades_noted id ready d e x = record {
  pieces = [];
  kept = refl;
  to_peer = same_consumes d.left e.left x.left;
  from_peer = same_appends d.had e.had x.had;
  whole = λ h. let no : ⊥ = cc in absurd no;
  over = x.over ∙ or_same d.over;
  ended = x.ended ∙ or_same d.ended;
  fails = false;
  failed = x.failed ∙ or_same d.failed;
  reset = refl;
  cause = λ h. let no : ⊥ = cc in absurd no;
  shut = x.shut ∙ or_same d.shut;
}

-- an event said something of a line's device
pub moves_noted : (a b : Tunnel) (id : ℕ) (ready : Readiness) (d e : Seen) → b.engine ≡ a.engine → b.wire ≡ a.wire → IsNoted ready d e → look id a.connections ≡ Some d →
    ((other : ℕ) → look other b.connections ≡ cond (nat_eq id other) (Some e) (look other a.connections)) → Moves a b
moves_noted a b id ready d e engine wire x at now =
    moves_called a b [] (ap (λ (v : Engine). v.session) engine) ((refl, λ w. tt), refl, refl, refl)
    (record { outgoing = ap (λ (v : Engine). v.outgoing) engine; incoming = ap (λ (v : Engine). v.incoming) engine }) wire
    (λ other. served_connection id other a.connections b.connections d e [] (nat_eq id other) refl at (now other) (life_trades id [] d e (trades_noted id ready d e x)) (λ ne. (refl, refl, refl, refl, refl, refl)))

-- the wire moved no byte, and was ended or shut both ways, as these say
moves_closed : (a b : Tunnel) (ends : Bool) → b.engine ≡ a.engine → b.wire.left ≡ a.wire.left → b.wire.had ≡ a.wire.had → b.wire.over ≡ a.wire.over → b.wire.failed ≡ a.wire.failed →
    b.wire.ended ≡ option_map (λ v. v || ends) a.wire.ended → b.wire.shut ≡ a.wire.shut → SameSeen a b → Moves a b
moves_closed a b ends engine left had over failed ended shut same = record {
  events = [];
  happen = ap (λ (v : Engine). v.session) engine;
  plain = refl;
  came = [];
  gave = same_consumes a.wire.left b.wire.left left;
  fronts = tt;
  from_wire = append-nil a.engine.incoming ∙ sym (ap (λ (v : Engine). v.incoming) engine);
  sent = [];
  took = same_appends a.wire.had b.wire.had had;
  to_wire = append-nil a.engine.outgoing ∙ sym (ap (λ (v : Engine). v.outgoing) engine);
  said_end = false;
  over = over ∙ or_same a.wire.over;
  fails = false;
  failed = failed ∙ or_same a.wire.failed;
  ends = ends;
  ended = ended;
  shuts = false;
  shut = shut ∙ or_same a.wire.shut;
  lost = refl;
  connections = still_connections a b [] same (λ id. (refl, refl, refl, refl, refl, refl));
}

-- an event said something of the wire
pub moves_wire_noted : (a b : Tunnel) (ready : Readiness) → b.engine ≡ a.engine → IsNoted ready a.wire b.wire → SameSeen a b → Moves a b
moves_wire_noted a b ready engine x same = moves_closed a b false engine x.left x.had x.over x.failed (x.ended ∙ or_same a.wire.ended) x.shut same

-- nothing more goes over the wire
pub moves_ended : (a b : Tunnel) → b.engine ≡ a.engine → IsEnded a.wire b.wire → SameSeen a b → Moves a b
moves_ended a b engine x same = moves_closed a b true engine x.left x.had x.over x.failed (x.ended ∙ or_true a.wire.ended) x.shut same

-- the wire was shut both ways, and the session heard of its end
pub moves_shut : (a b : Tunnel) → HandlesIn true a.engine b.engine → IsShut a.wire b.wire → SameSeen a b → Moves a b
moves_shut a b x w same = record {
  events = x.events;
  happen = x.happen;
  plain = plain_list is_of_read read_plain x.events x.own;
  came = [];
  gave = same_consumes a.wire.left b.wire.left w.left;
  fronts = subst (λ (v : List ℕ). FeedsFront v x.events) (sym (append-nil a.engine.incoming)) x.fronts;
  from_wire = append-nil a.engine.incoming ∙ x.from_wire;
  sent = [];
  took = same_appends a.wire.had b.wire.had w.had;
  to_wire = ap (λ (v : List ℕ). a.engine.outgoing ++ v) (read_emits x.events x.own) ∙ append-nil a.engine.outgoing ∙ sym x.outgoing;
  said_end = false;
  over = w.over ∙ or_same a.wire.over;
  fails = false;
  failed = w.failed ∙ or_same a.wire.failed;
  ends = false;
  ended = w.ended ∙ or_same a.wire.ended;
  shuts = true;
  shut = w.shut ∙ or_true a.wire.shut;
  lost = x.heard;
  connections = still_connections a b x.events same (λ id. quiet is_of_read (λ c. refl) id x.events x.own);
}

-- a ping was asked, its answer collected, or a go away said
pub moves_pinged : (a b : Tunnel) (c : Call) (told : Reply) → ((id : ℕ) → IsQuiet id ((event.Call c, told) ∷ [])) → opens_with (event.Call c) ≡ false → Gives in_turn a.engine.session (event.Call c) told b.engine.session → KeepsWire a.engine b.engine → b.wire ≡ a.wire → SameSeen a b → Moves a b
moves_pinged a b c told quiet plain g keeps wire same =
    moves_alone a b (event.Call c, told) quiet ((refl, λ w. (tt, tt)), refl, refl, ap (λ (v : Bool). v || false) plain) g keeps wire same
