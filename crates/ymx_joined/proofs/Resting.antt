-- Two tunnels at rest: they are quiet, and all that their streams took was given.
use Rattle.std.proofs.Common.{◌≡◌, ◌⊎◌, inl, inr, ℕ, List, [], ◌++◌, Bool, true, false, None, refl, sym, ap, ◌∙◌, subst, append-nil}
use Rattle.ymx_machine.specs.shared.Events.{Reply}
use Rattle.ymx_model.specs.session.Events.{Event}
use Rattle.ymx_model.specs.session.Sessions.{Session, is_running}
use Rattle.ymx_session.specs.Replies.{stream_fault}
use Rattle.ymx_session.specs.Streams.{waiting, has_ended}
use Rattle.ymx_engine.specs.Engines.{Engine, IsFlushed}
use Rattle.ymx_engine.specs.Events.{taken, given}
use Rattle.ymx_engine.specs.Served.{Serving, NoneWaits, NoneEnds, NoneStops}
use Rattle.ymx_engine.specs.Serves.{is_silent, is_stopped}
use Rattle.ymx_engine.specs.Tunnels.{Tunnel}
use Rattle.ymx_engine.specs.Directions.{is_open, may_push}
use Rattle.ymx_engine.proofs.Resting.{rest_flushed, rest_fed, rest_none, rest_takes, rest_hears, rest_ends, rest_stops}
use Rattle.ymx_joined.specs.Tunnels.{Turn, events_at_a, events_at_b}
use Rattle.ymx_joined.specs.Quiet.{IsQuietWay, HasCome, is_finished, IsAtRest, IsDelivered, IsLetGo, LeavesNone, AllIsDelivered}
use Rattle.ymx_joined.proofs.Ending.{gone_says, over_says}
use Rattle.ymx_joined.proofs.Quiet.{all_has_come}
use Rattle.ymx_joined.proofs.Serving.{serving_as, serving_a, serving_b}

not_both : (b : Bool) → b ≡ true → b ≡ false → ⊥
not_both true e f = cc
not_both false e f = cc

pub delivered : (id : ℕ) (from to : List (Event × Reply)) (t : Tunnel) (s : Session) → t.engine.session ≡ s → NoneWaits t → NoneEnds t → (stream_fault id s ≡ None → HasCome id from to s) → IsDelivered id from to t
delivered id from to t s same waits ends come l has there = by (waits id l there) (ends id l there)
  where
    come_here : HasCome id from to t.engine.session
    come_here = subst (HasCome id from to) (sym same) (come (subst (λ (v : Session). stream_fault id v ≡ None) same has))

    goes_on : (over : Bool) → has_ended id t.engine.session ≡ over → waiting id t.engine.session ≡ [] → is_silent id t.engine.session ≡ false → is_finished id from ≡ false
    goes_on true e none more = absurd (not_both (is_silent id t.engine.session) (over_says id t.engine.session has none e) more)
    goes_on false e none more = sym come_here.end ∙ e

    by : (waiting id t.engine.session ≡ []) ⊎ (may_push l.directions l.seen.marks ≡ false) → (is_silent id t.engine.session ≡ false) ⊎ (may_push l.directions l.seen.marks ≡ false) →
        ((taken id from ≡ given id to) × (is_finished id from ≡ false)) ⊎ (may_push l.directions l.seen.marks ≡ false)
    by (inl none) (inl more) = inl (come_here.bytes ∙ ap (λ (v : List ℕ). given id to ++ v) none ∙ append-nil (given id to), goes_on (has_ended id t.engine.session) refl none more)
    by (inl none) (inr full) = inr full
    by (inr full) h = inr full

let_go : (t : Tunnel) → NoneEnds t → NoneStops t → (id : ℕ) → IsLetGo id t
let_go t ends stops id l gone there = (by (ends id l there), of (stops id l there))
  where
    says : (is_silent id t.engine.session ≡ true) × (is_stopped id t.engine.session ≡ true)
    says = gone_says id t.engine.session gone

    by : (is_silent id t.engine.session ≡ false) ⊎ (may_push l.directions l.seen.marks ≡ false) → may_push l.directions l.seen.marks ≡ false
    by (inl more) = absurd (not_both (is_silent id t.engine.session) says.0 more)
    by (inr full) = full

    of : (is_stopped id t.engine.session ≡ false) ⊎ (is_open l.directions.to_peer ≡ false) → is_open l.directions.to_peer ≡ false
    of (inl takes) = absurd (not_both (is_stopped id t.engine.session) says.1 takes)
    of (inr off) = off

-- a tunnel at rest, where nobody is forgotten
leaves_none : (t : Tunnel) → Serving t → IsAtRest t → LeavesNone t
leaves_none t s x =
    let ends = rest_ends t s x.idle in
    let stops = rest_stops t s x.idle in
    record { gives = rest_takes t s x.idle x.takes; hears = rest_hears t s x.idle; ends = ends; stops = stops; let_go = let_go t ends stops }

-- a way between tunnels at rest whose sessions run
quiet_way : (from to : Engine) (pipe : List ℕ) (a b : Tunnel) → a.engine ≡ from → b.engine ≡ to → IsAtRest a → IsAtRest b → pipe ≡ [] → is_running a.engine.session.status ≡ true → is_running b.engine.session.status ≡ true → IsQuietWay from to pipe
quiet_way from to pipe a b same_a same_b x y empty runs_a runs_b = record {
  flushed = subst IsFlushed same_a (rest_flushed a x.idle x.takes);
  empty = empty;
  fed = subst (λ (e : Engine). e.incoming ≡ []) same_b (rest_fed b y.idle y.takes runs_b);
  from_runs = subst (λ (e : Engine). is_running e.session.status ≡ true) same_a runs_a;
  to_runs = subst (λ (e : Engine). is_running e.session.status ≡ true) same_b runs_b;
}

pub all_is_delivered : (ts : List Turn) → AllIsDelivered ts
all_is_delivered ts = λ wa fa wb fb q a b h of x y ab ba.
    let serves_a = serving_as a q.a q.connections_a of.engine_a of.connections_a (serving_a ts wa fa wb fb q h) in
    let serves_b = serving_as b q.b q.connections_b of.engine_b of.connections_b (serving_b ts wa fa wb fb q h) in
    record {
      quiet = λ runs_a runs_b. (quiet_way q.a q.b q.ab a b of.engine_a of.engine_b x y ab runs_a runs_b, quiet_way q.b q.a q.ba b a of.engine_b of.engine_a y x ba runs_b runs_a);
      to_b = λ runs_a runs_b id.
          delivered id (events_at_a ts) (events_at_b ts) b q.b.session (ap (λ (e : Engine). e.session) of.engine_b) (rest_none b serves_b y.idle) (rest_ends b serves_b y.idle)
          ((all_has_come ts wa fa wb fb q h id).to_b (quiet_way q.a q.b q.ab a b of.engine_a of.engine_b x y ab runs_a runs_b));
      to_a = λ runs_a runs_b id.
          delivered id (events_at_b ts) (events_at_a ts) a q.a.session (ap (λ (e : Engine). e.session) of.engine_a) (rest_none a serves_a x.idle) (rest_ends a serves_a x.idle)
          ((all_has_come ts wa fa wb fb q h id).to_a (quiet_way q.b q.a q.ba b a of.engine_b of.engine_a y x ba runs_b runs_a));
      rests_a = leaves_none a serves_a x;
      rests_b = leaves_none b serves_b y;
    }
