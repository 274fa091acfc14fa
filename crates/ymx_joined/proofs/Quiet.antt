-- Two tunnels that are quiet: all that their streams took has come.
use Rattle.std.proofs.Common.{◌≡◌, ℕ, List, [], ◌++◌, Bool, true, false, ◌&&◌, not, refl, sym, ap, ◌∙◌, inl, inr}
use Rattle.ymx_machine.specs.declared.types.Side.TheVariants.{A, B}
use Rattle.ymx_machine.specs.shared.Events.{Reply}
use Rattle.ymx_model.specs.declared.types.Role.TheVariants.{Client, Server}
use Rattle.ymx_model.specs.session.Events.{Event}
use Rattle.ymx_model.specs.session.Sessions.{Session, new_session, is_running}
use Rattle.ymx_model.specs.session.Emissions.{in_turn}
use Rattle.ymx_model.specs.world.Worlds.{World, Pipe, new_pipe, is_quiet_pipe, is_quiet}
use Rattle.ymx_session.specs.Streams.{waiting, has_ended}
use Rattle.ymx_headline.specs.audit.Told.{told}
use Rattle.ymx_headline.proofs.audit.Events.{world}
use Rattle.ymx_headline.proofs.audit.Over.{IsOver}
use Rattle.ymx_headline.proofs.machine.faces.Pasts.{Past}
use Rattle.ymx_engine.specs.Devices.{Seen}
use Rattle.ymx_engine.specs.Engines.{Engine}
use Rattle.ymx_engine.specs.Events.{taken, given, lacks_memory}
use Rattle.ymx_engine.specs.Lives.{all_of, loses}
use Rattle.ymx_joined.specs.Tunnels.{TunnelPair, Turn, events_at_a, events_at_b, entries}
use Rattle.ymx_joined.specs.Carried.{HadOne}
use Rattle.ymx_joined.specs.Quiet.{IsQuietWay, AreQuiet, is_finished, HasCome, was_given, was_left, AllHasCome, IsAllPassedOn}
use Rattle.ymx_joined.proofs.Arriving.{Came, comes}
use Rattle.ymx_joined.proofs.Holding.{all_done, given_of, left_of, all_given, all_left}
use Rattle.ymx_joined.proofs.Keeping.{both_have}
use Rattle.ymx_joined.proofs.Piping.{open_pipe, Holds, Joint, nothing_held, joint_new}
use Rattle.ymx_joined.proofs.Tracing.{gathers_a, gathers_b, writes_of, all_written, reads_of, all_read, finishes_of}
use Rattle.ymx_joined.proofs.Tunneling.{plain_a, plain_b, nothing_lost, no_cause, taken_during, given_during, plenty_during}
use Rattle.ymx_joined.proofs.StillDirections.{IsStillWay}

-- ---- the world of two tunnels, where a direction is quiet

not_over : (s : Session) → is_running s.status ≡ true → IsOver s → ⊥
not_over s e f = let no : true ≡ false = sym e ∙ f in absurd cc

quiet_pipe : (p : Pipe) (from to : Engine) (pipe : List ℕ) → IsQuietWay from to pipe → (p.ended ≡ true → IsOver to.session) → Holds p (to.incoming ++ (pipe ++ from.outgoing)) → p ≡ open_pipe []
quiet_pipe p from to pipe q over (inl ended) = absurd (not_over to.session q.to_runs (over ended))
quiet_pipe p from to pipe q over (inr same) = same ∙ ap open_pipe (nothing_held to.incoming pipe from.outgoing q.fed q.empty q.flushed.0)

-- the pipe from the one to the other in a world of these sessions
still_way : (p other : Pipe) (from to : Engine) (pipe : List ℕ) → IsQuietWay from to pipe → p ≡ open_pipe [] → IsStillWay (world from.session to.session p other)
still_way p other from to pipe q e = record {
  runs_from = q.from_runs;
  runs_to = q.to_runs;
  ready = q.flushed.1;
  bytes = ap (λ (z : Pipe). z.bytes) e;
  on = ap (λ (z : Pipe). z.stopped) e;
}

all_quiet : (a b c d e f : Bool) → a ≡ false → b ≡ false → c ≡ true → d ≡ true → e ≡ true → f ≡ true → (not a && not b && c && d && e && f) ≡ true
all_quiet a b c d e f p q r s t u = rw (p, q, r, s, t, u) refl

quiet_world : (q : TunnelPair) (ab ba : Pipe) → AreQuiet q → ab ≡ open_pipe [] → ba ≡ open_pipe [] → is_quiet (world q.a.session q.b.session ab ba) ≡ true
quiet_world q ab ba h e f = all_quiet _ _ _ _ _ _ h.0.flushed.1 h.1.flushed.1 h.0.from_runs h.0.to_runs (ap is_quiet_pipe e) (ap is_quiet_pipe f)

-- what was kept, of a run
kept : (given left given_then left_then : Bool) → (given ≡ true → given_then ≡ true) → left_then ≡ left → (given && not left) ≡ true → (given_then && not left_then) ≡ true
kept true false g l f e h = rw (f refl, e) refl
kept true true g l f e h = let no : ⊥ = cc in absurd no
kept false left g l f e h = let no : ⊥ = cc in absurd no

-- ---- what has come

-- what has come of a run, said of the events of both sides
has_come : (id : ℕ) (past : Past) (from to : List (Event × Reply)) (reader : Session) → past.written ≡ taken id from → past.got ≡ given id to → past.finished ≡ is_finished id from →
    Came past (waiting id reader) (has_ended id reader) → HasCome id from to reader
has_come id past from to reader w g f c = record {
  bytes = sym w ∙ c.bytes ∙ ap (λ (v : List ℕ). v ++ waiting id reader) g;
  end = c.end ∙ f;
}

pub all_has_come : (ts : List Turn) → AllHasCome ts
all_has_come ts = λ wa fa wb fb q h id.
    let s = new_session Client wa fa in
    let t = new_session Server wb fb in
    let a = q.a in
    let b = q.b in
    let es = events_at_a ts in
    let fs = events_at_b ts in
    let j : Joint s t new_pipe new_pipe (entries es) (entries fs) q = joint_new ts wa fa wb fb q h in
    let plain_es = plain_a ts h.new q h.work in
    let plain_fs = plain_b ts h.new q h.work in
    let answers = told j.turns (entries es) (entries fs) in
    let last : World = world a.session b.session j.last_ab j.last_ba in
    let pipe_ab : IsQuietWay a b q.ab → j.last_ab ≡ open_pipe [] = λ way. quiet_pipe j.last_ab a b q.ab way j.over_b j.holds_ab in
    let pipe_ba : IsQuietWay b a q.ba → j.last_ba ≡ open_pipe [] = λ way. quiet_pipe j.last_ba b a q.ba way j.over_a j.holds_ba in
    let come = comes in_turn j.steps answers wa fa wb fb last h.good j.runs id in
    record {
      to_b = λ way has. has_come id _ es fs b.session
          (gathers_a (writes_of A B refl id) j.turns new_pipe new_pipe false false 0 0 es fs j.steps j.joint refl refl plain_es ∙ all_written A B refl id es)
          (gathers_b (reads_of B A refl id) j.turns new_pipe new_pipe false false 0 0 es fs j.steps j.joint refl refl plain_fs ∙ all_read B A refl id fs)
          (gathers_a (finishes_of A B refl id) j.turns new_pipe new_pipe false false 0 0 es fs j.steps j.joint refl refl plain_es ∙ all_done A B refl id es)
          (come.to_b (still_way j.last_ab j.last_ba a b q.ab way (pipe_ab way)) has);
      to_a = λ way has. has_come id _ fs es a.session
          (gathers_b (writes_of B A refl id) j.turns new_pipe new_pipe false false 0 0 es fs j.steps j.joint refl refl plain_fs ∙ all_written B A refl id fs)
          (gathers_a (reads_of A B refl id) j.turns new_pipe new_pipe false false 0 0 es fs j.steps j.joint refl refl plain_es ∙ all_read A B refl id es)
          (gathers_b (finishes_of B A refl id) j.turns new_pipe new_pipe false false 0 0 es fs j.steps j.joint refl refl plain_fs ∙ all_done B A refl id fs)
          (come.to_a (still_way j.last_ba j.last_ab b a q.ba way (pipe_ba way)) has);
      both = λ quiet kept_a kept_b. both_have in_turn j.steps answers wa fa wb fb last h.good j.runs (quiet_world q j.last_ab j.last_ba quiet (pipe_ab quiet.0) (pipe_ba quiet.1)) id
          (kept (was_given id es) (was_left id es) _ _ (λ k. gathers_a (given_of A B refl id) j.turns new_pipe new_pipe false false 0 0 es fs j.steps j.joint refl refl plain_es ∙ all_given A B refl id es k)
          (gathers_a (left_of A B refl id) j.turns new_pipe new_pipe false false 0 0 es fs j.steps j.joint refl refl plain_es ∙ all_left A B refl id es) kept_a)
          (kept (was_given id fs) (was_left id fs) _ _ (λ k. gathers_b (given_of B A refl id) j.turns new_pipe new_pipe false false 0 0 es fs j.steps j.joint refl refl plain_fs ∙ all_given B A refl id fs k)
          (gathers_b (left_of B A refl id) j.turns new_pipe new_pipe false false 0 0 es fs j.steps j.joint refl refl plain_fs ∙ all_left B A refl id fs) kept_b);
    }

-- ---- what two devices of a stream have passed on

pub devices_have_all : (id : ℕ) (from to : List (Event × Reply)) (d d2 e e2 : Seen) (reader : Session) → HadOne id from d d2 → HadOne id to e e2 → HasCome id from to reader → lacks_memory id from ≡ false →
    IsAllPassedOn d d2 e e2 (waiting id reader)
devices_have_all id from to d d2 e e2 reader x y c plenty =
    let t = x.trades in
    let taken_here : taken id from ≡ taken id x.during = ap (taken id) x.all ∙ taken_during id x.before x.during x.after x.still x.left in
    let given_there : given id to ≡ given id y.during = ap (given id) y.all ∙ given_during id y.before y.during y.after y.still y.left in
    let memory : lacks_memory id x.during ≡ false = plenty_during id x.before x.during x.after (sym (ap (lacks_memory id) x.all) ∙ plenty) in
    let whole : loses t.pieces ≡ false = no_cause (loses t.pieces) (lacks_memory id x.during) memory t.cause in
    record {
      came = all_of t.pieces;
      went = given id y.during;
      gave = t.to_peer;
      took = y.trades.from_peer;
      all = nothing_lost t.pieces whole ∙ sym t.kept ∙ sym taken_here ∙ c.bytes ∙ ap (λ (v : List ℕ). v ++ waiting id reader) given_there;
    }
