-- Where nothing is under way to its reader, what was written to a stream and not got waits there.
use Rattle.std.proofs.Common.{◌≡◌, ℕ, List, [], ◌++◌, Bool, true, false, not, ◌||◌, if◌then◌else◌, Option, None, Some, refl, sym, ap, subst, ◌∙◌, inl, inr, arith, append-nil}
use Rattle.std.proofs.lemmas.Bool.Decides.{nat_tests}
use Rattle.ymx_machine.specs.declared.types.Side.TheVariants.{A, B}
use Rattle.ymx_machine.specs.declared.types.Step.{Step}
use Rattle.ymx_machine.specs.declared.types.Answer.{Answer}
use Rattle.ymx_machine.specs.declared.types.CallFault.TheVariants.{Closed}
use Rattle.ymx_machine.specs.shared.Lists.{look}
use Rattle.ymx_machine.specs.shared.Phases.{Phase, is_up}
use Rattle.ymx_machine.specs.shared.Phases.Phase.{Unborn, Live}
use Rattle.ymx_machine.specs.shared.Replies.{read_reply}
use Rattle.ymx_machine.specs.shared.Steps.{answer_of}
use Rattle.ymx_machine.specs.stream.Lanes.{Mark, is_unsaid, is_said, is_here}
use Rattle.ymx_machine.specs.stream.Streams.{Stream}
use Rattle.ymx_machine.specs.machine.Machines.{Machine, mirror_machine, new_machine}
use Rattle.ymx_machine.proofs.Tests.{when}
use Rattle.ymx_model.specs.declared.types.Role.{Role}
use Rattle.ymx_model.specs.declared.types.Role.TheVariants.{Client, Server}
use Rattle.ymx_model.specs.declared.types.Response.{Response}
use Rattle.ymx_model.specs.declared.types.Status.{Status}
use Rattle.ymx_model.specs.session.Calls.{refused, at_record, read_outcome}
use Rattle.ymx_model.specs.session.Histories.CallGives.{Outcome as HasOutcome, NoMemory}
use Rattle.ymx_model.specs.session.Parts.{Part}
use Rattle.ymx_model.specs.session.Records.{End}
use Rattle.ymx_model.specs.session.Sessions.{Session, is_running, is_lost, is_closed}
use Rattle.ymx_model.specs.session.Emissions.{Choice}
use Rattle.ymx_model.specs.world.Worlds.{World, Runs, new_world, mirror_world}
use Rattle.ymx_session.specs.Replies.{end_fault, stream_fault}
use Rattle.ymx_session.specs.Streams.{unread_of, waiting, ended_of, has_ended}
use Rattle.ymx_headline.specs.Laws.{AreGood}
use Rattle.ymx_headline.specs.machine.Arrivals.{read_of}
use Rattle.ymx_headline.specs.Agrees.{AgreesAs, Keeps}
use Rattle.ymx_headline.specs.stream.Worlds.{AreOne, parts_of_stream}
use Rattle.ymx_headline.specs.stream.OneStream.{IsOneStream, IsQuiet}
use Rattle.ymx_headline.specs.stream.Directions.{mark_if}
use Rattle.ymx_headline.specs.stream.Links.{Alive, Related}
use Rattle.ymx_headline.proofs.stream.OneStream.{stands-itself}
use Rattle.ymx_headline.proofs.stream.Calls.{none-done}
use Rattle.ymx_headline.proofs.stream.Still.{due-next}
use Rattle.ymx_headline.proofs.relation.Mirrors.{mirrors-agree}
use Rattle.ymx_headline.proofs.runs.Runs.{run-alike, client-odd, server-even}
use Rattle.ymx_headline.proofs.runs.Steps.{both-runs}
use Rattle.ymx_headline.proofs.machine.order.Cores.{core}
use Rattle.ymx_headline.proofs.machine.faces.Pasts.{Past, HasFaces}
use Rattle.ymx_headline.proofs.machine.faces.MachineFaces.{FaceAt, Faced, faced-mirror}
use Rattle.ymx_headline.proofs.machine.faces.RunFaces.{run_past, blank, faced-new, faced-run, odd-even}
use Rattle.ymx_headline.proofs.machine.lanes.LaneLaws.{lists}
use Rattle.ymx_headline.proofs.machine.lanes.StreamFacts.{live-up}
use Rattle.ymx_joined.specs.Quiet.{NextRead}
use Rattle.ymx_joined.proofs.StillDirections.{IsStillWay, no_parts, end_quiet}

-- ---- a stream, seen from the end that writes

-- What was written and not got is unread, and the end has come exactly if the stream was finished.
pub record Came (past : Past) (unread : List ℕ) (ended : Bool) : Type 0 where
  pub bytes : past.written ≡ past.got ++ unread
  pub end : ended ≡ past.finished

-- a mark that isn't under way has come exactly if it was said
mark_came : (m : Mark) (b : Bool) → is_said m ≡ false → (is_unsaid m ≡ false → b ≡ true) → (b ≡ true → is_unsaid m ≡ false) → is_here m ≡ b
mark_came m b e f g = grind arith

no_reset : (m : Mark) (b : Bool) → b ≡ false → m ≡ mark_if (b || false) → is_unsaid m ≡ true
no_reset m b e f = rw (f, e) refl

-- both ends are up, and nothing of the one that writes is due
alive_came : (wx wy mine yours : ℕ) (x y : End) (yx : List Part) (s : Stream) (po pi : Past) → IsQuiet wx x → y.phase ≡ Live → Alive wx wy x y [] yx s → HasFaces mine yours s po pi →
    Came po y.reader.unread y.reader.ended
alive_came wx wy mine yours x y yx s po pi q l c f =
    let due = none-done wx x (due-next wx x q.nothing) in
    let lane = c.outbound.holds in
    let you : s.you ≡ Live = c.inbound.phase ∙ l in
    let up : is_up s.you ≡ true = live-up s.you you in
    let face = f.outbound.2 in
    let whole = f.whole_outbound up (no_reset s.rst_outbound x.marks.rst due.rst c.outbound.reset) in
    let way : s.outbound.way ≡ [] = lane.way ∙ due.unsent in
    let rest : f.outbound.0 ≡ s.outbound.here = face.holds up ∙ ap (λ (v : List ℕ). s.outbound.here ++ (v ++ f.outbound.1)) way ∙ ap (λ (v : List ℕ). s.outbound.here ++ ([] ++ v)) whole.0 ∙ append-nil s.outbound.here in
    let came = mark_came s.outbound.fin po.finished (c.outbound.finishes.said ∙ due.fin) face.said whole.1 in
    record {
      bytes = face.begins ∙ ap (λ (v : List ℕ). po.got ++ v) (rest ∙ lane.here);
      end = c.outbound.finishes.ended (live-up y.phase l) ∙ came;
    }

-- of a reset that has come one end at least is down
not_down : (p : Phase) → p ≡ Live → is_up p ≡ false → ⊥
not_down p e f = grind arith

related_came : (wx wy mine yours : ℕ) (x y : End) (yx : List Part) (s : Stream) (po pi : Past) → IsQuiet wx x → y.phase ≡ Live → Related wx wy x y [] yx s → HasFaces mine yours s po pi →
    Came po y.reader.unread y.reader.ended
related_came wx wy mine yours x y yx s po pi q l (inl c) f = alive_came wx wy mine yours x y yx s po pi q l c f
related_came wx wy mine yours x y yx s po pi q l (inr (inl c)) f = absurd (not_down y.phase l c.spent_y.down)
related_came wx wy mine yours x y yx s po pi q l (inr (inr c)) f = absurd (not_down y.phase l c.spent_x.down)

one_came : (wx wy mine yours : ℕ) (x y : End) (yx : List Part) (s : Stream) (po pi : Past) → IsQuiet wx x → y.phase ≡ Live → IsOneStream false false wx wy x y [] yx s → HasFaces mine yours s po pi →
    Came po y.reader.unread y.reader.ended
one_came wx wy mine yours x y yx s po pi q l c f =
    let e : x ≡ c.mine = stands-itself x c.mine c.mine_stands in
    let g : y ≡ c.yours = stands-itself y c.yours c.yours_stands in
    subst (λ (z : End). Came po z.reader.unread z.reader.ended) (sym g)
    (related_came wx wy mine yours c.mine c.yours yx s po pi (subst (IsQuiet wx) e q) (subst (λ (z : End). z.phase ≡ Live) g l) c.related f)

-- ---- the record of a stream that a caller has

live_is : (e : End) → end_fault (Some e) ≡ None → e.phase ≡ Live
live_is e h = of e.phase refl
  where
    of : (p : Phase) → e.phase ≡ p → p ≡ Live
    of Live k = refl
    of _ k = let no : Some _ ≡ None = rw k at h in absurd cc

not_unborn : (p : Phase) → p ≡ Live → p ≡ Unborn → ⊥
not_unborn p e f = grind arith

record_came : (wx wy mine yours id : ℕ) (x y : End) (yx : List Part) (answers : List Response) (po pi : Past) (o : Option Stream) (r : Option End) → IsQuiet wx x → AreOne false false wx wy x y [] yx o → Keeps answers id r y → FaceAt mine yours po pi o →
    end_fault r ≡ None → Came po (unread_of r) (ended_of r)
record_came wx wy mine yours id x y yx answers po pi o None q s k f h = let no : ⊥ = cc in absurd no
record_came wx wy mine yours id x y yx answers po pi None (Some e) q s k f h = absurd (not_unborn e.phase (live_is e h) (ap (λ (z : End). z.phase) (k.0 ∙ s.yours)))
record_came wx wy mine yours id x y yx answers po pi (Some t) (Some e) q s k f h =
    let same : y ≡ e = sym k.0 in
    subst (λ (z : End). Came po z.reader.unread z.reader.ended) same (one_came wx wy mine yours x y yx t po pi q (ap (λ (z : End). z.phase) same ∙ live_is e h) s f)

-- ---- the session that reads

fault_parts : (id : ℕ) (s : Session) → stream_fault id s ≡ None → end_fault (look id s.table.entries) ≡ None
fault_parts id s h = elim (when (is_closed s.status)) [
  | inl e ↦ (let no : Some Closed ≡ None = rw e at h in absurd cc)
  | inr e ↦ (let k : end_fault (look id s.table.entries) ≡ None = rw e at h in k)
]

waiting_is : (id : ℕ) (s : Session) → stream_fault id s ≡ None → waiting id s ≡ unread_of (look id s.table.entries)
waiting_is id s h = rw h refl

ended_is : (id : ℕ) (s : Session) → stream_fault id s ≡ None → has_ended id s ≡ ended_of (look id s.table.entries)
ended_is id s h = rw h refl

came_at : (x y : Role) (mine yours id : ℕ) (w : World) (m : Machine) (po pi : Past) → AgreesAs x y w m → IsStillWay w → Faced mine yours id po pi (core m) → stream_fault id w.b ≡ None →
    Came po (waiting id w.b) (has_ended id w.b)
came_at x y mine yours id w m po pi h way f e =
    let g = h.streams in
    let over_a : g.a.over ≡ false = h.a.records.over ∙ ap not way.runs_from in
    let over_b : g.b.over ≡ false = h.b.records.over ∙ ap not way.runs_to in
    let none : parts_of_stream id g.ab ≡ [] = ap (parts_of_stream id) (no_parts x y w m h way) in
    let one : AreOne false false g.a.window g.b.window (g.a.ends id) (g.b.ends id) [] (parts_of_stream id g.ba) (look id m.streams) =
    subst (λ (v : List Part). AreOne false false g.a.window g.b.window (g.a.ends id) (g.b.ends id) v (parts_of_stream id g.ba) (look id m.streams)) none
    (subst (λ (v : Bool). AreOne false v g.a.window g.b.window (g.a.ends id) (g.b.ends id) (parts_of_stream id g.ab) (parts_of_stream id g.ba) (look id m.streams)) over_b
    (subst (λ (v : Bool). AreOne v g.b.over g.a.window g.b.window (g.a.ends id) (g.b.ends id) (parts_of_stream id g.ab) (parts_of_stream id g.ba) (look id m.streams)) over_a (h.refines.streams id))) in
    let come = record_came _ _ mine yours id _ _ _ w.b.answers po pi (look id m.streams) (look id w.b.table.entries) (end_quiet x y w m h way id) one (h.b.records.each id) f.face (fault_parts id w.b e) in
    record { bytes = come.bytes ∙ ap (λ (v : List ℕ). po.got ++ v) (sym (waiting_is id w.b e)); end = ended_is id w.b e ∙ come.end }

-- ---- the next read of it

read_live : (room : ℕ) (unread : List ℕ) (over : Bool) → answer_of (read_reply false room Live unread over) ≡ read_of room unread over
read_live room unread over = grind (arith, nat_tests, lists)

record_read : (id room : ℕ) (s : Session) (closed : Bool) (o : Option End) → (if closed then Some Closed else end_fault o) ≡ None → is_lost s.status ≡ false →
    answer_of (if closed then refused Closed s else at_record (read_outcome id room s) s o).reply ≡ read_of room (unread_of o) (ended_of o)
record_read id room s true o h l = absurd cc
record_read id room s false None h l = absurd cc
record_read id room s false (Some e) h l = rw (l, live_is e h) (read_live room e.reader.unread e.reader.ended)

runs_on : (status : Status) → is_running status ≡ true → is_lost status ≡ false
runs_on status h = grind arith

pub next_read : (id : ℕ) (s : Session) → stream_fault id s ≡ None → is_running s.status ≡ true → NextRead id s
next_read id s h runs room told t (HasOutcome answered state) =
    ap answer_of answered ∙ record_read id room s (is_closed s.status) (look id s.table.entries) h (runs_on s.status runs)
    ∙ rw (waiting_is id s h, ended_is id s h) refl
next_read id s h runs room told t (NoMemory needs answered state) = let no : false ≡ true = needs in absurd cc

-- ---- a run, after which nothing is under way one way

-- of a stream that the side has which reads: what the writer wrote was got, or waits there
pub record Comes (id : ℕ) (steps : List Step) (answers : List Answer) (w : World) : Type 0 where
  pub to_b : IsStillWay w → stream_fault id w.b ≡ None → Came (run_past A B id steps answers blank) (waiting id w.b) (has_ended id w.b)
  pub to_a : IsStillWay (mirror_world w) → stream_fault id w.a ≡ None → Came (run_past B A id steps answers blank) (waiting id w.a) (has_ended id w.a)

pub comes : (may : Choice → Session → Bool) (steps : List Step) (answers : List Answer) (wa fa wb fb : ℕ) (w : World) → AreGood wa fa wb fb → Runs may steps answers (new_world wa fa wb fb) w → (id : ℕ) → Comes id steps answers w
comes may steps answers wa fa wb fb w good r id =
    let k = run-alike may steps answers wa fa wb fb w good r in
    let n : Machine = k.0 in
    let run = (both-runs may steps answers (new_world wa fa wb fb) w (new_machine wa fa wb fb) n k.1).1 in
    let faced = faced-run wa wb id blank blank steps answers (new_machine wa fa wb fb) n good.low_a good.low_b run
    (faced-new wa fa wb fb id (odd-even fa fb (client-odd fa good.client) (server-even fb good.server))) in
    record {
      to_b = λ way e. came_at Client Server wa wb id w n _ _ k.2 way faced e;
      to_a = λ way e. came_at Server Client wb wa id (mirror_world w) (mirror_machine n) _ _ (mirrors-agree Client Server w n k.2) way (faced-mirror wa wb id _ _ n faced) e;
    }
