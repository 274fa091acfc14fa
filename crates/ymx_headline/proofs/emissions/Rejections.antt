-- A rejection that begins is the reset of a refused end.
use Rattle.std.proofs.Common.{◌≡◌, ◌≢◌, ℕ, List, [], ◌∷◌, true, false, not, ◌==◌, Option, None, Some, refl, sym, ap, subst, ◌∙◌, inl, inr, arith}
use Rattle.std.proofs.lemmas.Bool.Decides.{nat_tests}
use Rattle.ymx_model.specs.declared.types.Role.{Role}
use Rattle.ymx_model.specs.declared.types.Response.{Response}
use Rattle.ymx_model.specs.declared.types.Response.TheVariants.{Reject}
use Rattle.ymx_machine.specs.stream.Streams.{Stream}
use Rattle.ymx_model.specs.session.Records.{End, new_end}
use Rattle.ymx_machine.specs.shared.Phases.Phase.{Unborn}
use Rattle.ymx_model.specs.session.FramesDue.{next_kind, begin_frame}
use Rattle.ymx_model.specs.declared.types.FrameKind.TheVariants.{Reset}
use Rattle.ymx_model.specs.session.Parts.{Part}
use Rattle.ymx_model.specs.session.Parts.Part.{Rst}
use Rattle.ymx_machine.specs.shared.Lists.{look}
use Rattle.ymx_model.specs.session.Sessions.{is_running}
use Rattle.ymx_model.specs.session.Emissions.{begins, answer_frame}
use Rattle.ymx_model.specs.world.Worlds.{World}
use Rattle.ymx_machine.specs.machine.Machines.{Machine}
use Rattle.ymx_headline.specs.stream.Worlds.{StreamWorld as Streams, Refines}
use Rattle.ymx_headline.proofs.stream.Happenings.{Can, acts, put}
use Rattle.ymx_headline.proofs.stream.Happenings.Act.{Sends}
use Rattle.ymx_headline.proofs.stream.Worlds.{step, put-same, put-other}
use Rattle.ymx_law_session.specs.Limits.{IsWithin}
use Rattle.ymx_law_session.specs.Reaped.{IsReaped}
use Rattle.ymx_machine.proofs.Tests.{same_or_not}
use Rattle.ymx_headline.specs.Agrees.{AgreesAs, Keeps, OnlyRejects, RejectsOnce, Sender, Receiver, Text, sending, hearing, found, is_absent, is_rejected, pongs}
use Rattle.ymx_headline.proofs.relation.Mirrors.{refines-same}
use Rattle.ymx_headline.proofs.relation.Counts.{Stands, stands}
use Rattle.ymx_headline.proofs.relation.Sides.{in-streams}
use Rattle.ymx_headline.proofs.relation.Texts.{answered-text, text-changes}
use Rattle.ymx_headline.proofs.emissions.Begun.{begun-text, spelled-is, fits, runs-open}

absent-idle : (window : ℕ) (e : End) → is_absent e.phase ≡ true → OnlyRejects true e → next_kind window e ≡ Some Reset
absent-idle window e a o = rw (o.syn, o.ack, o.rst) refl

-- after another number's rejection a number keeps what it kept
other-rejected : (answers : List Response) (j i : ℕ) → i ≢ j → is_rejected i (Reject j ∷ answers) ≡ is_rejected i answers
other-rejected answers j i n = let k : (j == i) ≡ false = grind (arith, nat_tests) in rw k refl

keeps-other : (answers : List Response) (j i : ℕ) (o : Option End) (e : End) → i ≢ j → Keeps (Reject j ∷ answers) i o e → Keeps answers i o e
keeps-other answers j i (Some d) e n h = (h.0, sym (other-rejected answers j i n) ∙ h.1)
keeps-other answers j i None e n h = (h.0, subst (λ b. OnlyRejects b e) (other-rejected answers j i n) h.1)

rejected-now : (answers : List Response) (j : ℕ) → is_rejected j (Reject j ∷ answers) ≡ true
rejected-now answers j = grind (arith, nat_tests)

pub record IsRefused (answers : List Response) (j : ℕ) (o : Option End) (e : End) : Type 0 where
  pub none : o ≡ None
  pub absent : is_absent e.phase ≡ true
  pub only : OnlyRejects true e

pub is-refused : (answers : List Response) (j : ℕ) (o : Option End) (e : End) → Keeps (Reject j ∷ answers) j o e → IsRefused answers j o e
is-refused answers j (Some d) e h = let no : true ≡ false = sym (rejected-now answers j) ∙ h.1 in absurd cc
is-refused answers j None e h = record { none = refl; absent = h.0; only = subst (λ b. OnlyRejects b e) (rejected-now answers j) h.1 }

-- the rejection has gone out: nothing is due of the end any more
pub rejection-goes : (window : ℕ) (answers : List Response) (j : ℕ) (entries : List (ℕ × End)) (ends : ℕ → End) → RejectsOnce (Reject j ∷ answers) → ((i : ℕ) → Keeps (Reject j ∷ answers) i (look i entries) (ends i)) →
    (i : ℕ) → Keeps answers i (look i entries) (put j (begin_frame window 0 Reset (ends j)) ends i)
rejection-goes window answers j entries ends once h i = elim (same_or_not i j) [
  | inl q ↦ (
      let r = is-refused answers j (look j entries) (ends j) (h j) in
      let e : End = begin_frame window 0 Reset (ends j) in
      let k : Keeps answers j None e = (r.absent, record { syn = r.only.syn; ack = r.only.ack; rst = sym once.0; unsent = r.only.unsent; finished = r.only.finished; refused = λ t. (let no : true ≡ false = sym t ∙ once.0 in absurd cc) }) in
      rw q (subst (Keeps answers j (look j entries)) (sym (put-same j e ends)) (subst (λ o. Keeps answers j o e) (sym r.none) k)))
  | inr n ↦ rw (put-other i j (begin_frame window 0 Reset (ends j)) ends n) (keeps-other answers j i (look i entries) (ends i) n (h i))
]

-- the law of streams: a reset goes out, and the machine stays
pub rejects : (g : Streams) (m : Machine) (j : ℕ) (answers : List Response) (o : Option End) → Refines g (found m) → g.a.over ≡ false → Keeps (Reject j ∷ answers) j o (g.a.ends j) →
    Refines (acts (Sends j Reset 0) g) (found m)
rejects g m j answers o r runs h =
    let k = is-refused answers j o (g.a.ends j) h in
    let can : Can (Sends j Reset 0) g = (runs, absent-idle g.a.window (g.a.ends j) k.absent k.only) in
    let n = step (Sends j Reset 0) g (found m) can r in
    refines-same (acts (Sends j Reset 0) g) n.0 (found m) (λ i. sym (n.1 i)) n.2

-- a number whose rejection is due was opened
has-stream : (g : Streams) (mine yours : ℕ) (answers : List Response) (j : ℕ) (o : Option Stream) → OnlyRejects true (g.a.ends j) → Stands mine yours answers j g o None → (s : Stream) × (o ≡ Some s)
has-stream g mine yours answers j (Some s) k h = (s, refl)
has-stream g mine yours answers j None k h = let no : true ≡ false = sym k.rst ∙ ap (λ (z : End). z.marks.rst) h.one.mine in absurd cc

-- the answers lose a rejection, which no clause of the text counts
text-answers : (s : Sender) (r : Receiver) (bytes : List ℕ) (parts : List (ℕ × Part)) (j : ℕ) (more : List Response) → s.answers ≡ Reject j ∷ more → Text s r bytes parts → Text (record s { answers = more }) r bytes parts
text-answers s r bytes parts j more e t = answered-text s r bytes parts more (λ n. sym (ap (pongs n) e)) t

pub reject-begins : (x y : Role) (w : World) (m : Machine) (h : AgreesAs x y w m) (j : ℕ) (more : List Response) → w.a.answers ≡ Reject j ∷ more → is_running w.a.status ≡ true → w.a.outgoing.bytes ≡ [] →
    IsWithin (begins (answer_frame (Reject j)) (record w.a { answers = more })) → IsReaped (begins (answer_frame (Reject j)) (record w.a { answers = more })) →
    AgreesAs x y (record w { a = begins (answer_frame (Reject j)) (record w.a { answers = more }) }) m
reject-begins x y w m h j more e runs none within reaped =
    let g = h.streams in
    let begun = begins (answer_frame (Reject j)) w.a in
    let each : (i : ℕ) → Keeps (Reject j ∷ more) i (look i w.a.table.entries) (g.a.ends i) = subst (λ a. (i : ℕ) → Keeps a i (look i w.a.table.entries) (g.a.ends i)) e h.a.records.each in
    let once : RejectsOnce (Reject j ∷ more) = subst RejectsOnce e h.a.records.once in
    let over : g.a.over ≡ false = h.a.records.over ∙ ap not runs in
    let k = is-refused more j (look j w.a.table.entries) (g.a.ends j) (each j) in
    let s = has-stream g g.a.window g.b.window w.a.answers j (look j m.streams) k.only (subst (Stands g.a.window g.b.window w.a.answers j g (look j m.streams)) k.none (stands x y w m h j)) in
    let is = spelled-is Reset 0 0 j (new_end 0 Unborn false false) (omega arith) (omega arith) (fits x y w m h j s.0 s.1) (omega arith) in
    record {
      roles = h.roles;
      streams = acts (Sends j Reset 0) g;
      refines = rejects g m j more (look j w.a.table.entries) h.refines over (each j);
      a = in-streams h.a w.a.table w.a.next m.me.next w.a.offered m.me.offered more begun.outgoing (acts (Sends j Reset 0) g).a h.a.whole.next h.a.whole.offered refl
          (record { window = h.a.records.window; over = h.a.records.over; once = once.1; each = rejection-goes g.a.window more j w.a.table.entries g.a.ends once each }) within reaped;
      b = h.b;
      ab = text-changes (sending w.a m.me) _ (hearing w.b m.you) w.ab g.ab _ _ _
          (λ t. begun-text (record (sending w.a m.me) { answers = more }) (hearing w.b m.you) w.ab.bytes g.ab j (Rst ∷ []) (answer_frame (Reject j)) (runs-open w.a.status runs) none is
          (text-answers (sending w.a m.me) (hearing w.b m.you) w.ab.bytes g.ab j more e t)) h.ab;
      ba = h.ba;
      order = h.order;
    }
