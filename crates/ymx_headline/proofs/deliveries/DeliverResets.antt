-- A reset that comes is moves of the machine.
use Rattle.std.proofs.Common.{◌≡◌, ◌≢◌, ℕ, ◌<◌, List, [], ◌∷◌, ◌++◌, Bool, true, false, not, ◌&&◌, Option, None, Some, refl, sym, ap, subst, ◌∙◌, inl, inr, arith}
use Rattle.std.proofs.lemmas.Bool.Decides.{nat_tests}
use Rattle.ymx_header.specs.declared.header.Header.{Header}
use Rattle.ymx_header.specs.Headers.{header_of, has_syn, has_ack, has_rst}
use Rattle.ymx_model.specs.declared.types.Role.{Role}
use Rattle.ymx_model.specs.declared.types.Response.{Response}
use Rattle.ymx_machine.specs.shared.Phases.{Phase, is_offered, is_lingering, is_refused, struck}
use Rattle.ymx_machine.specs.shared.Phases.Phase.{Refused, Gone}
use Rattle.ymx_model.specs.session.Records.{End, Writer, Marks, dead_writer, only_due, receive_rst}
use Rattle.ymx_model.specs.session.FramesDue.{is_due, next_kind}
use Rattle.ymx_model.specs.session.Parts.Part.{Rst}
use Rattle.ymx_model.specs.session.Tables.{Table, with_record, remove_record}
use Rattle.ymx_machine.specs.shared.Lists.{look, change, without, drop_id}
use Rattle.ymx_model.specs.session.Sessions.{Session, is_own, belongs_to, is_spent, on_stream, reap}
use Rattle.ymx_model.specs.session.Sessions.Incoming.{Head}
use Rattle.ymx_model.specs.session.Arrivals.{expects, acknowledges, meets, meets_some, head_comes, reset_comes, record_fault}
use Rattle.ymx_model.specs.session.Feeds.{byte_comes, starves}
use Rattle.ymx_model.specs.world.Worlds.{World}
use Rattle.ymx_machine.specs.machine.Machines.{Machine}
use Rattle.ymx_headline.specs.stream.Answers.{end_released}
use Rattle.ymx_headline.specs.stream.Worlds.{StreamWorld as Streams, tagged}
use Rattle.ymx_headline.proofs.stream.Happenings.{put, put_end}
use Rattle.ymx_law_session.specs.Limits.{is_offered_at, is_listed}
use Rattle.ymx_machine.proofs.Tests.{both_of, when}
use Rattle.ymx_machine.proofs.Lists.{look-change_same, look-change_other, look-without_same, look-without_other, distinct-change}
use Rattle.ymx_headline.specs.records.Sides.{frame_says}
use Rattle.ymx_headline.specs.Agrees.{AgreesAs, Keeps, OnlyRejects, IsPlain, all_parts, is_absent, is_rejected}
use Rattle.ymx_headline.proofs.relation.Tables.{keeps-put}
use Rattle.ymx_headline.proofs.records.Calls.{lingers, none_due}
use Rattle.ymx_headline.proofs.emissions.Emits.{is_not}
use Rattle.ymx_headline.proofs.deliveries.DeliverMoves.{Arrives, part_came, drop-none, reset-comes, release-comes}
use Rattle.ymx_headline.proofs.deliveries.DeliverTexts.{awaited}
use Rattle.ymx_headline.proofs.deliveries.DeliverBytes.{Delivered}
use Rattle.ymx_headline.proofs.deliveries.DeliverHeads.{discarded-left}
use Rattle.ymx_headline.proofs.deliveries.DeliverStreams.{TakingHead, body_of, stream-arrives, frame-says, stream-head, expects-is, unless-none, keeps-some, not-starved, no-syn_starves}

-- ---- an end without a record

absent-struck : (p : Phase) → is_absent p ≡ true → is_absent (struck p) ≡ true
absent-struck p e = grind arith

absent-unoffered : (p : Phase) → is_absent p ≡ true → is_offered p ≡ false
absent-unoffered p e = grind arith

refused-due : (due : Bool) (p : Phase) → (due ≡ true → p ≡ Refused) → (is_refused p && due) ≡ due
refused-due true p r = rw (r refl) refl
refused-due false p r = of (is_refused p)
  where
    of : (b : Bool) → (b && false) ≡ false
    of true = refl
    of false = refl

struck-refused : (p : Phase) → p ≡ Refused → struck p ≡ Refused
struck-refused p e = rw e refl

-- only its rejection may still be due
absent-reset : (due : Bool) (e : End) → is_absent e.phase ≡ true → OnlyRejects due e → (is_absent (receive_rst e).phase ≡ true) × OnlyRejects due (receive_rst e)
absent-reset due e a o = (
  absent-struck e.phase a,
  record {
    syn = refl;
    ack = refl;
    rst = ap (λ z. is_refused e.phase && z) o.rst ∙ refused-due due e.phase o.refused;
    unsent = refl;
    finished = refl;
    refused = λ t. struck-refused e.phase (o.refused t);
  },
)

not-listed : (answers : List Response) (id : ℕ) (o : Option End) (e : End) → Keeps answers id o e → is_offered e.phase ≡ false → is_offered_at o ≡ false
not-listed answers id None e h n = refl
not-listed answers id (Some d) e h n = ap (λ (z : End). is_offered z.phase) h.0 ∙ n

-- ---- the frame

record ResetFrame (x y : Role) (no_memory : Bool) (b : ℕ) (seen rest : List ℕ) (w : World) (m : Machine) (h : AgreesAs x y w m) (k : TakingHead x y no_memory b seen rest w m h) : Type 0 where
  syn : has_syn (header_of (seen ++ b ∷ [])) ≡ false
  ack : has_ack (header_of (seen ++ b ∷ [])) ≡ false
  none_listed : is_offered (h.streams.a.ends (header_of (seen ++ b ∷ [])).id).phase ≡ false → is_listed (header_of (seen ++ b ∷ [])).id m.me.offered ≡ false
  come : Arrives (part_came (header_of (seen ++ b ∷ [])).id Rst (all_parts k.first.frames) h.streams) m 0 (drop_id (header_of (seen ++ b ∷ [])).id m.me.offered)

reset-frame : (x y : Role) (no_memory : Bool) (b : ℕ) (seen rest : List ℕ) (w : World) (m : Machine) (h : AgreesAs x y w m) (k : TakingHead x y no_memory b seen rest w m h) →
    (header_of (seen ++ b ∷ [])).kind < 2 → has_rst (header_of (seen ++ b ∷ [])) ≡ true → ResetFrame x y no_memory b seen rest w m h k
reset-frame x y no_memory b seen rest w m h k kind rst =
    let hd = header_of (seen ++ b ∷ []) in
    let plain : IsPlain hd = subst IsPlain k.first.header k.first.plain in
    let p = plain.reset rst in
    let is : frame_says hd (body_of k.first.frame) ≡ Rst ∷ [] = rw (rst, p.1) refl in
    let ba : h.streams.ba ≡ tagged hd.id (Rst ∷ []) ++ all_parts k.first.frames = subst (λ ps. h.streams.ba ≡ tagged hd.id ps ++ all_parts k.first.frames) is (frame-says x y no_memory b seen rest w m h k kind) in
    let listed : is_offered (h.streams.a.ends hd.id).phase ≡ false → is_listed hd.id m.me.offered ≡ false =
    (λ n. ap (is_listed hd.id) h.a.whole.offered ∙ (h.a.within.offered.listed hd.id ∙ not-listed w.a.answers hd.id (look hd.id w.a.table.entries) (h.streams.a.ends hd.id) (h.a.records.each hd.id) n)) in
    record { syn = p.0; ack = p.1; none_listed = listed; come = reset-comes hd.id (all_parts k.first.frames) h.streams m k.taking.hears_it k.taking.over k.taking.going ba h.refines listed }

reset-unknown : (x y : Role) (no_memory : Bool) (b : ℕ) (seen rest : List ℕ) (w : World) (m : Machine) (h : AgreesAs x y w m) (k : TakingHead x y no_memory b seen rest w m h) →
    (header_of (seen ++ b ∷ [])).kind < 2 → ResetFrame x y no_memory b seen rest w m h k → look (header_of (seen ++ b ∷ [])).id w.a.table.entries ≡ None → Delivered x y (byte_comes no_memory b w.a) rest w m 0
reset-unknown x y no_memory b seen rest w m h k kind r none =
    let hd = header_of (seen ++ b ∷ []) in
    let g = h.streams in
    let end = receive_rst (g.a.ends hd.id) in
    let was : Keeps w.a.answers hd.id None (g.a.ends hd.id) = subst (λ o. Keeps w.a.answers hd.id o (g.a.ends hd.id)) none (h.a.records.each hd.id) in
    let now = absent-reset (is_rejected hd.id w.a.answers) (g.a.ends hd.id) was.0 was.1 in
    let kept : Keeps w.a.answers hd.id (look hd.id w.a.table.entries) end = subst (λ o. Keeps w.a.answers hd.id o end) (sym none) (now.0, now.1) in
    stream-arrives x y no_memory b seen rest w m h k true w.a.table w.a.offered (drop_id hd.id m.me.offered) w.a.answers (all_parts k.first.frames) (put hd.id end g.a.ends) 0 kind
    (stream-head no_memory hd (record w.a { incoming = Head [] }) k.good kind r.syn ∙ (ap (λ o. meets_some hd o (record w.a { incoming = Head [] })) none ∙ expects-is hd true w.a))
    (drop-none hd.id m.me.offered (r.none_listed (absent-unoffered (g.a.ends hd.id).phase was.0)) ∙ h.a.whole.offered) refl
    (keeps-put w.a.answers hd.id w.a.table.entries w.a.table.entries end g.a.ends (λ i n. h.a.records.each i) (λ i n. refl) kept) h.a.records.once (λ n. refl)
    (ap (λ ps. ps ++ all_parts k.first.frames) (sym (discarded-left hd (body_of k.first.frame)))) r.come

-- ---- at a record

change-none : (id : ℕ) (f : End → End) (ps : List (ℕ × End)) → ((e : End) → f e ≡ e) → change id f ps ≡ ps
change-none id f [] s = refl
change-none id f (p ∷ ps) s = let h = change-none id f ps s in let k = s p.1 in grind (arith, nat_tests)

no-ack : (own : Bool) (h : Header) (e : End) → has_ack h ≡ false → acknowledges own h e ≡ e
no-ack own h e a = rw a refl

-- the head is a reset of the record
reset-head : (no_memory : Bool) (h : Header) (e : End) (s : Session) → has_rst h ≡ true → has_ack h ≡ false → head_comes no_memory h s ≡ meets_some h (Some e) s → head_comes no_memory h s ≡ expects h true (reset_comes h.id e s)
reset-head no_memory h e s rst ack is =
    let none : record_fault h e ≡ None = rw rst refl in
    let same : on_stream h.id (acknowledges (is_own s.role h.id) h) s ≡ s =
    ap (λ ps. record s { table = record s.table { entries = ps } }) (change-none h.id (acknowledges (is_own s.role h.id) h) s.table.entries (λ x. no-ack (is_own s.role h.id) h x ack)) in
    let meet : meets h e s ≡ expects h true (reset_comes h.id e (on_stream h.id (acknowledges (is_own s.role h.id) h) s)) = rw rst refl in
    is ∙ (unless-none (record_fault h e) s (meets h e s) none ∙ (meet ∙ ap (λ z. expects h true (reset_comes h.id e z)) same))

-- ---- what it does to the record

-- an offered one goes at once
keeps-gone : (answers : List Response) (id : ℕ) (entries left : List (ℕ × End)) (f : End) (ends : ℕ → End) → is_rejected id answers ≡ false → f.phase ≡ Gone → f.marks ≡ only_due false false f.marks → f.writer ≡ dead_writer → look id left ≡ None →
    ((i : ℕ) → i ≢ id → look i left ≡ look i entries) → ((i : ℕ) → Keeps answers i (look i entries) (ends i)) → (i : ℕ) → Keeps answers i (look i left) (put id f ends i)
keeps-gone answers id entries left f ends rejected gone marks out none others h =
    let absent : is_absent f.phase ≡ true = ap is_absent gone in
    let rejects : OnlyRejects (is_rejected id answers) f = record {
      syn = ap (λ (z : Marks). z.syn) marks;
      ack = ap (λ (z : Marks). z.ack) marks;
      rst = ap (λ (z : Marks). z.rst) marks ∙ sym rejected;
      unsent = ap (λ (z : Writer). z.unsent) out;
      finished = ap (λ (z : Writer). z.finished) out;
      refused = λ t. (let no : true ≡ false = sym t ∙ rejected in absurd cc);
    } in
    keeps-put answers id entries left f ends (λ i n. h i) others (subst (λ o. Keeps answers id o f) (sym none) (absent, rejects))

struck-offered : (p : Phase) → is_offered p ≡ true → struck p ≡ Gone
struck-offered p e = grind arith

offered-marks : (p : Phase) (rst : Bool) → is_offered p ≡ true → (is_refused p && rst) ≡ false
offered-marks p rst e = let k : is_refused p ≡ false = grind arith in rw k refl

reset-offered : (x y : Role) (no_memory : Bool) (b : ℕ) (seen rest : List ℕ) (w : World) (m : Machine) (h : AgreesAs x y w m) (k : TakingHead x y no_memory b seen rest w m h) (e : End) →
    (header_of (seen ++ b ∷ [])).kind < 2 → ResetFrame x y no_memory b seen rest w m h k → look (header_of (seen ++ b ∷ [])).id w.a.table.entries ≡ Some e → is_offered e.phase ≡ true →
    head_comes no_memory (header_of (seen ++ b ∷ [])) (record w.a { incoming = Head [] }) ≡ expects (header_of (seen ++ b ∷ [])) true (reset_comes (header_of (seen ++ b ∷ [])).id e (record w.a { incoming = Head [] })) →
    Delivered x y (byte_comes no_memory b w.a) rest w m 0
reset-offered x y no_memory b seen rest w m h k e kind r there offered is =
    let hd = header_of (seen ++ b ∷ []) in
    let id = hd.id in
    let g = h.streams in
    let end = receive_rst (g.a.ends id) in
    let was : Keeps w.a.answers id (Some e) (g.a.ends id) = subst (λ o. Keeps w.a.answers id o (g.a.ends id)) there (h.a.records.each id) in
    let is_off : is_offered (g.a.ends id).phase ≡ true = ap (λ (z : End). is_offered z.phase) (sym was.0) ∙ offered in
    let goes : reset_comes id e (record w.a { incoming = Head [] }) ≡ record w.a { incoming = Head []; table = remove_record id w.a.table; offered = drop_id id w.a.offered } = rw offered refl in
    stream-arrives x y no_memory b seen rest w m h k true (remove_record id w.a.table) (drop_id id w.a.offered) (drop_id id m.me.offered) w.a.answers (all_parts k.first.frames) (put id end g.a.ends) 0 kind
    (is ∙ (ap (expects hd true) goes ∙ expects-is hd true (record w.a { table = remove_record id w.a.table; offered = drop_id id w.a.offered })))
    (ap (drop_id id) h.a.whole.offered) refl
    (keeps-gone w.a.answers id w.a.table.entries (without id w.a.table.entries) end g.a.ends was.1 (struck-offered (g.a.ends id).phase is_off)
    (ap (λ z. only_due false z (g.a.ends id).marks) (offered-marks (g.a.ends id).phase (g.a.ends id).marks.rst is_off)) refl
    (look-without_same id w.a.table.entries h.a.within.table.distinct) (λ i n. look-without_other id i w.a.table.entries n) h.a.records.each)
    h.a.records.once (λ n. refl) (ap (λ ps. ps ++ all_parts k.first.frames) (sym (discarded-left hd (body_of k.first.frame)))) r.come

-- ---- one that isn't offered stays, or was given up and goes

reset-reaps : (x y : Role) (no_memory : Bool) (b : ℕ) (seen rest : List ℕ) (w : World) (m : Machine) (h : AgreesAs x y w m) (k : TakingHead x y no_memory b seen rest w m h) (e : End) →
    (header_of (seen ++ b ∷ [])).kind < 2 → ResetFrame x y no_memory b seen rest w m h k → look (header_of (seen ++ b ∷ [])).id w.a.table.entries ≡ Some e → is_offered e.phase ≡ false →
    head_comes no_memory (header_of (seen ++ b ∷ [])) (record w.a { incoming = Head [] }) ≡ expects (header_of (seen ++ b ∷ [])) true (reset_comes (header_of (seen ++ b ∷ [])).id e (record w.a { incoming = Head [] })) →
    Delivered x y (byte_comes no_memory b w.a) rest w m 0
reset-reaps x y no_memory b seen rest w m h k e kind r there offered is = elim (when (is_spent win w.a.outgoing id (look id changed))) [
  | inl t ↦ (
      let p = (let q : is_spent win w.a.outgoing id (Some end) ≡ true = subst (λ o. is_spent win w.a.outgoing id o ≡ true) now t in both_of (is_lingering end.phase && not (is_due win end)) (not (belongs_to w.a.outgoing.of id)) q) in
      let q = both_of (is_lingering end.phase) (not (is_due win end)) p.0 in
      let quiet : next_kind g.a.window end ≡ None = ap (λ n. next_kind n end) h.a.records.window ∙ none_due win end (is_not (is_due win end) q.1) in
      let goes : reset_comes id e s ≡ record w.a { incoming = Head []; table = remove_record id (with_record id receive_rst w.a.table) } = resets ∙ rw t refl in
      done (remove_record id (with_record id receive_rst w.a.table)) (end_released end) refl
      (ap (expects hd true) goes ∙ expects-is hd true (record w.a { table = remove_record id (with_record id receive_rst w.a.table) }))
      (keeps-gone w.a.answers id w.a.table.entries (without id changed) (end_released end) g.a.ends was.1 refl refl refl
      (look-without_same id changed (distinct-change id receive_rst w.a.table.entries h.a.within.table.distinct))
      (λ i n. look-without_other id i changed n ∙ look-change_other id i receive_rst w.a.table.entries n) h.a.records.each)
      (release-comes id end (all_parts k.first.frames) (drop_id id m.me.offered) g m (lingers end.phase q.0) quiet r.come))
  | inr t ↦ (
      let goes : reset_comes id e s ≡ record w.a { incoming = Head []; table = with_record id receive_rst w.a.table } = resets ∙ rw t refl in
      done (with_record id receive_rst w.a.table) end refl (ap (expects hd true) goes ∙ expects-is hd true (record w.a { table = with_record id receive_rst w.a.table }))
      (keeps-some w.a.answers id receive_rst w.a.table.entries e g.a.ends there h.a.records.each) r.come)
]
  where
    hd : Header
    hd = header_of (seen ++ b ∷ [])

    id : ℕ
    id = hd.id

    g : Streams
    g = h.streams

    s : Session
    s = record w.a { incoming = Head [] }

    win : ℕ
    win = w.a.table.window

    changed : List (ℕ × End)
    changed = change id receive_rst w.a.table.entries

    end : End
    end = receive_rst (g.a.ends id)

    was : Keeps w.a.answers id (Some e) (g.a.ends id)
    was = subst (λ o. Keeps w.a.answers id o (g.a.ends id)) there (h.a.records.each id)

    now : look id changed ≡ Some end
    now = look-change_same id receive_rst w.a.table.entries ∙ (rw there refl ∙ ap (λ z. Some (receive_rst z)) was.0)

    resets : reset_comes id e s ≡ reap id (on_stream id receive_rst s)
    resets = rw offered refl

    done : (table : Table) (f : End) → table.window ≡ w.a.table.window → expects hd true (reset_comes id e s) ≡ record w.a { table = table; incoming = awaited hd true } → ((i : ℕ) → Keeps w.a.answers i (look i table.entries) (put id f g.a.ends i)) →
        Arrives (record g { a = put_end id f g.a; ba = all_parts k.first.frames }) m 0 (drop_id id m.me.offered) → Delivered x y (byte_comes no_memory b w.a) rest w m 0
    done table f window to keeps come =
        stream-arrives x y no_memory b seen rest w m h k true table w.a.offered (drop_id id m.me.offered) w.a.answers (all_parts k.first.frames) (put id f g.a.ends) 0 kind (is ∙ to)
        (drop-none id m.me.offered (r.none_listed (ap (λ (z : End). is_offered z.phase) (sym was.0) ∙ offered)) ∙ h.a.whole.offered) window keeps h.a.records.once (λ n. refl)
        (ap (λ ps. ps ++ all_parts k.first.frames) (sym (discarded-left hd (body_of k.first.frame)))) come

-- ---- a reset

pub reset-arrives : (x y : Role) (no_memory : Bool) (b : ℕ) (seen rest : List ℕ) (w : World) (m : Machine) (h : AgreesAs x y w m) → TakingHead x y no_memory b seen rest w m h →
    (header_of (seen ++ b ∷ [])).kind < 2 → has_rst (header_of (seen ++ b ∷ [])) ≡ true → Delivered x y (byte_comes no_memory b w.a) rest w m (starves no_memory b w.a w.a.incoming)
reset-arrives x y no_memory b seen rest w m h k kind rst =
    subst (λ n. Delivered x y (byte_comes no_memory b w.a) rest w m n) (sym (not-starved no_memory b seen w.a k.inc (no-syn_starves (header_of (seen ++ b ∷ [])) w.a r.syn)))
    (of (look (header_of (seen ++ b ∷ [])).id w.a.table.entries) refl)
  where
    r : ResetFrame x y no_memory b seen rest w m h k
    r = reset-frame x y no_memory b seen rest w m h k kind rst

    of : (o : Option End) → look (header_of (seen ++ b ∷ [])).id w.a.table.entries ≡ o → Delivered x y (byte_comes no_memory b w.a) rest w m 0
    of None l = reset-unknown x y no_memory b seen rest w m h k kind r l
    of (Some e) l =
        let hd = header_of (seen ++ b ∷ []) in
        let s : Session = record w.a { incoming = Head [] } in
        let is = reset-head no_memory hd e s rst r.ack (stream-head no_memory hd s k.good kind r.syn ∙ ap (λ o. meets_some hd o s) l) in
        elim (when (is_offered e.phase)) [
          | inl t ↦ reset-offered x y no_memory b seen rest w m h k e kind r l t is
          | inr f ↦ reset-reaps x y no_memory b seen rest w m h k e kind r l f is
        ]
