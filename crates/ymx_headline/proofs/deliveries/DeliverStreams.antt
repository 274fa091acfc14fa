-- The last byte of the header of a frame of a stream is moves of the machine: a frame without SYN and RST.
use Rattle.std.proofs.Common.{◌≡◌, ℕ, ◌<◌, ◌≤◌, List, [], ◌∷◌, ◌++◌, length, drop, Bool, true, false, ◌&&◌, ◌==◌, nat_lt, if◌then◌else◌, Option, None, Some, refl, sym, ap, subst, ◌∙◌, arith}
use Rattle.std.proofs.lemmas.Bool.Decides.{nat_tests}
use Rattle.std.proofs.lemmas.List.{append_assoc}
use Rattle.ymx_header.specs.declared.header.Header.{Header}
use Rattle.ymx_header.specs.Headers.{header_of, has_syn, has_fin, has_rst}
use Rattle.ymx_header.specs.declared.fault.Fault.{Fault}
use Rattle.ymx_model.specs.declared.types.Role.{Role}
use Rattle.ymx_model.specs.declared.types.Response.{Response}
use Rattle.ymx_machine.specs.shared.Limits.{first_credit}
use Rattle.ymx_model.specs.session.Records.{End}
use Rattle.ymx_model.specs.session.Parts.{Part}
use Rattle.ymx_model.specs.session.Tables.{Table, with_record}
use Rattle.ymx_machine.specs.shared.Lists.{look, change}
use Rattle.ymx_model.specs.session.Sessions.{Session, is_own, on_stream}
use Rattle.ymx_model.specs.session.Sessions.Incoming.{Head, Payload}
use Rattle.ymx_model.specs.session.Arrivals.{payload, expects, take_head, meets, meets_some, unless_fault, header_fault, head_comes, is_starved, record_fault}
use Rattle.ymx_model.specs.session.Feeds.{byte_comes, starves}
use Rattle.ymx_model.specs.world.Worlds.{World}
use Rattle.ymx_machine.specs.machine.Machines.{Machine}
use Rattle.ymx_headline.specs.stream.Worlds.{tagged}
use Rattle.ymx_headline.proofs.stream.Happenings.{put, put_end}
use Rattle.ymx_law_session.specs.Limits.{IsWithin}
use Rattle.ymx_law_session.specs.Reaped.{IsReaped}
use Rattle.ymx_machine.proofs.Tests.{agrees}
use Rattle.ymx_machine.proofs.Lists.{look-change_same, look-change_other}
use Rattle.ymx_headline.specs.records.Sides.{opening, rest_parts, frame_says}
use Rattle.ymx_headline.proofs.records.Ends.{all_come}
use Rattle.ymx_headline.specs.Agrees.{AgreesAs, Keeps, RejectsOnce, Text, sending, hearing, parts_in, all_parts, parts_left, pongs, is_rejected}
use Rattle.ymx_headline.proofs.relation.Tables.{keeps-put}
use Rattle.ymx_headline.proofs.relation.Counts.{own-at}
use Rattle.ymx_headline.proofs.deliveries.DeliverMoves.{Arrives, IsOpener, AllBreakNothing, parts-come}
use Rattle.ymx_headline.proofs.deliveries.DeliverTexts.{FirstFrame, first-frame, awaited, text-after, away-rest, pings-rest, pongs-rest, pongs-hear}
use Rattle.ymx_headline.proofs.deliveries.DeliverBytes.{Delivered, delivered-is, Taking, arrival-agrees, byte-is}
use Rattle.ymx_headline.proofs.deliveries.DeliverHeads.{plain-append, tagged-append, plain-opening, plain-rest, came, left, came-left, plain-came, left-is, discarded-left, head-does, absent-parts}
use Rattle.ymx_headline.proofs.deliveries.DeliverFaults.{no-header_fault, no-record_fault}

-- ---- a header becomes whole

pub record TakingHead (x y : Role) (no_memory : Bool) (b : ℕ) (seen rest_parts : List ℕ) (w : World) (m : Machine) (h : AgreesAs x y w m) : Type 0 where
  pub taking : Taking x y no_memory b rest_parts w m h
  pub inc : w.a.incoming ≡ Head seen
  pub eleven : (length seen == 11) ≡ true
  pub first : FirstFrame (sending w.b m.you) (hearing w.a m.me) (seen ++ b ∷ []) rest_parts h.streams.ba
  pub is : byte_comes no_memory b w.a ≡ head_comes no_memory (header_of (seen ++ b ∷ [])) (record w.a { incoming = Head [] })
  pub good : header_fault (header_of (seen ++ b ∷ [])) (record w.a { incoming = Head [] }) ≡ None

pub taking-head : (x y : Role) (no_memory : Bool) (b : ℕ) (seen rest_parts : List ℕ) (w : World) (m : Machine) (h : AgreesAs x y w m) → Taking x y no_memory b rest_parts w m h → w.a.incoming ≡ Head seen → (length seen == 11) ≡ true →
    TakingHead x y no_memory b seen rest_parts w m h
taking-head x y no_memory b seen rest_parts w m h k inc e =
    let f = first-frame (sending w.b m.you) (hearing w.a m.me) b seen rest_parts h.streams.ba inc (agrees (length seen) 11 e) k.text in
    let same = f.header in
    let low = h.a.within.table.narrowest in
    let short = f.one.short in
    let fits : payload (header_of (seen ++ b ∷ [])) ≤ first_credit = subst (λ (z : Header). payload z ≤ first_credit) same short in
    record {
      taking = k;
      inc = inc;
      eleven = e;
      first = f;
      is = byte-is no_memory b w.a (Head seen) k.runs inc ∙ rw e refl;
      good = no-header_fault (header_of (seen ++ b ∷ [])) (record w.a { incoming = Head [] }) (ap (λ (z : Header). z.version) (sym same) ∙ f.one.version) (subst (λ (z : Header). z.kind ≤ 3) same f.one.kind) (omega (arith, fits, low));
    }

-- what the head of a payload leaves to come
pub expects-is : (h : Header) (discarded : Bool) (s : Session) → expects h discarded (record s { incoming = Head [] }) ≡ record s { incoming = awaited h discarded }
expects-is h discarded s = of (payload h == 0)
  where
    of : (z : Bool) → (if z then record s { incoming = Head [] } else record s { incoming = Payload h.id (payload h) (has_fin h) discarded }) ≡ record s { incoming = if z then Head [] else Payload h.id (payload h) (has_fin h) discarded }
    of true = refl
    of false = refl

-- a frame that is no SYN isn't starved
pub not-starved : (no_memory : Bool) (b : ℕ) (seen : List ℕ) (s : Session) → s.incoming ≡ Head seen → is_starved (header_of (seen ++ b ∷ [])) s ≡ false → starves no_memory b s s.incoming ≡ 0
not-starved no_memory b seen s inc e = rw (inc, e, and-none) refl
  where
    and-none : (p : Bool) → (p && false) ≡ false
    and-none true = refl
    and-none false = refl

pub no-syn_starves : (h : Header) (s : Session) → has_syn h ≡ false → is_starved h s ≡ false
no-syn_starves h s e = rw e (none _ _ _)
  where
    none : (p q r : Bool) → (p && false && q && r) ≡ false
    none true q r = refl
    none false q r = refl

-- ---- the head of a frame of a stream

abbrev pub body_of : (frame : List ℕ) → List ℕ
body_of frame = drop 12 frame

pub is-not : (h : Header) (n : ℕ) → h.kind < 2 → 2 ≤ n → (h.kind == n) ≡ false
is-not h n k l = grind (arith, nat_tests)

pub stream-text : (x y : Role) (no_memory : Bool) (b : ℕ) (seen rest_parts : List ℕ) (w : World) (m : Machine) (h : AgreesAs x y w m) (k : TakingHead x y no_memory b seen rest_parts w m h) (discarded : Bool) (parts : List (ℕ × Part)) →
    (header_of (seen ++ b ∷ [])).kind < 2 → parts ≡ parts_left (awaited (header_of (seen ++ b ∷ [])) discarded) (body_of k.first.frame) ++ all_parts k.first.frames →
    Text (sending w.b m.you) (record (hearing w.a m.me) { incoming = awaited (header_of (seen ++ b ∷ [])) discarded }) rest_parts parts
stream-text x y no_memory b seen rest_parts w m h k discarded parts kind frame_says =
    let f = k.first in
    let s = sending w.b m.you in
    let r = hearing w.a m.me in
    let two : ((header_of f.frame).kind == 2) ≡ false = ap (λ (z : Header). z.kind == 2) f.header ∙ is-not (header_of (seen ++ b ∷ [])) 2 kind (omega arith) in
    let three : ((header_of f.frame).kind == 3) ≡ false = ap (λ (z : Header). z.kind == 3) f.header ∙ is-not (header_of (seen ++ b ∷ [])) 3 kind (omega arith) in
    text-after s s r (record r { incoming = awaited (header_of (seen ++ b ∷ [])) discarded }) (seen ++ b ∷ []) rest_parts h.streams.ba parts discarded f refl refl refl frame_says
    (away-rest s f.frame f.frames three f.away) (pings-rest s f.frame f.frames (λ n. rw two refl) f.pings)
    (pongs-hear s r (record r { incoming = awaited (header_of (seen ++ b ∷ [])) discarded }) f.frames refl (pongs-rest s r f.frame f.frames (λ n. rw two refl) f.pongs))

-- what side A and the machine are then
pub stream-arrives : (x y : Role) (no_memory : Bool) (b : ℕ) (seen rest_parts : List ℕ) (w : World) (m : Machine) (h : AgreesAs x y w m) (k : TakingHead x y no_memory b seen rest_parts w m h) (discarded : Bool) (table : Table) (offered ids : List ℕ) (answers : List Response) (parts : List (ℕ × Part)) (ends : ℕ → End) (counted : ℕ) →
    (header_of (seen ++ b ∷ [])).kind < 2 →
    head_comes no_memory (header_of (seen ++ b ∷ [])) (record w.a { incoming = Head [] }) ≡ record w.a { table = table; offered = offered; answers = answers; incoming = awaited (header_of (seen ++ b ∷ [])) discarded } →
    ids ≡ offered → table.window ≡ w.a.table.window → ((n : ℕ) → Keeps answers n (look n table.entries) (ends n)) → RejectsOnce answers → ((n : ℕ) → pongs n answers ≡ pongs n w.a.answers) →
    parts ≡ parts_left (awaited (header_of (seen ++ b ∷ [])) discarded) (body_of k.first.frame) ++ all_parts k.first.frames →
    Arrives (record h.streams { a = record h.streams.a { ends = ends }; ba = parts }) m counted ids → Delivered x y (byte_comes no_memory b w.a) rest_parts w m counted
stream-arrives x y no_memory b seen rest_parts w m h k discarded table offered ids answers parts ends counted kind done same window keeps once pongs_same frame_says come =
    let t : Session = record w.a { table = table; offered = offered; answers = answers; incoming = awaited (header_of (seen ++ b ∷ [])) discarded } in
    let is : byte_comes no_memory b w.a ≡ t = k.is ∙ done in
    delivered-is x y (byte_comes no_memory b w.a) t rest_parts w m counted counted is refl
    (arrival-agrees x y w m h table offered ids answers (awaited (header_of (seen ++ b ∷ [])) discarded) rest_parts parts ends counted same window keeps once pongs_same (subst IsWithin is k.taking.within) (subst IsReaped is k.taking.reaped) k.taking.not_stopped
    (stream-text x y no_memory b seen rest_parts w m h k discarded parts kind frame_says) come)

-- the parts of the frame stand first
pub frame-says : (x y : Role) (no_memory : Bool) (b : ℕ) (seen rest_parts : List ℕ) (w : World) (m : Machine) (h : AgreesAs x y w m) (k : TakingHead x y no_memory b seen rest_parts w m h) → (header_of (seen ++ b ∷ [])).kind < 2 →
    h.streams.ba ≡ tagged (header_of (seen ++ b ∷ [])).id (frame_says (header_of (seen ++ b ∷ [])) (body_of k.first.frame)) ++ all_parts k.first.frames
frame-says x y no_memory b seen rest_parts w m h k kind =
    let hd = header_of (seen ++ b ∷ []) in
    let body = body_of k.first.frame in
    let low : nat_lt hd.kind 2 ≡ true = grind (arith, nat_tests) in
    let one : parts_in k.first.frame ≡ tagged hd.id (frame_says hd body) = ap (λ (z : Header). if nat_lt z.kind 2 then tagged z.id (frame_says z body) else []) k.first.header ∙ rw low refl in
    k.first.says ∙ ap (λ ps. ps ++ all_parts k.first.frames) one

-- without a SYN it goes to its record
pub stream-head : (no_memory : Bool) (h : Header) (s : Session) → header_fault h s ≡ None → h.kind < 2 → has_syn h ≡ false → head_comes no_memory h s ≡ meets_some h (look h.id s.table.entries) s
stream-head no_memory h s good kind syn = rw (good, is-not h 2 kind (omega arith), is-not h 3 kind (omega arith), syn) refl

-- ---- without a record

pub no-record : (x y : Role) (no_memory : Bool) (b : ℕ) (seen rest_parts : List ℕ) (w : World) (m : Machine) (h : AgreesAs x y w m) (k : TakingHead x y no_memory b seen rest_parts w m h) →
    (header_of (seen ++ b ∷ [])).kind < 2 → has_syn (header_of (seen ++ b ∷ [])) ≡ false → has_rst (header_of (seen ++ b ∷ [])) ≡ false → look (header_of (seen ++ b ∷ [])).id w.a.table.entries ≡ None → Delivered x y (byte_comes no_memory b w.a) rest_parts w m 0
no-record x y no_memory b seen rest_ w m h k kind syn rst none =
    let hd = header_of (seen ++ b ∷ []) in
    let body = body_of k.first.frame in
    let more = all_parts k.first.frames in
    let g = h.streams in
    let is : frame_says hd body ≡ opening hd ++ rest_parts hd body = rw rst refl in
    let plain = plain-append (opening hd) (rest_parts hd body) (plain-opening hd syn) (plain-rest hd body) in
    let ba : g.ba ≡ tagged hd.id (opening hd ++ rest_parts hd body) ++ more = subst (λ ps. g.ba ≡ tagged hd.id ps ++ more) is (frame-says x y no_memory b seen rest_ w m h k kind) in
    let come = (parts-come false hd.id (opening hd ++ rest_parts hd body) more g m k.taking.hears_it plain k.taking.over k.taking.going ba h.refines).come in
    let end = all_come false g.a.window (opening hd ++ rest_parts hd body) (g.a.ends hd.id) in
    let was : Keeps w.a.answers hd.id None (g.a.ends hd.id) = subst (λ o. Keeps w.a.answers hd.id o (g.a.ends hd.id)) none (h.a.records.each hd.id) in
    let now = absent-parts (is_rejected hd.id w.a.answers) g.a.window (opening hd ++ rest_parts hd body) (g.a.ends hd.id) plain was.0 was.1 in
    let kept : Keeps w.a.answers hd.id (look hd.id w.a.table.entries) end = subst (λ o. Keeps w.a.answers hd.id o end) (sym none) (now.0, now.1) in
    stream-arrives x y no_memory b seen rest_ w m h k true w.a.table w.a.offered m.me.offered w.a.answers more (put hd.id end g.a.ends) 0 kind
    (stream-head no_memory hd (record w.a { incoming = Head [] }) k.good kind syn ∙ (ap (λ o. meets_some hd o (record w.a { incoming = Head [] })) none ∙ expects-is hd true w.a))
    h.a.whole.offered refl (keeps-put w.a.answers hd.id w.a.table.entries w.a.table.entries end g.a.ends (λ i n. h.a.records.each i) (λ i n. refl) kept) h.a.records.once (λ n. refl)
    (ap (λ ps. ps ++ more) (sym (discarded-left hd body))) come

-- ---- at a record

pub parts-split : (id : ℕ) (a b c d : List Part) (more : List (ℕ × Part)) → c ++ d ≡ b → tagged id (a ++ b) ++ more ≡ tagged id (a ++ c) ++ (tagged id d ++ more)
parts-split id a b c d more e =
    ap (λ fs. tagged id (a ++ fs) ++ more) (sym e)
    ∙ (ap (λ fs. tagged id fs ++ more) (sym (append_assoc a c d)) ∙ (ap (λ ps. ps ++ more) (tagged-append id (a ++ c) d) ∙ append_assoc (tagged id (a ++ c)) (tagged id d) more))

pub keeps-some : (answers : List Response) (id : ℕ) (f : End → End) (entries : List (ℕ × End)) (e : End) (ends : ℕ → End) → look id entries ≡ Some e → ((i : ℕ) → Keeps answers i (look i entries) (ends i)) →
    (i : ℕ) → Keeps answers i (look i (change id f entries)) (put id (f (ends id)) ends i)
keeps-some answers id f entries e ends l h =
    let was : Keeps answers id (Some e) (ends id) = subst (λ o. Keeps answers id o (ends id)) l (h id) in
    let now : look id (change id f entries) ≡ Some (f e) = look-change_same id f entries ∙ rw l refl in
    keeps-put answers id entries (change id f entries) (f (ends id)) ends (λ i n. h i) (λ i n. look-change_other id i f entries n) (subst (λ o. Keeps answers id o (f (ends id))) (sym now) (ap f was.0, was.1))

pub unless-none : (o : Option Fault) (s t : Session) → o ≡ None → unless_fault o s t ≡ t
unless-none o s t e = rw e refl

pub at-record : (x y : Role) (no_memory : Bool) (b : ℕ) (seen rest_parts : List ℕ) (w : World) (m : Machine) (h : AgreesAs x y w m) (k : TakingHead x y no_memory b seen rest_parts w m h) (e : End) →
    (header_of (seen ++ b ∷ [])).kind < 2 → has_syn (header_of (seen ++ b ∷ [])) ≡ false → has_rst (header_of (seen ++ b ∷ [])) ≡ false → look (header_of (seen ++ b ∷ [])).id w.a.table.entries ≡ Some e → Delivered x y (byte_comes no_memory b w.a) rest_parts w m 0
at-record x y no_memory b seen rest_ w m h k e kind syn rst there =
    let hd = header_of (seen ++ b ∷ []) in
    let body = body_of k.first.frame in
    let frames = all_parts k.first.frames in
    let g = h.streams in
    let own = is_own w.a.role hd.id in
    let opener : IsOpener own hd.id m = λ s l. own-at x y w m h hd.id s l ∙ ap (λ r. is_own r hd.id) (sym h.a.whole.role) in
    let is : frame_says hd body ≡ opening hd ++ rest_parts hd body = rw rst refl in
    let plain = plain-append (opening hd) (rest_parts hd body) (plain-opening hd syn) (plain-rest hd body) in
    let all : g.ba ≡ tagged hd.id (opening hd ++ rest_parts hd body) ++ frames = subst (λ ps. g.ba ≡ tagged hd.id ps ++ frames) is (frame-says x y no_memory b seen rest_ w m h k kind) in
    let breaks = subst (λ ps. AllBreakNothing g.b.window g.a.window own ps (g.a.ends hd.id)) (sym is)
    ((parts-come own hd.id (opening hd ++ rest_parts hd body) frames g m k.taking.hears_it plain k.taking.over k.taking.going all h.refines).break opener) in
    let was : Keeps w.a.answers hd.id (Some e) (g.a.ends hd.id) = subst (λ o. Keeps w.a.answers hd.id o (g.a.ends hd.id)) there (h.a.records.each hd.id) in
    let wide : g.b.window ≤ 4294967295 = (let p = h.b.records.window in let q = h.b.within.table.widest in omega (arith, p, q)) in
    let small : (g.a.ends hd.id).writer.credit ≤ 4294967295 = subst (λ (z : End). z.writer.credit ≤ 4294967295) was.0 (h.a.within.table.records hd.id e there).credit in
    let fault = no-record_fault g.b.window g.a.window own hd body (g.a.ends hd.id) syn rst wide small k.first.long breaks in
    let parts : List (ℕ × Part) = tagged hd.id (left hd body) ++ frames in
    let ba = all ∙ parts-split hd.id (opening hd) (rest_parts hd body) (came hd body) (left hd body) frames (came-left hd body) in
    let come = (parts-come own hd.id (opening hd ++ came hd body) parts g m k.taking.hears_it (plain-append (opening hd) (came hd body) (plain-opening hd syn) (plain-came hd body)) k.taking.over k.taking.going ba h.refines).come in
    let f : End → End = take_head own hd in
    let does : all_come false g.a.window (opening hd ++ came hd body) (g.a.ends hd.id) ≡ f (g.a.ends hd.id) = head-does own g.a.window hd body (g.a.ends hd.id) syn fault.ack k.first.long in
    let s : Session = record w.a { incoming = Head [] } in
    let none : record_fault hd e ≡ None = ap (record_fault hd) was.0 ∙ fault.none in
    let meet : meets hd e s ≡ expects hd false (on_stream hd.id f s) = rw rst refl in
    stream-arrives x y no_memory b seen rest_ w m h k false (with_record hd.id f w.a.table) w.a.offered m.me.offered w.a.answers parts (put hd.id (f (g.a.ends hd.id)) g.a.ends) 0 kind
    (stream-head no_memory hd s k.good kind syn ∙ (ap (λ o. meets_some hd o s) there ∙ (unless-none (record_fault hd e) s (meets hd e s) none ∙ (meet ∙ expects-is hd false (record w.a { table = with_record hd.id f w.a.table })))))
    h.a.whole.offered refl (keeps-some w.a.answers hd.id f w.a.table.entries e g.a.ends there h.a.records.each) h.a.records.once (λ n. refl)
    (ap (λ ps. ps ++ frames) (sym (left-is hd body)))
    (subst (λ z. Arrives (record g { a = put_end hd.id z g.a; ba = parts }) m 0 m.me.offered) does come)
