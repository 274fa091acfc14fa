-- A SYN that comes is moves of the machine: its stream is offered, or refused.
use Rattle.std.proofs.Common.{◌≡◌, ◌≢◌, ℕ, ◌+◌, ◌<◌, ◌≤◌, List, [], ◌∷◌, ◌++◌, length, Bool, true, false, not, ◌&&◌, ◌||◌, ◌==◌, nat_lt, if◌then◌else◌, Option, None, Some, refl, sym, ap, subst, ◌∙◌, inl, inr, arith}
use Rattle.std.proofs.lemmas.Bool.Decides.{nat_tests}
use Rattle.ymx_header.specs.declared.header.Header.{Header}
use Rattle.ymx_header.specs.Headers.{header_of, has_syn, has_fin, has_rst}
use Rattle.ymx_model.specs.declared.types.Role.{Role}
use Rattle.ymx_model.specs.declared.types.Response.{Response}
use Rattle.ymx_model.specs.declared.types.Response.TheVariants.{Pong, Reject}
use Rattle.ymx_machine.specs.stream.Lanes.{is_unsaid}
use Rattle.ymx_machine.specs.shared.Limits.{first_credit}
use Rattle.ymx_machine.specs.stream.Streams.{Stream}
use Rattle.ymx_machine.specs.shared.Phases.{is_recorded}
use Rattle.ymx_machine.specs.shared.Phases.Phase.{Unborn, Offered, Refused}
use Rattle.ymx_model.specs.session.Records.{End, new_end, receive_credit}
use Rattle.ymx_model.specs.session.Parts.{Part}
use Rattle.ymx_model.specs.session.Parts.Part.{Syn, Data, Fin}
use Rattle.ymx_model.specs.session.GoAway.{was_said}
use Rattle.ymx_model.specs.session.Tables.{Table, with_record, insert_record}
use Rattle.ymx_machine.specs.shared.Lists.{look, change}
use Rattle.ymx_model.specs.session.Sessions.{Session, is_own, is_deaf}
use Rattle.ymx_model.specs.session.Sessions.Incoming.{Head}
use Rattle.ymx_model.specs.session.Arrivals.{answers_with, is_data, payload, delta, expects, take_head, meets, head_comes, offer, session_refuses, is_starved}
use Rattle.ymx_model.specs.session.Feeds.{byte_comes, starves}
use Rattle.ymx_model.specs.world.Worlds.{World}
use Rattle.ymx_machine.specs.machine.Machines.{Machine, hears}
use Rattle.ymx_machine.specs.machine.FreeMoves.{FreeMoves, counted_by, machine_refuses as refuses_syn}
use Rattle.ymx_machine.specs.machine.FreeMoves.FreeMove.{SynArrives}
use Rattle.ymx_headline.specs.stream.Arrivals.{refused_end}
use Rattle.ymx_headline.specs.stream.Worlds.{StreamWorld as Streams, tagged}
use Rattle.ymx_headline.proofs.stream.Happenings.{put, put_end}
use Rattle.ymx_headline.proofs.stream.Worlds.{put-same, put-other}
use Rattle.ymx_law_session.specs.Offers.{IsGoodSyn}
use Rattle.ymx_machine.proofs.Tests.{same_or_not, agrees, none_of, when}
use Rattle.ymx_machine.proofs.Lists.{look-change_same, look-change_other, look-added_same, look-added_other}
use Rattle.ymx_law_session.proofs.offers.SynCauses.{good-syn}
use Rattle.ymx_headline.specs.records.Sides.{rest_parts, rest_parts as rest_of, frame_says}
use Rattle.ymx_headline.proofs.records.Ends.{all_come}
use Rattle.ymx_headline.proofs.records.Comes.{syn-opens}
use Rattle.ymx_headline.specs.Agrees.{AgreesAs, Keeps, OnlyRejects, RejectsOnce, IsPlain, all_parts, is_rejected, pongs}
use Rattle.ymx_headline.proofs.relation.Tables.{keeps-put}
use Rattle.ymx_headline.proofs.relation.Counts.{own-at, no-record, same-recorded}
use Rattle.ymx_headline.proofs.deliveries.DeliverMoves.{Arrives, law-step, Plain, syn-refused, syn-offered, parts-come, moves-join, refines-ends}
use Rattle.ymx_headline.proofs.deliveries.DeliverBytes.{Delivered}
use Rattle.ymx_headline.proofs.deliveries.DeliverHeads.{plain-rest, plain-came, came, left, came-left, left-is, discarded-left, syn-does}
use Rattle.ymx_headline.proofs.deliveries.DeliverFaults.{no-syn_fault}
use Rattle.ymx_headline.proofs.deliveries.DeliverStreams.{TakingHead, body_of, stream-arrives, frame-says, expects-is, parts-split}

-- ---- the machine refuses as the session does

not-not : (b : Bool) → not (not b) ≡ b
not-not true = refl
not-not false = refl

same-refuses : (x y : Role) (w : World) (m : Machine) (h : AgreesAs x y w m) → refuses_syn m ≡ session_refuses w.a
same-refuses x y w m h =
    let said : not (is_unsaid m.me.away) ≡ was_said w.a.away.here = ap not h.a.away.said ∙ not-not (was_said w.a.away.here) in
    rw (said, h.a.whole.offered, same-recorded x y w m h) refl

-- ---- parts that come after others

-- after what has come to an end these parts come
arrives-then : (id : ℕ) (e : End) (fs : List Part) (more : List (ℕ × Part)) (offered : List ℕ) (counted : ℕ) (g : Streams) (m : Machine) → Plain fs → hears m ≡ true → g.a.over ≡ false → g.ba_stopped ≡ false →
    Arrives (record g { a = put_end id e g.a; ba = tagged id fs ++ more }) m counted offered → Arrives (record g { a = put_end id (all_come false g.a.window fs e) g.a; ba = more }) m counted offered
arrives-then id e fs more offered counted g m plain h over runs k =
    let g1 : Streams = record g { a = put_end id e g.a; ba = tagged id fs ++ more } in
    let m1 : Machine = record m { streams = k.streams; me = record m.me { offered = offered } } in
    let next = (parts-come false id fs more g1 m1 h plain over runs refl k.refines).come in
    let here : put id e g.a.ends id ≡ e = put-same id e g.a.ends in
    let last = all_come false g.a.window fs in
    let sum : counted + 0 ≡ counted = omega arith in
    let n : Machine = record m { streams = next.streams; me = record m.me { offered = offered } } in
    record {
      streams = next.streams;
      moves = k.moves ++ next.moves;
      did = subst (λ c. FreeMoves (k.moves ++ next.moves) m c n) sum (moves-join k.moves next.moves m m1 n counted 0 k.did next.did);
      refines = refines-ends (record g { a = put_end id (last (g1.a.ends id)) g1.a; ba = more }) (put id (last e) g.a.ends) _ (λ i. elim (same_or_not i id) [
        | inl q ↦ rw q (put-same id (last e) g.a.ends ∙ sym (put-same id (last (g1.a.ends id)) g1.a.ends ∙ ap last here))
        | inr d ↦ put-other i id (last e) g.a.ends d ∙ sym (put-other i id (last (g1.a.ends id)) g1.a.ends d ∙ put-other i id e g.a.ends d)
      ]) next.refines;
    }

-- ---- the frame

pub record SynFrame (x y : Role) (no_memory : Bool) (b : ℕ) (seen rest_parts : List ℕ) (w : World) (m : Machine) (h : AgreesAs x y w m) (k : TakingHead x y no_memory b seen rest_parts w m h) : Type 0 where
  pub rst : has_rst (header_of (seen ++ b ∷ [])) ≡ false
  pub ba : h.streams.ba ≡ tagged (header_of (seen ++ b ∷ [])).id (Syn (delta (header_of (seen ++ b ∷ []))) ∷ rest_of (header_of (seen ++ b ∷ [])) (body_of k.first.frame)) ++ all_parts k.first.frames
  pub free : look (header_of (seen ++ b ∷ [])).id w.a.table.entries ≡ None
  pub own : is_own w.a.role (header_of (seen ++ b ∷ [])).id ≡ false
  pub unrejected : is_rejected (header_of (seen ++ b ∷ [])).id w.a.answers ≡ false
  pub good : IsGoodSyn (header_of (seen ++ b ∷ [])) (record w.a { incoming = Head [] })

free-at : (answers : List Response) (id : ℕ) (o : Option End) (e : End) → ((d : End) → o ≡ Some d → is_recorded d.phase ≡ true) → Keeps answers id o e → e.phase ≡ Unborn → (o ≡ None) × (is_rejected id answers ≡ false)
free-at answers id (Some d) e r h u = absurd (no-record d.phase (ap (λ (z : End). z.phase) h.0 ∙ u) (r d refl))
free-at answers id None e r h u = (refl, of (is_rejected id answers) refl)
  where
    of : (z : Bool) → is_rejected id answers ≡ z → is_rejected id answers ≡ false
    of true t = let no : Unborn ≡ Refused = sym u ∙ h.1.refused t in absurd cc
    of false t = t

not-zero : (id : ℕ) (streams : List (ℕ × Stream)) (s : Stream) → look 0 streams ≡ None → look id streams ≡ Some s → (id == 0) ≡ false
not-zero id streams s z l = of (id == 0) refl
  where
    of : (q : Bool) → (id == 0) ≡ q → (id == 0) ≡ false
    of true e = let no : None ≡ Some s = sym z ∙ (ap (λ n. look n streams) (sym (agrees id 0 e)) ∙ l) in absurd cc
    of false e = e

no-reset : (h : Header) → IsPlain h → has_syn h ≡ true → has_rst h ≡ false
no-reset h p s = of (has_rst h) refl
  where
    of : (q : Bool) → has_rst h ≡ q → has_rst h ≡ false
    of true e = let no : true ≡ false = sym s ∙ (p.reset e).0 in absurd cc
    of false e = e

pub syn-frame : (x y : Role) (no_memory : Bool) (b : ℕ) (seen rest_parts : List ℕ) (w : World) (m : Machine) (h : AgreesAs x y w m) (k : TakingHead x y no_memory b seen rest_parts w m h) →
    (header_of (seen ++ b ∷ [])).kind < 2 → has_syn (header_of (seen ++ b ∷ [])) ≡ true → SynFrame x y no_memory b seen rest_parts w m h k
syn-frame x y no_memory b seen rest_ w m h k kind syn =
    let hd = header_of (seen ++ b ∷ []) in
    let body = body_of k.first.frame in
    let g = h.streams in
    let rst : has_rst hd ≡ false = no-reset hd (subst IsPlain k.first.header k.first.plain) syn in
    let is : frame_says hd body ≡ Syn (delta hd) ∷ rest_parts hd body = rw (rst, syn-opens hd syn) refl in
    let ba : g.ba ≡ tagged hd.id (Syn (delta hd) ∷ rest_parts hd body) ++ all_parts k.first.frames = subst (λ ps. g.ba ≡ tagged hd.id ps ++ all_parts k.first.frames) is (frame-says x y no_memory b seen rest_ w m h k kind) in
    let law = law-step false hd.id (Syn (delta hd)) (tagged hd.id (rest_parts hd body) ++ all_parts k.first.frames) g m k.taking.over k.taking.going ba h.refines in
    let free = free-at w.a.answers hd.id (look hd.id w.a.table.entries) (g.a.ends hd.id) (λ d l. (h.a.within.table.records hd.id d l).phase) (h.a.records.each hd.id) law.breaks.0 in
    let own : is_own w.a.role hd.id ≡ false = ap (λ r. is_own r hd.id) h.a.whole.role ∙ (sym (own-at x y w m h hd.id law.was law.there) ∙ law.breaks.1) in
    let short : payload hd ≤ first_credit = subst (λ (z : Header). payload z ≤ first_credit) k.first.header k.first.one.short in
    let much : first_credit + delta hd ≤ 4294967295 = (let p = h.b.records.window in let q = h.b.within.table.widest in let r = law.breaks.2 in omega (arith, p, q, r)) in
    record {
      rst = rst;
      ba = ba;
      free = free.0;
      own = own;
      unrejected = free.1;
      good = record { kind = kind; syn = syn; header = k.good; fault = no-syn_fault hd (record w.a { incoming = Head [] }) (not-zero hd.id m.streams law.was h.order.zero law.there) own free.0 rst short much };
    }

-- ---- a rejection more

rejected-more : (id j : ℕ) (answers : List Response) → is_rejected j (answers ++ Reject id ∷ []) ≡ (is_rejected j answers || id == j)
rejected-more id j [] = grind (arith, nat_tests)
rejected-more id j (Pong n ∷ more) = rejected-more id j more
rejected-more id j (Reject x ∷ more) = let h = rejected-more id j more in rw h (or-assoc (x == j) (is_rejected j more) (id == j))
  where
    or-assoc : (a b c : Bool) → (a || (b || c)) ≡ (a || b || c)
    or-assoc true b c = refl
    or-assoc false b c = refl

rejected-now : (id : ℕ) (answers : List Response) → is_rejected id (answers ++ Reject id ∷ []) ≡ true
rejected-now id answers = rejected-more id id answers ∙ of (is_rejected id answers)
  where
    of : (a : Bool) → (a || id == id) ≡ true
    of true = refl
    of false = grind (arith, nat_tests)

rejected-other : (id j : ℕ) (answers : List Response) → j ≢ id → is_rejected j (answers ++ Reject id ∷ []) ≡ is_rejected j answers
rejected-other id j answers n = rejected-more id j answers ∙ (let k : (id == j) ≡ false = grind (arith, nat_tests) in rw k (of (is_rejected j answers)))
  where
    of : (a : Bool) → (a || false) ≡ a
    of true = refl
    of false = refl

once-more : (id : ℕ) (answers : List Response) → is_rejected id answers ≡ false → RejectsOnce answers → RejectsOnce (answers ++ Reject id ∷ [])
once-more id [] e o = (refl, tt)
once-more id (Pong n ∷ more) e o = once-more id more e o
once-more id (Reject x ∷ more) e o =
    let k = none_of (x == id) (is_rejected id more) e in
    let other : x ≢ id = (let z = k.0 in grind (arith, nat_tests)) in
    (rejected-other id x more other ∙ o.0, once-more id more k.1 o.1)

pongs-rejected : (id n : ℕ) (answers : List Response) → pongs n (answers ++ Reject id ∷ []) ≡ pongs n answers
pongs-rejected id n [] = refl
pongs-rejected id n (Pong x ∷ more) = let h = pongs-rejected id n more in rw h refl
pongs-rejected id n (Reject x ∷ more) = pongs-rejected id n more

keeps-more : (answers : List Response) (id j : ℕ) (o : Option End) (e : End) → j ≢ id → Keeps answers j o e → Keeps (answers ++ Reject id ∷ []) j o e
keeps-more answers id j (Some d) e n h = (h.0, rejected-other id j answers n ∙ h.1)
keeps-more answers id j None e n h = (h.0, subst (λ z. OnlyRejects z e) (sym (rejected-other id j answers n)) h.1)

keeps-refused : (answers : List Response) (id : ℕ) (entries : List (ℕ × End)) (ends : ℕ → End) → look id entries ≡ None → ((i : ℕ) → Keeps answers i (look i entries) (ends i)) → (i : ℕ) → Keeps (answers ++ Reject id ∷ []) i (look i entries) (put id refused_end ends i)
keeps-refused answers id entries ends none h =
    let now : Keeps (answers ++ Reject id ∷ []) id None refused_end = (refl, record { syn = refl; ack = refl; rst = sym (rejected-now id answers); unsent = refl; finished = refl; refused = λ t. refl }) in
    keeps-put (answers ++ Reject id ∷ []) id entries entries refused_end ends (λ i n. keeps-more answers id i (look i entries) (ends i) n (h i)) (λ i n. refl) (subst (λ o. Keeps (answers ++ Reject id ∷ []) id o refused_end) (sym none) now)

refused-rest : (loaded fin : Bool) (body : List ℕ) (window : ℕ) → all_come false window ((if loaded then Data body ∷ [] else []) ++ (if fin then Fin ∷ [] else [])) refused_end ≡ refused_end
refused-rest true true body window = refl
refused-rest true false body window = refl
refused-rest false true body window = refl
refused-rest false false body window = refl

-- ---- refused

counts-one : (id : ℕ) (c : Bool) → counted_by (SynArrives id c) ≡ (if c then 1 else 0)
counts-one id true = refl
counts-one id false = refl

refused-so : (r l : Bool) → (r || l) ≡ true → (r || (l && not r)) ≡ true
refused-so true l e = refl
refused-so false true e = refl
refused-so false false e = cc

counted-alone : (n r : Bool) → ((n && not r) && r) ≡ false
counted-alone true true = refl
counted-alone true false = refl
counted-alone false r = refl

syn-starves : (no_memory : Bool) (b : ℕ) (seen : List ℕ) (s : Session) → s.incoming ≡ Head seen → (length seen == 11) ≡ true → is_deaf s.status ≡ false → IsGoodSyn (header_of (seen ++ b ∷ [])) (record s { incoming = Head [] }) →
    starves no_memory b s s.incoming ≡ counted_by (SynArrives (header_of (seen ++ b ∷ [])).id (no_memory && not (session_refuses s)))
syn-starves no_memory b seen s inc eleven hears_it good =
    let low : nat_lt (header_of (seen ++ b ∷ [])).kind 2 ≡ true = (let k = good.kind in grind (arith, nat_tests)) in
    let syn = good.syn in
    let header = good.header in
    let fault = good.fault in
    let is : is_starved (header_of (seen ++ b ∷ [])) s ≡ not (session_refuses s) = rw (header, low, syn, fault) refl in
    rw (inc, hears_it, eleven, is, and-all no_memory (not (session_refuses s))) (sym (counts-one (header_of (seen ++ b ∷ [])).id (no_memory && not (session_refuses s))))
  where
    and-all : (p r : Bool) → (p && not false && true && r) ≡ (p && r)
    and-all true r = refl
    and-all false r = refl

refused-arrives : (x y : Role) (no_memory : Bool) (b : ℕ) (seen rest_parts : List ℕ) (w : World) (m : Machine) (h : AgreesAs x y w m) (k : TakingHead x y no_memory b seen rest_parts w m h) (f : SynFrame x y no_memory b seen rest_parts w m h k) →
    (header_of (seen ++ b ∷ [])).kind < 2 → (session_refuses w.a || no_memory) ≡ true → Delivered x y (byte_comes no_memory b w.a) rest_parts w m (counted_by (SynArrives (header_of (seen ++ b ∷ [])).id (no_memory && not (session_refuses w.a))))
refused-arrives x y no_memory b seen rest_ w m h k f kind refused =
    let hd = header_of (seen ++ b ∷ []) in
    let id = hd.id in
    let body = body_of k.first.frame in
    let frames = all_parts k.first.frames in
    let g = h.streams in
    let s : Session = record w.a { incoming = Head [] } in
    let counted = no_memory && not (session_refuses w.a) in
    let no_room : (refuses_syn m || counted) ≡ true = rw (same-refuses x y w m h) (refused-so (session_refuses w.a) no_memory refused) in
    let law = law-step true id (Syn (delta hd)) (tagged id (rest_of hd body) ++ frames) g m k.taking.over k.taking.going f.ba h.refines in
    let alone : (counted && refuses_syn m) ≡ false = rw (same-refuses x y w m h) (counted-alone no_memory (session_refuses w.a)) in
    let one = syn-refused counted id (delta hd) (tagged id (rest_of hd body) ++ frames) g m k.taking.hears_it no_room alone law in
    let all = arrives-then id refused_end (rest_of hd body) frames m.me.offered (counted_by (SynArrives id counted)) g m (plain-rest hd body) k.taking.hears_it k.taking.over k.taking.going one in
    let answers : List Response = w.a.answers ++ Reject id ∷ [] in
    let head : head_comes no_memory hd s ≡ expects hd true (answers_with (Reject id) s) = good-syn no_memory hd s f.good ∙ rw refused refl in
    stream-arrives x y no_memory b seen rest_ w m h k true w.a.table w.a.offered m.me.offered answers frames (put id refused_end g.a.ends) (counted_by (SynArrives id counted)) kind
    (head ∙ expects-is hd true (record w.a { answers = answers })) h.a.whole.offered refl
    (keeps-refused w.a.answers id w.a.table.entries g.a.ends f.free h.a.records.each) (once-more id w.a.answers f.unrejected h.a.records.once) (λ n. pongs-rejected id n w.a.answers)
    (ap (λ ps. ps ++ frames) (sym (discarded-left hd body)))
    (subst (λ e. Arrives (record g { a = put_end id e g.a; ba = frames }) m (counted_by (SynArrives id counted)) m.me.offered) (refused-rest (is_data hd) (has_fin hd) body g.a.window) all)

-- ---- offered

keeps-offered : (answers : List Response) (id : ℕ) (f : End → End) (e new : End) (entries : List (ℕ × End)) (ends : ℕ → End) → is_rejected id answers ≡ false → f e ≡ new → look id entries ≡ None → ((i : ℕ) → Keeps answers i (look i entries) (ends i)) →
    (i : ℕ) → Keeps answers i (look i (change id f (entries ++ (id, e) ∷ []))) (put id new ends i)
keeps-offered answers id f e new entries ends unrejected same none h =
    let more : List (ℕ × End) = entries ++ (id, e) ∷ [] in
    let now : look id (change id f more) ≡ Some (f e) = look-change_same id f more ∙ (rw (look-added_same id e entries none) refl) in
    keeps-put answers id entries (change id f more) new ends (λ i n. h i) (λ i n. look-change_other id i f more n ∙ look-added_other id i e entries n) (subst (λ o. Keeps answers id o new) (sym now) (same, unrejected))

offered-arrives : (x y : Role) (no_memory : Bool) (b : ℕ) (seen rest_parts : List ℕ) (w : World) (m : Machine) (h : AgreesAs x y w m) (k : TakingHead x y no_memory b seen rest_parts w m h) (f : SynFrame x y no_memory b seen rest_parts w m h k) →
    (header_of (seen ++ b ∷ [])).kind < 2 → (session_refuses w.a || no_memory) ≡ false → Delivered x y (byte_comes no_memory b w.a) rest_parts w m 0
offered-arrives x y no_memory b seen rest_ w m h k f kind room =
    let hd = header_of (seen ++ b ∷ []) in
    let id = hd.id in
    let body = body_of k.first.frame in
    let frames = all_parts k.first.frames in
    let parts : List (ℕ × Part) = tagged id (left hd body) ++ frames in
    let g = h.streams in
    let s : Session = record w.a { incoming = Head [] } in
    let has_room : refuses_syn m ≡ false = same-refuses x y w m h ∙ (none_of (session_refuses w.a) no_memory room).0 in
    let ba : g.ba ≡ (id, Syn (delta hd)) ∷ (tagged id (came hd body) ++ parts) = f.ba ∙ ap (λ ps. (id, Syn (delta hd)) ∷ ps) (parts-split id [] (rest_of hd body) (came hd body) (left hd body) frames (came-left hd body)) in
    let law = law-step false id (Syn (delta hd)) (tagged id (came hd body) ++ parts) g m k.taking.over k.taking.going ba h.refines in
    let one = syn-offered id (delta hd) (tagged id (came hd body) ++ parts) g m k.taking.hears_it has_room law in
    let made : End = new_end g.a.window Offered false false in
    let all = arrives-then id (receive_credit (delta hd) made) (came hd body) parts (m.me.offered ++ id ∷ []) 0 g m (plain-came hd body) k.taking.hears_it k.taking.over k.taking.going one in
    let end : End = take_head false hd made in
    let does : all_come false g.a.window (came hd body) (receive_credit (delta hd) made) ≡ end = syn-does g.a.window hd body made k.first.long in
    let offered : List ℕ = w.a.offered ++ id ∷ [] in
    let table : Table = with_record id (take_head false hd) (insert_record id (offer w.a) w.a.table) in
    let t : Session = record s { table = insert_record id (offer s) s.table; offered = offered } in
    let own = f.own in
    let rst = f.rst in
    let meet : meets hd (offer s) t ≡ expects hd false (record w.a { incoming = Head []; table = table; offered = offered }) = rw (rst, own) refl in
    let head : head_comes no_memory hd s ≡ meets hd (offer s) t = good-syn no_memory hd s f.good ∙ rw room refl in
    stream-arrives x y no_memory b seen rest_ w m h k false table offered (m.me.offered ++ id ∷ []) w.a.answers parts (put id end g.a.ends) 0 kind
    (head ∙ (meet ∙ expects-is hd false (record w.a { table = table; offered = offered }))) (ap (λ ids. ids ++ id ∷ []) h.a.whole.offered) refl
    (keeps-offered w.a.answers id (take_head false hd) (offer w.a) end w.a.table.entries g.a.ends f.unrejected (ap (λ n. take_head false hd (new_end n Offered false false)) (sym h.a.records.window)) f.free h.a.records.each)
    h.a.records.once (λ n. refl) (ap (λ ps. ps ++ frames) (sym (left-is hd body)))
    (subst (λ e. Arrives (record g { a = put_end id e g.a; ba = parts }) m 0 (m.me.offered ++ id ∷ [])) does all)

-- ---- a SYN

pub syn-arrives : (x y : Role) (no_memory : Bool) (b : ℕ) (seen rest_parts : List ℕ) (w : World) (m : Machine) (h : AgreesAs x y w m) → TakingHead x y no_memory b seen rest_parts w m h →
    (header_of (seen ++ b ∷ [])).kind < 2 → has_syn (header_of (seen ++ b ∷ [])) ≡ true → Delivered x y (byte_comes no_memory b w.a) rest_parts w m (starves no_memory b w.a w.a.incoming)
syn-arrives x y no_memory b seen rest_parts w m h k kind syn =
    let f = syn-frame x y no_memory b seen rest_parts w m h k kind syn in
    let runs : is_deaf w.a.status ≡ false = ap is_deaf k.taking.runs in
    let count = syn-starves no_memory b seen w.a k.inc k.eleven runs f.good in
    subst (λ n. Delivered x y (byte_comes no_memory b w.a) rest_parts w m n) (sym count)
    (elim (when (session_refuses w.a || no_memory)) [
      | inl t ↦ refused-arrives x y no_memory b seen rest_parts w m h k f kind t
      | inr t ↦ (let none : no_memory ≡ false = (none_of (session_refuses w.a) no_memory t).1 in
          let zero_ : counted_by (SynArrives (header_of (seen ++ b ∷ [])).id (no_memory && not (session_refuses w.a))) ≡ 0 = rw none refl in
          subst (λ n. Delivered x y (byte_comes no_memory b w.a) rest_parts w m n) (sym zero_) (offered-arrives x y no_memory b seen rest_parts w m h k f kind t))
    ])
