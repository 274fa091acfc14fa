-- A frame of a stream that begins is no move of the machine: its parts are under way.
use Rattle.std.proofs.Common.{◌≡◌, ℕ, ◌-◌, ◌^◌, ◌<◌, ◌≤◌, List, [], ◌∷◌, ◌++◌, length, take, Bool, true, false, not, nat_lt, Option, None, Some, refl, sym, ap, subst, ◌∙◌, arith}
use Rattle.std.specs.List.{concat}
use Rattle.std.proofs.lemmas.Grind.{common_steps}
use Rattle.std.proofs.lemmas.List.{append-nil, append_assoc}
use Rattle.std.proofs.lemmas.List.Elements.{All-nil, All-cons, All-append}
use Rattle.std.proofs.lemmas.List.Folds.{concat-append}
use Rattle.ymx_header.specs.Headers.{header_of}
use Rattle.ymx_model.specs.declared.types.Role.{Role}
use Rattle.ymx_model.specs.declared.types.Status.{Status}
use Rattle.ymx_model.specs.declared.types.Status.TheVariants.{Running, Lost, Broken, Closed}
use Rattle.ymx_machine.specs.shared.Limits.{first_credit}
use Rattle.ymx_machine.specs.stream.Streams.{Stream}
use Rattle.ymx_model.specs.session.Records.{End}
use Rattle.ymx_model.specs.declared.types.FrameKind.{FrameKind}
use Rattle.ymx_model.specs.session.FramesDue.{next_kind, begin_frame, frame, spelled}
use Rattle.ymx_model.specs.declared.types.FrameKind.TheVariants.{Open, OpenWith, Accept, Reset, Credit, Data, Fin}
use Rattle.ymx_model.specs.session.Parts.{Part, parts_of}
use Rattle.ymx_model.specs.declared.types.Response.{Response}
use Rattle.ymx_model.specs.session.Tables.{Table, pass_turn, with_record}
use Rattle.ymx_machine.specs.shared.Lists.{look, change}
use Rattle.ymx_model.specs.session.Sessions.{Session, Outgoing, is_running, is_closed}
use Rattle.ymx_model.specs.world.Worlds.{World, Pipe, pushed}
use Rattle.ymx_model.specs.world.UnderWay.{IsOneFrame, held_bytes}
use Rattle.ymx_machine.specs.machine.Machines.{Machine}
use Rattle.ymx_headline.specs.stream.Worlds.{StreamWorld as Streams, Refines, tagged}
use Rattle.ymx_headline.proofs.stream.Happenings.{Can, acts}
use Rattle.ymx_headline.proofs.stream.Happenings.Act.{Sends}
use Rattle.ymx_headline.proofs.stream.Worlds.{step}
use Rattle.ymx_law_session.specs.Limits.{IsWithin}
use Rattle.ymx_law_session.specs.Reaped.{IsReaped}
use Rattle.ymx_machine.proofs.Tests.{split}
use Rattle.ymx_headline.specs.machine.Numbers.{HasNumber, HasNumberAt}
use Rattle.ymx_machine.proofs.Lists.{look-change_same, look-change_other}
use Rattle.ymx_headline.specs.records.Sides.{bytes_say}
use Rattle.ymx_headline.proofs.records.Frames.{said}
use Rattle.ymx_headline.proofs.world.Frames.{data-frame, short-frame}
use Rattle.ymx_headline.specs.Agrees.{AgreesAs, IsNumbered, AgreesOn, Keeps, Sender, Receiver, Text, sending, hearing, found, IsPlainFrame, parts_in, all_parts, parts_left, count_in, is_go_away, asks, replies}
use Rattle.ymx_headline.proofs.relation.Mirrors.{refines-same}
use Rattle.ymx_headline.proofs.relation.Sides.{in-streams}
use Rattle.ymx_headline.proofs.relation.Tables.{keeps-put}
use Rattle.ymx_headline.proofs.relation.Texts.{text-changes}
use Rattle.ymx_headline.proofs.relation.Counts.{Stands, stands, no-record}
use Rattle.ymx_headline.proofs.calls.Ends.{no-text}

-- ---- what a frame of a stream is

pub record IsStreamFrame (id : ℕ) (parts : List Part) (bytes : List ℕ) : Type 0 where
  pub one : IsOneFrame bytes
  plain : IsPlainFrame bytes
  says : parts_in bytes ≡ tagged id parts
  away : is_go_away bytes ≡ false
  asks_none : (n : ℕ) → asks n bytes ≡ false
  replies_none : (n : ℕ) → replies n bytes ≡ false

data-one : (flags id : ℕ) (limit : ℕ) (unsent : List ℕ) → limit ≤ first_credit → IsOneFrame (frame 0 flags id (length (take limit unsent)) (take limit unsent))
data-one flags id limit unsent few = data-frame flags id (take limit unsent) (grind (arith, common_steps))

id-is : (kind flags id n : ℕ) (body : List ℕ) → id < 2 ^ 32 → (header_of (frame kind flags id n body)).id ≡ id
id-is kind flags id n body l = grind (arith, common_steps)

says-as : (id j : ℕ) (bytes : List ℕ) (parts : List Part) → (header_of bytes).id ≡ id → bytes_say bytes ≡ parts → nat_lt (header_of bytes).kind 2 ≡ true → parts_in bytes ≡ tagged id parts
says-as id j bytes parts p q r = rw (r, p, q) refl

pub spelled-is : (k : FrameKind) (window limit id : ℕ) (e : End) → window < 2 ^ 32 → e.reader.owed < 2 ^ 32 → id < 2 ^ 32 → limit ≤ first_credit → IsStreamFrame id (parts_of k window limit e) (spelled k window limit id e)
spelled-is Open window limit id e w o i l = record { one = short-frame 1 1 id (window - first_credit) (omega arith) (omega arith); plain = record { reset = λ t. absurd cc; away = λ t. absurd cc }; says = says-as id id (spelled Open window limit id e) (parts_of Open window limit e) (id-is 1 1 id (window - first_credit) [] i) (said Open window limit id e w o) refl; away = refl; asks_none = λ n. refl; replies_none = λ n. refl }
spelled-is OpenWith window limit id e w o i l = record { one = data-one 1 id limit e.writer.unsent l; plain = record { reset = λ t. absurd cc; away = λ t. absurd cc }; says = says-as id id (spelled OpenWith window limit id e) (parts_of OpenWith window limit e) (id-is 0 1 id (length (take limit e.writer.unsent)) (take limit e.writer.unsent) i) (said OpenWith window limit id e w o) refl; away = refl; asks_none = λ n. refl; replies_none = λ n. refl }
spelled-is Accept window limit id e w o i l = record { one = short-frame 1 2 id (window - first_credit) (omega arith) (omega arith); plain = record { reset = λ t. absurd cc; away = λ t. absurd cc }; says = says-as id id (spelled Accept window limit id e) (parts_of Accept window limit e) (id-is 1 2 id (window - first_credit) [] i) (said Accept window limit id e w o) refl; away = refl; asks_none = λ n. refl; replies_none = λ n. refl }
spelled-is Reset window limit id e w o i l = record {
  one = short-frame 1 8 id 0 (omega arith) (omega arith);
  plain = record { reset = λ t. (refl, refl, refl); away = λ t. absurd cc };
  says = says-as id id (spelled Reset window limit id e) (parts_of Reset window limit e) (id-is 1 8 id 0 [] i) (said Reset window limit id e w o) refl;
  away = refl;
  asks_none = λ n. refl;
  replies_none = λ n. refl;
}
spelled-is Credit window limit id e w o i l = record {
  one = short-frame 1 0 id e.reader.owed (omega arith) (omega arith);
  plain = record { reset = λ t. absurd cc; away = λ t. absurd cc };
  says = says-as id id (spelled Credit window limit id e) (parts_of Credit window limit e) (id-is 1 0 id e.reader.owed [] i) (said Credit window limit id e w o) refl;
  away = refl;
  asks_none = λ n. refl;
  replies_none = λ n. refl;
}
spelled-is Data window limit id e w o i l = record {
  one = data-one 0 id limit e.writer.unsent l;
  plain = record { reset = λ t. absurd cc; away = λ t. absurd cc };
  says = says-as id id (spelled Data window limit id e) (parts_of Data window limit e) (id-is 0 0 id (length (take limit e.writer.unsent)) (take limit e.writer.unsent) i) (said Data window limit id e w o) refl;
  away = refl;
  asks_none = λ n. refl;
  replies_none = λ n. refl;
}
spelled-is Fin window limit id e w o i l = record {
  one = short-frame 1 4 id 0 (omega arith) (omega arith);
  plain = record { reset = λ t. absurd cc; away = λ t. absurd cc };
  says = says-as id id (spelled Fin window limit id e) (parts_of Fin window limit e) (id-is 1 4 id 0 [] i) (said Fin window limit id e w o) refl;
  away = refl;
  asks_none = λ n. refl;
  replies_none = λ n. refl;
}

-- ---- one frame more

pub count-more : (test : List ℕ → Bool) (frames : List (List ℕ)) (f : List ℕ) → test f ≡ false → count_in test (frames ++ f ∷ []) ≡ count_in test frames
count-more test [] f e = rw e refl
count-more test (g ∷ gs) f e = rw (count-more test gs f e) refl

pub parts-more : (frames : List (List ℕ)) (f : List ℕ) → all_parts (frames ++ f ∷ []) ≡ all_parts frames ++ parts_in f
parts-more [] f = append-nil (parts_in f)
parts-more (g ∷ gs) f = ap (λ ps. parts_in g ++ ps) (parts-more gs f) ∙ sym (append_assoc (parts_in g) (all_parts gs) (parts_in f))

pub concat-more : (frames : List (List ℕ)) (f : List ℕ) → concat (frames ++ f ∷ []) ≡ concat frames ++ f
concat-more frames f = concat-append frames (f ∷ []) ∙ ap (λ xs. concat frames ++ xs) (append-nil f)

pub text-more : (held bytes begun cut tail all f : List ℕ) → begun ≡ [] → cut ≡ [] → held ++ (bytes ++ (begun ++ cut)) ≡ tail ++ all → held ++ (bytes ++ (f ++ cut)) ≡ tail ++ (all ++ f)
text-more held bytes begun cut tail all f e c t =
    let was : held ++ (bytes ++ []) ≡ tail ++ all = rw (e, c) at t in
    let old : held ++ bytes ≡ tail ++ all = ap (λ xs. held ++ xs) (sym (append-nil bytes)) ∙ was in
    ap (λ xs. held ++ (bytes ++ xs)) (ap (λ xs. f ++ xs) c ∙ append-nil f) ∙ (sym (append_assoc held bytes f) ∙ (ap (λ xs. xs ++ f) old ∙ append_assoc tail all f))

-- a frame of a stream begins: the text grows by it
pub begun-text : (s : Sender) (r : Receiver) (bytes : List ℕ) (parts : List (ℕ × Part)) (id : ℕ) (more : List Part) (f : List ℕ) → is_closed s.status ≡ false → s.outgoing ≡ [] → IsStreamFrame id more f →
    Text s r bytes parts → Text (record s { outgoing = f }) r bytes (parts ++ tagged id more)
begun-text s r bytes parts id more f open_ none is t = record {
  cut = t.cut;
  tail = t.tail;
  frames = t.frames ++ f ∷ [];
  kept = t.kept;
  missing = t.missing;
  each = All-append IsOneFrame t.frames (f ∷ []) t.each (All-cons IsOneFrame f [] is.one (All-nil IsOneFrame));
  plain = All-append IsPlainFrame t.frames (f ∷ []) t.plain (All-cons IsPlainFrame f [] is.plain (All-nil IsPlainFrame));
  text = text-more (held_bytes r.incoming) bytes s.outgoing t.cut t.tail (concat t.frames) f none (t.kept open_) t.text ∙ ap (λ xs. t.tail ++ xs) (sym (concat-more t.frames f));
  says = ap (λ ps. ps ++ tagged id more) t.says ∙ (append_assoc (parts_left r.incoming t.tail) (all_parts t.frames) (tagged id more)
      ∙ ap (λ ps. parts_left r.incoming t.tail ++ ps) (sym (parts-more t.frames f ∙ ap (λ ps. all_parts t.frames ++ ps) is.says)));
  away = (let k = count-more is_go_away t.frames f is.away in record { once = rw k t.away.once; means = rw k t.away.means; said = rw k t.away.said });
  pings = record {
    once = λ n. rw (count-more (asks n) t.frames f (is.asks_none n)) (t.pings.once n);
    means = λ n. rw (count-more (asks n) t.frames f (is.asks_none n)) (t.pings.means n);
    asked = λ n. rw (count-more (asks n) t.frames f (is.asks_none n)) (t.pings.asked n);
  };
  pongs = record {
    once = λ n. rw (count-more (replies n) t.frames f (is.replies_none n)) (t.pongs.once n);
    means = λ n. rw (count-more (replies n) t.frames f (is.replies_none n)) (t.pongs.means n);
    there = λ n. rw (count-more (replies n) t.frames f (is.replies_none n)) (t.pongs.there n);
  };
}

-- ---- a byte of the frame begun goes onto the pipe

moved-text : (s : Sender) (r : Receiver) (bytes : List ℕ) (parts : List (ℕ × Part)) (b : ℕ) (rest : List ℕ) → s.outgoing ≡ b ∷ rest → Text s r bytes parts → Text (record s { outgoing = rest }) r (bytes ++ b ∷ []) parts
moved-text s r bytes parts b rest e t = record { cut = t.cut; tail = t.tail; frames = t.frames; kept = t.kept; missing = t.missing; each = t.each; plain = t.plain; says = t.says; text = (let was : held_bytes r.incoming ++ (bytes ++ ((b ∷ rest) ++ t.cut)) ≡ t.tail ++ concat t.frames = rw e at t.text in ap (λ xs. held_bytes r.incoming ++ xs) (append_assoc bytes (b ∷ []) (rest ++ t.cut)) ∙ was); away = record { once = t.away.once; means = t.away.means; said = t.away.said }; pings = record { once = t.pings.once; means = t.pings.means; asked = t.pings.asked }; pongs = record { once = t.pongs.once; means = t.pongs.means; there = t.pongs.there } }

moved-on : (s : Sender) (r : Receiver) (p : Pipe) (parts : List (ℕ × Part)) (g m : Bool) (b : ℕ) (rest : List ℕ) → s.outgoing ≡ b ∷ rest → AgreesOn s r p parts g m → AgreesOn (record s { outgoing = rest }) r (pushed (b ∷ []) p) parts g m
moved-on s r p parts g m b rest e h =
    split (λ q. AgreesOn (record s { outgoing = rest }) r q parts g m) p.stopped p (record p { bytes = p.bytes ++ b ∷ [] })
    (λ t. record { machine = h.machine; streams = h.streams; text = λ a. absurd (no-text r p t a) })
    (λ f. record { machine = h.machine; streams = record { same = h.streams.same; empty = λ t. (let no : true ≡ false = sym t ∙ f in absurd cc) }; text = λ a. moved-text s r p.bytes parts b rest e (h.text a) })

-- the records of side A change, and a byte goes out
pub moved-changes : (x y : Role) (w : World) (m : Machine) (h : AgreesAs x y w m) (t : Table) (begun : Outgoing) (b : ℕ) (streams : List (ℕ × Stream)) (ends : ℕ → End) →
    w.a.outgoing.bytes ≡ b ∷ begun.bytes → t.window ≡ w.a.table.window → ((i : ℕ) → Keeps w.a.answers i (look i t.entries) (ends i)) →
    IsWithin (record w.a { table = t; outgoing = begun }) → IsReaped (record w.a { table = t; outgoing = begun }) →
    Refines (record h.streams { a = record h.streams.a { ends = ends } }) (found (record m { streams = streams })) → IsNumbered (record m { streams = streams }) →
    AgreesAs x y (record w { a = record w.a { table = t; outgoing = begun }; ab = pushed (b ∷ []) w.ab }) (record m { streams = streams })
moved-changes x y w m h t begun b streams ends eb ew keeps within reaped refines order = record {
  roles = h.roles;
  streams = record h.streams { a = record h.streams.a { ends = ends } };
  refines = refines;
  a = in-streams h.a t w.a.next m.me.next w.a.offered m.me.offered w.a.answers begun (record h.streams.a { ends = ends }) h.a.whole.next h.a.whole.offered ew
      (record { window = h.a.records.window ∙ sym ew; over = h.a.records.over; each = keeps; once = h.a.records.once }) within reaped;
  b = h.b;
  ab = moved-on (sending w.a m.me) (hearing w.b m.you) w.ab h.streams.ab h.streams.ab_stopped m.outbound_stopped b begun.bytes eb h.ab;
  ba = h.ba;
  order = order;
}

-- ---- a frame of a stream begins

pub fits : (x y : Role) (w : World) (m : Machine) (h : AgreesAs x y w m) (id : ℕ) (s : Stream) → look id m.streams ≡ Some s → id < 2 ^ 32
fits x y w m h id s l = of s.own refl
  where
    k : HasNumber m.me.next m.you.next id s.own
    k = subst (HasNumberAt m.me.next m.you.next id) l (h.order.order.numbered id)

    of : (b : Bool) → s.own ≡ b → id < 2 ^ 32
    of true e = let i = (k.mine e).0 in let n = h.a.whole.next in let f = h.a.within.next.fits in omega (arith, i, n, f)
    of false e = let i = (k.yours e).0 in let n = h.b.whole.next in let f = h.b.within.next.fits in omega (arith, i, n, f)

-- a record has a stream
has-stream : (g : Streams) (id : ℕ) (mine yours : ℕ) (answers : List Response) (o : Option Stream) (e : End) → Stands mine yours answers id g o (Some e) → (s : Stream) × (o ≡ Some s)
has-stream g id mine yours answers (Some s) e h = (s, refl)
has-stream g id mine yours answers None e h = absurd (no-record e.phase (ap (λ (z : End). z.phase) (h.keeps.0 ∙ h.one.mine)) (h.recorded e refl))

abbrev pub begun_with : (id limit : ℕ) → FrameKind → End → Session → Session
begun_with id limit k e s = record s {
  table = pass_turn id (with_record id (begin_frame s.table.window limit k) s.table);
  outgoing = record { bytes = spelled k s.table.window limit id e; of = Some id };
}

pub runs-open : (st : Status) → is_running st ≡ true → is_closed st ≡ false
runs-open Running e = refl
runs-open Lost e = refl
runs-open (Broken f) e = refl
runs-open Closed e = absurd cc

pub begun-agrees : (x y : Role) (w : World) (m : Machine) (h : AgreesAs x y w m) (id limit : ℕ) (k : FrameKind) (e : End) → is_running w.a.status ≡ true → w.a.outgoing.bytes ≡ [] → limit ≤ first_credit →
    look id w.a.table.entries ≡ Some e → next_kind w.a.table.window e ≡ Some k → IsWithin (begun_with id limit k e w.a) → IsReaped (begun_with id limit k e w.a) → AgreesAs x y (record w { a = begun_with id limit k e w.a }) m
begun-agrees x y w m h id limit k e runs none few l due within reaped =
    let g = h.streams in
    let win = w.a.table.window in
    let begun = begun_with id limit k e w.a in
    let kept : Keeps w.a.answers id (Some e) (g.a.ends id) = subst (λ o. Keeps w.a.answers id o (g.a.ends id)) l (h.a.records.each id) in
    let can : Can (Sends id k limit) g = (h.a.records.over ∙ ap not runs, subst (λ z. next_kind z (g.a.ends id) ≡ Some k) (sym h.a.records.window) (ap (next_kind win) (sym kept.0) ∙ due)) in
    let r = step (Sends id k limit) g (found m) can h.refines in
    let f : End = begin_frame g.a.window limit k (g.a.ends id) in
    let same : begin_frame win limit k e ≡ f = ap (λ n. begin_frame n limit k e) (sym h.a.records.window) ∙ ap (begin_frame g.a.window limit k) kept.0 in
    let now : look id (change id (begin_frame win limit k) w.a.table.entries) ≡ Some (begin_frame win limit k e) = look-change_same id (begin_frame win limit k) w.a.table.entries ∙ rw l refl in
    let there = has-stream g id g.a.window g.b.window w.a.answers (look id m.streams) e (subst (Stands g.a.window g.b.window w.a.answers id g (look id m.streams)) l (stands x y w m h id)) in
    let end = h.a.within.table.records id e l in
    let is : IsStreamFrame id (parts_of k win limit e) (spelled k win limit id e) =
    spelled-is k win limit id e (let a = h.a.within.table.widest in omega (arith, a)) (let a = h.a.within.table.widest in let b = end.within in omega (arith, a, b)) (fits x y w m h id there.0 there.1) few in
    let parts : parts_of k win limit e ≡ parts_of k g.a.window limit (g.a.ends id) = ap (λ n. parts_of k n limit e) (sym h.a.records.window) ∙ ap (parts_of k g.a.window limit) kept.0 in
    record {
      roles = h.roles;
      streams = acts (Sends id k limit) g;
      refines = refines-same (acts (Sends id k limit) g) r.0 (found m) (λ i. sym (r.1 i)) r.2;
      a = in-streams h.a begun.table w.a.next m.me.next w.a.offered m.me.offered w.a.answers begun.outgoing (acts (Sends id k limit) g).a h.a.whole.next h.a.whole.offered refl
          (record {
            window = h.a.records.window;
            over = h.a.records.over;
            once = h.a.records.once;
            each = keeps-put w.a.answers id w.a.table.entries (change id (begin_frame win limit k) w.a.table.entries) f g.a.ends (λ i n. h.a.records.each i)
                (λ i n. look-change_other id i (begin_frame win limit k) w.a.table.entries n) (subst (λ o. Keeps w.a.answers id o f) (sym now) (same, kept.1));
          })
          within reaped;
      b = h.b;
      ab = text-changes (sending w.a m.me) _ (hearing w.b m.you) w.ab g.ab _ _ _
          (λ t. subst (λ ps. Text (sending (begun_with id limit k e w.a) m.me) (hearing w.b m.you) w.ab.bytes (g.ab ++ tagged id ps)) parts
          (begun-text (sending w.a m.me) (hearing w.b m.you) w.ab.bytes g.ab id (parts_of k win limit e) (spelled k win limit id e) (runs-open w.a.status runs) none is t)) h.ab;
      ba = h.ba;
      order = h.order;
    }
