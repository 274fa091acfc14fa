-- A byte that comes after the header of a frame, or in it, is moves of the machine.
use Rattle.std.proofs.Common.{◌≡◌, ℕ, ◌+◌, ◌-◌, ◌<◌, List, [], ◌∷◌, ◌++◌, length, Bool, true, false, not, ◌&&◌, ◌==◌, nat_lt, if◌then◌else◌, Option, None, Some, refl, sym, ap, subst, ◌∙◌, arith}
use Rattle.std.specs.Prelude.{option_map}
use Rattle.std.specs.List.{concat}
use Rattle.ymx_model.specs.declared.types.Role.{Role}
use Rattle.ymx_model.specs.declared.types.Response.{Response}
use Rattle.ymx_model.specs.declared.types.Status.{Status}
use Rattle.ymx_model.specs.declared.types.Status.TheVariants.{Running}
use Rattle.ymx_machine.specs.shared.Phases.{Phase, takes}
use Rattle.ymx_model.specs.session.Records.{End, receive_piece}
use Rattle.ymx_model.specs.session.Parts.{Part}
use Rattle.ymx_model.specs.session.Parts.Part.{Data, Fin}
use Rattle.ymx_model.specs.session.Tables.{Table, with_record}
use Rattle.ymx_machine.specs.shared.Lists.{look, change}
use Rattle.ymx_model.specs.session.Sessions.{Session, Incoming, is_running, is_lost, is_closed}
use Rattle.ymx_model.specs.session.Sessions.Incoming.{Head, Payload}
use Rattle.ymx_model.specs.session.Feeds.{Takes, is_stuck, byte_comes, byte_in, starves}
use Rattle.ymx_model.specs.world.Worlds.{World, Pipe}
use Rattle.ymx_model.specs.world.UnderWay.{held_bytes, lacking}
use Rattle.ymx_machine.specs.machine.Machines.{Machine, hears}
use Rattle.ymx_machine.specs.machine.FreeMoves.{FreeMove, FreeMoves}
use Rattle.ymx_headline.specs.stream.Worlds.{StreamWorld as Streams, tagged}
use Rattle.ymx_headline.proofs.stream.Happenings.{put, put_end}
use Rattle.ymx_law_session.specs.Limits.{IsWithin}
use Rattle.ymx_law_session.specs.Reaped.{IsReaped}
use Rattle.ymx_machine.proofs.Tests.{split, not_lt}
use Rattle.ymx_machine.proofs.Lists.{look-change_same, look-change_other}
use Rattle.ymx_law_session.proofs.limits.FeedsKeep.{takes-keep}
use Rattle.ymx_law_session.proofs.given_up.ReapedFrames.{takes-reaped}
use Rattle.ymx_headline.proofs.records.Ends.{all_come}
use Rattle.ymx_headline.proofs.world.Fed.{no-tail}
use Rattle.ymx_headline.specs.Agrees.{AgreesAs, Keeps, RejectsOnce, Text, Sender, Receiver, sending, hearing, is_absent, pongs, parts_left, all_parts}
use Rattle.ymx_headline.proofs.relation.Mirrors.{order-moves, parity}
use Rattle.ymx_headline.proofs.relation.Tables.{keeps-put}
use Rattle.ymx_headline.proofs.deliveries.DeliverMoves.{Arrives, Plain, byte-comes, parts-come}
use Rattle.ymx_headline.proofs.deliveries.DeliverTexts.{header-text}
use Rattle.ymx_headline.proofs.relation.Texts.{answered-text, text-changes}

-- Side A takes bytes, of which `rest` are left on the pipe, and is then s.
pub record Delivered (x y : Role) (s : Session) (rest : List ℕ) (w : World) (m : Machine) (counted : ℕ) : Type 0 where
  pub now : Machine
  pub moves : List FreeMove
  pub did : FreeMoves moves m counted now
  pub agrees : AgreesAs x y (record w { a = s; ba = record w.ba { bytes = rest } }) now

-- ---- what comes of streams changes records, the offered list, the answers, and what came of a frame

pub arrival-agrees : (x y : Role) (w : World) (m : Machine) (h : AgreesAs x y w m) (table : Table) (offered ids : List ℕ) (answers : List Response) (i : Incoming) (rest : List ℕ) (parts : List (ℕ × Part)) (ends : ℕ → End) (counted : ℕ) →
    ids ≡ offered → table.window ≡ w.a.table.window → ((n : ℕ) → Keeps answers n (look n table.entries) (ends n)) → RejectsOnce answers → ((n : ℕ) → pongs n answers ≡ pongs n w.a.answers) →
    IsWithin (record w.a { table = table; offered = offered; answers = answers; incoming = i }) → IsReaped (record w.a { table = table; offered = offered; answers = answers; incoming = i }) →
    w.ba.stopped ≡ false → Text (sending w.b m.you) (record (hearing w.a m.me) { incoming = i }) rest parts →
    Arrives (record h.streams { a = record h.streams.a { ends = ends }; ba = parts }) m counted ids → Delivered x y (record w.a { table = table; offered = offered; answers = answers; incoming = i }) rest w m counted
arrival-agrees x y w m h table offered ids answers i rest parts ends counted same window keeps once pongs_same within reaped runs text k = record {
  now = record m { streams = k.streams; me = record m.me { offered = ids } };
  moves = k.moves;
  did = k.did;
  agrees = record {
    roles = h.roles;
    streams = record h.streams { a = record h.streams.a { ends = ends }; ba = parts };
    refines = k.refines;
    a = record {
      whole = record { role = h.a.whole.role; window = h.a.whole.window ∙ sym window; next = h.a.whole.next; offered = same; closed = h.a.whole.closed; lost = h.a.whole.lost; sound = h.a.whole.sound };
      records = record { window = h.a.records.window ∙ sym window; over = h.a.records.over; each = keeps; once = once };
      pings = h.a.pings;
      away = h.a.away;
      within = within;
      reaped = reaped;
    };
    b = h.b;
    ab = text-changes (sending w.a m.me) _ (hearing w.b m.you) w.ab h.streams.ab h.streams.ab _ _ (answered-text (sending w.a m.me) (hearing w.b m.you) w.ab.bytes h.streams.ab answers pongs_same) h.ab;
    ba = record {
      machine = h.ba.machine;
      streams = record { same = h.ba.streams.same; empty = λ t. (let no : true ≡ false = sym t ∙ runs in absurd cc) };
      text = λ with_record. text;
    };
    order = order-moves k.moves m counted _ (parity x y w m h) k.did h.order;
  };
}

-- ---- what holds while a byte is taken

-- side A runs and takes the byte b, which stands first on its pipe
pub record Taking (x y : Role) (no_memory : Bool) (b : ℕ) (rest : List ℕ) (w : World) (m : Machine) (h : AgreesAs x y w m) : Type 0 where
  pub runs : w.a.status ≡ Running
  pub not_stopped : w.ba.stopped ≡ false
  pub hears_it : hears m ≡ true
  pub over : h.streams.a.over ≡ false
  pub going : h.streams.ba_stopped ≡ false
  pub text : Text (sending w.b m.you) (hearing w.a m.me) (b ∷ rest) h.streams.ba
  pub within : IsWithin (byte_comes no_memory b w.a)
  pub reaped : IsReaped (byte_comes no_memory b w.a)

pub no-stop : (p : Pipe) (b : ℕ) (rest : List ℕ) → (p.stopped ≡ true → p.bytes ≡ []) → p.bytes ≡ b ∷ rest → p.stopped ≡ false
no-stop p b rest e f = of p.stopped refl
  where
    of : (z : Bool) → p.stopped ≡ z → p.stopped ≡ false
    of true t = let no : [] ≡ b ∷ rest = sym (e t) ∙ f in absurd cc
    of false t = t

runs-hears : (st : Status) (i l c : Bool) → st ≡ Running → i ≡ false → (is_closed st ≡ false → l ≡ is_lost st) → c ≡ is_closed st → (not i && not l && not c) ≡ true
runs-hears st i l c e p q r = let lost : l ≡ false = (rw e at q) refl in let closed : c ≡ false = rw e at r in rw (p, lost, closed) refl

pub taking : (x y : Role) (no_memory : Bool) (b : ℕ) (rest : List ℕ) (w : World) (m : Machine) (h : AgreesAs x y w m) → w.ba.bytes ≡ b ∷ rest → is_stuck w.a ≡ false → w.a.status ≡ Running → Taking x y no_memory b rest w m h
taking x y no_memory b rest w m h e free runs =
    let not_stopped = no-stop w.ba b rest h.ba.streams.empty e in
    let one : Takes (b ∷ []) w.a (byte_comes no_memory b w.a) (starves no_memory b w.a w.a.incoming + 0) = (no_memory, 0, free, refl, (refl, refl)) in record {
      runs = runs;
      not_stopped = not_stopped;
      hears_it = runs-hears w.a.status m.inbound_stopped m.me.lost m.me.closed runs (h.ba.machine ∙ not_stopped) h.a.whole.lost h.a.whole.closed;
      over = h.a.records.over ∙ ap (λ z. not (is_running z)) runs;
      going = h.ba.streams.same ∙ not_stopped;
      text = subst (λ bs. Text (sending w.b m.you) (hearing w.a m.me) bs h.streams.ba) e (h.ba.text (rw (not_stopped, runs) refl));
      within = takes-keep (b ∷ []) w.a (byte_comes no_memory b w.a) _ one h.a.within;
      reaped = takes-reaped (b ∷ []) w.a (byte_comes no_memory b w.a) _ one h.a.within h.a.reaped;
    }

-- ---- a byte of a payload

abbrev pub piece_left : (id n : ℕ) (fin discarded : Bool) → Incoming
piece_left id n fin discarded = if nat_lt 1 n then Payload id (n - 1) fin discarded else Head []

record LeftPayload (s : Sender) (r : Receiver) (b : ℕ) (rest : List ℕ) (parts : List (ℕ × Part)) (id n : ℕ) (fin discarded : Bool) : Type 0 where
  tail : List ℕ
  more : List (ℕ × Part)
  long : length (b ∷ tail) ≡ n
  says : parts ≡ parts_left (Payload id n fin discarded) (b ∷ tail) ++ more
  text : Text s (record r { incoming = piece_left id n fin discarded }) rest (parts_left (piece_left id n fin discarded) tail ++ more)

left-of : (s : Sender) (r : Receiver) (b : ℕ) (rest : List ℕ) (parts : List (ℕ × Part)) (id n : ℕ) (fin discarded : Bool) (t : Text s r (b ∷ rest) parts) (tail : List ℕ) → 0 < n → length tail ≡ n →
    (b ∷ rest) ++ (s.outgoing ++ t.cut) ≡ tail ++ concat t.frames → parts ≡ parts_left (Payload id n fin discarded) tail ++ all_parts t.frames → LeftPayload s r b rest parts id n fin discarded
left-of s r b rest parts id n fin discarded t [] some long text says = absurd (omega arith)
left-of s r b rest parts id n fin discarded t (c ∷ tail) some long text says =
    let first : b ≡ c = cc in
    let behind : rest ++ (s.outgoing ++ t.cut) ≡ tail ++ concat t.frames = cc in record {
      tail = tail;
      more = all_parts t.frames;
      long = long;
      says = rw first says;
      text = record {
        cut = t.cut;
        tail = tail;
        frames = t.frames;
        kept = t.kept;
        missing = split (λ i. length tail ≡ lacking i) (nat_lt 1 n) (Payload id (n - 1) fin discarded) (Head []) (λ q. omega arith) (λ q. (let l = not_lt 1 n q in omega (arith, l)));
        each = t.each;
        plain = t.plain;
        text = split (λ i. held_bytes i ++ (rest ++ (s.outgoing ++ t.cut)) ≡ tail ++ concat t.frames) (nat_lt 1 n) (Payload id (n - 1) fin discarded) (Head []) (λ q. behind) (λ q. behind);
        says = refl;
        away = t.away;
        pings = t.pings;
        pongs = record { once = t.pongs.once; means = t.pongs.means; there = t.pongs.there };
      };
    }

left-payload : (s : Sender) (r : Receiver) (b : ℕ) (rest : List ℕ) (parts : List (ℕ × Part)) (id n : ℕ) (fin discarded : Bool) → r.incoming ≡ Payload id n fin discarded → 0 < n → Text s r (b ∷ rest) parts → LeftPayload s r b rest parts id n fin discarded
left-payload s r b rest parts id n fin discarded inc some t = left-of s r b rest parts id n fin discarded t t.tail some (rw inc at t.missing) (rw inc at t.text) (rw inc at t.says)

-- ---- such a byte comes

pub delivered-is : (x y : Role) (s t : Session) (rest : List ℕ) (w : World) (m : Machine) (c d : ℕ) → s ≡ t → c ≡ d → Delivered x y t rest w m d → Delivered x y s rest w m c
delivered-is x y s t rest w m c d e q k = rw (e, q) k

pub byte-is : (no_memory : Bool) (b : ℕ) (s : Session) (i : Incoming) → s.status ≡ Running → s.incoming ≡ i → byte_comes no_memory b s ≡ byte_in no_memory b s i
byte-is no_memory b s i runs inc = let k : byte_comes no_memory b s ≡ byte_in no_memory b s s.incoming = rw runs refl in k ∙ ap (byte_in no_memory b s) inc

-- nothing of the streams changes
only-incoming : (x y : Role) (w : World) (m : Machine) (h : AgreesAs x y w m) (i : Incoming) (rest : List ℕ) → IsWithin (record w.a { incoming = i }) → IsReaped (record w.a { incoming = i }) → w.ba.stopped ≡ false →
    Text (sending w.b m.you) (record (hearing w.a m.me) { incoming = i }) rest h.streams.ba → Delivered x y (record w.a { incoming = i }) rest w m 0
only-incoming x y w m h i rest within reaped runs text =
    arrival-agrees x y w m h w.a.table w.a.offered m.me.offered w.a.answers i rest h.streams.ba h.streams.a.ends 0 h.a.whole.offered refl h.a.records.each h.a.records.once (λ n. refl) within reaped runs text
    (record { streams = m.streams; moves = []; did = (refl, refl); refines = h.refines })

pub header-byte : (x y : Role) (no_memory : Bool) (b : ℕ) (rest seen : List ℕ) (w : World) (m : Machine) (h : AgreesAs x y w m) → Taking x y no_memory b rest w m h → w.a.incoming ≡ Head seen → (length seen == 11) ≡ false →
    Delivered x y (byte_comes no_memory b w.a) rest w m (starves no_memory b w.a w.a.incoming)
header-byte x y no_memory b rest seen w m h k inc f =
    let t : Session = record w.a { incoming = Head (seen ++ b ∷ []) } in
    let is : byte_comes no_memory b w.a ≡ t = byte-is no_memory b w.a (Head seen) k.runs inc ∙ rw f refl in
    let none : starves no_memory b w.a w.a.incoming ≡ 0 = rw (inc, f, no-starving) refl in
    delivered-is x y (byte_comes no_memory b w.a) t rest w m _ 0 is none
    (only-incoming x y w m h (Head (seen ++ b ∷ [])) rest (subst IsWithin is k.within) (subst IsReaped is k.reaped) k.not_stopped (header-text (sending w.b m.you) (hearing w.a m.me) b seen rest h.streams.ba inc k.text))
  where
    no-starving : (p q : Bool) → (p && false && q) ≡ false
    no-starving true q = refl
    no-starving false q = refl

-- ---- records that a piece of a payload, or a head, changes

-- an end that is absent takes nothing
pub absent-takes : (p : Phase) → is_absent p ≡ true → takes p ≡ false
absent-takes p e = grind arith

piece-absent : (last : Bool) (bytes : List ℕ) (e : End) → is_absent e.phase ≡ true → receive_piece last bytes e ≡ e
piece-absent true bytes e a = let k = absent-takes e.phase a in rw (k, k) refl
piece-absent false bytes e a = let k = absent-takes e.phase a in rw k refl

keeps-same : (answers : List Response) (id : ℕ) (f : End → End) (o : Option End) (e : End) → ((d : End) → is_absent d.phase ≡ true → f d ≡ d) → Keeps answers id o e → Keeps answers id (option_map f o) (f e)
keeps-same answers id f None e s h = subst (λ z. Keeps answers id None z) (sym (s e h.0)) h
keeps-same answers id f (Some d) e s h = (ap f h.0, h.1)

pub keeps-on : (answers : List Response) (id : ℕ) (f : End → End) (entries : List (ℕ × End)) (ends : ℕ → End) → ((d : End) → is_absent d.phase ≡ true → f d ≡ d) → ((i : ℕ) → Keeps answers i (look i entries) (ends i)) →
    (i : ℕ) → Keeps answers i (look i (change id f entries)) (put id (f (ends id)) ends i)
keeps-on answers id f entries ends s h =
    keeps-put answers id entries (change id f entries) (f (ends id)) ends (λ i n. h i) (λ i n. look-change_other id i f entries n)
    (subst (λ o. Keeps answers id o (f (ends id))) (sym (look-change_same id f entries)) (keeps-same answers id f (look id entries) (ends id) s (h id)))

-- ---- a byte of a payload

abbrev piece_done : (b id n : ℕ) (fin : Bool) → Session → Session
piece_done b id n fin s = record s { table = with_record id (receive_piece (fin && not (nat_lt 1 n)) (b ∷ [])) s.table; incoming = piece_left id n fin false }

-- a discarded one changes nothing
pub discarded-byte : (x y : Role) (no_memory : Bool) (b : ℕ) (rest : List ℕ) (id n : ℕ) (fin : Bool) (w : World) (m : Machine) (h : AgreesAs x y w m) → Taking x y no_memory b rest w m h → w.a.incoming ≡ Payload id n fin true → 0 < n →
    Delivered x y (byte_comes no_memory b w.a) rest w m 0
discarded-byte x y no_memory b rest id n fin w m h k inc some =
    let t : Session = record w.a { incoming = piece_left id n fin true } in
    let is : byte_comes no_memory b w.a ≡ t = byte-is no_memory b w.a (Payload id n fin true) k.runs inc in
    let l = left-payload (sending w.b m.you) (hearing w.a m.me) b rest h.streams.ba id n fin true inc some k.text in
    let none : parts_left (piece_left id n fin true) l.tail ≡ [] = split (λ i. parts_left i l.tail ≡ []) (nat_lt 1 n) (Payload id (n - 1) fin true) (Head []) (λ q. refl) (λ q. refl) in
    let same : parts_left (piece_left id n fin true) l.tail ++ l.more ≡ h.streams.ba = ap (λ ps. ps ++ l.more) none ∙ sym l.says in
    delivered-is x y (byte_comes no_memory b w.a) t rest w m 0 0 is refl
    (only-incoming x y w m h (piece_left id n fin true) rest (subst IsWithin is k.within) (subst IsReaped is k.reaped) k.not_stopped
    (subst (Text (sending w.b m.you) (record (hearing w.a m.me) { incoming = piece_left id n fin true }) rest) same l.text))

and-false : (b : Bool) → (b && false) ≡ false
and-false true = refl
and-false false = refl

and-true : (b : Bool) → (b && true) ≡ b
and-true true = refl
and-true false = refl

-- the parts that its last byte makes whole
abbrev last-parts : Bool → ℕ → List Part
last-parts fin b = Data (b ∷ []) ∷ (if fin then Fin ∷ [] else [])

plain-last : (fin : Bool) (b : ℕ) → Plain (last-parts fin b)
plain-last true b = (refl, refl, (refl, refl, tt))
plain-last false b = (refl, refl, tt)

tagged-last : (id : ℕ) (fin : Bool) (b : ℕ) (more : List (ℕ × Part)) → tagged id (last-parts fin b) ++ more ≡ parts_left (Payload id 1 fin false) (b ∷ []) ++ more
tagged-last id true b more = refl
tagged-last id false b more = refl

last-come : (fin : Bool) (b window : ℕ) (e : End) → all_come false window (last-parts fin b) e ≡ receive_piece fin (b ∷ []) e
last-come true b window e = refl
last-come false b window e = refl

-- another changes its record, if there is one
pub payload-byte : (x y : Role) (no_memory : Bool) (b : ℕ) (rest : List ℕ) (id n : ℕ) (fin : Bool) (w : World) (m : Machine) (h : AgreesAs x y w m) → Taking x y no_memory b rest w m h → w.a.incoming ≡ Payload id n fin false → 0 < n →
    Delivered x y (byte_comes no_memory b w.a) rest w m 0
payload-byte x y no_memory b rest id n fin w m h k inc some =
    delivered-is x y (byte_comes no_memory b w.a) (piece_done b id n fin w.a) rest w m 0 0 is refl (of (nat_lt 1 n) refl l.text)
  where
    is : byte_comes no_memory b w.a ≡ piece_done b id n fin w.a
    is = byte-is no_memory b w.a (Payload id n fin false) k.runs inc

    l : LeftPayload (sending w.b m.you) (hearing w.a m.me) b rest h.streams.ba id n fin false
    l = left-payload (sending w.b m.you) (hearing w.a m.me) b rest h.streams.ba id n fin false inc some k.text

    last : Bool
    last = fin && not (nat_lt 1 n)

    g : Streams
    g = h.streams

    done : (parts : List (ℕ × Part)) → Text (sending w.b m.you) (record (hearing w.a m.me) { incoming = piece_left id n fin false }) rest parts →
        Arrives (record g { a = put_end id (receive_piece last (b ∷ []) (g.a.ends id)) g.a; ba = parts }) m 0 m.me.offered → Delivered x y (piece_done b id n fin w.a) rest w m 0
    done parts text a =
        arrival-agrees x y w m h (with_record id (receive_piece last (b ∷ [])) w.a.table) w.a.offered m.me.offered w.a.answers (piece_left id n fin false) rest parts (put id (receive_piece last (b ∷ []) (g.a.ends id)) g.a.ends) 0
        h.a.whole.offered refl (keeps-on w.a.answers id (receive_piece last (b ∷ [])) w.a.table.entries g.a.ends (piece-absent last (b ∷ [])) h.a.records.each) h.a.records.once (λ i. refl)
        (subst IsWithin is k.within) (subst IsReaped is k.reaped) k.not_stopped text a

    more-comes : nat_lt 1 n ≡ true → Delivered x y (piece_done b id n fin w.a) rest w m 0
    more-comes e =
        let ends_not : last ≡ false = rw e (and-false fin) in
        let parts : List (ℕ × Part) = (id, Data l.tail) ∷ (if fin then (id, Fin) ∷ [] else []) ++ l.more in
        let left : parts_left (piece_left id n fin false) l.tail ++ l.more ≡ parts = rw e refl in
        let come = byte-comes id b l.tail ((if fin then (id, Fin) ∷ [] else []) ++ l.more) g m k.hears_it k.over k.going l.says h.refines in
        done parts (subst (Text (sending w.b m.you) (record (hearing w.a m.me) { incoming = piece_left id n fin false }) rest) left l.text)
        (subst (λ z. Arrives (record g { a = put_end id (receive_piece z (b ∷ []) (g.a.ends id)) g.a; ba = parts }) m 0 m.me.offered) (sym ends_not) come)

    of : (z : Bool) → nat_lt 1 n ≡ z → Text (sending w.b m.you) (record (hearing w.a m.me) { incoming = piece_left id n fin false }) rest (parts_left (piece_left id n fin false) l.tail ++ l.more) → Delivered x y (piece_done b id n fin w.a) rest w m 0
    of true e text = more-comes e
    of false e text =
        let few = not_lt 1 n e in
        let none : l.tail ≡ [] = no-tail l.tail (let z = l.long in omega (arith, z, few)) in
        let ends_now : last ≡ fin = rw e (and-true fin) in
        let left : parts_left (piece_left id n fin false) l.tail ++ l.more ≡ l.more = rw e refl in
        let says : g.ba ≡ tagged id (last-parts fin b) ++ l.more = (rw none at l.says) ∙ sym (tagged-last id fin b l.more) in
        let come = (parts-come false id (last-parts fin b) l.more g m k.hears_it (plain-last fin b) k.over k.going says h.refines).come in
        done l.more (subst (Text (sending w.b m.you) (record (hearing w.a m.me) { incoming = piece_left id n fin false }) rest) left text)
        (subst (λ z. Arrives (record g { a = put_end id z g.a; ba = l.more }) m 0 m.me.offered) (last-come fin b g.a.window (g.a.ends id) ∙ ap (λ z. receive_piece z (b ∷ []) (g.a.ends id)) (sym ends_now)) come)
