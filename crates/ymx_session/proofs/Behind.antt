-- Payload of further frames, which may be passed on after that which comes.
use Rattle.std.proofs.Common.{◌≡◌, ℕ, ◌+◌, ◌-◌, ◌<◌, ◌≤◌, ◌==◌, nat_lt, nat_le, List, [], ◌∷◌, ◌++◌, length, take, drop, Bool, true, false, not, ◌&&◌, if◌then◌else◌, Option, None, Some, ◌⊎◌, inl, inr, refl, sym, ap, ◌∙◌, subst, arith, rules, append_assoc, length-append}
use Rattle.std.specs.Prelude.{IfSome, is_none}
use Rattle.std.specs.Option.{ForSome}
use Rattle.std.proofs.lemmas.Grind.{common_steps}
use Rattle.std.proofs.lemmas.Bool.Decides.{nat_tests}
use Rattle.ymx_header.specs.declared.header.Header.{Header}
use Rattle.ymx_header.specs.declared.fault.Fault.{Fault}
use Rattle.ymx_header.specs.Headers.{header_of}
use Rattle.ymx_machine.specs.declared.types.Call.TheVariants as call
use Rattle.ymx_machine.specs.declared.types.Fed.{Fed}
use Rattle.ymx_machine.specs.declared.types.Reply.TheVariants as reply
use Rattle.ymx_machine.specs.declared.types.Why.{Why}
use Rattle.ymx_machine.specs.declared.types.Why.TheVariants.{All}
use Rattle.ymx_machine.specs.shared.Events.{Reply}
use Rattle.ymx_machine.specs.shared.Limits.{most_answers, greatest_number, widest_window}
use Rattle.ymx_machine.specs.shared.Lists.{look}
use Rattle.ymx_machine.proofs.Lists.{look-change_there}
use Rattle.ymx_machine.proofs.Tests.{both_of, is_le, is_lt, negated, not_lt, when}
use Rattle.ymx_model.specs.declared.types.Event.TheVariants as event
use Rattle.ymx_model.specs.declared.types.Status.TheVariants.{Running}
use Rattle.ymx_model.specs.session.Records.{End, receive_head}
use Rattle.ymx_model.specs.session.Tables.{with_record}
use Rattle.ymx_model.specs.session.Sessions.{Session, Incoming}
use Rattle.ymx_model.specs.session.Sessions.Incoming.{Head, Payload}
use Rattle.ymx_model.specs.session.Arrivals.{head_comes, header_fault, meets, meets_some, record_fault, syn_fault, session_refuses, unless_fault, is_starved}
use Rattle.ymx_model.specs.session.Calls.{read_from}
use Rattle.ymx_model.specs.session.Feeds.{Takes, Feeds, FeedDone, feed, is_stuck, is_between, byte_comes, starves}
use Rattle.ymx_model.specs.session.Emissions.{in_turn}
use Rattle.ymx_model.specs.session.Histories.{Gives, CallGives}
use Rattle.ymx_model.specs.session.Histories.CallGives.{Outcome as HasOutcome, NoMemory}
use Rattle.ymx_half.specs.Passing.{passed}
use Rattle.ymx_law_session.specs.Limits.{IsWithin}
use Rattle.ymx_law_session.proofs.pieces.Ample.{with-memory}
use Rattle.ymx_law_session.proofs.pieces.Chunks.{takes-split}
use Rattle.ymx_law_session.proofs.pieces.Pieces.{byte-head, byte-last, at-last, counted}
use Rattle.ymx_session.specs.Arriving.{GoesIn, payload_left}
use Rattle.ymx_session.specs.Passing.{passing, passing_behind, following, may_follow, is_plain, is_ending, granted_of, plain_header, all_fed, Passes, IsPlainHeader, MayCome, PassesBehind}
use Rattle.ymx_session.specs.declared.passing.Passing.{Passing}
use Rattle.ymx_session.proofs.Passes.{IsPassing, IsReadUp, passing-is, passes}

-- ---- what stays along the frames of one stream

-- a record of which nothing is unread, and of which so many bytes may come
record Stream (left : ℕ) (e : End) : Type 0 where
  reads : IsReadUp e
  granted : left ≤ e.reader.granted
  credit : e.writer.credit ≤ greatest_number

-- it is there, in a session that runs, and takes the headers of so many bytes
record Open (id left : ℕ) (s : Session) : Type 0 where
  running : s.status ≡ Running
  answers : length s.answers < most_answers
  window : left ≤ s.table.window
  at : End
  there : look id s.table.entries ≡ Some at
  stream : Stream left at

-- its payload comes, and no end after it
record IsOpen (id missing left : ℕ) (s : Session) : Type 0 where
  opened : Open id left s
  comes : s.incoming ≡ Payload id missing false false

-- payload may be passed on
reads-passing : (id missing : ℕ) (fin : Bool) (e : End) (s : Session) → s.status ≡ Running → s.incoming ≡ Payload id missing fin false → look id s.table.entries ≡ Some e → IsReadUp e →
    passing s ≡ Some (record { id = id; missing = missing })
reads-passing id missing fin e s run comes there r =
    let live = r.live in
    let goes_on = r.goes_on in
    let read_up = r.read_up in
    rw (run, comes, there, live, goes_on, read_up) refl

not-ending : (id missing : ℕ) (fin : Bool) (i : Incoming) → i ≡ Payload id missing fin false → is_ending i ≡ false → fin ≡ false
not-ending id missing fin i e l = let m : is_ending (Payload id missing fin false) ≡ false = subst (λ (x : Incoming). is_ending x ≡ false) e l in m

behind-open : (id missing behind : ℕ) (s : Session) → 0 < behind → PassesBehind id missing behind s → IsOpen id missing (missing + behind) s
behind-open id missing behind s some h =
    let m = h.further some in
    let k : IsPassing (record { id = id; missing = missing }) s = passing-is (record { id = id; missing = missing }) s h.passes in
    let there = k.there in
    record {
      opened = record {
        running = k.running;
        answers = m.answers;
        window = m.window;
        at = k.stream;
        there = there;
        stream = record { reads = record { live = k.live; goes_on = k.goes_on; read_up = k.read_up }; granted = rw there at m.granted; credit = m.credit k.stream there };
      };
      comes = subst (λ (x : Bool). s.incoming ≡ Payload id missing x false) (not-ending id missing k.fin s.incoming k.incoming m.goes_on) k.incoming;
    }

open-comes : (id missing left : ℕ) (s : Session) → IsOpen id missing left s → MayCome id left s
open-comes id missing left s h =
    let o = h.opened in
    let comes = h.comes in
    let there = o.there in
    record {
      goes_on = rw comes refl;
      granted = rw there o.stream.granted;
      window = o.window;
      credit = λ e l. (let same : o.at ≡ e = cc in subst (λ (x : End). x.writer.credit ≤ greatest_number) same o.stream.credit);
      answers = o.answers;
    }

open-behind : (id missing behind : ℕ) (s : Session) → IsOpen id missing (missing + behind) s → PassesBehind id missing behind s
open-behind id missing behind s h =
    record { passes = reads-passing id missing false h.opened.at s h.opened.running h.comes h.opened.there h.opened.stream.reads; further = λ z. open-comes id missing (missing + behind) s h }

-- ---- bytes of it are passed on

-- what is passed on leads to one session alone
told : (fed f : Fed) → (let r : Reply = reply.Fed fed in r ≡ reply.Fed f) → f ≡ fed
told fed f e = cc

ample : (bytes : List ℕ) (s t : Session) → Gives in_turn s (event.Feed bytes) (reply.Fed (all_fed bytes)) t → feed bytes s ≡ record { state = t; rest = drop (length bytes) bytes }
ample bytes s t (fed, e, f) =
    let same : fed ≡ all_fed bytes = told (all_fed bytes) fed e in
    with-memory bytes s t (all_fed bytes) (subst (λ (x : Fed). Feeds s bytes x t) same f) refl

one-feed : (bytes : List ℕ) (s t u : Session) → Gives in_turn s (event.Feed bytes) (reply.Fed (all_fed bytes)) t → Gives in_turn s (event.Feed bytes) (reply.Fed (all_fed bytes)) u → t ≡ u
one-feed bytes s t u p q =
    let same : record { state = t; rest = drop (length bytes) bytes } ≡ record { state = u; rest = drop (length bytes) bytes } = sym (ample bytes s t p) ∙ ample bytes s u q in
    ap (λ (d : FeedDone). d.state) same

read-next : (id count : ℕ) (bytes : List ℕ) (s t : Session) → CallGives s (call.Read id count) (reply.Read bytes) t → t ≡ (read_from id count s).next
read-next id count bytes s t (HasOutcome answer state) = state
read-next id count bytes s t (NoMemory needs answer state) = cc

passes-once : (id : ℕ) (bytes : List ℕ) (s t u : Session) → Passes id bytes s t → Passes id bytes s u → t ≡ u
passes-once id bytes s t u p q =
    read-next id (length bytes) bytes p.mid t p.read ∙ ap (λ (x : Session). (read_from id (length bytes) x).next) (one-feed bytes s p.mid q.mid p.fed q.fed)
    ∙ sym (read-next id (length bytes) bytes q.mid u q.read)

passed-is : (p : Passing) (bytes : List ℕ) (s t : Session) (k : IsPassing p s) → passing s ≡ Some p → 0 < length bytes → length bytes ≤ p.missing → false ≡ (k.fin && not (nat_lt (length bytes) p.missing)) → Passes p.id bytes s t →
    t ≡ record s { table = with_record p.id (passed false bytes) s.table; incoming = payload_left bytes p.id p.missing k.fin false }
passed-is p bytes s t k h some few end g =
    let goes : GoesIn p.id false false s.incoming (payload_left bytes p.id p.missing k.fin false) bytes = record { missing = p.missing; fin = k.fin; was = k.incoming; some = some; within = few; behind = end; now = refl } in
    passes-once p.id bytes s t _ g (passes p p.id false bytes s s (with_record p.id (passed false bytes) s.table) (payload_left bytes p.id p.missing k.fin false) refl h some goes refl)

-- what they change of the stream
all-dropped : (bytes : List ℕ) → drop (length bytes) bytes ≡ []
all-dropped bytes = grind (arith, common_steps)

passed-reads : (bytes : List ℕ) (e : End) → IsReadUp e → IsReadUp (passed false bytes e)
passed-reads bytes e r =
    let a = r.live in
    let b = r.goes_on in
    let c = r.read_up in
    let none = all-dropped bytes in
    record { live = rw (a, b) refl; goes_on = rw (a, b) refl; read_up = rw (a, b, c) none }

passed-stream : (left : ℕ) (bytes : List ℕ) (e : End) → Stream left e → Stream (left - length bytes) (passed false bytes e)
passed-stream left bytes e k =
    let a = k.reads.live in
    let b = k.reads.goes_on in
    let g = k.granted in
    let w = k.credit in
    record { reads = passed-reads bytes e k.reads; granted = rw (a, b) (omega arith); credit = rw (a, b) w }

passed-there : (id : ℕ) (bytes : List ℕ) (e : End) (s : Session) (i : Incoming) → look id s.table.entries ≡ Some e → look id (record s { table = with_record id (passed false bytes) s.table; incoming = i }).table.entries ≡ Some (passed false bytes e)
passed-there id bytes e s i l = look-change_there id (passed false bytes) s.table.entries e l

passed-open : (id missing left : ℕ) (bytes : List ℕ) (s t : Session) → IsOpen id missing left s → 0 < length bytes → length bytes ≤ missing → Passes id bytes s t →
    Open id (left - length bytes) t × (t.incoming ≡ payload_left bytes id missing false false)
passed-open id missing left bytes s t h some few p =
    let o = h.opened in
    let r = o.stream.reads in
    let k : IsPassing (record { id = id; missing = missing }) s = record { running = o.running; fin = false; incoming = h.comes; stream = o.at; there = o.there; live = r.live; goes_on = r.goes_on; read_up = r.read_up } in
    let is = passed-is (record { id = id; missing = missing }) bytes s t k (reads-passing id missing false o.at s o.running h.comes o.there r) some few refl p in
    let after : Open id (left - length bytes) (record s { table = with_record id (passed false bytes) s.table; incoming = payload_left bytes id missing false false }) = record {
      running = o.running;
      answers = o.answers;
      window = (let w = o.window in omega arith);
      at = passed false bytes o.at;
      there = passed-there id bytes o.at s (payload_left bytes id missing false false) o.there;
      stream = passed-stream left bytes o.at o.stream;
    } in
    (subst (Open id (left - length bytes)) (sym is) after, ap (λ (x : Session). x.incoming) is)

-- a part of a payload
none-ends : (fin : Bool) → false ≡ (fin && false)
none-ends true = refl
none-ends false = refl

part-passing : (id missing : ℕ) (bytes : List ℕ) (s t : Session) → passing s ≡ Some (record { id = id; missing = missing }) → 0 < length bytes → length bytes < missing → Passes id bytes s t →
    passing t ≡ Some (record { id = id; missing = missing - length bytes })
part-passing id missing bytes s t h some less p =
    let k : IsPassing (record { id = id; missing = missing }) s = passing-is (record { id = id; missing = missing }) s h in
    let more : nat_lt (length bytes) missing ≡ true = grind (arith, nat_tests) in
    let is = passed-is (record { id = id; missing = missing }) bytes s t k h some (omega arith) (rw more (none-ends k.fin)) p in
    let comes : payload_left bytes id missing k.fin false ≡ Payload id (missing - length bytes) k.fin false = rw more refl in
    let after = reads-passing id (missing - length bytes) k.fin (passed false bytes k.stream) (record s { table = with_record id (passed false bytes) s.table; incoming = payload_left bytes id missing k.fin false }) k.running comes
    (passed-there id bytes k.stream s (payload_left bytes id missing k.fin false) k.there) (passed-reads bytes k.stream (record { live = k.live; goes_on = k.goes_on; read_up = k.read_up })) in
    subst (λ (x : Session). passing x ≡ Some (record { id = id; missing = missing - length bytes })) (sym is) after

pub part-behind : (id missing behind : ℕ) (bytes : List ℕ) (s t : Session) → PassesBehind id missing behind s → 0 < length bytes → length bytes < missing → Passes id bytes s t →
    PassesBehind id (missing - length bytes) behind t
part-behind id missing behind bytes s t h some less p = record {
  passes = part-passing id missing bytes s t h.passes some less p;
  further = λ z. (
      let d = passed-open id missing (missing + behind) bytes s t (behind-open id missing behind s z h) some (omega arith) p in
      let more : nat_lt (length bytes) missing ≡ true = grind (arith, nat_tests) in
      let left : missing + behind - length bytes ≡ missing - length bytes + behind = omega arith in
      open-comes id (missing - length bytes) (missing - length bytes + behind) t (record { opened = subst (λ (n : ℕ). Open id n t) left d.0; comes = rw more at d.1 })
      );
}

-- ---- the header of a further frame

-- bytes of a header that isn't whole are kept, and refuse no stream
starves-none : (no_memory : Bool) (b : ℕ) (seen : List ℕ) (s : Session) → s.incoming ≡ Head seen → length seen < 11 → starves no_memory b s s.incoming ≡ 0
starves-none false b seen s inc l = ap (starves false b s) inc
starves-none true b seen s inc l = ap (starves true b s) inc ∙ grind (arith, nat_tests)

same-head : (seen : List ℕ) (s : Session) → s.incoming ≡ Head seen → s ≡ record s { incoming = Head (seen ++ []) }
same-head seen s inc = grind (arith, common_steps)

head-only : (bytes seen : List ℕ) (s t : Session) (starved : ℕ) → s.status ≡ Running → s.incoming ≡ Head seen → length seen + length bytes < 12 → Takes bytes s t starved →
    (t ≡ record s { incoming = Head (seen ++ bytes) }) × (starved ≡ 0)
head-only [] seen s t starved run inc few (same, none) = (same ∙ same-head seen s inc, none)
head-only (b ∷ bs) seen s t starved run inc few (no_memory, more, free, e, rest) =
    let short : length seen < 11 = omega arith in
    let u = record s { incoming = Head (seen ++ b ∷ []) } in
    let fits : length (seen ++ b ∷ []) + length bs < 12 = omega (arith, length-append seen (b ∷ [])) in
    let r = head-only bs (seen ++ b ∷ []) u t more run refl fits (subst (λ (x : Session). Takes bs x t more) (byte-head no_memory b seen s run inc short) rest) in
    let none = starves-none no_memory b seen s inc short in
    (subst (λ (x : List ℕ). t ≡ record s { incoming = Head x }) (append_assoc seen (b ∷ []) bs) r.0, omega (arith, e, r.1, none))

-- its last byte
record Split (header : List ℕ) : Type 0 where
  front : List ℕ
  back : ℕ
  whole : header ≡ front ++ back ∷ []

split-last : (b : ℕ) (bs : List ℕ) → Split (b ∷ bs)
split-last b [] = record { front = []; back = b; whole = refl }
split-last b (c ∷ bs) = let r = split-last c bs in record { front = b ∷ r.front; back = r.back; whole = ap (λ (x : List ℕ). b ∷ x) r.whole }

some-split : (header : List ℕ) → length header ≡ 12 → Split header
some-split [] l = absurd (omega arith)
some-split (b ∷ bs) l = split-last b bs

record Headed (header : List ℕ) (s t : Session) (starved : ℕ) : Type 0 where
  no_memory : Bool
  same : t ≡ head_comes no_memory (header_of header) s
  count : starved ≡ counted no_memory header s

header-only : (header : List ℕ) (s t : Session) (starved : ℕ) → s.status ≡ Running → s.incoming ≡ Head [] → length header ≡ 12 → Takes header s t starved → Headed header s t starved
header-only header s t starved run inc l took =
    let c = some-split header l in
    let whole : length (c.front ++ c.back ∷ []) ≡ 12 = subst (λ (x : List ℕ). length x ≡ 12) c.whole l in
    let eleven : length c.front ≡ 11 = omega (arith, length-append c.front (c.back ∷ [])) in
    let d = takes-split c.front (c.back ∷ []) s t starved (subst (λ (x : List ℕ). Takes x s t starved) c.whole took) in
    let first = head-only c.front [] s d.mid d.one run inc (omega arith) d.first in
    of c.front c.back d.mid d.one d.two c.whole eleven first.0 first.1 d.second d.sum
  where
    of : (front : List ℕ) (back : ℕ) (mid : Session) (one two : ℕ) → header ≡ front ++ back ∷ [] → length front ≡ 11 → mid ≡ record s { incoming = Head front } → one ≡ 0 → Takes (back ∷ []) mid t two → starved ≡ one + two → Headed header s t starved
    of front back mid one two w eleven m none (no_memory, more, free, e, (same, z)) sum =
        let u = record s { incoming = Head front } in
        let last : byte_comes no_memory back u ≡ head_comes no_memory (header_of (front ++ back ∷ [])) (record s { incoming = Head [] }) = byte-last no_memory back front u run refl eleven in
        let here : record s { incoming = Head [] } ≡ s = grind (arith, common_steps) in
        let counts : starves no_memory back u u.incoming ≡ counted no_memory (front ++ back ∷ []) u = at-last no_memory back front u run refl eleven in
        let is : starves no_memory back mid mid.incoming ≡ starves no_memory back u u.incoming = ap (λ (x : Session). starves no_memory back x x.incoming) m in
        record {
          no_memory = no_memory;
          same = same ∙ ap (byte_comes no_memory back) m ∙ last ∙ ap (λ (x : List ℕ). head_comes no_memory (header_of x) (record s { incoming = Head [] })) (sym w) ∙ ap (head_comes no_memory (header_of header)) here;
          count = omega (arith, e, z, sum, none, is, counts) ∙ ap (λ (x : List ℕ). counted no_memory x s) (sym w);
        }

-- ---- what it does

and-out : (a b c d : Bool) → (a && b && false && c && d) ≡ false
and-out true true c d = refl
and-out true false c d = refl
and-out false b c d = refl

plain-counted : (no_memory : Bool) (id count : ℕ) (header : List ℕ) (s : Session) → header_of header ≡ plain_header id count → counted no_memory header s ≡ 0
plain-counted false id count header s e = refl
plain-counted true id count header s e = let no : is_starved (plain_header id count) s ≡ false = and-out (is_none (header_fault (plain_header id count) s)) (nat_lt 0 2) (is_none (syn_fault (plain_header id count) s)) (not (session_refuses s)) in ap (λ (x : Header). if is_starved x s then 1 else 0) e ∙ rw no refl

plain-comes : (no_memory : Bool) (id count left : ℕ) (s : Session) → Open id left s → 0 < count → count ≤ left →
    head_comes no_memory (plain_header id count) s ≡ record s { table = with_record id (receive_head false 0 false) s.table; incoming = Payload id count false false }
plain-comes no_memory id count left s o some few =
    let h = plain_header id count in
    let e = o.at in
    let there = o.there in
    let live = o.stream.reads.live in
    let goes_on = o.stream.reads.goes_on in
    let short : nat_lt s.table.window count ≡ false = let w = o.window in grind (arith, nat_tests) in
    let granted : nat_lt e.reader.granted count ≡ false = let g = o.stream.granted in grind (arith, nat_tests) in
    let credit : nat_lt 4294967295 (e.writer.credit + 0) ≡ false = let c = o.stream.credit in grind (arith, nat_tests) in
    let more : (count == 0) ≡ false = grind (arith, nat_tests) in
    let good : record_fault h e ≡ None = rw (live, goes_on, granted, credit) refl in
    let one : head_comes no_memory h s ≡ meets_some h (look id s.table.entries) s = rw short refl in
    let two : meets_some h (look id s.table.entries) s ≡ unless_fault (record_fault h e) s (meets h e s) = ap (λ (x : Option End). meets_some h x s) there in
    let three : unless_fault (record_fault h e) s (meets h e s) ≡ meets h e s = ap (λ (x : Option Fault). unless_fault x s (meets h e s)) good in
    one ∙ two ∙ three ∙ rw more refl

head-stream : (left : ℕ) (e : End) → Stream left e → Stream left (receive_head false 0 false e)
head-stream left e k =
    let a = k.reads.live in
    let b = k.reads.goes_on in
    let c = k.reads.read_up in
    let g = k.granted in
    let w = k.credit in
    record { reads = record { live = rw a refl; goes_on = rw (a, b) refl; read_up = rw (a, c) refl }; granted = rw a g; credit = rw a (omega arith) }

plain-open : (no_memory : Bool) (id count left : ℕ) (s t : Session) → Open id left s → 0 < count → count ≤ left → t ≡ head_comes no_memory (plain_header id count) s → IsOpen id count left t
plain-open no_memory id count left s t o some few same =
    let after : IsOpen id count left (record s { table = with_record id (receive_head false 0 false) s.table; incoming = Payload id count false false }) = record {
      opened = record {
        running = o.running;
        answers = o.answers;
        window = o.window;
        at = receive_head false 0 false o.at;
        there = look-change_there id (receive_head false 0 false) s.table.entries o.at o.there;
        stream = head-stream left o.at o.stream;
      };
      comes = refl;
    } in
    subst (IsOpen id count left) (sym (same ∙ plain-comes no_memory id count left s o some few)) after

-- ---- a feed of it

and-false : (a : Bool) → (a && false) ≡ false
and-false true = refl
and-false false = refl

free : (i : Incoming) (s : Session) → s.status ≡ Running → length s.answers < most_answers → is_stuck (record s { incoming = i }) ≡ false
free i s run few = let room : nat_le 1024 (length s.answers) ≡ false = grind (arith, nat_tests) in rw (run, room) (and-false (is_between i))

short-front : (n : ℕ) (xs : List ℕ) → n < 12 → length (take n xs) < 12
short-front n xs l = grind (arith, common_steps)

whole-front : (n : ℕ) (xs : List ℕ) → n ≡ length xs → take n xs ≡ xs
whole-front n xs e = grind (arith, common_steps)

-- it takes all of it
takes-whole : (id left : ℕ) (header : List ℕ) (fed : Fed) (s t : Session) → Open id left s → s.incoming ≡ Head [] → length header ≡ 12 → Feeds s header fed t → fed.taken ≡ length header
takes-whole id left header fed s t o inc l f = of (when (nat_lt fed.taken 12))
  where
    of : ((nat_lt fed.taken 12 ≡ true) ⊎ (nat_lt fed.taken 12 ≡ false)) → fed.taken ≡ length header
    of (inl less) =
        let under : fed.taken < 12 = is_lt fed.taken 12 less in
        let r = head-only (take fed.taken header) [] s t f.took.0 o.running inc (omega (arith, short-front fed.taken header under)) f.took.1 in
        let stuck : is_stuck t ≡ true = f.stops (omega arith) in
        let goes : is_stuck t ≡ false = ap is_stuck r.0 ∙ free (Head ([] ++ take fed.taken header)) s o.running o.answers in
        let x : true ≡ false = sym stuck ∙ goes in
        cc
    of (inr all) = let fits = f.fits in let over = not_lt fed.taken 12 all in omega arith

fed-is : (fed : Fed) (taken no_memory : ℕ) (why : Why) → fed.taken ≡ taken → fed.no_memory ≡ no_memory → fed.why ≡ why → fed ≡ record { taken = taken; no_memory = no_memory; why = why }
fed-is fed taken no_memory why a b c = rw (← a, ← b, ← c) refl

header-fed : (id count left : ℕ) (header : List ℕ) (fed : Fed) (s t : Session) → Open id left s → s.incoming ≡ Head [] → IsPlainHeader id count header → count ≤ left → Feeds s header fed t →
    (fed ≡ all_fed header) × IsOpen id count left t
header-fed id count left header fed s t o inc p few f =
    let all = takes-whole id left header fed s t o inc p.whole f in
    let took : Takes header s t f.took.0 = subst (λ (x : List ℕ). Takes x s t f.took.0) (whole-front fed.taken header all) f.took.1 in
    let d = header-only header s t f.took.0 o.running inc p.whole took in
    let none : f.took.0 ≡ 0 = d.count ∙ plain-counted d.no_memory id count header s p.spells in
    let after = plain-open d.no_memory id count left s t o p.some few (d.same ∙ ap (λ (x : Header). head_comes d.no_memory x s) p.spells) in
    let run = after.opened.running in
    let yes : (fed.taken == length header) ≡ true = grind (arith, nat_tests) in
    let why : fed.why ≡ All = f.why ∙ rw (run, yes) refl in
    let no_memory : fed.no_memory ≡ 0 = let m = f.took.2 in omega arith in
    (fed-is fed (length header) 0 All all no_memory why, after)

-- ---- a whole payload, and the header after it

pub follows : (id missing behind count : ℕ) (bytes header : List ℕ) (fed : Fed) (s t u : Session) → PassesBehind id missing behind s → 0 < missing → length bytes ≡ missing → Passes id bytes s t → IsPlainHeader id count header →
    count ≤ behind → Gives in_turn t (event.Feed header) (reply.Fed fed) u → (fed ≡ all_fed header) × PassesBehind id count (behind - count) u
follows id missing behind count bytes header fed s t u h some whole p plain few (f, e, feeds) =
    let one = plain.some in
    let start = behind-open id missing behind s (omega arith) h in
    let d = passed-open id missing (missing + behind) bytes s t start (omega arith) (omega arith) p in
    let over : nat_lt (length bytes) missing ≡ false = grind (arith, nat_tests) in
    let left : missing + behind - length bytes ≡ count + (behind - count) = omega arith in
    let same : fed ≡ f = sym (told fed f e) in
    let r = header-fed id count (count + (behind - count)) header f t u (subst (λ (n : ℕ). Open id n t) left d.0) (rw over at d.1) plain (omega arith) feeds in
    (same ∙ r.0, open-behind id count (behind - count) u r.1)

-- ---- what is looked at

is-if : (b : Bool) (x y : ℕ) → Some x ≡ (if b then Some y else None) → (b ≡ true) × (x ≡ y)
is-if true x y e = (refl, cc)
is-if false x y e = cc

record MayFollow (ahead count : ℕ) (p : Passing) (s : Session) : Type 0 where
  goes_on : is_ending s.incoming ≡ false
  granted : p.missing + ahead + count ≤ granted_of (look p.id s.table.entries)
  answers : length s.answers < most_answers

may-is : (ahead count : ℕ) (header : List ℕ) (p : Passing) (s : Session) → passing s ≡ Some p → Some count ≡ passing_behind ahead header s → MayFollow ahead count p s
may-is ahead count header p s h e =
    let x = header_of header in
    let k = is-if (may_follow ahead x p s) count x.length (e ∙ ap (following ahead x s) h) in
    let plain = is_plain p.id x in
    let some = nat_lt 0 x.length in
    let ends = not (is_ending s.incoming) in
    let granted = nat_le (p.missing + ahead + x.length) (granted_of (look p.id s.table.entries)) in
    let answers = nat_lt (length s.answers) most_answers in
    let a = both_of (plain && some && ends && granted) answers k.0 in
    let b = both_of (plain && some && ends) granted a.0 in
    let c = both_of (plain && some) ends b.0 in
    let l = is_le _ _ b.1 in
    let n = k.1 in
    record { goes_on = negated _ c.1; granted = omega arith; answers = is_lt _ _ a.1 }

looked : (ahead count : ℕ) (header : List ℕ) (p : Passing) (s : Session) → IsWithin s → passing s ≡ Some p → Some count ≡ passing_behind ahead header s → MayCome p.id (p.missing + (ahead + count)) s
looked ahead count header p s w h e =
    let m = may-is ahead count header p s h e in
    let k = passing-is p s h in
    let at = w.table.records p.id k.stream k.there in
    let granted : p.missing + ahead + count ≤ k.stream.reader.granted = let there = k.there in rw there at m.granted in
    record {
      goes_on = m.goes_on;
      granted = (let g = m.granted in omega arith);
      window = (let x = at.within in omega arith);
      credit = λ x l. (w.table.records p.id x l).credit;
      answers = m.answers;
    }

some-looked : (ahead : ℕ) (header : List ℕ) (s : Session) (o : Option ℕ) → IsWithin s → o ≡ passing_behind ahead header s →
    IfSome o (λ count. ForSome (passing s) (λ p. PassesBehind p.id p.missing (ahead + count) s))
some-looked ahead header s None w e = search rules
some-looked ahead header s (Some count) w e = λ p h. record { passes = h; further = λ z. looked ahead count header p s w h e }

pub looked-few : (ahead : ℕ) (header : List ℕ) (s : Session) (o : Option ℕ) → IsWithin s → o ≡ passing_behind ahead header s → IfSome o (λ count. ahead + count ≤ widest_window)
looked-few ahead header s None w e = search rules
looked-few ahead header s (Some count) w e = of (passing s) refl
  where
    of : (o : Option Passing) → passing s ≡ o → ahead + count ≤ widest_window
    of None h = let x : Some count ≡ None = e ∙ ap (following ahead (header_of header) s) h in cc
    of (Some p) h = let b = looked ahead count header p s w h e in let x = b.window in let y = w.table.widest in omega arith

pub looked-behind : (ahead : ℕ) (header : List ℕ) (v s : Session) (o : Option ℕ) → v ≡ s → IsWithin v → o ≡ passing_behind ahead header v →
    IfSome o (λ count. ForSome (passing s) (λ p. PassesBehind p.id p.missing (ahead + count) s))
looked-behind ahead header v s o same w e =
    subst (λ (x : Session). IfSome o (λ count. ForSome (passing x) (λ p. PassesBehind p.id p.missing (ahead + count) x))) same (some-looked ahead header v o w e)
