-- Bytes that are written and go out at once are a write and then an emission.
use Rattle.std.proofs.Common.{◌≡◌, ℕ, zero, suc, ◌+◌, ◌-◌, ◌<◌, ◌≤◌, ◌==◌, nat_lt, nat_le, min, List, [], ◌∷◌, ◌++◌, length, take, drop, Bool, true, false, not, ◌&&◌, ◌||◌, if◌then◌else◌, Option, None, Some, refl, sym, ap, ◌∙◌, subst, arith, length-append}
use Rattle.std.specs.Prelude.{is_some}
use Rattle.std.specs.Option.{ForSome}
use Rattle.std.proofs.lemmas.Grind.{common_steps}
use Rattle.std.proofs.lemmas.Bool.Decides.{nat_tests}
use Rattle.ymx_header.proofs.Spellings.{length-spelling}
use Rattle.ymx_header.specs.declared.header.Header.{Header}
use Rattle.ymx_header.specs.Headers.{spelling}
use Rattle.ymx_machine.proofs.Lists.{look-change_there}
use Rattle.ymx_machine.proofs.Tests.{is_le, is_lt, none_of, both_of, negated}
use Rattle.ymx_machine.specs.declared.types.Call.TheVariants as call
use Rattle.ymx_machine.specs.declared.types.Reply.TheVariants as reply
use Rattle.ymx_machine.specs.declared.types.Wrote.TheVariants.{Took}
use Rattle.ymx_machine.specs.shared.Limits.{data_limit}
use Rattle.ymx_machine.specs.shared.Lists.{look, change, place}
use Rattle.ymx_machine.specs.shared.Phases.{Phase}
use Rattle.ymx_machine.specs.shared.Replies.{write_reply}
use Rattle.ymx_machine.specs.shared.Phases.Phase.{Unborn, Offered, Live, WasReset, Refused, Lingering, Gone}
use Rattle.ymx_model.specs.declared.types.FrameKind.TheVariants.{Data}
use Rattle.ymx_model.specs.declared.types.Status.{Status}
use Rattle.ymx_model.specs.declared.types.Status.TheVariants.{Running, Lost, Broken, Closed}
use Rattle.ymx_model.specs.session.Records.{End, end_write}
use Rattle.ymx_model.specs.session.FramesDue.{is_empty, is_due, credit_due, fin_due, next_kind, begin_frame, spelled, frame}
use Rattle.ymx_model.specs.session.Tables.{Table, with_record, pass_turn, any_due, due_ids, round}
use Rattle.ymx_model.specs.session.Pings.{first_asked}
use Rattle.ymx_model.specs.session.GoAway.{away_due}
use Rattle.ymx_model.specs.session.Sessions.{Session, Outgoing, nothing_outgoing, reap, is_running, is_broken, is_lost, is_closed, on_stream}
use Rattle.ymx_model.specs.session.Emissions.{Flows, Emits, is_ready, no_answers, in_turn, is_first}
use Rattle.ymx_model.specs.session.Histories.{CallGives}
use Rattle.ymx_model.specs.session.Histories.CallGives.{Outcome as HasOutcome}
use Rattle.ymx_half.specs.Through.{MaySend, sent}
use Rattle.ymx_table.specs.declared.turn.NextFrame.{NextFrame}
use Rattle.ymx_table.specs.Turns.{IsNextFrame}
use Rattle.ymx_session.specs.Streams.{room_of}
use Rattle.ymx_session.specs.Turns.{NoneOfSession}
use Rattle.ymx_session.specs.Through.{goes_through, WritesThrough}
use Rattle.ymx_session.proofs.Frames.{straight-flows}

-- ---- whose bytes go through

-- a stream to which bytes may be written
pub record HasRoom (id : ℕ) (s : Session) : Type 0 where
  pub running : s.status ≡ Running
  pub stream : End
  pub there : look id s.table.entries ≡ Some stream
  pub live : stream.phase ≡ Live
  pub unfinished : stream.writer.finished ≡ false
  pub room : room_of id s ≡ stream.writer.credit

none-room : (n : ℕ) → n ≡ 0 → 0 < n → ⊥
none-room n e h = absurd (omega arith)

pub has-room : (id : ℕ) (s : Session) → 0 < room_of id s → HasRoom id s
has-room id s h = of s.status refl
  where
    by-finished : s.status ≡ Running → (e : End) → look id s.table.entries ≡ Some e → e.phase ≡ Live → (b : Bool) → e.writer.finished ≡ b → HasRoom id s
    by-finished run e l live true f = absurd (none-room (room_of id s) (rw (run, l, live, f) refl) h)
    by-finished run e l live false f = record { running = run; stream = e; there = l; live = live; unfinished = f; room = rw (run, l, live, f) refl }

    by-phase : s.status ≡ Running → (e : End) → look id s.table.entries ≡ Some e → (p : Phase) → e.phase ≡ p → HasRoom id s
    by-phase run e l Live p = by-finished run e l p e.writer.finished refl
    by-phase run e l Unborn p = absurd (none-room (room_of id s) (rw (run, l, p) refl) h)
    by-phase run e l Offered p = absurd (none-room (room_of id s) (rw (run, l, p) refl) h)
    by-phase run e l WasReset p = absurd (none-room (room_of id s) (rw (run, l, p) refl) h)
    by-phase run e l Refused p = absurd (none-room (room_of id s) (rw (run, l, p) refl) h)
    by-phase run e l Lingering p = absurd (none-room (room_of id s) (rw (run, l, p) refl) h)
    by-phase run e l Gone p = absurd (none-room (room_of id s) (rw (run, l, p) refl) h)

    by-look : s.status ≡ Running → (o : Option End) → look id s.table.entries ≡ o → HasRoom id s
    by-look run None l = absurd (none-room (room_of id s) (rw (run, l) refl) h)
    by-look run (Some e) l = by-phase run e l e.phase refl

    lost : (b : Bool) (n : ℕ) → (if b || true then 0 else n) ≡ 0
    lost true n = refl
    lost false n = refl

    of : (st : Status) → s.status ≡ st → HasRoom id s
    of Running run = by-look run (look id s.table.entries) refl
    of Lost st = absurd (none-room (room_of id s) (rw st (lost _ _)) h)
    of (Broken fault) st = absurd (none-room (room_of id s) (rw st (lost _ _)) h)
    of Closed st = absurd (none-room (room_of id s) (rw st refl) h)

-- nothing is due of a session that runs
record IsQuiet (s : Session) : Type 0 where
  outgoing : is_empty s.outgoing.bytes ≡ true
  error_due : (s.error_due && is_broken s.status) ≡ false
  away : away_due s.away.here ≡ false
  answers : no_answers s.answers ≡ true
  pings : is_some (first_asked s.pings.pending) ≡ false
  streams : any_due s.table.window s.table.entries ≡ false

unless : (b : Bool) → not b ≡ false → b ≡ true
unless true e = refl
unless false e = sym e

-- four and six that are all false
none-of-four : (a b c d : Bool) → (a || b || c || d) ≡ false → (a ≡ false) × (b ≡ false) × (c ≡ false) × (d ≡ false)
none-of-four a b c d e =
    let x = none_of (a || b || c) d e in let y = none_of (a || b) c x.0 in let z = none_of a b y.0 in (z.0, z.1, y.1, x.1)

none-of-six : (a b c d f g : Bool) → (a || b || c || d || f || g) ≡ false → (a ≡ false) × (b ≡ false) × (c ≡ false) × (d ≡ false) × (f ≡ false) × (g ≡ false)
none-of-six a b c d f g e =
    let x = none_of (a || b || c || d || f) g e in let y = none_of (a || b || c || d) f x.0 in let z = none-of-four a b c d y.0 in
    (z.0, z.1, z.2, z.3, y.1, x.1)

quiet : (s : Session) → s.status ≡ Running → is_ready s ≡ false → IsQuiet s
quiet s run e =
    let own = s.error_due && is_broken s.status in
    let due = away_due s.away.here || not (no_answers s.answers) || is_some (first_asked s.pings.pending) || any_due s.table.window s.table.entries in
    let a = none_of (not (is_empty s.outgoing.bytes) || own) (is_running s.status && due) e in
    let b = none_of (not (is_empty s.outgoing.bytes)) own a.0 in
    let c : due ≡ false = rw run at a.1 in
    let d = none-of-four (away_due s.away.here) (not (no_answers s.answers)) (is_some (first_asked s.pings.pending)) (any_due s.table.window s.table.entries) c in
    record { outgoing = unless _ b.0; error_due = b.1; away = d.0; answers = unless _ d.1; pings = d.2; streams = d.3 }

-- ---- the stream's record

drop-all : (n : ℕ) (xs : List ℕ) → length xs ≤ n → drop n xs ≡ []
drop-all n xs l = grind (arith, common_steps)

take-all : (n : ℕ) (xs : List ℕ) → length xs ≤ n → take n xs ≡ xs
take-all n xs l = grind (arith, common_steps)

some-there : (xs : List ℕ) → 0 < length xs → is_empty xs ≡ false
some-there [] l = absurd (omega arith)
some-there (x ∷ xs) l = refl

empty-is : (xs : List ℕ) → is_empty xs ≡ true → xs ≡ []
empty-is [] e = refl
empty-is (x ∷ xs) e = cc

-- nothing is due of it
record IsIdle (window : ℕ) (e : End) : Type 0 where
  syn : e.marks.syn ≡ false
  ack : e.marks.ack ≡ false
  rst : e.marks.rst ≡ false
  credit : credit_due window e ≡ false
  unsent : e.writer.unsent ≡ []
  fin : fin_due e ≡ false

idle : (window : ℕ) (e : End) → is_due window e ≡ false → IsIdle window e
idle window e d =
    let n = none-of-six e.marks.syn e.marks.ack e.marks.rst (credit_due window e) (not (is_empty e.writer.unsent)) (fin_due e) d in
    record { syn = n.0; ack = n.1; rst = n.2; credit = n.3; unsent = empty-is e.writer.unsent (unless _ n.4); fin = n.5 }

module _ (window id : ℕ) (bytes : List ℕ) (e : End) (h : IsIdle window e) (some : 0 < length bytes) (few : length bytes ≤ data_limit) where
  written : (end_write bytes e).writer.unsent ≡ bytes
  written = let none = h.unsent in rw none refl

  full : is_empty (e.writer.unsent ++ bytes) ≡ false
  full = let none = h.unsent in rw none (some-there bytes some)

  data-next : next_kind window (end_write bytes e) ≡ Some Data
  data-next = let a = h.syn in let b = h.ack in let c = h.rst in let d = h.credit in let f = full in rw (a, b, c, d, f) refl

  due-then : is_due window (end_write bytes e) ≡ true
  due-then = let a = h.syn in let b = h.ack in let c = h.rst in let d = h.credit in let f = full in rw (a, b, c, d, f) refl

  spelled-is : spelled Data window data_limit id (end_write bytes e) ≡ frame 0 0 id (length bytes) bytes
  spelled-is =
      let w : take data_limit (e.writer.unsent ++ bytes) ≡ bytes = ap (take data_limit) written ∙ take-all data_limit bytes few in
      ap (λ (x : List ℕ). frame 0 0 id (length x) x) w

  idle-after : is_due window (sent bytes e) ≡ false
  idle-after =
      let none : drop data_limit (e.writer.unsent ++ bytes) ≡ [] = ap (drop data_limit) written ∙ drop-all data_limit bytes few in
      let a = h.syn in let b = h.ack in let c = h.rst in let d = h.credit in let f = h.fin in rw (a, b, c, d, none, f) refl

-- ---- the streams that have something due

idle-of : (window id : ℕ) (ps : List (ℕ × End)) (e : End) → any_due window ps ≡ false → look id ps ≡ Some e → is_due window e ≡ false
idle-of window id [] e a l = cc
idle-of window id (p ∷ ps) e a l = of (p.0 == id) refl (idle-of window id ps e)
  where
    both : (is_due window p.1 ≡ false) × (any_due window ps ≡ false)
    both = none_of (is_due window p.1) (any_due window ps) a

    of : (b : Bool) → (p.0 == id) ≡ b → (any_due window ps ≡ false → look id ps ≡ Some e → is_due window e ≡ false) → is_due window e ≡ false
    of true t more = let x : Some p.1 ≡ Some e = rw t at l in let k : p.1 ≡ e = cc in subst (λ (y : End). is_due window y ≡ false) k both.0
    of false t more = more both.1 (rw t at l)

any-drop : (window n : ℕ) (ps : List (ℕ × End)) → any_due window ps ≡ false → any_due window (drop n ps) ≡ false
any-drop window zero ps a = a
any-drop window (suc n) [] a = refl
any-drop window (suc n) (p ∷ ps) a = any-drop window n ps (none_of (is_due window p.1) (any_due window ps) a).1

no-ids : (window : ℕ) (ps : List (ℕ × End)) → any_due window ps ≡ false → due_ids window ps ≡ []
no-ids window [] a = refl
no-ids window (p ∷ ps) a = let n = none_of (is_due window p.1) (any_due window ps) a in rw (n.0, no-ids window ps n.1) refl

-- where nothing was due and one changes to what isn't, nothing is
any-change : (window id : ℕ) (f : End → End) (ps : List (ℕ × End)) (e : End) → any_due window ps ≡ false → look id ps ≡ Some e → is_due window (f e) ≡ false → any_due window (change id f ps) ≡ false
any-change window id f [] e a l d = refl
any-change window id f (p ∷ ps) e a l d = of (p.0 == id) refl (λ b m. any-change window id f ps e b m d)
  where
    both : (is_due window p.1 ≡ false) × (any_due window ps ≡ false)
    both = none_of (is_due window p.1) (any_due window ps) a

    of : (b : Bool) → (p.0 == id) ≡ b → (any_due window ps ≡ false → look id ps ≡ Some e → any_due window (change id f ps) ≡ false) → any_due window (change id f (p ∷ ps)) ≡ false
    of true t more =
        let x : Some p.1 ≡ Some e = rw t at l in
        let k : p.1 ≡ e = cc in
        let g : is_due window (f p.1) ≡ false = subst (λ (y : End). is_due window (f y) ≡ false) (sym k) d in
        rw (t, g) both.1
    of false t more = let g = more both.1 (rw t at l) in rw (t, both.0) g

-- where nothing was due and one changes to what is, that is first, wherever the turn starts
module _ (window id : ℕ) (f : End → End) (e : End) (d : is_due window (f e) ≡ true) where
  first-round : (n : ℕ) (ps : List (ℕ × End)) → any_due window ps ≡ false → look id ps ≡ Some e →
      is_first id (due_ids window (drop n (change id f ps)) ++ due_ids window (take n (change id f ps))) ≡ true
  first-round n [] a l = cc
  first-round n (p ∷ ps) a l = of n (p.0 == id) refl (λ m. first-round m ps)
    where
      both : (is_due window p.1 ≡ false) × (any_due window ps ≡ false)
      both = none_of (is_due window p.1) (any_due window ps) a

      due : Some p.1 ≡ Some e → is_due window (f p.1) ≡ true
      due x = let k : p.1 ≡ e = cc in subst (λ (y : End). is_due window (f y) ≡ true) (sym k) d

      Round : ℕ → List (ℕ × End) → Type 0
      Round m xs = is_first id (due_ids window (drop m xs) ++ due_ids window (take m xs)) ≡ true

      of : (n : ℕ) (b : Bool) → (p.0 == id) ≡ b → ((m : ℕ) → any_due window ps ≡ false → look id ps ≡ Some e → Round m (change id f ps)) → Round n (change id f (p ∷ ps))
      of zero true t more = let x : Some p.1 ≡ Some e = rw t at l in let g = due x in rw (t, g) t
      of zero false t more = let g = more zero both.1 (rw t at l) in rw (t, both.0) g
      of (suc n) true t more =
          let x : Some p.1 ≡ Some e = rw t at l in
          let g = due x in
          let none = no-ids window (drop n ps) (any-drop window n ps both.1) in
          rw (t, none, g) t
      of (suc n) false t more = let g = more n both.1 (rw t at l) in rw (t, both.0) g

-- two changes of one record are one
change-twice : (id : ℕ) (f g : End → End) (ps : List (ℕ × End)) → change id (λ e. g (f e)) ps ≡ change id g (change id f ps)
change-twice id f g [] = refl
change-twice id f g (p ∷ ps) = let more = change-twice id f g ps in grind (arith, nat_tests)

-- ---- they go through

-- all that is known of bytes that do
record Through (id : ℕ) (bytes : List ℕ) (size : ℕ) (s : Session) : Type 0 where
  some : 0 < length bytes
  one_frame : length bytes ≤ data_limit
  fits : 12 + length bytes ≤ size
  running : s.status ≡ Running
  stream : End
  there : look id s.table.entries ≡ Some stream
  live : stream.phase ≡ Live
  unfinished : stream.writer.finished ≡ false
  credit : length bytes ≤ stream.writer.credit
  quiet_now : IsQuiet s
  idle_now : IsIdle s.table.window stream

through : (id : ℕ) (bytes : List ℕ) (size : ℕ) (s : Session) → goes_through id (length bytes) size s ≡ true → Through id bytes size s
through id bytes size s h =
    let n = length bytes in
    let a = both_of (nat_lt 0 n && nat_le n data_limit && nat_le (12 + n) size && nat_le n (room_of id s)) (not (is_ready s)) h in
    let b = both_of (nat_lt 0 n && nat_le n data_limit && nat_le (12 + n) size) (nat_le n (room_of id s)) a.0 in
    let c = both_of (nat_lt 0 n && nat_le n data_limit) (nat_le (12 + n) size) b.0 in
    let d = both_of (nat_lt 0 n) (nat_le n data_limit) c.0 in
    let some = is_lt 0 n d.0 in
    let room = is_le n (room_of id s) b.1 in
    let r = has-room id s (omega arith) in
    let q = quiet s r.running (negated (is_ready s) a.1) in
    record {
      some = some;
      one_frame = is_le n data_limit d.1;
      fits = is_le (12 + n) size c.1;
      running = r.running;
      stream = r.stream;
      there = r.there;
      live = r.live;
      unfinished = r.unfinished;
      credit = rw (← r.room) room;
      quiet_now = q;
      idle_now = idle s.table.window r.stream (idle-of s.table.window id s.table.entries r.stream q.streams r.there);
    }

-- so the record may send them
pub may-send : (id : ℕ) (bytes : List ℕ) (size : ℕ) (v s : Session) → v ≡ s → goes_through id (length bytes) size s ≡ true → ForSome (look id v.table.entries) (MaySend bytes)
may-send id bytes size v s e h =
    let k = through id bytes size v (ap (goes_through id (length bytes) size) e ∙ h) in
    λ x l.
    let same : Some k.stream ≡ Some x = sym k.there ∙ l in
    let is : k.stream ≡ x = cc in
    subst (λ (y : End). MaySend bytes y) is (record { unfinished = k.unfinished; all_sent = k.idle_now.unsent; credit = k.credit; one_frame = k.one_frame })

frame-length : (id : ℕ) (bytes : List ℕ) → length (frame 0 0 id (length bytes) bytes) ≡ 12 + length bytes
frame-length id bytes =
    let h : Header = record { version = 0; kind = 0; flags = 0; id = id; length = length bytes } in
    let n = length-spelling h in let m = length-append (spelling h) bytes in omega (arith, n, m)

none-test : (n : ℕ) → 0 < n → (n == 0) ≡ false
none-test n l = grind (arith, nat_tests)

module _ (id : ℕ) (bytes : List ℕ) (size : ℕ) (s : Session) (k : Through id bytes size s) where
  abbrev mid : Session
  mid = on_stream id (end_write bytes) s

  abbrev after : Session
  after = record s { table = pass_turn id (with_record id (sent bytes) s.table); outgoing = nothing_outgoing }

  -- the write takes them all
  takes-all : write_reply false bytes k.stream.phase k.stream.writer.finished k.stream.writer.credit ≡ reply.Wrote (Took (length bytes))
  takes-all =
      let live = k.live in
      let unfinished = k.unfinished in
      let some = k.some in
      let credit = k.credit in
      let a = none-test (length bytes) some in
      let b = none-test k.stream.writer.credit (omega arith) in
      let m : min (length bytes) k.stream.writer.credit ≡ length bytes = omega arith in
      rw (live, unfinished, a, b, m) refl

  closed : is_closed s.status ≡ false
  closed = let run = k.running in rw run refl

  lost : is_lost s.status ≡ false
  lost = let run = k.running in rw run refl

  wrote : CallGives s (call.Write id bytes) (reply.Wrote (Took (length bytes))) mid
  wrote =
      let there = k.there in
      let a = none-test (length bytes) k.some in
      let whole = take-all (length bytes) bytes (omega arith) in
      HasOutcome (rw (closed, there, lost, takes-all) refl) (rw (closed, there, lost, takes-all, a, whole) refl)

  -- the frame that goes is that of these bytes
  abbrev next : NextFrame
  next = record { id = id; kind = Data; length = 12 + length bytes; place = 0 }

  abbrev is-next : IsNextFrame data_limit next mid.table
  is-next = record {
    end = end_write bytes k.stream;
    there = look-change_there id (end_write bytes) s.table.entries k.stream k.there;
    due = due-then s.table.window id bytes k.stream k.idle_now k.some k.one_frame;
    kind = data-next s.table.window id bytes k.stream k.idle_now k.some k.one_frame;
    long = sym (ap length (spelled-is s.table.window id bytes k.stream k.idle_now k.some k.one_frame) ∙ frame-length id bytes);
  }

  first : is_first id (round mid.table) ≡ true
  first =
      first-round s.table.window id (end_write bytes) k.stream (due-then s.table.window id bytes k.stream k.idle_now k.some k.one_frame)
      s.table.turn s.table.entries k.quiet_now.streams k.there

  none : NoneOfSession mid
  none = record {
    outgoing = k.quiet_now.outgoing;
    error_due = k.quiet_now.error_due;
    away = λ r. k.quiet_now.away;
    answers = λ r. k.quiet_now.answers;
    pings = λ r. k.quiet_now.pings;
  }

  abbrev begun : Session
  begun = record mid { table = pass_turn id (with_record id (begin_frame s.table.window data_limit Data) mid.table); outgoing = nothing_outgoing }

  -- the record stays, as the caller has it
  reaped : reap id begun ≡ begun
  reaped =
      let one = look-change_there id (end_write bytes) s.table.entries k.stream k.there in
      let two = look-change_there id (begin_frame s.table.window data_limit Data) mid.table.entries (end_write bytes k.stream) one in
      let live = k.live in
      rw (two, live) refl

  begun-after : begun ≡ after
  begun-after =
      ap (λ (es : List (ℕ × End)). record s { table = record s.table { entries = es; turn = place id es + 1 }; outgoing = nothing_outgoing })
      (sym (change-twice id (end_write bytes) (begin_frame s.table.window data_limit Data) s.table.entries))

  running : is_running s.status ≡ true
  running = let run = k.running in rw run refl

  goes-out : (room rest : List ℕ) → room ≡ frame 0 0 id (length bytes) bytes ++ rest → Flows in_turn (take (12 + length bytes) room) mid after
  goes-out room rest w =
      straight-flows next room rest mid after is-next first running none
      (w ∙ ap (λ (x : List ℕ). x ++ rest) (sym (spelled-is s.table.window id bytes k.stream k.idle_now k.some k.one_frame)))
      (sym (reaped ∙ begun-after))

  still-quiet : is_ready after ≡ false
  still-quiet =
      let error_due = k.quiet_now.error_due in
      let away = k.quiet_now.away in
      let answers = k.quiet_now.answers in
      let pings = k.quiet_now.pings in
      let streams = any-change s.table.window id (sent bytes) s.table.entries k.stream k.quiet_now.streams k.there
      (idle-after s.table.window id bytes k.stream k.idle_now k.some k.one_frame) in
      rw (error_due, running, away, answers, pings, streams) refl

  room-left : room_of id after + length bytes ≡ room_of id s
  room-left =
      let run = k.running in
      let there = k.there in
      let live = k.live in
      let unfinished = k.unfinished in
      let credit = k.credit in
      let l = look-change_there id (sent bytes) s.table.entries k.stream k.there in
      let a : room_of id after ≡ k.stream.writer.credit - length bytes = rw (run, l, live, unfinished) refl in
      let b : room_of id s ≡ k.stream.writer.credit = rw (run, there, live, unfinished) refl in
      omega arith

  emits : (room rest : List ℕ) → room ≡ frame 0 0 id (length bytes) bytes ++ rest → Emits in_turn mid size (take (12 + length bytes) room) after
  emits room rest w = record {
    fits = (let fits = k.fits in grind (arith, common_steps));
    flows = goes-out room rest w;
    full = λ less. still-quiet;
  }

  goes : (room rest : List ℕ) → room ≡ frame 0 0 id (length bytes) bytes ++ rest → WritesThrough id bytes size (take (12 + length bytes) room) s after
  goes room rest w = record { mid = mid; wrote = wrote; emitted = (take (12 + length bytes) room, refl, emits room rest w) }

-- the session after them, as its parts say it
after-is : (id : ℕ) (bytes : List ℕ) (size : ℕ) (v : Session) (k : Through id bytes size v) (table : Table) (out : Outgoing) → table ≡ pass_turn id (with_record id (sent bytes) v.table) → out ≡ nothing_outgoing →
    after id bytes size v k ≡ record v { table = table; outgoing = out }
after-is id bytes size v k table out t o = rw (t, o) refl

pub writes : (id : ℕ) (bytes : List ℕ) (size count : ℕ) (v s : Session) (table : Table) (out : Outgoing) (room rest : List ℕ) → v ≡ s → goes_through id (length bytes) size s ≡ true → count ≡ 12 + length bytes →
    room ≡ frame 0 0 id (length bytes) bytes ++ rest → table ≡ pass_turn id (with_record id (sent bytes) v.table) → out ≡ nothing_outgoing →
    WritesThrough id bytes size (take count room) s (record v { table = table; outgoing = out })
writes id bytes size count v s table out room rest e h n w t o =
    let k = through id bytes size v (ap (goes_through id (length bytes) size) e ∙ h) in
    let all = subst (λ (x : Session). WritesThrough id bytes size (take (12 + length bytes) room) v x) (after-is id bytes size v k table out t o) (goes id bytes size v k room rest w) in
    let same = subst (λ (x : Session). WritesThrough id bytes size (take (12 + length bytes) room) x (record v { table = table; outgoing = out })) e all in
    subst (λ (m : ℕ). WritesThrough id bytes size (take m room) s (record v { table = table; outgoing = out })) (sym n) same

pub quiet-then : (id : ℕ) (bytes : List ℕ) (size : ℕ) (v s : Session) (table : Table) (out : Outgoing) → v ≡ s → goes_through id (length bytes) size s ≡ true →
    table ≡ pass_turn id (with_record id (sent bytes) v.table) → out ≡ nothing_outgoing → is_ready (record v { table = table; outgoing = out }) ≡ false
quiet-then id bytes size v s table out e h t o =
    let k = through id bytes size v (ap (goes_through id (length bytes) size) e ∙ h) in
    subst (λ (x : Session). is_ready x ≡ false) (after-is id bytes size v k table out t o) (still-quiet id bytes size v k)

pub room-then : (id : ℕ) (bytes : List ℕ) (size : ℕ) (v s : Session) (table : Table) (out : Outgoing) → v ≡ s → goes_through id (length bytes) size s ≡ true →
    table ≡ pass_turn id (with_record id (sent bytes) v.table) → out ≡ nothing_outgoing → room_of id (record v { table = table; outgoing = out }) + length bytes ≡ room_of id s
room-then id bytes size v s table out e h t o =
    let k = through id bytes size v (ap (goes_through id (length bytes) size) e ∙ h) in
    subst (λ (x : Session). room_of id x + length bytes ≡ room_of id s) (after-is id bytes size v k table out t o) (room-left id bytes size v k ∙ ap (room_of id) e)
