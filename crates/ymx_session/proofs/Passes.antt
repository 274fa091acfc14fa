-- Payload that is passed on: it comes, and is read at once.
use Rattle.std.proofs.Common.{◌≡◌, ◌≢◌, ℕ, ◌<◌, ◌≤◌, ◌==◌, min, List, [], ◌∷◌, length, take, Bool, true, false, not, ◌&&◌, if◌then◌else◌, Option, None, Some, refl, sym, ap, ◌∙◌, subst, arith}
use Rattle.std.specs.Prelude.{IsSome, IfSome}
use Rattle.std.proofs.lemmas.Grind.{common_steps}
use Rattle.std.proofs.lemmas.Bool.Decides.{nat_tests}
use Rattle.ymx_machine.specs.declared.types.Reply.TheVariants.{Read}
use Rattle.ymx_machine.specs.declared.types.Why.{Why}
use Rattle.ymx_machine.specs.shared.Lists.{look, change}
use Rattle.ymx_machine.specs.shared.Phases.{Phase, is_live}
use Rattle.ymx_machine.specs.shared.Phases.Phase.{Live}
use Rattle.ymx_machine.proofs.Lists.{look-change_there}
use Rattle.ymx_model.specs.declared.types.Status.{Status}
use Rattle.ymx_model.specs.declared.types.Status.TheVariants.{Running, Lost, Broken, Closed}
use Rattle.ymx_model.specs.session.Records.{End, takes_payload, receive_piece, end_read}
use Rattle.ymx_model.specs.session.Tables.{Table, with_record}
use Rattle.ymx_model.specs.session.Sessions.{Session, Incoming}
use Rattle.ymx_model.specs.session.Sessions.Incoming.{Head, Payload}
use Rattle.ymx_model.specs.session.Calls.{read_from}
use Rattle.ymx_model.specs.session.Feeds.{Takes, Feeds, is_stuck, why_of}
use Rattle.ymx_model.specs.session.Histories.CallGives.{Outcome as HasOutcome}
use Rattle.ymx_half.specs.Passing.{MayPass, passed}
use Rattle.ymx_law_session.specs.Limits.{IsWithin, IsIncomingWithin, IsPayloadWithin}
use Rattle.ymx_session.specs.Arriving.{GoesIn}
use Rattle.ymx_session.specs.Passing.{passing, is_read_up, all_fed, Passes, FeedsSome}
use Rattle.ymx_session.specs.Replies.{stream_fault}
use Rattle.ymx_session.specs.Streams.{waiting}
use Rattle.ymx_session.specs.declared.passing.Passing.{Passing}
use Rattle.ymx_session.proofs.Records.{MayRead, waiting-is, read-leaves, consume-gives}
use Rattle.ymx_session.proofs.Steps.{taken-takes}

-- ---- whose payload may be passed on

-- what is known where payload may be passed on
pub record IsPassing (p : Passing) (s : Session) : Type 0 where
  pub running : s.status ≡ Running
  pub fin : Bool
  pub incoming : s.incoming ≡ Payload p.id p.missing fin false
  pub stream : End
  pub there : look p.id s.table.entries ≡ Some stream
  pub live : stream.phase ≡ Live
  pub goes_on : stream.reader.ended ≡ false
  pub read_up : stream.reader.unread ≡ []

live-is : (p : Phase) → is_live p ≡ true → p ≡ Live
live-is p e = grind arith

none-left : (xs : List ℕ) → (length xs == 0) ≡ true → xs ≡ []
none-left xs e = grind (arith, common_steps, nat_tests)

-- what it says of a stream
pub record IsReadUp (e : End) : Type 0 where
  pub live : e.phase ≡ Live
  pub goes_on : e.reader.ended ≡ false
  pub read_up : e.reader.unread ≡ []

read-up : (e : End) → is_read_up (Some e) ≡ true → IsReadUp e
read-up e h = of (is_live e.phase) e.reader.ended refl refl h
  where
    of : (a b : Bool) → is_live e.phase ≡ a → e.reader.ended ≡ b → (a && not b && length e.reader.unread == 0) ≡ true → IsReadUp e
    of true false x y z = record { live = live-is e.phase x; goes_on = y; read_up = none-left e.reader.unread z }
    of true true x y z = cc
    of false b x y z = cc

pub passing-is : (p : Passing) (s : Session) → passing s ≡ Some p → IsPassing p s
passing-is p s h = of s.status s.incoming refl refl
  where
    by-test : (id missing : ℕ) (fin : Bool) → s.status ≡ Running → s.incoming ≡ Payload id missing fin false → (e : End) → look id s.table.entries ≡ Some e → (b : Bool) → is_read_up (Some e) ≡ b →
        (if b then Some (record { id = id; missing = missing }) else None) ≡ Some p → IsPassing p s
    by-test id missing fin run inc e l false t x = cc
    by-test id missing fin run inc e l true t x =
        let r = read-up e t in
        let i : id ≡ p.id = cc in
        let m : missing ≡ p.missing = cc in
        record {
          running = run;
          fin = fin;
          incoming = subst (λ (k : ℕ). s.incoming ≡ Payload k p.missing fin false) i (subst (λ (k : ℕ). s.incoming ≡ Payload id k fin false) m inc);
          stream = e;
          there = subst (λ (k : ℕ). look k s.table.entries ≡ Some e) i l;
          live = r.live;
          goes_on = r.goes_on;
          read_up = r.read_up;
        }

    by-look : (id missing : ℕ) (fin : Bool) → s.status ≡ Running → s.incoming ≡ Payload id missing fin false → (o : Option End) → look id s.table.entries ≡ o → IsPassing p s
    by-look id missing fin run inc None l = let x : None ≡ Some p = rw (run, inc, l) at h in cc
    by-look id missing fin run inc (Some e) l =
        let x : (if is_read_up (Some e) then Some (record { id = id; missing = missing }) else None) ≡ Some p = rw (run, inc, l) at h in
        by-test id missing fin run inc e l (is_read_up (Some e)) refl x

    of : (st : Status) (i : Incoming) → s.status ≡ st → s.incoming ≡ i → IsPassing p s
    of Running (Head bytes) run inc = let x : None ≡ Some p = rw (run, inc) at h in cc
    of Running (Payload id missing fin true) run inc = let x : None ≡ Some p = rw (run, inc) at h in cc
    of Running (Payload id missing fin false) run inc = by-look id missing fin run inc (look id s.table.entries) refl
    of Lost i run inc = let x : None ≡ Some p = rw run at h in cc
    of (Broken fault) i run inc = let x : None ≡ Some p = rw run at h in cc
    of Closed i run inc = let x : None ≡ Some p = rw run at h in cc

pub some-of : (o : Option Passing) → IsSome o → (p : Passing) × (o ≡ Some p)
some-of None h = cc
some-of (Some p) h = (p, refl)

-- ---- these bytes come

-- a record that has nothing unread has just them then
record Received (bytes : List ℕ) (e : End) : Type 0 where
  live : e.phase ≡ Live
  unread : e.reader.unread ≡ bytes

received : (end : Bool) (bytes : List ℕ) (e : End) → e.phase ≡ Live → e.reader.ended ≡ false → e.reader.unread ≡ [] → Received bytes (receive_piece end bytes e)
received false bytes e a b c = record { live = rw (a, b) refl; unread = rw (a, b, c) refl }
received true bytes e a b c = record { live = rw (a, b) refl; unread = rw (a, b, c) refl }

all-test : (n : ℕ) → (n == n) ≡ true
all-test n = grind (arith, nat_tests)

all-taken : (bytes : List ℕ) → take (length bytes) bytes ≡ bytes
all-taken bytes = grind (arith, common_steps)

-- a feed of them takes them all
feeds-all : (bytes : List ℕ) (s t : Session) → t.status ≡ Running → Takes bytes s t 0 → Feeds s bytes (all_fed bytes) t
feeds-all bytes s t run took = record {
  fits = omega arith;
  took = (0, subst (λ (x : List ℕ). Takes x s t 0) (sym (all-taken bytes)) took, omega arith);
  stops = λ k. absurd (omega arith);
  why = let all = all-test (length bytes) in rw (run, all) refl;
}

-- a read of as many gives just them
module _ (id : ℕ) (bytes : List ℕ) (e : End) (t : Session) (run : t.status ≡ Running) (there : look id t.table.entries ≡ Some e) (got : Received bytes e) (some : 0 < length bytes) where
  may : stream_fault id t ≡ None
  may = let live = got.live in rw (run, there, live) refl

  full : 0 < length e.reader.unread
  full = let unread = got.unread in rw unread some

  may-read : MayRead id (length bytes) e t
  may-read = record { may = may; there = there; asked = some; unread = full }

  as-many : length bytes ≡ min (length bytes) (length e.reader.unread)
  as-many = let k : length e.reader.unread ≡ length bytes = ap length got.unread in omega arith

  reads : Read bytes ≡ (read_from id (length bytes) t).reply
  reads =
      let unread : waiting id t ≡ bytes = waiting-is id e t may there ∙ got.unread in
      let whole = all-taken bytes in
      let same : take (length bytes) (take (length bytes) (waiting id t)) ≡ bytes = rw (unread, whole) whole in
      subst (λ (x : List ℕ). Read x ≡ (read_from id (length bytes) t).reply) same (consume-gives id (length bytes) (length bytes) e t may-read as-many)

  leaves : (table : Table) → table ≡ with_record id (end_read (length bytes)) t.table → record t { table = table } ≡ (read_from id (length bytes) t).next
  leaves table w = read-leaves id (length bytes) (length bytes) e table t t refl may-read as-many w

-- ---- they are passed on

-- the stream of the piece is the one that passes
same-stream : (p : Passing) (id : ℕ) (end : Bool) (bytes : List ℕ) (s : Session) (now : Incoming) → IsPassing p s → GoesIn id end false s.incoming now bytes → id ≡ p.id
same-stream p id end bytes s now h g = let e : Payload id g.missing g.fin false ≡ Payload p.id p.missing h.fin false = sym g.was ∙ h.incoming in cc

-- the record of the stream takes these bytes, and has nothing unread
pub may-pass : (p : Passing) (id : ℕ) (end : Bool) (bytes : List ℕ) (v s : Session) (now : Incoming) → v ≡ s → IsWithin s → passing s ≡ Some p → length bytes ≤ p.missing → GoesIn id end false v.incoming now bytes →
    IfSome (look id v.table.entries) (MayPass bytes)
may-pass p id end bytes v s now e w h few g =
    let k : IsPassing p v = passing-is p v (ap passing e ∙ h) in
    let i = same-stream p id end bytes v now k g in
    let there : look id v.table.entries ≡ Some k.stream = subst (λ (j : ℕ). look j v.table.entries ≡ Some k.stream) (sym i) k.there in
    let within : IsWithin v = subst IsWithin (sym e) w in
    let payload : IsPayloadWithin p.id p.missing v.role v.next v.table.entries = subst (λ (x : Incoming). IsIncomingWithin x v.role v.next v.table.entries) k.incoming within.incoming in
    let takes : takes_payload k.stream ≡ true = let live = k.live in let goes_on = k.goes_on in rw (live, goes_on) refl in
    let granted : p.missing ≤ k.stream.reader.granted = payload.granted k.stream k.there takes in
    rw there (record { takes = takes; read_up = k.read_up; granted = omega arith })

-- two changes of one record are one
change-twice : (id : ℕ) (f g : End → End) (ps : List (ℕ × End)) → change id (λ e. g (f e)) ps ≡ change id g (change id f ps)
change-twice id f g [] = refl
change-twice id f g (p ∷ ps) = let more = change-twice id f g ps in grind (arith, nat_tests)

pub passes : (p : Passing) (id : ℕ) (end : Bool) (bytes : List ℕ) (v s : Session) (table : Table) (now : Incoming) → v ≡ s → passing s ≡ Some p → 0 < length bytes → GoesIn id end false v.incoming now bytes →
    table ≡ with_record id (passed end bytes) v.table → Passes p.id bytes s (record v { table = table; incoming = now })
passes p id end bytes v s table now e h some g w =
    let k : IsPassing p v = passing-is p v (ap passing e ∙ h) in
    let i = same-stream p id end bytes v now k g in
    let here : look id v.table.entries ≡ Some k.stream = subst (λ (j : ℕ). look j v.table.entries ≡ Some k.stream) (sym i) k.there in
    let one : Table = with_record id (receive_piece end bytes) v.table in
    let there : look id one.entries ≡ Some (receive_piece end bytes k.stream) = look-change_there id (receive_piece end bytes) v.table.entries k.stream here in
    let mid : Session = record v { table = one; incoming = now } in
    let took : Takes bytes s mid 0 = taken-takes id end false bytes v s one now e (ap (λ (x : Session). x.status) (sym e) ∙ k.running) refl refl g in
    let got = received end bytes k.stream k.live k.goes_on k.read_up in
    let two : table ≡ with_record id (end_read (length bytes)) one =
    w ∙ ap (λ (es : List (ℕ × End)). record v.table { entries = es }) (change-twice id (receive_piece end bytes) (end_read (length bytes)) v.table.entries) in
    subst (λ (j : ℕ). Passes j bytes s (record v { table = table; incoming = now })) i
    (record {
      mid = mid;
      fed = (all_fed bytes, refl, feeds-all bytes s mid k.running took);
      read = HasOutcome (reads id bytes _ mid k.running there got some) (leaves id bytes _ mid k.running there got some table two);
    })

-- ---- a feed of the first bytes

-- as far as it went
front-fed : (input : List ℕ) (s t : Session) (taken n m : ℕ) (why : Why) → taken ≤ length input → Takes (take taken input) s t m → n ≡ min m 4294967295 → why ≡ why_of t.status true →
    FeedsSome s input (record { taken = taken; no_memory = n; why = why }) t
front-fed input s t taken n m why l took k w =
    let long : length (take taken input) ≡ taken = grind (arith, common_steps) in
    let same : take taken (take taken input) ≡ take taken input = grind (arith, common_steps) in
    let all : (taken == length (take taken input)) ≡ true = rw long (all-test taken) in
    record {
      count = taken;
      within = l;
      feeds = (
        record { taken = taken; no_memory = n; why = why },
        refl,
        record {
          fits = omega arith;
          took = (m, subst (λ (x : List ℕ). Takes x s t m) (sym same) took, k);
          stops = λ k. absurd (omega arith);
          why = w ∙ ap (why_of t.status) (sym all);
        },
      );
    }

-- or of all, where no byte more is taken
stuck-fed : (input : List ℕ) (s t : Session) (taken n m : ℕ) (why : Why) → taken ≤ length input → Takes (take taken input) s t m → n ≡ min m 4294967295 → taken ≢ length input → is_stuck t ≡ true →
    why ≡ why_of t.status false → FeedsSome s input (record { taken = taken; no_memory = n; why = why }) t
stuck-fed input s t taken n m why l took k less stuck w =
    let all : (taken == length input) ≡ false = grind (arith, nat_tests) in
    let whole = all-taken input in
    record {
      count = length input;
      within = omega arith;
      feeds = (
        record { taken = taken; no_memory = n; why = why },
        refl,
        subst (λ (x : List ℕ). Feeds s x (record { taken = taken; no_memory = n; why = why }) t) (sym whole) (record {
          fits = l;
          took = (m, took, k);
          stops = λ k. stuck;
          why = w ∙ ap (why_of t.status) (sym all);
        }),
      );
    }

-- it took all
pub whole-fed : (input : List ℕ) (s t : Session) (taken n m : ℕ) (why : Why) (all : Bool) → taken ≤ length input → Takes (take taken input) s t m → n ≡ min m 4294967295 → taken ≡ length input →
    all ≡ (taken == length input) → why ≡ why_of t.status all → FeedsSome s input (record { taken = taken; no_memory = n; why = why }) t
whole-fed input s t taken n m why all l took k e a w =
    let yes : all ≡ true = a ∙ rw e (all-test (length input)) in
    front-fed input s t taken n m why l took k (w ∙ ap (why_of t.status) yes)

-- it stopped before the end
pub rest-fed : (input : List ℕ) (s t : Session) (taken n m : ℕ) (why : Why) (all stuck : Bool) → taken ≤ length input → Takes (take taken input) s t m → n ≡ min m 4294967295 → taken ≢ length input →
    all ≡ not stuck → stuck ≡ is_stuck t → why ≡ why_of t.status all → FeedsSome s input (record { taken = taken; no_memory = n; why = why }) t
rest-fed input s t taken n m why all true l took k less a is w = stuck-fed input s t taken n m why l took k less (sym is) (w ∙ ap (why_of t.status) a)
rest-fed input s t taken n m why all false l took k less a is w = front-fed input s t taken n m why l took k (w ∙ ap (why_of t.status) a)
