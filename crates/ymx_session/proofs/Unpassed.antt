-- A feed that goes no further than to payload that may be passed on.
use Rattle.std.proofs.Common.{◌≡◌, ℕ, ◌+◌, ◌-◌, ◌<◌, ◌≤◌, ◌==◌, nat_lt, List, [], ◌∷◌, ◌++◌, length, take, drop, Bool, true, false, not, ◌&&◌, ◌||◌, if◌then◌else◌, Option, None, Some, refl, sym, ap, subst, arith}
use Rattle.std.specs.Prelude.{is_some}
use Rattle.std.specs.Option.{option_map}
use Rattle.std.proofs.lemmas.Grind.{common_steps}
use Rattle.std.proofs.lemmas.Bool.Decides.{nat_tests}
use Rattle.std.proofs.Math.Seq.{take-add}
use Rattle.ymx_machine.specs.shared.Lists.{look, change}
use Rattle.ymx_machine.specs.shared.Phases.{is_live}
use Rattle.ymx_machine.proofs.Lists.{look-change_same}
use Rattle.ymx_model.specs.declared.types.Status.{Status}
use Rattle.ymx_model.specs.declared.types.Status.TheVariants.{Running, Lost, Broken, Closed}
use Rattle.ymx_model.specs.session.Records.{End, takes_payload, receive_data}
use Rattle.ymx_model.specs.session.Sessions.{Session, Incoming, is_deaf}
use Rattle.ymx_model.specs.session.Sessions.Incoming.{Head, Payload}
use Rattle.ymx_model.specs.session.Feeds.{Takes, byte_comes}
use Rattle.ymx_session.specs.Arriving.{IsPart}
use Rattle.ymx_session.specs.Passing.{passing, is_read_up, TakesUnpassed}
use Rattle.ymx_session.specs.declared.arriving.Part.{Part}
use Rattle.ymx_session.specs.declared.arriving.Part.TheVariants as part
use Rattle.ymx_session.specs.declared.passing.Passing.{Passing}

-- ---- one run after another

unpassed-join : (a b : List ℕ) (s t u : Session) → TakesUnpassed a s t → TakesUnpassed b t u → TakesUnpassed (a ++ b) s u
unpassed-join [] b s t u p q = subst (λ (x : Session). TakesUnpassed b x u) p q
unpassed-join (x ∷ a) b s t u p q = (p.0, p.1, unpassed-join a b (byte_comes p.0 x s) t u p.2 q)

pub unpassed-step : (f k : ℕ) (input part : List ℕ) (s t u : Session) → part ≡ drop f input → TakesUnpassed (take f input) s t → TakesUnpassed (take k part) t u → TakesUnpassed (take (f + k) input) s u
unpassed-step f k input part s t u e p q =
    let go = unpassed-join (take f input) (take k (drop f input)) s t u p (subst (λ (x : List ℕ). TakesUnpassed (take k x) t u) e q) in
    subst (λ (x : List ℕ). TakesUnpassed x s u) (sym (take-add f k input)) go

-- ---- a session that drops what comes

deaf-none : (st : Status) (s : Session) → s.status ≡ st → is_deaf st ≡ true → passing s ≡ None
deaf-none Running s e d = cc
deaf-none Lost s e d = rw e refl
deaf-none (Broken f) s e d = cc
deaf-none Closed s e d = rw e refl

deaf-unpassed : (bytes : List ℕ) (s : Session) → is_deaf s.status ≡ true → TakesUnpassed bytes s s
deaf-unpassed [] s d = refl
deaf-unpassed (b ∷ bs) s d =
    let same : byte_comes false b s ≡ s = rw d refl in
    (false, deaf-none s.status s refl d, subst (λ (x : Session). TakesUnpassed bs x s) (sym same) (deaf-unpassed bs s d))

pub unpassed-rest : (f : ℕ) (input : List ℕ) (s t : Session) → f ≤ length input → is_deaf t.status ≡ true → TakesUnpassed (take f input) s t → TakesUnpassed (take (length input) input) s t
unpassed-rest f input s t l d p =
    let e : take f input ++ drop f input ≡ take (length input) input = grind (arith, common_steps) in
    subst (λ (x : List ℕ). TakesUnpassed x s t) e (unpassed-join (take f input) (drop f input) s t t p (deaf-unpassed (drop f input) t d))

-- ---- a header

head-none : (seen : List ℕ) (s : Session) → s.status ≡ Running → s.incoming ≡ Head seen → passing s ≡ None
head-none seen s run inc = rw (run, inc) refl

-- a byte of a header that isn't whole with it
head-byte : (no_memory : Bool) (b : ℕ) (seen : List ℕ) (s : Session) → s.status ≡ Running → s.incoming ≡ Head seen → length seen < 11 → byte_comes no_memory b s ≡ record s { incoming = Head (seen ++ b ∷ []) }
head-byte no_memory b seen s run inc few = let more : (length seen == 11) ≡ false = grind (arith, nat_tests) in rw (run, inc, more) refl

longer : (seen : List ℕ) (b : ℕ) → length (seen ++ b ∷ []) ≡ length seen + 1
longer seen b = grind (arith, common_steps)

head-unpassed : (bytes seen : List ℕ) (s t : Session) (k : ℕ) → s.status ≡ Running → s.incoming ≡ Head seen → length seen + length bytes ≤ 12 → Takes bytes s t k → TakesUnpassed bytes s t
head-unpassed [] seen s t k run inc few took = took.0
head-unpassed (b ∷ []) seen s t k run inc few took = (took.0, head-none seen s run inc, took.4.0)
head-unpassed (b ∷ c ∷ bs) seen s t k run inc few took =
    let next = head-byte took.0 b seen s run inc (omega arith) in
    let long = longer seen b in
    let later : TakesUnpassed (c ∷ bs) (record s { incoming = Head (seen ++ b ∷ []) }) t =
    head-unpassed (c ∷ bs) (seen ++ b ∷ []) (record s { incoming = Head (seen ++ b ∷ []) }) t took.1 run refl (omega arith) (subst (λ (x : Session). Takes (c ∷ bs) x t took.1) next took.4) in
    (took.0, head-none seen s run inc, subst (λ (x : Session). TakesUnpassed (c ∷ bs) x t) (sym next) later)

-- ---- a payload

and-false : (a b : Bool) → (a && b && false) ≡ false
and-false true true = refl
and-false true false = refl
and-false false b = refl

not-none : (b : ℕ) (xs : List ℕ) → (length (xs ++ b ∷ []) == 0) ≡ false
not-none b xs = grind (arith, nat_tests, common_steps)

-- a stream that may not pass its payload on may not do so after a byte more
grown : (b : ℕ) (e : End) → is_read_up (Some e) ≡ false → is_read_up (Some (receive_data (b ∷ []) e)) ≡ false
grown b e h = of (takes_payload e) refl
  where
    of : (x : Bool) → takes_payload e ≡ x → is_read_up (Some (receive_data (b ∷ []) e)) ≡ false
    of true x = let some = not-none b e.reader.unread in rw (x, some) (and-false (is_live e.phase) (not e.reader.ended))
    of false x = rw x h

grown-at : (b : ℕ) (o : Option End) → is_read_up o ≡ false → is_read_up (option_map (receive_data (b ∷ [])) o) ≡ false
grown-at b None h = refl
grown-at b (Some e) h = grown b e h

if-none : (x : Bool) (p : Passing) → (if x then Some p else None) ≡ None → x ≡ false
if-none true p e = cc
if-none false p e = refl

more-only : (fin : Bool) → (fin && false) ≡ false
more-only true = refl
more-only false = refl

-- what a byte of a payload leaves, of which more lack
record StillNone (id n : ℕ) (fin discarded : Bool) (t : Session) : Type 0 where
  run : t.status ≡ Running
  inc : t.incoming ≡ Payload id n fin discarded
  none : passing t ≡ None

still-none : (no_memory : Bool) (b id n : ℕ) (fin discarded : Bool) (s : Session) → s.status ≡ Running → s.incoming ≡ Payload id n fin discarded → 1 < n → passing s ≡ None → StillNone id (n - 1) fin discarded (byte_comes no_memory b s)
still-none no_memory b id n fin true s run inc more none =
    let two : nat_lt 1 n ≡ true = grind (arith, nat_tests) in
    let next : byte_comes no_memory b s ≡ record s { incoming = Payload id (n - 1) fin true } = rw (run, inc, two) refl in
    subst (λ (x : Session). StillNone id (n - 1) fin true x) (sym next) (record { run = run; inc = refl; none = rw run refl })
still-none no_memory b id n fin false s run inc more none =
    let two : nat_lt 1 n ≡ true = grind (arith, nat_tests) in
    let no_end = more-only fin in
    let next : byte_comes no_memory b s ≡ record s { incoming = Payload id (n - 1) fin false; table = record s.table { entries = change id (receive_data (b ∷ [])) s.table.entries } } = rw (run, inc, two, no_end) refl in
    let before : (if is_read_up (look id s.table.entries) then Some (record { id = id; missing = n }) else None) ≡ None = rw (run, inc) at none in
    let shut : is_read_up (look id s.table.entries) ≡ false = if-none _ _ before in
    let same : look id (change id (receive_data (b ∷ [])) s.table.entries) ≡ option_map (receive_data (b ∷ [])) (look id s.table.entries) = look-change_same id (receive_data (b ∷ [])) s.table.entries in
    let still : is_read_up (look id (change id (receive_data (b ∷ [])) s.table.entries)) ≡ false = rw same (grown-at b (look id s.table.entries) shut) in
    subst (λ (x : Session). StillNone id (n - 1) fin false x) (sym next) (record { run = run; inc = refl; none = rw (run, still) refl })

payload-unpassed : (bytes : List ℕ) (id n : ℕ) (fin discarded : Bool) (s t : Session) (k : ℕ) → s.status ≡ Running → s.incoming ≡ Payload id n fin discarded → length bytes ≤ n → passing s ≡ None → Takes bytes s t k → TakesUnpassed bytes s t
payload-unpassed [] id n fin discarded s t k run inc few none took = took.0
payload-unpassed (b ∷ []) id n fin discarded s t k run inc few none took = (took.0, none, took.4.0)
payload-unpassed (b ∷ c ∷ bs) id n fin discarded s t k run inc few none took =
    let next = still-none took.0 b id n fin discarded s run inc (omega arith) none in
    (took.0, none, payload-unpassed (c ∷ bs) id (n - 1) fin discarded (byte_comes took.0 b s) t took.1 next.run next.inc (omega arith) next.none took.4)

-- ---- a part of either

here-unpassed : (limit : ℕ) (p : Part) (bytes : List ℕ) (now : Incoming) (s t : Session) (k : ℕ) → s.status ≡ Running → IsPart limit s.incoming now bytes p → passing s ≡ None → Takes bytes s t k → TakesUnpassed bytes s t
here-unpassed limit part.More bytes now s t k run is none took = head-unpassed bytes is.seen s t k run is.was (let few = is.few in omega arith) took
here-unpassed limit (part.Head h) bytes now s t k run is none took = head-unpassed bytes is.0.seen s t k run is.0.was (let whole = is.0.whole in omega arith) took
here-unpassed limit (part.Fault fault) bytes now s t k run is none took = head-unpassed bytes is.1.seen s t k run is.1.was (let whole = is.1.whole in omega arith) took
here-unpassed limit (part.Piece id end discarded) bytes now s t k run is none took = payload-unpassed bytes id is.missing is.fin discarded s t k run is.was is.within none took

pub part-unpassed : (limit : ℕ) (p : Part) (bytes : List ℕ) (now : Incoming) (v s t : Session) (k : ℕ) → v ≡ s → s.status ≡ Running → IsPart limit v.incoming now bytes p → Takes bytes s t k → passing s ≡ None → TakesUnpassed bytes s t
part-unpassed limit p bytes now v s t k e run is took none =
    let i : v.incoming ≡ s.incoming = ap (λ (x : Session). x.incoming) e in
    here-unpassed limit p bytes now s t k run (subst (λ (x : Incoming). IsPart limit x now bytes p) i is) none took

-- it did not stop, so nothing may be passed on
pub goes-on : (stuck to_payload : Bool) (o : Option Passing) → false ≡ (stuck || to_payload && is_some o) → to_payload ≡ true → o ≡ None
goes-on true to_payload o e t = cc
goes-on false true None e t = refl
goes-on false true (Some p) e t = cc
goes-on false false o e t = cc
