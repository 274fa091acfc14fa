-- Payload of one stream that is passed on, and the header after it, leave the other streams alone.
use Rattle.std.proofs.Common.{◌≡◌, ◌≢◌, ℕ, ◌+◌, ◌-◌, ◌<◌, ◌≤◌, ◌==◌, List, [], ◌∷◌, ◌++◌, length, take, Bool, true, false, if◌then◌else◌, refl, sym, ap, ◌∙◌, subst, arith, append_assoc, length-append, length-take-le, suc}
use Rattle.std.specs.Prelude.{nat_eq, nat_lt}
use Rattle.std.proofs.lemmas.Bool.Decides.{nat_tests}
use Rattle.ymx_header.specs.declared.header.Header.{Header}
use Rattle.ymx_header.specs.Headers.{header_of}
use Rattle.ymx_machine.specs.declared.types.Call.TheVariants as call
use Rattle.ymx_machine.specs.declared.types.Fed.{Fed}
use Rattle.ymx_machine.specs.declared.types.Reply.TheVariants as reply
use Rattle.ymx_machine.specs.shared.Lists.{look}
use Rattle.ymx_machine.specs.shared.Events.{Reply}
use Rattle.ymx_machine.proofs.Tests.{split}
use Rattle.ymx_model.specs.declared.types.Event.TheVariants as event
use Rattle.ymx_model.specs.declared.types.Status.TheVariants.{Running}
use Rattle.ymx_model.specs.session.Arrivals.{head_comes, piece_comes}
use Rattle.ymx_model.specs.session.Emissions.{in_turn}
use Rattle.ymx_model.specs.session.Feeds.{Takes, byte_comes, byte_in}
use Rattle.ymx_model.specs.session.Histories.{Gives, CallGives}
use Rattle.ymx_model.specs.session.Histories.CallGives.{Outcome as HasOutcome, NoMemory}
use Rattle.ymx_model.specs.session.Tables.{remove_record}
use Rattle.ymx_model.specs.session.Sessions.{Session, Incoming, is_spent, on_stream, reap}
use Rattle.ymx_model.specs.session.Sessions.Incoming.{Head, Payload}
use Rattle.ymx_law_session.proofs.nothing_else.Others.{head-others, piece-others, read-others}
use Rattle.ymx_law_session.proofs.nothing_else.StreamCalls.{read-stays}
use Rattle.ymx_session.specs.Passing.{Passes, PassesBehind, IsPlainHeader, all_fed}
use Rattle.ymx_session.proofs.Passes.{passing-is}
use Rattle.ymx_engine.proofs.Advancing.{take_all}
use Rattle.ymx_engine.specs.Served.{GainsNone}
use Rattle.ymx_engine.proofs.Gaining.{gains_same}

-- a session that runs takes a byte
takes_in : (no_memory : Bool) (b : ℕ) (s : Session) (i : Incoming) → s.status ≡ Running → s.incoming ≡ i → byte_comes no_memory b s ≡ byte_in no_memory b s i
takes_in no_memory b s i run e = rw (run, e) refl

-- what payload of a stream does
pub record IsPiece (id : ℕ) (last : Bool) (s t : Session) : Type 0 where
  pub status : t.status ≡ s.status
  pub others : (j : ℕ) → j ≢ id → look j t.table.entries ≡ look j s.table.entries
  pub whole : last ≡ true → t.incoming ≡ Head []

last_comes : (m : ℕ) (x : Incoming) → (1 == m) ≡ true → (if nat_lt 1 m then x else Head []) ≡ Head []
last_comes m x e = grind (arith, nat_tests)

more_comes : (m k : ℕ) (x : Incoming) → suc (suc k) ≤ m → (if nat_lt 1 m then x else Head []) ≡ x
more_comes m k x e = grind (arith, nat_tests)

one_less : (m k : ℕ) → suc (suc k) ≤ m → (suc (suc k) == m) ≡ (suc k == m - 1)
one_less m k e = grind (arith, nat_tests)

piece_by : (bytes : List ℕ) (id missing : ℕ) (fin : Bool) (s t : Session) (n : ℕ) → s.status ≡ Running → s.incoming ≡ Payload id missing fin false → 0 < length bytes → length bytes ≤ missing → Takes bytes s t n → IsPiece id (length bytes == missing) s t
piece_by [] id missing fin s t n run inc some few took = absurd (omega (arith, some))
piece_by (b ∷ []) id missing fin s t n run inc some few (no_memory, more, stuck, counts, rest) =
    let mid : Session = piece_comes (b ∷ []) id missing fin false s in
    let to : t ≡ mid = rest.0 ∙ takes_in no_memory b s (Payload id missing fin false) run inc in
    record {
      status = ap (λ (x : Session). x.status) to;
      others = λ j ne. ap (λ (x : Session). look j x.table.entries) to ∙ piece-others (b ∷ []) id missing fin false s j ne;
      whole = λ e. ap (λ (x : Session). x.incoming) to ∙ last_comes missing (Payload id (missing - 1) fin false) e;
    }
piece_by (b ∷ (c ∷ cs)) id missing fin s t n run inc some few (no_memory, more, stuck, counts, rest) =
    let mid : Session = piece_comes (b ∷ []) id missing fin false s in
    let is : byte_comes no_memory b s ≡ mid = takes_in no_memory b s (Payload id missing fin false) run inc in
    let goes : mid.incoming ≡ Payload id (missing - 1) fin false = more_comes missing (length cs) (Payload id (missing - 1) fin false) (omega (arith, few)) in
    let q = piece_by (c ∷ cs) id (missing - 1) fin mid t more run goes (omega arith) (omega (arith, few)) (subst (λ (x : Session). Takes (c ∷ cs) x t more) is rest) in
    record {
      status = q.status;
      others = λ j ne. q.others j ne ∙ piece-others (b ∷ []) id missing fin false s j ne;
      whole = λ e. q.whole (sym (one_less missing (length cs) (omega (arith, few))) ∙ e);
    }

chosen : (t : Bool) (x y : Session) → t ≡ true → (if t then x else y) ≡ x
chosen true x y e = refl
chosen false x y e = cc

not_chosen : (t : Bool) (x y : Session) → t ≡ false → (if t then x else y) ≡ y
not_chosen true x y e = cc
not_chosen false x y e = refl

at_last : (k : ℕ) → k + 1 ≡ 12 → (k == 11) ≡ true
at_last k e = grind (arith, nat_tests)

before_last : (k m : ℕ) → k + suc (suc m) ≡ 12 → (k == 11) ≡ false
before_last k m e = grind (arith, nat_tests)

-- what a header of a stream does
head_by : (bytes seen : List ℕ) (s t : Session) (n : ℕ) → s.status ≡ Running → s.incoming ≡ Head seen → length seen + length bytes ≡ 12 → 0 < length bytes → Takes bytes s t n → (j : ℕ) → j ≢ (header_of (seen ++ bytes)).id →
    look j t.table.entries ≡ look j s.table.entries
head_by [] seen s t n run inc long some took = absurd (omega (arith, some))
head_by (b ∷ []) seen s t n run inc long some (no_memory, more, stuck, counts, rest) = λ j ne.
    let to : t ≡ head_comes no_memory (header_of (seen ++ b ∷ [])) (record s { incoming = Head [] }) = rest.0 ∙ takes_in no_memory b s (Head seen) run inc ∙ chosen (length seen == 11) _ _ (at_last (length seen) (omega (arith, long))) in
    ap (λ (x : Session). look j x.table.entries) to ∙ head-others no_memory (header_of (seen ++ b ∷ [])) (record s { incoming = Head [] }) j ne
head_by (b ∷ (c ∷ cs)) seen s t n run inc long some (no_memory, more, stuck, counts, rest) = λ j ne.
    let mid : Session = record s { incoming = Head (seen ++ b ∷ []) } in
    let to : byte_comes no_memory b s ≡ mid = takes_in no_memory b s (Head seen) run inc ∙ not_chosen (length seen == 11) _ _ (before_last (length seen) (length cs) (omega (arith, long))) in
    let all : (seen ++ b ∷ []) ++ (c ∷ cs) ≡ seen ++ (b ∷ c ∷ cs) = append_assoc seen (b ∷ []) (c ∷ cs) in
    let l : length (seen ++ b ∷ []) ≡ length seen + 1 = length-append seen (b ∷ []) in
    head_by (c ∷ cs) (seen ++ b ∷ []) mid t more run refl (omega (arith, long, l)) (omega arith) (subst (λ (x : Session). Takes (c ∷ cs) x t more) to rest) j (subst (λ (v : List ℕ). j ≢ (header_of v).id) (sym all) ne)

one_fed : (a b : Fed) → (let r : Reply = reply.Fed a in r ≡ reply.Fed b) → a ≡ b
one_fed a b e = cc

-- ---- passing on

read_same : (id count : ℕ) (s t : Session) (told : Reply) → CallGives s (call.Read id count) told t → (t.status ≡ s.status) × (t.incoming ≡ s.incoming) × ((j : ℕ) → j ≢ id → look j t.table.entries ≡ look j s.table.entries)
read_same id count s t told (HasOutcome answer state) =
    let P : Session → Type 0 = λ x. (x.status ≡ s.status) × (x.incoming ≡ s.incoming) in
    let k = read-stays P id count s (record { now = (refl, refl); changed = λ f. (refl, refl); gone = λ f. gone_same (on_stream id f s) refl refl }) in
    (ap (λ (x : Session). x.status) state ∙ k.0, ap (λ (x : Session). x.incoming) state ∙ k.1, λ j ne. ap (λ (x : Session). look j x.table.entries) state ∙ read-others id count s j ne)
  where
    gone_same : (u : Session) → u.status ≡ s.status → u.incoming ≡ s.incoming → ((reap id u).status ≡ s.status) × ((reap id u).incoming ≡ s.incoming)
    gone_same u p q = split (λ (x : Session). (x.status ≡ s.status) × (x.incoming ≡ s.incoming)) (is_spent u.table.window u.outgoing id (look id u.table.entries)) (record u { table = remove_record id u.table }) u (λ e. (p, q)) (λ e. (p, q))
read_same id count s t told (NoMemory needs answer state) = (ap (λ (x : Session). x.status) state, ap (λ (x : Session). x.incoming) state, λ j ne. ap (λ (x : Session). look j x.table.entries) state)

-- bytes of a payload are passed on
pub passes_beside : (id missing behind : ℕ) (bytes : List ℕ) (s t : Session) → PassesBehind id missing behind s → 0 < length bytes → length bytes ≤ missing → Passes id bytes s t → IsPiece id (length bytes == missing) s t
passes_beside id missing behind bytes s t may some few x =
    let k = passing-is (record { id = id; missing = missing }) s may.passes in
    let took = ((x.fed).2).took in
    let all : take (length bytes) bytes ≡ bytes = take_all bytes in
    let p = piece_by bytes id missing k.fin s x.mid took.0 k.running k.incoming some few (subst (λ (v : List ℕ). Takes v s x.mid took.0) (ap (λ (f : Fed). take f.taken bytes) (sym (one_fed (all_fed bytes) (x.fed).0 (x.fed).1)) ∙ all) took.1) in
    let r = read_same id (length bytes) x.mid t _ x.read in
    record { status = r.0 ∙ p.status; others = λ j ne. r.2 j ne ∙ p.others j ne; whole = λ e. r.1 ∙ p.whole e }

differ : (id other : ℕ) → nat_eq id other ≡ false → other ≢ id
differ id other ne = grind (arith, nat_tests)

pub piece_came : (id other : ℕ) (last : Bool) (s t : Session) → IsPiece id last s t → nat_eq id other ≡ false → GainsNone other s t
piece_came id other last s t x ne = gains_same other s t x.status (x.others other (differ id other ne))

-- and the header after it
pub header_came : (id count other : ℕ) (header : List ℕ) (told : Fed) (t u : Session) → t.status ≡ Running → u.status ≡ Running → t.incoming ≡ Head [] → IsPlainHeader id count header → told ≡ all_fed header → Gives in_turn t (event.Feed header) (reply.Fed told) u →
    nat_eq id other ≡ false → GainsNone other t u
header_came id count other header told t u run runs inc plain all g ne =
    let f : g.0 ≡ all_fed header = sym (one_fed told g.0 g.1) ∙ all in
    let took = ((g.2).took).1 in
    let long : length header ≡ 12 = plain.whole in
    let whole : Takes header t u ((g.2).took).0 = subst (λ (v : List ℕ). Takes v t u ((g.2).took).0) (ap (λ (x : Fed). take x.taken header) f ∙ take_all header) took in
    let own : (header_of header).id ≡ id = ap (λ (h : Header). h.id) plain.spells in
    gains_same other t u (runs ∙ sym run) (head_by header [] t u ((g.2).took).0 run inc (omega (arith, long)) (omega (arith, long)) whole other (λ e. differ id other ne (e ∙ own)))

-- how many a part of a list has
pub whole_piece : (count missing : ℕ) (waits : List ℕ) → count ≤ length waits → count ≡ missing → (length (take count waits) == missing) ≡ true
whole_piece count missing waits le same = let l = length-take-le count waits le in grind (arith, nat_tests)
