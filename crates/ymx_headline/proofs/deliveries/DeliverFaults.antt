-- What breaks no rule of the streams is no fault of a session.
use Rattle.std.proofs.Common.{◌≡◌, ℕ, ◌+◌, ◌≤◌, List, [], ◌∷◌, ◌++◌, length, Bool, true, false, not, ◌&&◌, ◌||◌, ◌==◌, nat_lt, if◌then◌else◌, None, refl, sym, ◌∙◌, arith}
use Rattle.std.proofs.lemmas.Bool.Decides.{nat_tests}
use Rattle.ymx_header.proofs.Frames.{no-fault-here}
use Rattle.ymx_header.specs.declared.header.Header.{Header}
use Rattle.ymx_header.specs.Headers.{has_syn, has_ack, has_fin, has_rst}
use Rattle.ymx_machine.specs.shared.Limits.{first_credit}
use Rattle.ymx_machine.specs.shared.Phases.{takes}
use Rattle.ymx_model.specs.session.Records.{End, takes_payload, receive_credit, receive_ack}
use Rattle.ymx_model.specs.session.Parts.{Part}
use Rattle.ymx_model.specs.session.Parts.Part.{Ack, Data, Credit, Fin}
use Rattle.ymx_machine.specs.shared.Lists.{look}
use Rattle.ymx_model.specs.session.Sessions.{Session, is_own}
use Rattle.ymx_model.specs.session.Arrivals.{is_data, payload, delta, record_fault, header_fault, syn_fault, offer}
use Rattle.ymx_headline.specs.records.Sides.{frame_says}
use Rattle.ymx_headline.proofs.records.Comes.{data-delta, no-delta}
use Rattle.ymx_machine.proofs.Tests.{both_of}
use Rattle.ymx_headline.proofs.deliveries.DeliverMoves.{AllBreakNothing}

-- ---- a header by itself

pub no-header_fault : (h : Header) (s : Session) → h.version ≡ 0 → h.kind ≤ 3 → payload h ≤ s.table.window → header_fault h s ≡ None
no-header_fault h s v k p = no-fault-here h s.table.window v k p

-- ---- a frame at a record

-- what a record must have room for
record HasRoom (own ack : Bool) (n d : ℕ) (e : End) : Type 0 where
  payload : takes_payload e ≡ true → n ≤ e.reader.granted
  credit : takes e.phase ≡ true → e.writer.credit + d ≤ 4294967295
  mine : ack ≡ true → own ≡ true

abbrev opened : (ack other : Bool) → ℕ → List Part
opened ack other d = if ack then Ack d ∷ [] else if other then [] else Credit d ∷ []

abbrev followed : (loaded fin : Bool) → List ℕ → List Part
followed loaded fin body = (if loaded then Data body ∷ [] else []) ++ (if fin then Fin ∷ [] else [])

takes-it : (e : End) → takes_payload e ≡ true → takes e.phase ≡ true
takes-it e t = (both_of (takes e.phase) (not e.reader.ended) t).0

-- the payload fits what was granted
data-room : (theirs window : ℕ) (own loaded fin : Bool) (body : List ℕ) (e : End) → (loaded ≡ false → length body ≡ 0) → AllBreakNothing theirs window own (followed loaded fin body) e → takes e.phase ≡ true → length body ≤ e.reader.granted
data-room theirs window own true fin body e z a t = a.0.1 t
data-room theirs window own false fin body e z a t = let k = z refl in omega (arith, k)

after-ack : (d : ℕ) (e : End) → takes e.phase ≡ true → (takes (receive_credit d (receive_ack e)).phase ≡ true) × ((receive_credit d (receive_ack e)).reader ≡ e.reader)
after-ack d e t = rw t (t, refl)

room-of : (theirs window : ℕ) (own ack loaded finz fin : Bool) (d : ℕ) (body : List ℕ) (e : End) → theirs ≤ 4294967295 → e.writer.credit ≤ 4294967295 → (loaded ≡ false → length body ≡ 0) → (loaded ≡ true → d ≡ 0) → (finz ≡ true → d ≡ 0) →
    AllBreakNothing theirs window own (opened ack (loaded || finz) d ++ followed loaded fin body) e → HasRoom own ack (length body) d e
room-of theirs window own true loaded finz fin d body e wide small z dz fz a = record {
  payload = λ t. (let k = after-ack d e (takes-it e t) in rw k.1 at (data-room theirs window own loaded fin body (receive_credit d (receive_ack e)) z a.1 k.0));
  credit = λ t. (let k = a.0.2 t in omega (arith, k, wide));
  mine = λ t. a.0.1;
}
room-of theirs window own false true finz fin d body e wide small z dz fz a = record {
  payload = λ t. data-room theirs window own true fin body e z a (takes-it e t);
  credit = λ t. (let k = dz refl in omega (arith, k, small));
  mine = λ t. absurd cc;
}
room-of theirs window own false false true fin d body e wide small z dz fz a = record {
  payload = λ t. data-room theirs window own false fin body e z a (takes-it e t);
  credit = λ t. (let k = fz refl in omega (arith, k, small));
  mine = λ t. absurd cc;
}
room-of theirs window own false false false fin d body e wide small z dz fz a = record {
  payload = λ t. (let k = z refl in omega (arith, k));
  credit = λ t. (let k = a.0.1 t in omega (arith, k, wide));
  mine = λ t. absurd cc;
}

not-over : (b : Bool) (a c : ℕ) → (b ≡ true → c ≤ a) → (b && nat_lt a c) ≡ false
not-over true a c f = let l = f refl in grind (arith, nat_tests)
not-over false a c f = refl

none-loaded : (h : Header) (body : List ℕ) → length body ≡ payload h → is_data h ≡ false → length body ≡ 0
none-loaded h body long f = long ∙ rw f refl

pub record NoFault (own : Bool) (h : Header) (e : End) : Type 0 where
  pub none : record_fault h e ≡ None
  pub ack : has_ack h ≡ true → own ≡ true

pub no-record_fault : (theirs window : ℕ) (own : Bool) (h : Header) (body : List ℕ) (e : End) → has_syn h ≡ false → has_rst h ≡ false → theirs ≤ 4294967295 → e.writer.credit ≤ 4294967295 → length body ≡ payload h →
    AllBreakNothing theirs window own (frame_says h body) e → NoFault own h e
no-record_fault theirs window own h body e syn rst wide small long a =
    let a1 : AllBreakNothing theirs window own (opened (has_ack h) (is_data h || (has_fin h && delta h == 0)) (delta h) ++ followed (is_data h) (has_fin h) body) e = rw (rst, syn) at a in
    let k = room-of theirs window own (has_ack h) (is_data h) (has_fin h && delta h == 0) (has_fin h) (delta h) body e wide small (none-loaded h body long) (data-delta h) (no-delta h) a1 in
    let first = not-over (takes_payload e) e.reader.granted (payload h) (λ t. rw (sym long) (k.payload t)) in
    let second = not-over (takes e.phase) 4294967295 (e.writer.credit + delta h) k.credit in
    record { none = rw (rst, first, second) refl; ack = k.mine }

-- ---- a SYN

pub no-syn_fault : (h : Header) (s : Session) → (h.id == 0) ≡ false → is_own s.role h.id ≡ false → look h.id s.table.entries ≡ None → has_rst h ≡ false → payload h ≤ first_credit → first_credit + delta h ≤ 4294967295 → syn_fault h s ≡ None
no-syn_fault h s zero own free rst p d =
    let first = not-over (takes_payload (offer s)) first_credit (payload h) (λ t. p) in
    let second = not-over (takes (offer s).phase) 4294967295 (first_credit + delta h) (λ t. d) in
    rw (zero, own, free, rst, first, second) refl
