-- The bytes of a payload do what the piece does, and the bytes of a header what the head does.
use Rattle.std.proofs.Common.{◌≡◌, ℕ, ◌+◌, ◌-◌, ◌<◌, ◌≤◌, List, [], ◌∷◌, ◌++◌, length, Bool, true, false, not, ◌&&◌, ◌==◌, nat_lt, if◌then◌else◌, refl, sym, ap, ◌∙◌, subst, arith, append_assoc, length-append}
use Rattle.std.proofs.lemmas.Grind.{common_steps}
use Rattle.std.proofs.lemmas.Bool.Decides.{nat_tests}
use Rattle.ymx_header.specs.Headers.{header_of}
use Rattle.ymx_model.specs.declared.types.Status.TheVariants.{Running}
use Rattle.ymx_model.specs.session.Records.{End, receive_data, receive_piece, receive_fin}
use Rattle.ymx_machine.specs.shared.Lists.{change}
use Rattle.ymx_model.specs.session.Sessions.{Session}
use Rattle.ymx_model.specs.session.Sessions.Incoming.{Head, Payload}
use Rattle.ymx_model.specs.session.Arrivals.{head_comes, piece_comes, is_starved}
use Rattle.ymx_model.specs.session.Feeds.{Takes, is_stuck, byte_comes, byte_in, starves, is_between}

-- what the payload does to a record
pub gets-join : (a b : List ℕ) (e : End) → receive_data b (receive_data a e) ≡ receive_data (a ++ b) e
gets-join a b e = grind (arith, common_steps)

pub change-join : (id : ℕ) (f g h : End → End) (ps : List (ℕ × End)) → ((e : End) → f (g e) ≡ h e) → change id f (change id g ps) ≡ change id h ps
change-join id f g h [] same = refl
change-join id f g h (p ∷ ps) same =
    let i = change-join id f g h ps same in let k = same p.1 in grind (arith, nat_tests)

pieces-join : (a b : List ℕ) (last : Bool) (e : End) → receive_piece last b (receive_piece false a e) ≡ receive_piece last (a ++ b) e
pieces-join a b true e = ap receive_fin (gets-join a b e)
pieces-join a b false e = gets-join a b e

table-join : (a b : List ℕ) (last : Bool) (id : ℕ) (ps : List (ℕ × End)) →
    change id (receive_piece last b) (change id (receive_piece false a) ps) ≡ change id (receive_piece last (a ++ b)) ps
table-join a b last id ps = change-join id (receive_piece last b) (receive_piece false a) (receive_piece last (a ++ b)) ps (pieces-join a b last)

not_last : (a : List ℕ) (n : ℕ) (fin : Bool) → length a < n → (fin && not (nat_lt (length a) n)) ≡ false
not_last a n fin l = grind (arith, nat_tests)

less : (a b : List ℕ) (n : ℕ) → length a < n → nat_lt (length b) (n - length a) ≡ nat_lt (length (a ++ b)) n
less a b n l = grind (arith, nat_tests, common_steps)

more : (a : List ℕ) (n : ℕ) → length a < n → nat_lt (length a) n ≡ true
more a n l = grind (arith, nat_tests)

sums : (a b : List ℕ) (n : ℕ) → n - length a - length b ≡ n - length (a ++ b)
sums a b n = omega (arith, length-append a b)

pub piece-join : (a b : List ℕ) (id n : ℕ) (fin discarded : Bool) (s : Session) → length a < n →
    piece_comes b id (n - length a) fin discarded (piece_comes a id n fin discarded s) ≡ piece_comes (a ++ b) id n fin discarded s
piece-join a b id n fin true s l =
    rw (less a b n l, sums a b n)
piece-join a b id n fin false s l =
    rw (less a b n l, sums a b n, not_last a n fin l, table-join a b (fin && not (nat_lt (length (a ++ b)) n)) id s.table.entries)

-- ---- a payload

deaf : (no_memory : Bool) (b : ℕ) (s : Session) → s.status ≡ Running → byte_comes no_memory b s ≡ byte_in no_memory b s s.incoming
deaf no_memory b s st = rw st

pub byte-piece : (no_memory : Bool) (b id n : ℕ) (fin discarded : Bool) (s : Session) → s.status ≡ Running → s.incoming ≡ Payload id n fin discarded →
    byte_comes no_memory b s ≡ piece_comes (b ∷ []) id n fin discarded s
byte-piece no_memory b id n fin discarded s st inc = deaf no_memory b s st ∙ ap (byte_in no_memory b s) inc

free-payload : (id n : ℕ) (fin discarded : Bool) (s : Session) → s.status ≡ Running → s.incoming ≡ Payload id n fin discarded → is_stuck s ≡ false
free-payload id n fin discarded s st inc = rw (st, inc) refl

none-payload : (b id n : ℕ) (fin discarded : Bool) (s : Session) → s.incoming ≡ Payload id n fin discarded → starves false b s s.incoming ≡ 0
none-payload b id n fin discarded s inc = rw inc refl

pub piece-status : (a : List ℕ) (id n : ℕ) (fin discarded : Bool) (s : Session) → (piece_comes a id n fin discarded s).status ≡ s.status
piece-status a id n fin true s = refl
piece-status a id n fin false s = refl

pub piece-incoming : (a : List ℕ) (id n : ℕ) (fin discarded : Bool) (s : Session) → length a < n →
    (piece_comes a id n fin discarded s).incoming ≡ Payload id (n - length a) fin discarded
piece-incoming a id n fin true s l = rw (more a n l) refl
piece-incoming a id n fin false s l = rw (more a n l) refl

-- These bytes do what the piece does.
pub piece-takes : (b : ℕ) (bs : List ℕ) (id n : ℕ) (fin discarded : Bool) (s : Session) →
    s.status ≡ Running → s.incoming ≡ Payload id n fin discarded → length (b ∷ bs) ≤ n →
    Takes (b ∷ bs) s (piece_comes (b ∷ bs) id n fin discarded s) 0
piece-takes b [] id n fin discarded s st inc l = (
  false,
  0,
  free-payload id n fin discarded s st inc,
  rw (none-payload b id n fin discarded s inc) refl,
  (sym (byte-piece false b id n fin discarded s st inc), refl),
)
piece-takes b (c ∷ bs) id n fin discarded s st inc l =
    let t = piece_comes (b ∷ []) id n fin discarded s in
    let one : length (b ∷ []) < n = omega arith in
    let rest : Takes (c ∷ bs) t (piece_comes (c ∷ bs) id (n - 1) fin discarded t) 0 =
    piece-takes c bs id (n - 1) fin discarded t (piece-status (b ∷ []) id n fin discarded s ∙ st) (piece-incoming (b ∷ []) id n fin discarded s one) (omega arith) in
    let P : Session → Type 0 = λ x. Takes (c ∷ bs) t x 0 in
    let Q : Session → Type 0 = λ x. Takes (c ∷ bs) x (piece_comes (b ∷ c ∷ bs) id n fin discarded s) 0 in (
      false,
      0,
      free-payload id n fin discarded s st inc,
      rw (none-payload b id n fin discarded s inc) refl,
      subst Q (sym (byte-piece false b id n fin discarded s st inc)) (subst P (piece-join (b ∷ []) (c ∷ bs) id n fin discarded s one) rest),
    )

-- ---- a header

not-between : (xs : List ℕ) (b : ℕ) → is_between (Head (xs ++ b ∷ [])) ≡ false
not-between [] b = refl
not-between (x ∷ xs) b = refl

keeps-head : (seen : List ℕ) (s : Session) → s.incoming ≡ Head seen → s ≡ record s { incoming = Head (seen ++ []) }
keeps-head seen s inc = grind (arith, common_steps)

pub byte-head : (no_memory : Bool) (b : ℕ) (seen : List ℕ) (s : Session) → s.status ≡ Running → s.incoming ≡ Head seen → length seen < 11 →
    byte_comes no_memory b s ≡ record s { incoming = Head (seen ++ b ∷ []) }
byte-head no_memory b seen s st inc l =
    let e : (length seen == 11) ≡ false = grind (arith, nat_tests) in
    deaf no_memory b s st ∙ ap (byte_in no_memory b s) inc ∙ rw e refl

pub byte-last : (no_memory : Bool) (b : ℕ) (seen : List ℕ) (s : Session) → s.status ≡ Running → s.incoming ≡ Head seen → length seen ≡ 11 →
    byte_comes no_memory b s ≡ head_comes no_memory (header_of (seen ++ b ∷ [])) (record s { incoming = Head [] })
byte-last no_memory b seen s st inc l =
    let e : (length seen == 11) ≡ true = grind (arith, nat_tests) in
    deaf no_memory b s st ∙ ap (byte_in no_memory b s) inc ∙ rw e refl

starves-head : (b : ℕ) (seen : List ℕ) (s : Session) → s.incoming ≡ Head seen → starves false b s s.incoming ≡ 0
starves-head b seen s inc = ap (starves false b s) inc

-- after its first byte a header is taken on
free-head : (seen : List ℕ) (b : ℕ) (s : Session) → s.status ≡ Running → is_stuck (record s { incoming = Head (seen ++ b ∷ []) }) ≡ false
free-head seen b s st = rw (st, not-between seen b) refl

-- Bytes of a header that isn't whole are kept.
pub head-takes : (bs seen : List ℕ) (s : Session) → s.status ≡ Running → s.incoming ≡ Head seen → is_stuck s ≡ false →
    length seen + length bs < 12 → Takes bs s (record s { incoming = Head (seen ++ bs) }) 0
head-takes [] seen s st inc free l = (sym (keeps-head seen s inc), refl)
head-takes (b ∷ bs) seen s st inc free l =
    let short : length seen < 11 = omega arith in
    let t = record s { incoming = Head (seen ++ b ∷ []) } in
    let fits : length (seen ++ b ∷ []) + length bs < 12 = omega (arith, length-append seen (b ∷ [])) in
    let rest = head-takes bs (seen ++ b ∷ []) t st refl (free-head seen b s st) fits in
    let P : List ℕ → Type 0 = λ x. Takes bs t (record s { incoming = Head x }) 0 in
    let Q : Session → Type 0 = λ x. Takes bs x (record s { incoming = Head (seen ++ (b ∷ bs)) }) 0 in (
      false,
      0,
      free,
      rw (starves-head b seen s inc) refl,
      subst Q (sym (byte-head false b seen s st inc short)) (subst P (append_assoc seen (b ∷ []) bs) rest),
    )

abbrev pub counted : Bool → List ℕ → Session → ℕ
counted no_memory bytes s = if no_memory && is_starved (header_of bytes) s then 1 else 0

pub at-last : (no_memory : Bool) (b : ℕ) (seen : List ℕ) (s : Session) → s.status ≡ Running → s.incoming ≡ Head seen → length seen ≡ 11 →
    starves no_memory b s s.incoming ≡ counted no_memory (seen ++ b ∷ []) s
at-last false b seen s st inc l = ap (starves false b s) inc
at-last true b seen s st inc l =
    let e : (length seen == 11) ≡ true = grind (arith, nat_tests) in
    ap (starves true b s) inc ∙ rw (st, e) refl

-- The bytes that make a header whole do what the head does.
pub head-whole : (no_memory : Bool) (bs seen : List ℕ) (b : ℕ) (s : Session) → s.status ≡ Running → s.incoming ≡ Head seen → is_stuck s ≡ false →
    length seen + length (b ∷ bs) ≡ 12 →
    Takes (b ∷ bs) s (head_comes no_memory (header_of (seen ++ (b ∷ bs))) (record s { incoming = Head [] })) (counted no_memory (seen ++ (b ∷ bs)) s)
head-whole no_memory [] seen b s st inc free l =
    let eleven : length seen ≡ 11 = omega arith in
    (no_memory, 0, free, sym (at-last no_memory b seen s st inc eleven) ∙ omega arith, (sym (byte-last no_memory b seen s st inc eleven), refl))
head-whole no_memory (c ∷ bs) seen b s st inc free l =
    let short : length seen < 11 = omega arith in
    let t = record s { incoming = Head (seen ++ b ∷ []) } in
    let fits : length (seen ++ b ∷ []) + length (c ∷ bs) ≡ 12 = omega (arith, length-append seen (b ∷ [])) in
    let rest = head-whole no_memory bs (seen ++ b ∷ []) c t st refl (free-head seen b s st) fits in
    let done = λ (x : List ℕ). head_comes no_memory (header_of x) (record s { incoming = Head [] }) in
    let P : List ℕ → Type 0 = λ x. Takes (c ∷ bs) t (done x) (counted no_memory x s) in
    let Q : Session → Type 0 = λ x. Takes (c ∷ bs) x (done (seen ++ (b ∷ c ∷ bs))) (counted no_memory (seen ++ (b ∷ c ∷ bs)) s) in (
      false,
      counted no_memory (seen ++ (b ∷ c ∷ bs)) s,
      free,
      rw (starves-head b seen s inc) (omega arith),
      subst Q (sym (byte-head false b seen s st inc short)) (subst P (append_assoc seen (b ∷ []) (c ∷ bs)) rest),
    )
