-- A feed that counted no lack of memory is the one with ample memory.
use Rattle.std.proofs.Common.{◌≡◌, ◌≤◌, ℕ, zero, suc, ◌<◌, List, [], ◌∷◌, ◌++◌, length, take, drop, min, Bool, true, false, not, ◌||◌, ◌==◌, nat_lt, if◌then◌else◌, Option, None, Some, refl, sym, ◌∙◌, subst, arith}
use Rattle.std.proofs.lemmas.Bool.Decides.{nat_tests}
use Rattle.ymx_header.specs.declared.header.Header.{Header}
use Rattle.ymx_header.specs.declared.fault.Fault.{Fault}
use Rattle.ymx_header.specs.Headers.{header_of, has_syn}
use Rattle.ymx_header.proofs.Frames.{good}
use Rattle.ymx_machine.specs.declared.types.Fed.{Fed}
use Rattle.ymx_model.specs.declared.types.Response.TheVariants.{Reject}
use Rattle.ymx_machine.specs.shared.Lists.{look}
use Rattle.ymx_model.specs.session.Tables.{insert_record}
use Rattle.ymx_model.specs.session.Sessions.{Session, Incoming, is_deaf}
use Rattle.ymx_model.specs.session.Sessions.Incoming.{Head, Payload}
use Rattle.ymx_model.specs.session.Arrivals.{head_comes, ping_comes, go_away_comes, syn_comes, meets_some, meets, expects, answers_with, offer, session_refuses, syn_fault, header_fault, payload, unless_fault, is_starved}
use Rattle.ymx_model.specs.session.Feeds.{Takes, Feeds, feed, is_stuck, byte_comes, byte_in, starves}

unless-same : (o : Option Fault) (s t u : Session) → (o ≡ None → t ≡ u) → unless_fault o s t ≡ unless_fault o s u
unless-same None s t u k = k refl
unless-same (Some f) s t u k = refl

else-same : {A : Type 0} (b : Bool) (x y z : A) → (b ≡ false → y ≡ z) → (if b then x else y) ≡ (if b then x else z)
else-same true x y z k = refl
else-same false x y z k = k refl

then-same : {A : Type 0} (b : Bool) (x y z : A) → (b ≡ true → x ≡ y) → (if b then x else z) ≡ (if b then y else z)
then-same true x y z k = k refl
then-same false x y z k = refl

low : (k : ℕ) → k ≤ 3 → (k == 2) ≡ false → (k == 3) ≡ false → nat_lt k 2 ≡ true
low k a b c = grind (arith, nat_tests)

refusing : (r : Bool) → not r ≡ false → r ≡ true
refusing true e = refl
refusing false e = cc

head-same : (h : Header) (s : Session) → is_starved h s ≡ false → head_comes true h s ≡ head_comes false h s
head-same h s e =
    let rejected = expects h true (answers_with (Reject h.id) s) in
    let offered = meets h (offer s) (record s { table = insert_record h.id (offer s) s.table; offered = s.offered ++ h.id ∷ [] }) in
    let other = meets_some h (look h.id s.table.entries) s in
    unless-same (header_fault h s) s _ _ (λ n.
    else-same (h.kind == 2) (ping_comes h s) _ _ (λ a.
    else-same (h.kind == 3) (go_away_comes h s) _ _ (λ b.
    then-same (has_syn h) (syn_comes true h s) (syn_comes false h s) other (λ y.
    unless-same (syn_fault h s) s (if session_refuses s || true then rejected else offered) (if session_refuses s || false then rejected else offered) (λ m.
    let k = low h.kind (good s.table.window h n).kind a b in
    let is : is_starved h s ≡ not (session_refuses s) = rw (n, k, y, m) refl in
    let r : session_refuses s ≡ true = refusing (session_refuses s) (sym is ∙ e) in
    rw r refl)))))

zero_one : (b : Bool) (n : ℕ) → n ≡ (if b then 1 else 0) → n ≡ 0 → b ≡ false
zero_one true n e z = absurd (omega (arith, e, z))
zero_one false n e z = refl

in-same : (b : ℕ) (s : Session) (i : Incoming) → is_deaf s.status ≡ false → starves true b s i ≡ 0 → byte_in true b s i ≡ byte_in false b s i
in-same b s (Head seen) d z =
    then-same (length seen == 11) (head_comes true (header_of (seen ++ b ∷ [])) (record s { incoming = Head [] })) (head_comes false (header_of (seen ++ b ∷ [])) (record s { incoming = Head [] })) (record s { incoming = Head (seen ++ b ∷ []) }) (λ l.
    let is : starves true b s (Head seen) ≡ (if is_starved (header_of (seen ++ b ∷ [])) s then 1 else 0) = rw (d, l) refl in
    head-same (header_of (seen ++ b ∷ [])) (record s { incoming = Head [] }) (zero_one (is_starved (header_of (seen ++ b ∷ [])) s) (starves true b s (Head seen)) is z))
in-same b s (Payload id n fin discarded) d z = refl

byte-same : (no_memory : Bool) (b : ℕ) (s : Session) → starves no_memory b s s.incoming ≡ 0 → byte_comes no_memory b s ≡ byte_comes false b s
byte-same false b s z = refl
byte-same true b s z = else-same (is_deaf s.status) s (byte_in true b s s.incoming) (byte_in false b s s.incoming) (λ d. in-same b s s.incoming d z)

takes-feed : (a b : List ℕ) (s t : Session) (starved : ℕ) → starved ≡ 0 → Takes a s t starved → feed (a ++ b) s ≡ feed b t
takes-feed [] b s t starved z (same, n) = rw same refl
takes-feed (x ∷ a) b s t starved z (no_memory, more, free, e, rest) =
    let one : starves no_memory x s s.incoming ≡ 0 = omega (arith, e, z) in
    let left : more ≡ 0 = omega (arith, e, z) in
    let next : Takes a (byte_comes false x s) t more = subst (λ u. Takes a u t more) (byte-same no_memory x s one) rest in
    rw free (takes-feed a b (byte_comes false x s) t more left next)

stops-feed : (b : List ℕ) (t : Session) → (0 < length b → is_stuck t ≡ true) → feed b t ≡ record { state = t; rest = b }
stops-feed [] t k = refl
stops-feed (x ∷ b) t k = rw (k (omega arith)) refl

parts : (n : ℕ) (xs : List ℕ) → take n xs ++ drop n xs ≡ xs
parts zero xs = refl
parts (suc n) [] = refl
parts (suc n) (x ∷ xs) = rw (parts n xs) refl

left-over : (n : ℕ) (xs : List ℕ) → 0 < length (drop n xs) → n < length xs
left-over zero xs l = l
left-over (suc n) [] l = absurd (omega (arith, l))
left-over (suc n) (x ∷ xs) l = let h = left-over n xs l in omega (arith, h)

none_counted : (n : ℕ) → min n 4294967295 ≡ 0 → n ≡ 0
none_counted n e = grind arith

pub with-memory : (input : List ℕ) (s t : Session) (fed : Fed) → Feeds s input fed t → fed.no_memory ≡ 0 → feed input s ≡ record { state = t; rest = drop fed.taken input }
with-memory input s t fed f z =
    let (starved, took, count) = f.took in
    let none : starved ≡ 0 = none_counted starved (sym count ∙ z) in
    let whole : feed (take fed.taken input ++ drop fed.taken input) s ≡ feed (drop fed.taken input) t = takes-feed (take fed.taken input) (drop fed.taken input) s t starved none took in
    subst (λ x. feed x s ≡ record { state = t; rest = drop fed.taken input }) (parts fed.taken input)
    (whole ∙ stops-feed (drop fed.taken input) t (λ l. f.stops (left-over fed.taken input l)))
