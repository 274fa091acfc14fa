-- `opens_left` counts the streams that may be opened one after another.
use Rattle.std.proofs.Common.{◌≡◌, ℕ, ◌+◌, ◌<◌, List, [], ◌∷◌, ◌++◌, length, take, Bool, true, false, ◌||◌, nat_le, if◌then◌else◌, refl, sym, ap, ◌∙◌, arith}
use Rattle.std.specs.Prelude.{count_by, min}
use Rattle.std.proofs.lemmas.List.{length-append}
use Rattle.std.proofs.lemmas.List.Recursion.{is_count_by}
use Rattle.ymx_machine.specs.declared.types.CallFault.{CallFault}
use Rattle.ymx_machine.specs.declared.types.CallFault.TheVariants.{Lost, Closed, PeerAway, OpensPending, TooMany, Exhausted}
use Rattle.ymx_machine.specs.declared.types.Reply.TheVariants.{Opened, OpenedWith}
use Rattle.ymx_machine.specs.shared.Limits.{first_credit, first_exhausted, most_unacknowledged, most_records}
use Rattle.ymx_machine.specs.shared.Phases.Phase.{Live}
use Rattle.ymx_model.specs.session.Records.{new_end, end_write}
use Rattle.ymx_model.specs.session.Sessions.{Session, is_own, is_lost, is_closed}
use Rattle.ymx_model.specs.session.Calls.{Outcome, open_or, open_stream, open_with, answers, session_opened, refused, is_unacknowledged}
use Rattle.ymx_law_session.specs.Limits.{IsWithin}
use Rattle.ymx_machine.proofs.Tests.{split, not_le, is_le}
use Rattle.ymx_session.specs.Opens.{ids_left, unacknowledged_left, records_left, opens_left}

-- ---- one more is counted

count-of : {X : Type 0} (p : X → Bool) → List X → ℕ
count-of p [] = 0
count-of p (x ∷ xs) = if p x then 1 + count-of p xs else count-of p xs

count-of_is : {X : Type 0} (p : X → Bool) (xs : List X) → count-of p xs ≡ count_by p xs
unfolding count-of
count-of_is p xs = is_count_by (count-of p) p refl (λ x ys. refl) xs

of-added : {X : Type 0} (p : X → Bool) (x : X) (xs : List X) → p x ≡ true → count-of p (xs ++ x ∷ []) ≡ count-of p xs + 1
unfolding count-of
of-added p x [] t = rw t refl
of-added p x (y ∷ ys) t = let h = of-added p x ys t in grind arith

pub counted-added : {X : Type 0} (p : X → Bool) (x : X) (xs : List X) → p x ≡ true → count_by p (xs ++ x ∷ []) ≡ count_by p xs + 1
counted-added p x xs t = sym (count-of_is p (xs ++ x ∷ [])) ∙ of-added p x xs t ∙ ap (λ n. n + 1) (count-of_is p xs)

-- ---- what is left

abbrev least : Session → ℕ
least s = min (min (ids_left s.next) (unacknowledged_left s)) (records_left s)

-- no stream is opened
abbrev is_shut : Session → Bool
is_shut s = is_closed s.status || is_lost s.status || s.away.there

left-open : (s : Session) → is_shut s ≡ false → opens_left s ≡ least s
left-open s f = rw f refl

left-shut : (s : Session) → is_shut s ≡ true → opens_left s ≡ 0
left-shut s t = rw t refl

some-open : (s : Session) → 0 < opens_left s → is_shut s ≡ false
some-open s h = of (is_shut s) refl
  where
    of : (b : Bool) → is_shut s ≡ b → is_shut s ≡ false
    of true e = let z = left-shut s e in absurd (omega arith)
    of false e = e

shut : (a b c : Bool) → a ≡ false → b ≡ false → c ≡ false → (a || b || c) ≡ false
shut a b c f g h = rw (f, g, h) refl

shut_by : (a b c : Bool) → (a || b || c) ≡ false → (a ≡ false) × (b ≡ false) × (c ≡ false)
shut_by false false false e = (refl, refl, refl)
shut_by false false true e = absurd cc
shut_by false true c e = absurd cc
shut_by true b c e = absurd cc

-- nothing is left just where one of the refusals applies
pub none-refused : (s : Session) (o : Outcome) → opens_left s ≡ 0 → (fault : CallFault) × (open_or s o ≡ refused fault s)
none-refused s o z =
    let Q : Outcome → Type 0 = λ x. (fault : CallFault) × (x ≡ refused fault s) in
    split Q (is_closed s.status) _ _ (λ t. (Closed, refl)) (λ f1.
    split Q (is_lost s.status) _ _ (λ t. (Lost, refl)) (λ f2.
    split Q s.away.there _ _ (λ t. (PeerAway, refl)) (λ f3.
    split Q (nat_le first_exhausted s.next) _ _ (λ t. (Exhausted, refl)) (λ f4.
    split Q (nat_le most_unacknowledged (count_by (is_unacknowledged s.role) s.table.entries)) _ _ (λ t. (OpensPending, refl)) (λ f5.
    split Q (nat_le most_records (length s.table.entries)) _ _ (λ t. (TooMany, refl)) (λ f6.
    let a = left-open s (shut _ _ _ f1 f2 f3) in
    let b = not_le first_exhausted s.next f4 in
    let c = not_le most_unacknowledged (count_by (is_unacknowledged s.role) s.table.entries) f5 in
    let d = not_le most_records (length s.table.entries) f6 in
    absurd (omega arith)))))))

pub some-opens : (s : Session) (o : Outcome) → 0 < opens_left s → open_or s o ≡ o
some-opens s o h =
    let shuts = some-open s h in
    let flags = shut_by (is_closed s.status) (is_lost s.status) s.away.there shuts in
    let a = left-open s shuts in
    let Q : Outcome → Type 0 = λ x. x ≡ o in
    split Q (is_closed s.status) _ _ (λ t. let f = flags.0 in absurd cc) (λ f1.
    split Q (is_lost s.status) _ _ (λ t. let f = flags.1 in absurd cc) (λ f2.
    split Q s.away.there _ _ (λ t. let f = flags.2 in absurd cc) (λ f3.
    split Q (nat_le first_exhausted s.next) _ _ (λ t. let b = is_le first_exhausted s.next t in absurd (omega arith)) (λ f4.
    split Q (nat_le most_unacknowledged (count_by (is_unacknowledged s.role) s.table.entries)) _ _ (λ t. let b = is_le most_unacknowledged (count_by (is_unacknowledged s.role) s.table.entries) t in absurd (omega arith)) (λ f5.
    split Q (nat_le most_records (length s.table.entries)) _ _ (λ t. let b = is_le most_records (length s.table.entries) t in absurd (omega arith)) (λ f6. refl))))))

-- ---- one stream more

new-counts : (with_data : Bool) (bytes : List ℕ) (s : Session) → is_own s.role s.next ≡ true →
    is_unacknowledged s.role (s.next, end_write bytes (new_end s.table.window Live true with_data)) ≡ true
new-counts with_data bytes s own = rw own refl

one-less : (with_data : Bool) (bytes : List ℕ) (s : Session) → IsWithin s → 0 < opens_left s → opens_left (session_opened with_data bytes s) + 1 ≡ opens_left s
one-less with_data bytes s w h =
    let e = end_write bytes (new_end s.table.window Live true with_data) in
    let shuts = some-open s h in
    let a = left-open s shuts in
    let b = left-open (session_opened with_data bytes s) shuts in
    let more = counted-added (is_unacknowledged s.role) (s.next, e) s.table.entries (new-counts with_data bytes s w.next.parity) in
    let longer = length-append s.table.entries ((s.next, e) ∷ []) in
    omega arith

pub none : (s : Session) → opens_left s ≡ 0 → (fault : CallFault) × (open_stream s ≡ refused fault s)
none s z = none-refused s (answers (Opened s.next) (session_opened false [] s)) z

pub none-with : (bytes : List ℕ) (s : Session) → opens_left s ≡ 0 → (fault : CallFault) × (open_with bytes s ≡ refused fault s)
none-with bytes s z = none-refused s (answers (OpenedWith s.next (min (length bytes) first_credit)) (session_opened true (take first_credit bytes) s)) z

pub some : (s : Session) → 0 < opens_left s → (open_stream s).reply ≡ Opened s.next
some s h = ap (λ (x : Outcome). x.reply) (some-opens s (answers (Opened s.next) (session_opened false [] s)) h)

pub some-with : (bytes : List ℕ) (s : Session) → 0 < opens_left s → (open_with bytes s).reply ≡ OpenedWith s.next (min (length bytes) first_credit)
some-with bytes s h =
    ap (λ (x : Outcome). x.reply) (some-opens s (answers (OpenedWith s.next (min (length bytes) first_credit)) (session_opened true (take first_credit bytes) s)) h)

pub less : (s : Session) → IsWithin s → 0 < opens_left s → opens_left (open_stream s).next + 1 ≡ opens_left s
less s w h =
    let is = some-opens s (answers (Opened s.next) (session_opened false [] s)) h in
    ap (λ (x : Outcome). opens_left x.next + 1) is ∙ one-less false [] s w h

pub less-with : (bytes : List ℕ) (s : Session) → IsWithin s → 0 < opens_left s → opens_left (open_with bytes s).next + 1 ≡ opens_left s
less-with bytes s w h =
    let is = some-opens s (answers (OpenedWith s.next (min (length bytes) first_credit)) (session_opened true (take first_credit bytes) s)) h in
    ap (λ (x : Outcome). opens_left x.next + 1) is ∙ one-less true (take first_credit bytes) s w h
