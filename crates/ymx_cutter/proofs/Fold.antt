-- A call is what its bytes do, one after the other.
use Rattle.std.proofs.Common.{◌≡◌, ℕ, suc, ◌+◌, ◌-◌, ◌<◌, ◌≤◌, ◌==◌, nat_lt, min, Bool, true, false, List, [], ◌∷◌, ◌++◌, length, take, Option, Some, None, arith, refl, sym, ◌∙◌, ap, append_assoc, append-nil, length-append}
use Rattle.std.proofs.lemmas.Bool.Decides.{nat_tests}
use Rattle.std.proofs.lemmas.List.{take_all, length-take-le}
use Rattle.ymx_header.specs.Headers.{header_of}
use Rattle.ymx_header.specs.declared.header.Header.{Header}
use Rattle.ymx_header.specs.declared.fault.Fault.{Fault}
use Rattle.ymx_cutter.specs.declared.item.Item.{Item}
use Rattle.ymx_header.specs.Frames.{fault_of, payload_length}
use Rattle.ymx_cutter.specs.Cutters.{Seen, Cut, next_of, item_of, seen_after, payload_seen, IsUnfinished, TakesFor}
use Rattle.ymx_cutter.specs.Cutters.Seen.{InHeader, Payload, Broken}
use Rattle.ymx_cutter.specs.Calls.{Call, AreCalls, text_of}
use Rattle.ymx_cutter.specs.Bytewise.{Event, header_event, byte_seen, byte_events, seen_in, events_in, piece_events, item_events, events_of}
use Rattle.ymx_cutter.specs.Bytewise.Event.{Payload_came}
use Rattle.ymx_cutter.proofs.Reading.{is_below, not_below, none_lack, some_lack}

-- ---- a text in two parts

pub seen_in-append : (limit : ℕ) (seen : Seen) (a b : List ℕ) → seen_in limit seen (a ++ b) ≡ seen_in limit (seen_in limit seen a) b
seen_in-append limit seen [] b = refl
seen_in-append limit seen (x ∷ a) b = seen_in-append limit (byte_seen limit seen x) a b

pub events_in-append : (limit : ℕ) (seen : Seen) (a b : List ℕ) → events_in limit seen (a ++ b) ≡ events_in limit seen a ++ events_in limit (seen_in limit seen a) b
events_in-append limit seen [] b = refl
events_in-append limit seen (x ∷ a) b =
    ap (λ (es : List Event). byte_events limit seen x ++ es) (events_in-append limit (byte_seen limit seen x) a b)
    ∙ sym (append_assoc (byte_events limit seen x) _ _)

-- ---- a part of a text does this to what is seen, and tells this

pub record Does (limit : ℕ) (seen : Seen) (part : List ℕ) (end : Seen) (events : List Event) : Type 0 where
  pub ends : seen_in limit seen part ≡ end
  pub tells : events_in limit seen part ≡ events

-- one byte, and then others
does_more : (limit : ℕ) (seen : Seen) (b : ℕ) (part : List ℕ) (end : Seen) (first events : List Event) → byte_events limit seen b ≡ first →
    Does limit (byte_seen limit seen b) part end events → Does limit seen (b ∷ part) end (first ++ events)
does_more limit seen b part end first events e d =
    record { ends = d.ends; tells = ap (λ (es : List Event). es ++ events_in limit (byte_seen limit seen b) part) e ∙ ap (λ (es : List Event). first ++ es) d.tells }

not_eleven : (n : ℕ) → n < 11 → (n == 11) ≡ false
not_eleven n p = grind (arith, nat_tests)

is_eleven : (n : ℕ) → n ≡ 11 → (n == 11) ≡ true
is_eleven n p = grind (arith, nat_tests)

push_front : (bytes : List ℕ) (b : ℕ) (part : List ℕ) → (bytes ++ b ∷ []) ++ part ≡ bytes ++ b ∷ part
push_front bytes b part = append_assoc bytes (b ∷ []) part

-- bytes inside a header tell nothing
does_inside : (limit : ℕ) (part bytes : List ℕ) → length bytes + length part < 12 → Does limit (InHeader bytes) part (InHeader (bytes ++ part)) []
does_inside limit [] bytes short = record { ends = ap InHeader (sym (append-nil bytes)); tells = refl }
does_inside limit (b ∷ part) bytes short =
    let test = not_eleven (length bytes) (omega arith) in
    let d = does_inside limit part (bytes ++ b ∷ []) (omega (arith, length-append bytes (b ∷ []))) in
    record { ends = rw (test, ← push_front bytes b part) d.ends; tells = rw test d.tells }

-- the last of them ends it
does_header : (limit : ℕ) (part bytes : List ℕ) → length bytes < 12 → length bytes + length part ≡ 12 →
    (let h = header_of (bytes ++ part) in Does limit (InHeader bytes) part (seen_after (fault_of limit h) (payload_length h)) (header_event (fault_of limit h) h ∷ []))
does_header limit [] bytes few whole = absurd (omega arith)
does_header limit (b ∷ []) bytes few whole =
    let test = is_eleven (length bytes) (omega arith) in
    record { ends = rw test refl; tells = rw test refl }
does_header limit (b ∷ c ∷ part) bytes few whole =
    let test = not_eleven (length bytes) (omega arith) in
    let d = does_header limit (c ∷ part) (bytes ++ b ∷ []) (omega (arith, length-append bytes (b ∷ []))) (omega (arith, length-append bytes (b ∷ []))) in
    record { ends = rw (test, ← push_front bytes b (c ∷ part)) d.ends; tells = rw (test, ← push_front bytes b (c ∷ part)) d.tells }

test_comm : (m n : ℕ) → (m == n) ≡ (n == m)
test_comm m n = grind (arith, nat_tests)

not_one : (n : ℕ) → 1 < n → (n == 1) ≡ false
not_one n p = grind (arith, nat_tests)

not_zero : (n : ℕ) → 1 < n → (n - 1 == 0) ≡ false
not_zero n p = grind (arith, nat_tests)

one_down : (n missing : ℕ) → suc n < missing + 1 → 0 < n → (n == missing - 1) ≡ (suc n == missing)
one_down n missing p q = grind (arith, nat_tests)

-- bytes of a payload are a piece
does_piece : (limit : ℕ) (part : List ℕ) (came missing : ℕ) → 0 < length part → length part ≤ missing →
    Does limit (Payload came missing) part (payload_seen (came + length part) (missing - length part)) (piece_events part (length part == missing))
does_piece limit [] came missing some fits = absurd (omega arith)
does_piece limit (b ∷ []) came missing some fits = record { ends = refl; tells = ap (λ (last : Bool). Payload_came b last ∷ []) (test_comm missing 1) }
does_piece limit (b ∷ c ∷ part) came missing some fits =
    let two : 1 < missing = omega arith in
    let d = does_piece limit (c ∷ part) (came + 1) (missing - 1) (omega arith) (omega arith) in
    let came_is : came + 1 + length (c ∷ part) ≡ came + length (b ∷ c ∷ part) = omega arith in
    let lacks_is : missing - 1 - length (c ∷ part) ≡ missing - length (b ∷ c ∷ part) = omega arith in
    let last_is : (length (c ∷ part) == missing - 1) ≡ (length (b ∷ c ∷ part) == missing) = one_down (length (c ∷ part)) missing (omega arith) (omega arith) in
    let seen_is : payload_seen (came + 1) (missing - 1) ≡ Payload (came + 1) (missing - 1) = rw (not_zero missing two) refl in
    let ends : seen_in limit (payload_seen (came + 1) (missing - 1)) (c ∷ part) ≡ payload_seen (came + length (b ∷ c ∷ part)) (missing - length (b ∷ c ∷ part)) =
    ap (λ (seen : Seen). seen_in limit seen (c ∷ part)) seen_is ∙ (d.ends ∙ ap2 payload_seen came_is lacks_is) in
    let tells : events_in limit (payload_seen (came + 1) (missing - 1)) (c ∷ part) ≡ piece_events (c ∷ part) (length (b ∷ c ∷ part) == missing) =
    ap (λ (seen : Seen). events_in limit seen (c ∷ part)) seen_is ∙ (d.tells ∙ ap (piece_events (c ∷ part)) last_is) in
    does_more limit (Payload came missing) b (c ∷ part) _ (Payload_came b false ∷ []) _ (ap (λ (last : Bool). Payload_came b last ∷ []) (not_one missing two)) (record { ends = ends; tells = tells })
  where
    ap2 : (f : ℕ → ℕ → Seen) {a b c d : ℕ} → a ≡ b → c ≡ d → f a c ≡ f b d
    ap2 f p q = λ i. f (p i) (q i)

-- ---- a call

header_tells : (fo : Option Fault) (h : Header) (b : ℕ) (part : List ℕ) → header_event fo h ∷ [] ≡ item_events (Some (item_of fo h)) (b ∷ part)
header_tells None h b part = refl
header_tells (Some fault) h b part = refl

abbrev CallDoes : ℕ → Seen → List ℕ → Cut → Type 0
CallDoes limit seen input cut = Does limit seen (take cut.taken input) cut.seen (item_events cut.item (take cut.taken input))

whole_does : (limit : ℕ) (bytes part : List ℕ) → length bytes < 12 → length bytes + length part ≡ 12 →
    (let h = header_of (bytes ++ part) in Does limit (InHeader bytes) part (seen_after (fault_of limit h) (payload_length h)) (item_events (Some (item_of (fault_of limit h) h)) part))
whole_does limit bytes [] few whole = absurd (omega arith)
whole_does limit bytes (b ∷ part) few whole =
    let h = header_of (bytes ++ b ∷ part) in
    let d = does_header limit (b ∷ part) bytes few whole in
    record { ends = d.ends; tells = d.tells ∙ header_tells (fault_of limit h) h b part }

part_does : (limit : ℕ) (bytes input : List ℕ) (short : Bool) → length bytes < 12 → nat_lt (length bytes + length input) 12 ≡ short →
    CallDoes limit (InHeader bytes) input (next_of limit (InHeader bytes) input)
part_does limit bytes input true few p =
    rw (p, take_all (length input) input (omega arith)) (does_inside limit input bytes (is_below _ _ p))
part_does limit bytes input false few p =
    let enough = not_below (length bytes + length input) 12 p in
    rw p (whole_does limit bytes (take (12 - length bytes) input) few (omega (arith, length-take-le (12 - length bytes) input (omega arith))))

some_does : (limit came missing : ℕ) (input : List ℕ) (empty : Bool) → 0 < missing → (length input == 0) ≡ empty →
    CallDoes limit (Payload came missing) input (next_of limit (Payload came missing) input)
some_does limit came missing input true some p = rw p (record { ends = refl; tells = refl })
some_does limit came missing input false some p =
    let len = min (length input) missing in
    let is_some = some_lack (length input) p in
    let n = length-take-le len input (omega arith) in
    let d = does_piece limit (take len input) came missing (omega arith) (omega arith) in
    rw p (record { ends = rw n at d.ends; tells = rw n at d.tells })

-- A call is what the bytes that it took do.
pub next_does : (limit : ℕ) (seen : Seen) (input : List ℕ) → IsUnfinished seen → CallDoes limit seen input (next_of limit seen input)
next_does limit (InHeader bytes) input few = part_does limit bytes input _ few refl
next_does limit (Payload came missing) input some = some_does limit came missing input _ some refl
next_does limit (Broken fault) input u = record { ends = refl; tells = refl }

-- ---- what a call takes, and leaves unfinished

header_unfinished : (fo : Option Fault) (n : ℕ) (none : Bool) → (n == 0) ≡ none → IsUnfinished (seen_after fo n)
header_unfinished (Some fault) n none p = tt
header_unfinished None n true p = rw p (omega arith)
header_unfinished None n false p = rw p (some_lack n p)

payload_unfinished : (came missing : ℕ) (none : Bool) → (missing == 0) ≡ none → IsUnfinished (payload_seen came missing)
payload_unfinished came missing true p = rw p (omega arith)
payload_unfinished came missing false p = rw p (some_lack missing p)

part_unfinished : (limit : ℕ) (bytes input : List ℕ) (short : Bool) → nat_lt (length bytes + length input) 12 ≡ short → IsUnfinished (next_of limit (InHeader bytes) input).seen
part_unfinished limit bytes input true p = let short = is_below _ _ p in rw p (omega (arith, length-append bytes input))
part_unfinished limit bytes input false p =
    let h = header_of (bytes ++ take (12 - length bytes) input) in
    rw p (header_unfinished (fault_of limit h) (payload_length h) _ refl)

some_unfinished : (limit came missing : ℕ) (input : List ℕ) (empty : Bool) → 0 < missing → (length input == 0) ≡ empty → IsUnfinished (next_of limit (Payload came missing) input).seen
some_unfinished limit came missing input true some p = rw p some
some_unfinished limit came missing input false some p = rw p (payload_unfinished _ _ _ refl)

pub next_unfinished : (limit : ℕ) (seen : Seen) (input : List ℕ) → IsUnfinished seen → IsUnfinished (next_of limit seen input).seen
next_unfinished limit (InHeader bytes) input few = part_unfinished limit bytes input _ refl
next_unfinished limit (Payload came missing) input some = some_unfinished limit came missing input _ some refl
next_unfinished limit (Broken fault) input u = tt

item_takes : (fo : Option Fault) (h : Header) (input : List ℕ) (taken : ℕ) → 0 < taken → TakesFor input taken (Some (item_of fo h))
item_takes None h input taken p = p
item_takes (Some fault) h input taken p = tt

part_takes : (limit : ℕ) (bytes input : List ℕ) (short : Bool) → length bytes < 12 → nat_lt (length bytes + length input) 12 ≡ short →
    TakesFor input (next_of limit (InHeader bytes) input).taken (next_of limit (InHeader bytes) input).item
part_takes limit bytes input true few p = rw p refl
part_takes limit bytes input false few p = rw p (item_takes _ _ input _ (omega arith))

some_takes : (limit came missing : ℕ) (input : List ℕ) (empty : Bool) → 0 < missing → (length input == 0) ≡ empty →
    TakesFor input (next_of limit (Payload came missing) input).taken (next_of limit (Payload came missing) input).item
some_takes limit came missing input true some p = rw p (sym (none_lack _ p))
some_takes limit came missing input false some p = let is_some = some_lack (length input) p in rw p (refl, omega arith)

pub next_takes : (limit : ℕ) (seen : Seen) (input : List ℕ) → IsUnfinished seen → TakesFor input (next_of limit seen input).taken (next_of limit seen input).item
next_takes limit (InHeader bytes) input few = part_takes limit bytes input _ few refl
next_takes limit (Payload came missing) input some = some_takes limit came missing input _ some refl
next_takes limit (Broken fault) input u = tt

-- ---- calls, however the text was cut

pub calls_do : (limit : ℕ) (seen end : Seen) (calls : List Call) → IsUnfinished seen → AreCalls limit seen calls end → Does limit seen (text_of calls) end (events_of calls)
calls_do limit seen end [] u e = record { ends = sym e; tells = refl }
calls_do limit seen end (call ∷ calls) u (input, small, bytes, item, others) =
    let cut = next_of limit seen input in
    let one = next_does limit seen input u in
    let rest = calls_do limit cut.seen end calls (next_unfinished limit seen input u) others in
    let ends : seen_in limit seen call.bytes ≡ cut.seen = ap (seen_in limit seen) bytes ∙ one.ends in
    let tells : events_in limit seen call.bytes ≡ item_events call.item call.bytes =
    ap (events_in limit seen) bytes ∙ (one.tells ∙ same_events item bytes) in
    record {
      ends = seen_in-append limit seen call.bytes (text_of calls) ∙ (ap (λ (s : Seen). seen_in limit s (text_of calls)) ends ∙ rest.ends);
      tells = events_in-append limit seen call.bytes (text_of calls)
          ∙ (ap (λ (s : Seen). events_in limit seen call.bytes ++ events_in limit s (text_of calls)) ends
          ∙ (ap (λ (es : List Event). es ++ events_in limit cut.seen (text_of calls)) tells ∙ ap (λ (es : List Event). item_events call.item call.bytes ++ es) rest.tells));
    }
  where
    same_events : {a b : Option Item} {x y : List ℕ} → a ≡ b → x ≡ y → item_events b y ≡ item_events a x
    same_events p q = λ i. item_events (sym p i) (sym q i)
