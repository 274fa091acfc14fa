-- How payload of several frames in a row is found, and passed on piece by piece.
use Rattle.std.proofs.Common.{◌≡◌, ◌⊎◌, ℕ, zero, suc, ◌+◌, ◌-◌, ◌<◌, ◌≤◌, ◌==◌, List, [], ◌∷◌, ◌++◌, length, take, drop, min, Bool, true, false, ◌||◌, inl, inr, refl, sym, ap, ◌∙◌, subst, arith, append-nil, append_assoc, take-append-drop, length-append, drop-drop, get_or, drop-cons, add-one}
use Rattle.std.specs.Prelude.{nat_eq, sum, Some}
use Rattle.std.proofs.Math.Seq.{take-append-add}
use Rattle.std.proofs.lemmas.Bool.Decides.{nat_tests}
use Rattle.std.proofs.lemmas.List.{length-take-le, length-drop, take-append-le}
use Rattle.std.proofs.lemmas.List.Folds.{list_all-append}
use Rattle.std.proofs.lemmas.List.Sums.{sum_by-cons}
use Rattle.std.proofs.lemmas.Grind.{common_steps}
use Rattle.ymx_machine.specs.declared.types.Call.TheVariants as call
use Rattle.ymx_machine.specs.declared.types.Fed.{Fed}
use Rattle.ymx_machine.specs.shared.Events.{Reply}
use Rattle.ymx_machine.specs.declared.types.Reply.TheVariants as reply
use Rattle.ymx_model.specs.session.Events.{Event}
use Rattle.ymx_model.specs.declared.types.Event.TheVariants as event
use Rattle.ymx_model.specs.session.Sessions.{Session}
use Rattle.ymx_model.specs.session.Emissions.{in_turn}
use Rattle.ymx_model.specs.session.Histories.{Gives}
use Rattle.ymx_session.specs.declared.passing.Passing.{Passing}
use Rattle.ymx_session.specs.Passing.{passing, all_fed, Passes, IsPlainHeader, PassesBehind}
use Rattle.ymx_session.proofs.Passes.{passing-is}
use Rattle.ymx_engine.specs.Events.{given, has_end, has_reset, has_stop}
use Rattle.ymx_engine.specs.Wires.{fed}
use Rattle.ymx_engine.specs.declared.row.Row.{Row}
use Rattle.ymx_engine.specs.Engines.{Engine}
use Rattle.ymx_engine.specs.Passes.{is_of_pass, IsPayload, counts_of, payload_in, payload_of, behind_row, InRow, IsRow, Follows, MayFollow, Commits}
use Rattle.ymx_engine.specs.Served.{GainsNone}
use Rattle.ymx_engine.proofs.Advancing.{fed_then, fronts_then, rest_of, fed_on, take_all}
use Rattle.ymx_engine.proofs.Beside.{IsPiece, passes_beside, piece_came, header_came, whole_piece}
use Rattle.ymx_engine.proofs.Carrying.{rejected_then}
use Rattle.ymx_engine.proofs.Gaining.{gains_then, gains_none}
use Rattle.ymx_engine.proofs.Exchanging.{happen_then, given_then, end_then, reset_then, stop_then, same_id, take_both}

first_and : (n : ℕ) (ns : List ℕ) → sum (n ∷ ns) ≡ n + sum ns
first_and n ns = sum_by-cons (λ (x : ℕ). x) n ns

-- ---- what is found

-- After what waits so many bytes of each further frame were found, until the row ended; then the headers say `total` bytes, and
-- `last` waits.
abbrev pub Found : (id missing : ℕ) → (ended : Bool) → (ahead : ℕ) → (waits : List ℕ) → List ℕ → (total : ℕ) → (last : List ℕ) → Session → Type 0
Found id missing ended ahead waits [] total last s = (total ≡ ahead) × (last ≡ waits)
Found id missing ended ahead waits (n ∷ ns) total last s =
    (behind : List ℕ) × (next : ℕ) × (ends : Bool) × MayFollow id missing ended ahead waits n behind next ends s × Found id missing ends next behind ns total last s

none_of : (n : ℕ) (ns : List ℕ) → n ≡ 0 → sum ns ≡ 0 → sum (n ∷ ns) ≡ 0
none_of n ns e f = let k = first_and n ns in omega arith

-- after the end of a row stands nothing of it
found_none : (id missing ahead total : ℕ) (ended : Bool) (waits ns last : List ℕ) (s : Session) → ended ≡ true → Found id missing ended ahead waits ns total last s → sum ns ≡ 0
found_none id missing ahead total ended waits [] last s e h = refl
found_none id missing ahead total ended waits (n ∷ ns) last s e (behind, next, ends, inl none, more) = none_of n ns none.0 (found_none id missing next total ends behind ns last s none.2 more)
found_none id missing ahead total ended waits (n ∷ ns) last s e (behind, next, ends, inr there, more) =
    let no : true ≡ false = sym e ∙ there.0 in cc

found_stays : (id missing ahead total : ℕ) (ended : Bool) (waits ns last : List ℕ) (s : Session) → ended ≡ true → Found id missing ended ahead waits ns total last s → last ≡ waits
found_stays id missing ahead total ended waits [] last s e h = h.1
found_stays id missing ahead total ended waits (n ∷ ns) last s e (behind, next, ends, inl none, more) = found_stays id missing next total ends behind ns last s none.2 more ∙ none.3
found_stays id missing ahead total ended waits (n ∷ ns) last s e (behind, next, ends, inr there, more) =
    let no : true ≡ false = sym e ∙ there.0 in cc

-- headers only add to what they say
found_more : (id missing ahead total : ℕ) (ended : Bool) (waits ns last : List ℕ) (s : Session) → Found id missing ended ahead waits ns total last s → ahead ≤ total
found_more id missing ahead total ended waits [] last s h = let i = h.0 in omega arith
found_more id missing ahead total ended waits (n ∷ ns) last s (behind, next, ends, inl none, more) =
    let i = found_more id missing next total ends behind ns last s more in let j = none.1 in omega arith
found_more id missing ahead total ended waits (n ∷ ns) last s (behind, next, ends, inr there, more) =
    let i = found_more id missing next total ends behind ns last s more in let j = (there.1).sums in omega arith

fewer_behind : (id missing ahead count next : ℕ) (waits behind : List ℕ) (s : Session) → Follows id missing ahead count waits behind next s → length behind ≤ length waits
fewer_behind id missing ahead count next waits behind s f = let l : length behind ≡ length waits - (12 + count) = ap length f.rest ∙ length-drop (12 + count) waits in omega arith

-- and what waits only gets less
found_fewer : (id missing ahead total : ℕ) (ended : Bool) (waits ns last : List ℕ) (s : Session) → Found id missing ended ahead waits ns total last s → length last ≤ length waits
found_fewer id missing ahead total ended waits [] last s h = let i : length last ≡ length waits = ap length h.1 in omega arith
found_fewer id missing ahead total ended waits (n ∷ ns) last s (behind, next, ends, inl none, more) =
    let i = found_fewer id missing next total ends behind ns last s more in let j : length behind ≡ length waits = ap length none.3 in omega arith
found_fewer id missing ahead total ended waits (n ∷ ns) last s (behind, next, ends, inr there, more) =
    let i = found_fewer id missing next total ends behind ns last s more in let j = fewer_behind id missing ahead n next waits behind s there.1 in omega arith

found_passes : (id missing ahead total : ℕ) (ended : Bool) (waits ns last : List ℕ) (s : Session) → PassesBehind id missing ahead s → Found id missing ended ahead waits ns total last s → PassesBehind id missing total s
found_passes id missing ahead total ended waits [] last s p h = subst (λ (n : ℕ). PassesBehind id missing n s) (sym h.0) p
found_passes id missing ahead total ended waits (n ∷ ns) last s p (behind, next, ends, inl none, more) =
    found_passes id missing next total ends behind ns last s (subst (λ (m : ℕ). PassesBehind id missing m s) (sym none.1) p) more
found_passes id missing ahead total ended waits (n ∷ ns) last s p (behind, next, ends, inr there, more) = found_passes id missing next total ends behind ns last s (there.1).passes more

-- the payload that comes may be passed on
passes_first : (p : Passing) (s : Session) → passing s ≡ Some p → PassesBehind p.id p.missing 0 s
passes_first p s e = record { passes = e; further = λ none. let no : ⊥ = omega arith in absurd no }

at_least : (n a b : ℕ) → n ≡ min a b → (n ≤ a) × (n ≤ b)
at_least n a b e = (omega arith, omega arith)

-- a frame after which no byte of the row waits
in_row_last : (id missing said n : ℕ) (ns waits : List ℕ) → n ≡ min missing (length waits) → sum ns ≡ 0 → InRow id missing said (n ∷ ns) waits
in_row_last id missing said n ns waits least none =
    let two = at_least n missing (length waits) least in (two.0, two.1, λ some. let no : ⊥ = omega (arith, none) in absurd no)

long_enough : (waits : List ℕ) → length (take 12 waits) ≡ 12 → 12 ≤ length waits
long_enough waits e = let short : length (take 12 waits) ≤ length waits = grind (arith, common_steps) in omega arith

is_all : (n missing all left : ℕ) → n ≡ min missing all → left ≡ all - n → 12 ≤ left → n ≡ missing
is_all n missing all left least rest long = omega arith

fits_in : (ahead said next total : ℕ) → next ≡ ahead + said → next ≤ total → (said ≤ total - ahead) × (total - next ≡ total - ahead - said)
fits_in ahead said next total e le = (omega arith, omega arith)

-- a frame after which one more waits
in_row_more : (id of missing ahead next total n m : ℕ) (ms waits behind rest : List ℕ) (s : Session) → n ≡ min missing (length waits) → behind ≡ drop n waits → (f : Follows id of ahead m behind rest next s) → next ≤ total →
    InRow id f.said (total - next) (m ∷ ms) (drop 12 behind) → InRow id missing (total - ahead) (n ∷ m ∷ ms) waits
in_row_more id of missing ahead next total n m ms waits behind rest s least is f le inner =
    let two = at_least n missing (length waits) least in
    let fits = fits_in ahead f.said next total f.sums le in
    let left : length behind ≡ length waits - n = ap length is ∙ length-drop n waits in
    let whole : n ≡ missing = is_all n missing (length waits) (length behind) least left (long_enough behind (f.plain).whole) in
    let at : drop 12 behind ≡ drop (n + 12) waits = ap (drop 12) is ∙ drop-drop 12 n waits in
    let plain : IsPlainHeader id f.said (take 12 (drop n waits)) = subst (λ (v : List ℕ). IsPlainHeader id f.said (take 12 v)) is f.plain in
    let moved : InRow id f.said (total - next) (m ∷ ms) (drop (n + 12) waits) = subst (λ (v : List ℕ). InRow id f.said (total - next) (m ∷ ms) v) at inner in
    let counted : InRow id f.said (total - ahead - f.said) (m ∷ ms) (drop (n + 12) waits) = subst (λ (k : ℕ). InRow id f.said k (m ∷ ms) (drop (n + 12) waits)) fits.1 moved in
    (two.0, two.1, λ some. (whole, (f.said, plain, fits.0, counted)))

least_behind : (id of ahead next m : ℕ) (behind rest : List ℕ) (s : Session) → (f : Follows id of ahead m behind rest next s) → m ≡ min f.said (length (drop 12 behind))
least_behind id of ahead next m behind rest s f = f.least ∙ ap (λ (k : ℕ). min f.said k) (sym (length-drop 12 behind))

rest_behind : (id of ahead next m : ℕ) (behind rest : List ℕ) (s : Session) → Follows id of ahead m behind rest next s → rest ≡ drop m (drop 12 behind)
rest_behind id of ahead next m behind rest s f = f.rest ∙ sym (drop-drop m 12 behind)

-- what was found stands in a row
found_in_row : (id of missing ahead total n : ℕ) (ended : Bool) (waits behind ns last : List ℕ) (s : Session) → n ≡ min missing (length waits) → behind ≡ drop n waits → Found id of ended ahead behind ns total last s →
    InRow id missing (total - ahead) (n ∷ ns) waits
found_in_row id of missing ahead total n ended waits behind [] last s least is h = in_row_last id missing (total - ahead) n [] waits least refl
found_in_row id of missing ahead total n ended waits behind (m ∷ ms) last s least is (rest, next, ends, inl none, more) =
    in_row_last id missing (total - ahead) n (m ∷ ms) waits least (none_of m ms none.0 (found_none id of next total ends rest ms last s none.2 more))
found_in_row id of missing ahead total n ended waits behind (m ∷ ms) last s least is (rest, next, ends, inr there, more) =
    in_row_more id of missing ahead next total n m ms waits behind rest s least is there.1 (found_more id of next total ends rest ms last s more)
    (found_in_row id of (there.1).said next total m ends (drop 12 behind) rest ms last s (least_behind id of ahead next m behind rest s there.1) (rest_behind id of ahead next m behind rest s there.1) more)

row_ends : (n : ℕ) (ns waits : List ℕ) → sum ns ≡ 0 → behind_row (n ∷ ns) waits ≡ drop n waits
unfolding behind_row
row_ends n ns waits e = grind (arith, nat_tests, e)

row_goes : (n : ℕ) (ns waits : List ℕ) → 0 < sum ns → behind_row (n ∷ ns) waits ≡ behind_row ns (drop (n + 12) waits)
unfolding behind_row
row_goes n ns waits some = grind (arith, nat_tests, some)

-- where no byte of the frame after waits, nothing waits after it
nothing_behind : (id of ahead next m : ℕ) (behind rest last : List ℕ) (s : Session) → Follows id of ahead m behind rest next s → m ≡ 0 → length last ≤ length rest → 0 < length last → ⊥
nothing_behind id of ahead next m behind rest last s f none fewer some =
    let long = long_enough behind (f.plain).whole in
    let positive = (f.plain).some in
    let least = f.least in
    let l : length rest ≡ length behind - (12 + m) = ap length f.rest ∙ length-drop (12 + m) behind in omega arith

zero_or : (n : ℕ) → (n ≡ 0) ⊎ (0 < n)
zero_or zero = inl refl
zero_or (suc n) = inr (omega arith)

behind_more : (id of ahead next n m : ℕ) (ms waits behind rest last : List ℕ) (s : Session) → behind ≡ drop n waits → Follows id of ahead m behind rest next s → length last ≤ length rest → 0 < length last → last ≡ behind_row (m ∷ ms) (drop 12 behind) →
    last ≡ behind_row (n ∷ m ∷ ms) waits
behind_more id of ahead next n m ms waits behind rest last s is f fewer some same = by (zero_or (sum (m ∷ ms)))
  where
    at : drop 12 behind ≡ drop (n + 12) waits
    at = ap (drop 12) is ∙ drop-drop 12 n waits

    by : (sum (m ∷ ms) ≡ 0) ⊎ (0 < sum (m ∷ ms)) → last ≡ behind_row (n ∷ m ∷ ms) waits
    by (inl none) = absurd (nothing_behind id of ahead next m behind rest last s f (let k = first_and m ms in omega arith) fewer some)
    by (inr more) = same ∙ ap (behind_row (m ∷ ms)) at ∙ sym (row_goes n (m ∷ ms) waits more)

-- what waits last waits after the row
found_behind : (id of ahead total n : ℕ) (ended : Bool) (waits behind ns last : List ℕ) (s : Session) → behind ≡ drop n waits → Found id of ended ahead behind ns total last s → 0 < length last → last ≡ behind_row (n ∷ ns) waits
found_behind id of ahead total n ended waits behind [] last s is h some = h.1 ∙ is ∙ sym (row_ends n [] waits refl)
found_behind id of ahead total n ended waits behind (m ∷ ms) last s is (rest, next, ends, inl none, more) some =
    found_stays id of next total ends rest ms last s none.2 more ∙ none.3 ∙ is ∙ sym (row_ends n (m ∷ ms) waits (none_of m ms none.0 (found_none id of next total ends rest ms last s none.2 more)))
found_behind id of ahead total n ended waits behind (m ∷ ms) last s is (rest, next, ends, inr there, more) some =
    behind_more id of ahead next n m ms waits behind rest last s is there.1 (found_fewer id of next total ends rest ms last s more) some
    (found_behind id of next total m ends (drop 12 behind) rest ms last s (rest_behind id of ahead next m behind rest s there.1) more some)

-- the row that was found
pub is_row : (r : Row) (missing ahead total : ℕ) (ended : Bool) (waits behind last : List ℕ) (s : Session) → passing s ≡ Some (record { id = r.id; missing = missing }) → r.first ≡ min missing (length waits) → behind ≡ drop r.first waits → ahead ≡ 0 →
    Found r.id missing ended ahead behind (r.second ∷ r.third ∷ r.fourth ∷ []) total last s → (r.is_whole ≡ true → 0 < length last) → IsRow r waits s
is_row r missing ahead total ended waits behind last s e least rest none found whole =
    let from : PassesBehind r.id missing ahead s = subst (λ (n : ℕ). PassesBehind r.id missing n s) (sym none) (passes_first (record { id = r.id; missing = missing }) s e) in
    let same : total - ahead ≡ total = omega arith in
    let row : InRow r.id missing (total - ahead) (r.first ∷ r.second ∷ r.third ∷ r.fourth ∷ []) waits = found_in_row r.id missing missing ahead total r.first ended waits behind (r.second ∷ r.third ∷ r.fourth ∷ []) last s least rest found in
    record {
      missing = missing;
      said = total;
      first = least;
      in_row = subst (λ (n : ℕ). InRow r.id missing n (r.first ∷ r.second ∷ r.third ∷ r.fourth ∷ []) waits) same row;
      passes = found_passes r.id missing ahead total ended behind (r.second ∷ r.third ∷ r.fourth ∷ []) last s from found;
      whole = λ is.
          let some = whole is in
          subst (λ (v : List ℕ). 0 < length v) (found_behind r.id missing ahead total r.first ended waits behind (r.second ∷ r.third ∷ r.fourth ∷ []) last s rest found some) some;
    }

-- so the first of what waits is payload that may be passed on
pub is_payload : (r : Row) (e : Engine) → IsRow r e.incoming e.session → IsPayload r.id r.first e
is_payload r e row = record { payload = record { id = r.id; missing = row.missing }; next = (row.passes).passes; same = refl; missing = row.in_row.0; waits = row.in_row.1 }

-- ---- passing on

commits_none : (id : ℕ) (waits : List ℕ) (s : Session) → Commits id [] waits waits s s
commits_none id waits s = record { events = []; happen = refl; own = refl; fronts = tt; starves = refl; took = refl; gave = refl; some = omega arith; ends = refl; resets = refl; stops = refl }

commits_pass : (id : ℕ) (bytes waits rest : List ℕ) (s t : Session) → waits ≡ bytes ++ rest → Passes id bytes s t → Commits id bytes waits rest s t
commits_pass id bytes waits rest s t e x =
    let i = same_id id in
    let f : Event = event.Feed bytes in
    let d : Event = event.Call (call.Read id (length bytes)) in
    let all : take (length bytes) bytes ++ [] ≡ bytes = append-nil (take (length bytes) bytes) ∙ take_all bytes in
    record {
      events = (f, reply.Fed (all_fed bytes)) ∷ (d, reply.Read bytes) ∷ [];
      happen = (x.mid, x.fed, (t, x.read, refl));
      own = rw i refl;
      fronts = ((rest, e), (tt, tt));
      starves = refl;
      took = e ∙ ap (λ (v : List ℕ). v ++ rest) (sym all);
      gave = rw i (append-nil bytes);
      some = let j : length (take (length bytes) bytes ++ []) ≡ length bytes = ap length all in omega (arith, j);
      ends = rw i refl;
      resets = refl;
      stops = rw i refl;
    }

commits_feed : (id : ℕ) (header waits rest : List ℕ) (told : Fed) (s t : Session) → waits ≡ header ++ rest → told ≡ all_fed header → Gives in_turn s (event.Feed header) (reply.Fed told) t → Commits id [] waits rest s t
commits_feed id header waits rest told s t e same g =
    let all : take (length header) header ++ [] ≡ header = append-nil (take (length header) header) ∙ take_all header in
    record {
      events = (event.Feed header, reply.Fed (all_fed header)) ∷ [];
      happen = (t, subst (λ (f : Fed). Gives in_turn s (event.Feed header) (reply.Fed f) t) same g, refl);
      own = refl;
      fronts = ((rest, e), tt);
      starves = refl;
      took = e ∙ ap (λ (v : List ℕ). v ++ rest) (sym all);
      gave = refl;
      some = omega arith;
      ends = refl;
      resets = refl;
      stops = refl;
    }

commits_then : (id : ℕ) (xs ys a b c : List ℕ) (s t u : Session) → Commits id xs a b s t → Commits id ys b c t u → Commits id (xs ++ ys) a c s u
commits_then id xs ys a b c s t u x y =
    let es = x.events in
    let fs = y.events in record {
      events = es ++ fs;
      happen = happen_then es fs s t u x.happen y.happen;
      own = rw (list_all-append (λ (e : Event × Reply). is_of_pass id e.0) es fs, x.own, y.own) refl;
      fronts = fronts_then es fs a b (rest_of es a b x.took) x.fronts y.fronts;
      starves = let p = rejected_then es fs in omega (arith, p, x.starves, y.starves);
      took = fed_on es fs a b c x.took y.took;
      gave = given_then id es fs ∙ ap (λ (v : List ℕ). v ++ given id fs) x.gave ∙ ap (λ (v : List ℕ). xs ++ v) y.gave;
      some =
          let i = length-append xs ys in
          let j : length (fed (es ++ fs)) ≡ length (fed es) + length (fed fs) = ap length (fed_then es fs) ∙ length-append (fed es) (fed fs) in omega (arith, i, j, x.some, y.some);
      ends = end_then id es fs ∙ ap (λ (v : Bool). v || has_end id fs) x.ends ∙ y.ends;
      resets = reset_then id es fs ∙ ap (λ (v : Bool). v || has_reset id fs) x.resets ∙ y.resets;
      stops = stop_then id es fs ∙ ap (λ (v : Bool). v || has_stop id fs) x.stops ∙ y.stops;
    }

-- what the law `follows` says
abbrev pub HeaderFollows : Type 0
HeaderFollows =
    (id missing behind count : ℕ) (bytes header : List ℕ) (told : Fed) (s t u : Session) → PassesBehind id missing behind s → 0 < missing → length bytes ≡ missing → Passes id bytes s t → IsPlainHeader id count header →
    count ≤ behind → Gives in_turn t (event.Feed header) (reply.Fed told) u → (told ≡ all_fed header) × PassesBehind id count (behind - count) u

-- of each frame at most so many bytes are there
payload_fits : (ns waits : List ℕ) → length (payload_in ns waits) ≤ sum ns
payload_fits [] waits = omega arith
payload_fits (n ∷ ns) waits =
    let i = payload_fits ns (drop (n + 12) waits) in
    let j = length-append (take n waits) (payload_in ns (drop (n + 12) waits)) in
    let k : length (take n waits) ≤ n = grind (arith, common_steps) in
    let l = first_and n ns in
    omega arith

-- of what is left the next piece waits
pub record Waits (missing n left count : ℕ) (ns waits : List ℕ) : Type 0 where
  pub within : count ≤ length waits
  pub some : 0 < count
  pub few : count ≤ missing
  pub front : take count waits ≡ take count (payload_in (n ∷ ns) waits)
  pub more : count < left → (count ≡ n) × (0 < sum ns)

some_if : (n : ℕ) → (n ≡ 0 → ⊥) → 0 < n
some_if n h = omega (arith, h)

piece_waits : (id missing said n left count : ℕ) (ns waits : List ℕ) → InRow id missing said (n ∷ ns) waits → 0 < missing → 0 < left → left ≤ length (payload_in (n ∷ ns) waits) → count ≡ min left n →
    Waits missing n left count ns waits
piece_waits id missing said n left count ns waits h positive some fits least =
    let tail : List ℕ = payload_in ns (drop (n + 12) waits) in
    let all : length (payload_in (n ∷ ns) waits) ≡ length (take n waits) + length tail = length-append (take n waits) tail in
    let l : length (take n waits) ≡ n = length-take-le n waits h.1 in
    let i : length tail ≤ sum ns = payload_fits ns (drop (n + 12) waits) in
    let there : 0 < n = some_if n (λ (e : n ≡ 0). let whole : n ≡ missing = (h.2 (omega arith)).0 in omega arith) in
    let a = h.0 in
    let b = h.1 in
    record {
      within = omega arith;
      some = omega arith;
      few = omega arith;
      front = sym (take-append-le count (take n waits) tail (omega arith) ∙ take_both count n waits (omega arith));
      more = λ less. (omega arith, omega arith);
    }

-- ---- in turns

-- a row of which a byte waits
pub row_some : (r : Row) (waits : List ℕ) (s : Session) → IsRow r waits s → 0 < r.first → 0 < length (payload_of r waits)
row_some r waits s row some =
    let tail : List ℕ = payload_in (r.second ∷ r.third ∷ r.fourth ∷ []) (drop (r.first + 12) waits) in
    let i : length (payload_of r waits) ≡ length (take r.first waits) + length tail = length-append (take r.first waits) tail in
    let j : length (take r.first waits) ≡ r.first = length-take-le r.first waits row.in_row.1 in omega arith

-- So far `at` bytes of what waited came. Of the payload that is to be passed on `left` bytes are left, and wait in a row of so
-- many bytes of each frame.
pub record Going (id at left taken : ℕ) (counts payload waits : List ℕ) (s t : Session) : Type 0 where
  pub went : List ℕ
  pub missing : ℕ
  pub said : ℕ
  pub split : payload ≡ went ++ payload_in counts (drop at waits)
  pub counted : length went + left ≡ taken
  pub some : 0 < left
  pub fits : left ≤ length (payload_in counts (drop at waits))
  pub within : at ≤ length waits
  pub positive : 0 < missing
  pub done : Commits id went waits (drop at waits) s t
  pub row : InRow id missing said counts (drop at waits)
  pub passes : PassesBehind id missing said t
  pub others : (other : ℕ) → nat_eq id other ≡ false → GainsNone other s t
  pub status : t.status ≡ s.status

going_starts : (id missing said taken : ℕ) (counts waits : List ℕ) (s : Session) → InRow id missing said counts waits → PassesBehind id missing said s → 0 < missing → 0 < taken → taken ≤ length (payload_in counts waits) →
    Going id 0 taken taken counts (payload_in counts waits) waits s s
going_starts id missing said taken counts waits s row passes positive some fits = record {
  went = [];
  missing = missing;
  said = said;
  split = refl;
  counted = omega arith;
  some = some;
  fits = fits;
  within = omega arith;
  positive = positive;
  done = commits_none id waits s;
  row = row;
  passes = passes;
  others = λ other ne. gains_none other s;
  status = refl;
}

pub going_row : (r : Row) (taken : ℕ) (counts waits : List ℕ) (s : Session) → counts ≡ counts_of r → IsRow r waits s → 0 < r.first → 0 < taken → taken ≤ length (payload_of r waits) → Going r.id 0 taken taken counts (payload_of r waits) waits s s
going_row r taken counts waits s is row first some fits =
    let positive : 0 < row.missing = let i = row.in_row.0 in omega arith in
    subst (λ (v : List ℕ). Going r.id 0 taken taken v (payload_of r waits) waits s s) (sym is) (going_starts r.id row.missing row.said taken (counts_of r) waits s row.in_row row.passes positive some fits)

-- the frame whose turn it is
pub going_at : (r : Row) (id at left taken i : ℕ) (items payload waits : List ℕ) (s t : Session) → items ≡ counts_of r → Going id at left taken (drop i items) payload waits s t → i < 4 →
    Going id at left taken (get_or items i 0 ∷ drop (i + 1) items) payload waits s t
going_at r id at left taken i items payload waits s t is x inside =
    let all : length items ≡ 4 = ap length is in
    let within : i < length items = omega arith in
    let e : drop i items ≡ get_or items i 0 ∷ drop (i + 1) items = rw (add-one, drop-cons items i 0) refl in
    subst (λ (v : List ℕ). Going id at left taken v payload waits s t) e x

-- the next piece waits
going_piece : (id at left taken n count : ℕ) (ns payload waits : List ℕ) (s t : Session) → (x : Going id at left taken (n ∷ ns) payload waits s t) → count ≡ min left n → Waits x.missing n left count ns (drop at waits)
going_piece id at left taken n count ns payload waits s t x least = piece_waits id x.missing x.said n left count ns (drop at waits) x.row x.positive x.some x.fits least

-- the header after it waits
pub going_header : (id at left taken n count : ℕ) (ns payload waits : List ℕ) (s t : Session) → Going id at left taken (n ∷ ns) payload waits s t → count ≡ min left n → count < left → at + count + 12 ≤ length waits
going_header id at left taken n count ns payload waits s t x least less =
    let more = (going_piece id at left taken n count ns payload waits s t x least).more less in
    let header = (x.row.2 more.1).1 in
    let whole : length (take 12 (drop n (drop at waits))) ≡ 12 = (header.1).whole in
    let short : length (take 12 (drop n (drop at waits))) ≤ length (drop n (drop at waits)) = grind (arith, common_steps) in
    let l : length (drop n (drop at waits)) ≡ length (drop at waits) - n = length-drop n (drop at waits) in
    let k : length (drop at waits) ≡ length waits - at = length-drop at waits in
    let w = x.within in
    let c = more.0 in omega arith

-- what is passed on is the front of what is left
went_on : (id at left taken n count : ℕ) (ns payload waits : List ℕ) (s t u : Session) → (x : Going id at left taken (n ∷ ns) payload waits s t) → count ≡ min left n → Passes id (take (at + count - at) (drop at waits)) t u →
    Commits id (x.went ++ take count (payload_in (n ∷ ns) (drop at waits))) waits (drop (at + count) waits) s u
went_on id at left taken n count ns payload waits s t u x least p =
    let k : at + count - at ≡ count = omega arith in
    let front = (going_piece id at left taken n count ns payload waits s t x least).front in
    let more : List ℕ = take count (payload_in (n ∷ ns) (drop at waits)) in
    let y : Passes id more t u = subst (λ (v : List ℕ). Passes id v t u) (ap (λ (m : ℕ). take m (drop at waits)) k ∙ front) p in
    commits_then id x.went more waits (drop at waits) (drop (at + count) waits) s t u x.done
    (commits_pass id more (drop at waits) (drop (at + count) waits) t u (sym (take-append-drop count (drop at waits)) ∙ ap (λ (v : List ℕ). v ++ drop count (drop at waits)) front ∙ ap (λ (v : List ℕ). more ++ v) (drop-drop count at waits)) y)

-- all that is to be passed on was
pub going_ends : (id at left taken n count : ℕ) (ns payload waits : List ℕ) (s t u : Session) → (x : Going id at left taken (n ∷ ns) payload waits s t) → count ≡ min left n → left - count ≡ 0 →
    Passes id (take (at + count - at) (drop at waits)) t u → Commits id (take taken payload) waits (drop (at + count) waits) s u
going_ends id at left taken n count ns payload waits s t u x least over p =
    let all : length x.went + count ≡ taken = omega (arith, x.counted, least, over) in
    let rest : List ℕ = payload_in (n ∷ ns) (drop at waits) in
    subst (λ (v : List ℕ). Commits id v waits (drop (at + count) waits) s u) (sym (take-append-add x.went rest count) ∙ ap (take (length x.went + count)) (sym x.split) ∙ ap (λ (m : ℕ). take m payload) all)
    (went_on id at left taken n count ns payload waits s t u x least p)

next_piece : (id at left taken n count : ℕ) (ns payload waits : List ℕ) (s t u : Session) → (x : Going id at left taken (n ∷ ns) payload waits s t) → count ≡ min left n → Passes id (take count (drop at waits)) t u →
    IsPiece id (length (take count (drop at waits)) == x.missing) t u
next_piece id at left taken n count ns payload waits s t u x least y =
    let p = going_piece id at left taken n count ns payload waits s t x least in
    let l : length (take count (drop at waits)) ≡ count = length-take-le count (drop at waits) p.within in
    passes_beside id x.missing x.said (take count (drop at waits)) t u x.passes (omega (arith, l, p.some)) (omega (arith, l, p.few)) y

-- nor do bytes of the others come with the last piece
pub ends_beside : (id at left taken n count : ℕ) (ns payload waits : List ℕ) (s t u : Session) → (x : Going id at left taken (n ∷ ns) payload waits s t) → count ≡ min left n →
    Passes id (take (at + count - at) (drop at waits)) t u → (other : ℕ) → nat_eq id other ≡ false → GainsNone other s u
ends_beside id at left taken n count ns payload waits s t u x least p other ne =
    let k : at + count - at ≡ count = omega arith in
    let y : Passes id (take count (drop at waits)) t u = subst (λ (m : ℕ). Passes id (take m (drop at waits)) t u) k p in
    gains_then other s t u (x.others other ne) (piece_came id other _ t u (next_piece id at left taken n count ns payload waits s t u x least y) ne)

-- nor does the session stop with it
pub ends_status : (id at left taken n count : ℕ) (ns payload waits : List ℕ) (s t u : Session) → (x : Going id at left taken (n ∷ ns) payload waits s t) → count ≡ min left n →
    Passes id (take (at + count - at) (drop at waits)) t u → u.status ≡ s.status
ends_status id at left taken n count ns payload waits s t u x least p =
    let k : at + count - at ≡ count = omega arith in
    let y : Passes id (take count (drop at waits)) t u = subst (λ (m : ℕ). Passes id (take m (drop at waits)) t u) k p in
    (next_piece id at left taken n count ns payload waits s t u x least y).status ∙ x.status

-- a piece was passed on whole, and the header after it fed
pub going_on : HeaderFollows → (id at left taken n count : ℕ) (ns payload waits : List ℕ) (told : Fed) (s t u v : Session) → (x : Going id at left taken (n ∷ ns) payload waits s t) → count ≡ min left n → count < left →
    Passes id (take (at + count - at) (drop at waits)) t u → Gives in_turn u (event.Feed (take (at + count + 12 - (at + count)) (drop (at + count) waits))) (reply.Fed told) v →
    Going id (at + count + 12) (left - count) taken ns payload waits s v
going_on law id at left taken n count ns payload waits told s t u v x least less p g =
    let k : at + count - at ≡ count = omega arith in
    let k2 : at + count + 12 - (at + count) ≡ 12 = omega arith in
    let k3 : at + (n + 12) ≡ at + count + 12 = omega arith in
    let waiting : List ℕ = drop at waits in
    let piece = going_piece id at left taken n count ns payload waits s t x least in
    let more = piece.more less in
    let h = x.row.2 more.1 in
    let next : ℕ = (h.1).0 in
    let header : List ℕ = take (at + count + 12 - (at + count)) (drop (at + count) waits) in
    let spelled : header ≡ take 12 (drop n waiting) =
    ap (λ (m : ℕ). take m (drop (at + count) waits)) k2 ∙ ap (take 12) (sym (drop-drop count at waits) ∙ ap (λ (m : ℕ). drop m waiting) more.0) in
    let plain : IsPlainHeader id next header = subst (λ (w : List ℕ). IsPlainHeader id next w) (sym spelled) (h.1).1 in
    let y : Passes id (take count waiting) t u = subst (λ (m : ℕ). Passes id (take m waiting) t u) k p in
    let l : length (take count waiting) ≡ count = length-take-le count waiting piece.within in
    let whole : length (take count waiting) ≡ x.missing = l ∙ more.0 ∙ h.0 in
    let behind = law id x.missing x.said next (take count waiting) header told t u v x.passes x.positive whole y plain (h.1).2 g in
    let rest : drop (n + 12) waiting ≡ drop (at + count + 12) waits = drop-drop (n + 12) at waits ∙ ap (λ (m : ℕ). drop m waits) k3 in
    let tail : List ℕ = payload_in ns (drop (at + count + 12) waits) in
    let tail_is : payload_in ns (drop (n + 12) waiting) ≡ tail = ap (payload_in ns) rest in
    let taken_is : take count (payload_in (n ∷ ns) waiting) ≡ take n waiting = sym piece.front ∙ ap (λ (m : ℕ). take m waiting) more.0 in
    let went : List ℕ = x.went ++ take n waiting in
    let now : Commits id went waits (drop (at + count) waits) s u =
    subst (λ (w : List ℕ). Commits id (x.went ++ w) waits (drop (at + count) waits) s u) taken_is (went_on id at left taken n count ns payload waits s t u x least p) in
    let fed_so : Commits id [] (drop (at + count) waits) (drop (at + count + 12) waits) u v =
    commits_feed id header (drop (at + count) waits) (drop (at + count + 12) waits) told u v
    (sym (take-append-drop 12 (drop (at + count) waits)) ∙ ap (λ (w : List ℕ). w ++ drop 12 (drop (at + count) waits)) (ap (λ (m : ℕ). take m (drop (at + count) waits)) (sym k2)) ∙ ap (λ (w : List ℕ). header ++ w) (drop-drop 12 (at + count) waits))
    behind.0 g in
    let done = commits_then id went [] waits (drop (at + count) waits) (drop (at + count + 12) waits) s u v now fed_so in
    let long = going_header id at left taken n count ns payload waits s t x least less in
    let parts : length (payload_in (n ∷ ns) waiting) ≡ length (take n waiting) + length tail = length-append (take n waiting) (payload_in ns (drop (n + 12) waiting)) ∙ ap (λ (w : List ℕ). length (take n waiting) + length w) tail_is in
    let first : length (take n waiting) ≡ n = length-take-le n waiting x.row.1 in
    record {
      went = went;
      missing = next;
      said = x.said - next;
      split = x.split ∙ ap (λ (w : List ℕ). x.went ++ (take n waiting ++ w)) tail_is ∙ sym (append_assoc x.went (take n waiting) tail);
      counted = omega (arith, x.counted, length-append x.went (take n waiting), first, more.0, less);
      some = omega (arith, less);
      fits = omega (arith, x.fits, parts, first, more.0);
      within = omega (arith, long);
      positive = plain.some;
      done = subst (λ (w : List ℕ). Commits id w waits (drop (at + count + 12) waits) s v) (append-nil went) done;
      row = subst (λ (w : List ℕ). InRow id next (x.said - next) ns w) rest ((h.1).3);
      passes = behind.1;
      others = λ other ne.
          let last = whole_piece count x.missing waiting piece.within (more.0 ∙ h.0) in
          let beside = next_piece id at left taken n count ns payload waits s t u x least y in
          let running = (passing-is (record { id = id; missing = x.missing }) t (x.passes).passes).running in
          let runs = (passing-is (record { id = id; missing = next }) v (behind.1).passes).running in
          gains_then other s t v (x.others other ne) (gains_then other t u v (piece_came id other _ t u beside ne) (header_came id next other header told u v (beside.status ∙ running) runs (beside.whole last) plain behind.0 g ne));
      status =
          let was = (passing-is (record { id = id; missing = x.missing }) t (x.passes).passes).running in
          let is = (passing-is (record { id = id; missing = next }) v (behind.1).passes).running in
          is ∙ sym was ∙ x.status;
    }

pub piece_some : (id at left taken n count : ℕ) (ns payload waits : List ℕ) (s t : Session) → Going id at left taken (n ∷ ns) payload waits s t → count ≡ min left n → 0 < length (take (at + count - at) (drop at waits))
piece_some id at left taken n count ns payload waits s t x least =
    let p = going_piece id at left taken n count ns payload waits s t x least in
    let some = p.some in
    let k : at + count - at ≡ count = omega arith in
    let l : length (take (at + count - at) (drop at waits)) ≡ count = ap (λ (m : ℕ). length (take m (drop at waits))) k ∙ length-take-le count (drop at waits) p.within in omega arith

-- ---- what lies in a row

pub behind_fewer : (ns w : List ℕ) → length (behind_row ns w) ≤ length w
unfolding behind_row
behind_fewer [] w = omega arith
behind_fewer (n ∷ ns) w = by (zero_or (sum ns)) (behind_fewer ns (drop (n + 12) w))
  where
    by : (sum ns ≡ 0) ⊎ (0 < sum ns) → length (behind_row ns (drop (n + 12) w)) ≤ length (drop (n + 12) w) → length (behind_row (n ∷ ns) w) ≤ length w
    by (inl none) fewer = let l : length (behind_row (n ∷ ns) w) ≡ length w - n = ap length (row_ends n ns w none) ∙ length-drop n w in omega arith
    by (inr some) fewer =
        let l = ap length (row_goes n ns w some) in
        let k = length-drop (n + 12) w in omega arith

-- its first frame stands before what waits after it
pub behind_first : (n : ℕ) (ns w : List ℕ) → n ≤ length w → n + length (behind_row (n ∷ ns) w) ≤ length w
behind_first n ns w within = by (zero_or (sum ns))
  where
    by : (sum ns ≡ 0) ⊎ (0 < sum ns) → n + length (behind_row (n ∷ ns) w) ≤ length w
    by (inl none) = let l : length (behind_row (n ∷ ns) w) ≡ length w - n = ap length (row_ends n ns w none) ∙ length-drop n w in omega arith
    by (inr some) =
        let l = ap length (row_goes n ns w some) in
        let fewer = behind_fewer ns (drop (n + 12) w) in
        let k = length-drop (n + 12) w in omega arith

pub behind_at : (r : Row) (i : ℕ) (items w rest : List ℕ) → items ≡ counts_of r → i < 4 → behind_row (drop i items) w ≡ rest → behind_row (get_or items i 0 ∷ drop (i + 1) items) w ≡ rest
behind_at r i items w rest is inside x =
    let all : length items ≡ 4 = ap length is in
    let within : i < length items = omega arith in
    let e : drop i items ≡ get_or items i 0 ∷ drop (i + 1) items = rw (add-one, drop-cons items i 0) refl in
    subst (λ (v : List ℕ). behind_row v w ≡ rest) e x

pub ends_within : (id at left taken n count : ℕ) (ns payload waits rest : List ℕ) (s t : Session) → Going id at left taken (n ∷ ns) payload waits s t → count ≡ min left n → behind_row (n ∷ ns) (drop at waits) ≡ rest → at + count + length rest ≤ length waits
ends_within id at left taken n count ns payload waits rest s t x least e =
    let l : length (behind_row (n ∷ ns) (drop at waits)) ≡ length rest = ap length e in
    let fits = behind_first n ns (drop at waits) x.row.1 in
    let k : length (drop at waits) ≡ length waits - at = length-drop at waits in
    let w = x.within in omega arith

pub behind_on : (id at left taken n count : ℕ) (ns payload waits rest : List ℕ) (s t : Session) → Going id at left taken (n ∷ ns) payload waits s t → count ≡ min left n → count < left → behind_row (n ∷ ns) (drop at waits) ≡ rest → behind_row ns (drop (at + count + 12) waits) ≡ rest
behind_on id at left taken n count ns payload waits rest s t x least less e =
    let more = (going_piece id at left taken n count ns payload waits s t x least).more less in
    let all = more.0 in
    let k : at + (n + 12) ≡ at + count + 12 = omega arith in
    sym (row_goes n ns (drop at waits) more.1 ∙ ap (behind_row ns) (drop-drop (n + 12) at waits ∙ ap (λ (m : ℕ). drop m waits) k)) ∙ e
