-- What is computed of an emission is an emission, in turn.
use Rattle.std.proofs.Common.{◌≡◌, inl, inr, ℕ, zero, suc, ◌-◌, ◌<◌, ◌≤◌, List, [], ◌∷◌, length, take, Bool, true, false, not, ◌&&◌, ◌==◌, Option, None, Some, refl, sym, ap, ◌∙◌, subst, arith, length-append, length-take}
use Rattle.std.specs.Prelude.{is_some}
use Rattle.std.proofs.lemmas.Grind.{common_steps}
use Rattle.std.proofs.lemmas.Bool.Decides.{nat_tests}
use Rattle.ymx_model.specs.declared.types.Response.{Response}
use Rattle.ymx_model.specs.declared.types.Status.{Status}
use Rattle.ymx_model.specs.declared.types.Status.TheVariants.{Running, Lost, Broken, Closed}
use Rattle.ymx_model.specs.session.FramesDue.{is_empty}
use Rattle.ymx_model.specs.session.Pings.{first_asked, has_asked}
use Rattle.ymx_model.specs.session.GoAway.{away_due}
use Rattle.ymx_model.specs.session.Tables.{round}
use Rattle.ymx_machine.specs.shared.Lists.{look}
use Rattle.ymx_model.specs.session.Sessions.{Session, is_running, is_broken}
use Rattle.ymx_model.specs.session.Emissions.{Choice, begin, begin_answer, begin_stream, is_some_of, Ready, Flows, Emits, moves_on, is_ready, no_answers, in_turn, is_first}
use Rattle.ymx_machine.specs.shared.Limits.{data_limit}
use Rattle.ymx_model.specs.session.Emissions.Choice.{TheErrorDue, TheGoAway, TheAnswer, ThePing, AStream}
use Rattle.ymx_law_session.specs.Limits.{IsWithin}
use Rattle.ymx_machine.proofs.Tests.{split, both_of, agrees, one_some}
use Rattle.ymx_law_session.proofs.limits.EmissionsKeep.{some_if, if_some, ready-keeps, moves-keep}
use Rattle.ymx_law_session.proofs.due.Goes.{flows-join, flows-take}
use Rattle.ymx_law_session.proofs.due.Ready.{next_of, begin-ready, begin-has}
use Rattle.ymx_headline.specs.worked.Plays.{Poured, pick, pick_stream, ready, pour, pour_on, play_emit}

-- ---- the frame that is picked

-- a frame in turn is the one that is picked
stream_picked : (id : ℕ) (ids : List ℕ) → is_first id ids ≡ true → pick_stream ids ≡ AStream id data_limit
stream_picked id [] f = cc
stream_picked id (x ∷ ids) f = let same : x ≡ id = grind (arith, nat_tests) in rw same refl

running_not_broken : (st : Status) → is_running st ≡ true → is_broken st ≡ false
running_not_broken Running r = refl
running_not_broken Lost r = refl
running_not_broken (Broken f) r = sym r
running_not_broken Closed r = refl

no_error_due : (s : Session) → is_running s.status ≡ true → (s.error_due && is_broken s.status) ≡ false
no_error_due s r = rw (running_not_broken s.status r) (and_false s.error_due)
  where
    and_false : (b : Bool) → (b && false) ≡ false
    and_false true = refl
    and_false false = refl

not_true : (b : Bool) → not b ≡ true → b ≡ false
not_true false e = refl
not_true true e = sym e

asked_of : (n : ℕ) (o : Option ℕ) → is_some_of n o ≡ true → o ≡ Some n
asked_of n None e = cc
asked_of n (Some m) e = let same : m ≡ n = grind (arith, nat_tests) in rw same refl

answers_of : (s t : Session) (xs : List Response) → begin_answer xs s ≡ Some t → no_answers xs ≡ false
answers_of s t [] b = cc
answers_of s t (r ∷ more) b = refl

-- in turn at most one frame may begin
pub picked : (c : Choice) (s t : Session) → in_turn c s ≡ true → begin c s ≡ Some t → pick s ≡ c
picked TheErrorDue s t turn b =
    let p = (some_if (s.error_due && is_broken s.status) _ t b).0 in rw p refl
picked TheGoAway s t turn b =
    let p = both_of (is_running s.status) (away_due s.away.here) (some_if (is_running s.status && away_due s.away.here) _ t b).0 in
    rw (no_error_due s p.0, p.1) refl
picked TheAnswer s t turn b =
    let p = if_some (is_running s.status) (begin_answer s.answers s) t b in
    rw (no_error_due s p.0, not_true (away_due s.away.here) turn, answers_of s t s.answers p.1) refl
picked (ThePing n) s t turn b =
    let p = both_of (is_running s.status) (has_asked n s.pings.pending) (some_if (is_running s.status && has_asked n s.pings.pending) _ t b).0 in
    let q = both_of (not (away_due s.away.here) && no_answers s.answers) (is_some_of n (first_asked s.pings.pending)) turn in
    let r = both_of (not (away_due s.away.here)) (no_answers s.answers) q.0 in
    rw (no_error_due s p.0, not_true (away_due s.away.here) r.0, r.1, asked_of n (first_asked s.pings.pending) q.1) refl
picked (AStream id limit) s t turn b =
    let p = (if_some (is_running s.status) (begin_stream id limit (look id s.table.entries) s) t b).0 in
    let q = both_of (not (away_due s.away.here) && no_answers s.answers && not (is_some (first_asked s.pings.pending)) && is_first id (round s.table)) (limit == data_limit) turn in
    let r = both_of (not (away_due s.away.here) && no_answers s.answers && not (is_some (first_asked s.pings.pending))) (is_first id (round s.table)) q.0 in
    let u = both_of (not (away_due s.away.here) && no_answers s.answers) (not (is_some (first_asked s.pings.pending))) r.0 in
    let v = both_of (not (away_due s.away.here)) (no_answers s.answers) u.0 in
    let same : limit ≡ data_limit = agrees limit data_limit q.1 in
    rw (no_error_due s p, not_true (away_due s.away.here) v.0, v.1, none_asked (first_asked s.pings.pending) u.1, same) (stream_picked id (round s.table) r.1)
  where
    none_asked : (o : Option ℕ) → not (is_some o) ≡ true → o ≡ None
    none_asked None e = refl
    none_asked (Some n) e = cc

-- ---- the frame that is begun

ready-none : (s : Session) → IsWithin s → ready s ≡ None → is_ready s ≡ false
ready-none s w none = of (is_empty s.outgoing.bytes) refl (is_ready s) refl
  where
    of : (e : Bool) → is_empty s.outgoing.bytes ≡ e → (b : Bool) → is_ready s ≡ b → is_ready s ≡ false
    of false e b r = let z : Some s ≡ None = rw e at none in cc
    of true e false r = r
    of true e true r =
        let n = next_of s w e r in
        let p = picked n.choice s n.after n.turn n.begins in
        let k : begin (pick s) s ≡ None = rw e at none in
        let z : Some n.after ≡ None = sym n.begins ∙ ap (λ c. begin c s) (sym p) ∙ k in cc

ready-some : (s t : Session) → IsWithin s → ready s ≡ Some t → Ready in_turn s t
ready-some s t w some = of (is_empty s.outgoing.bytes) refl
  where
    of : (e : Bool) → is_empty s.outgoing.bytes ≡ e → Ready in_turn s t
    of false e = let z : Some s ≡ Some t = rw e at some in inl (e, one_some t s (sym z))
    of true e =
        let k : begin (pick s) s ≡ Some t = rw e at some in
        let n = next_of s w e (begin-ready (pick s) s t k) in
        let p = picked n.choice s n.after n.turn n.begins in
        inr (e, (pick s, ap (λ c. in_turn c s) p ∙ n.turn, k))

-- ---- an emission

ready-has : (s t : Session) → Ready in_turn s t → is_empty t.outgoing.bytes ≡ false
ready-has s t (inl h) = rw (h.1) (h.0)
ready-has s t (inr (e, (c, ok, b))) = begin-has c s t b

count_some : (room : ℕ) (xs : List ℕ) → 0 < room → is_empty xs ≡ false → 0 < length (take room xs)
count_some room [] l e = cc
count_some room (x ∷ xs) l e = omega (arith, length-take room (x ∷ xs))

take_count : (room : ℕ) (xs : List ℕ) → take (length (take room xs)) xs ≡ take room xs
take_count room xs = grind (arith, common_steps, length-take room xs)

pub poured : (frames room : ℕ) (s : Session) → room ≤ frames → IsWithin s → Emits in_turn s room (pour frames s room).out (pour frames s room).state
poured zero room s l w = record { fits = omega arith; flows = refl; full = λ k. absurd (omega arith) }
poured (suc frames) room s l w =
    let P : Poured → Type 0 = λ p. Emits in_turn s room p.out p.state in
    split P (room == 0) (record { out = []; state = s }) (pour_on (pour frames) room s (ready s))
    (λ t. let z = agrees room 0 t in record { fits = omega arith; flows = refl; full = λ k. absurd (omega arith) })
    (λ f. of (λ r t k v. poured frames r t k v) (ready s) refl f)
  where
    of : ((r : ℕ) (t : Session) → r ≤ frames → IsWithin t → Emits in_turn t r (pour frames t r).out (pour frames t r).state) →
        (o : Option Session) → ready s ≡ o → (room == 0) ≡ false → Emits in_turn s room (pour_on (pour frames) room s o).out (pour_on (pour frames) room s o).state
    of more None e f = record { fits = omega arith; flows = refl; full = λ k. ready-none s w e }
    of more (Some t) e f =
        let some : 0 < room = grind (arith, nat_tests) in
        let r = ready-some s t w e in
        let bytes = take room t.outgoing.bytes in
        let n = length bytes in
        let n_some : 0 < n = count_some room t.outgoing.bytes some (ready-has s t r) in
        let n_room : n ≤ room = omega (arith, length-take room t.outgoing.bytes) in
        let n_all : n ≤ length t.outgoing.bytes = omega (arith, length-take room t.outgoing.bytes) in
        let first : Flows in_turn bytes s (moves_on n t) = (let Q : List ℕ → Type 0 = λ xs. Flows in_turn xs s (moves_on n t) in subst Q (take_count room t.outgoing.bytes) (flows-take in_turn n s t r n_some n_all)) in
        let rest = more (room - n) (moves_on n t) (omega arith) (moves-keep n t (ready-keeps in_turn s t r w)) in record {
          fits = omega (arith, rest.fits, length-append bytes (pour frames (moves_on n t) (room - n)).out);
          flows = flows-join in_turn bytes _ s (moves_on n t) _ first rest.flows;
          full = λ k. rest.full (omega (arith, length-append bytes (pour frames (moves_on n t) (room - n)).out));
        }

pub emits : (room : ℕ) (s : Session) → IsWithin s → Emits in_turn s room (play_emit room s).out (play_emit room s).state
emits room s w = poured room room s (omega arith) w
