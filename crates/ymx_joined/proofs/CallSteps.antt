-- The calls of a delivery: what the machine answers, and where it stands then.
use Rattle.std.proofs.Common.{◌≡◌, ◌≢◌, ◌⊎◌, inl, inr, ℕ, ◌<◌, ◌≤◌, ◌==◌, List, [], ◌∷◌, ◌++◌, length, take, drop, true, false, not, Option, None, Some, if◌then◌else◌, refl, sym, ap, ◌∙◌, subst, arith}
use Rattle.std.proofs.lemmas.Bool.Decides.{nat_tests}
use Rattle.std.proofs.lemmas.List.{take_all, drop_all}
use Rattle.ymx_machine.specs.shared.Evidence.{evidence}
use Rattle.ymx_machine.proofs.Tests.{when, agrees}
use Rattle.ymx_machine.specs.declared.types.Side.TheVariants.{A, B}
use Rattle.ymx_machine.specs.declared.types.Step.TheVariants as step
use Rattle.ymx_machine.specs.declared.types.Call.TheVariants as call
use Rattle.ymx_machine.specs.declared.types.CallFault.TheVariants.{OutOfMemory}
use Rattle.ymx_machine.specs.declared.types.Wrote.TheVariants.{Took}
use Rattle.ymx_machine.specs.declared.types.Answer.{Answer}
use Rattle.ymx_machine.specs.declared.types.Answer.TheVariants as answer
use Rattle.ymx_machine.specs.shared.Events.{Reply}
use Rattle.ymx_machine.specs.declared.types.Reply.TheVariants as reply
use Rattle.ymx_machine.specs.shared.Limits.{first_credit}
use Rattle.ymx_machine.specs.shared.Lists.{look, change}
use Rattle.ymx_machine.specs.shared.Phases.{Phase, is_lingering}
use Rattle.ymx_machine.specs.shared.Phases.Phase.{Live, Lingering}
use Rattle.ymx_machine.specs.shared.Replies.{write_reply, finish_reply, read_reply, bytes_moved, is_done}
use Rattle.ymx_machine.specs.shared.Steps.{answer_of}
use Rattle.ymx_machine.specs.stream.Lanes.{Mark, is_unsaid, is_here}
use Rattle.ymx_machine.specs.stream.Lanes.Mark.{Unsaid, Here}
use Rattle.ymx_machine.specs.stream.Streams.{Stream, flip, opened_stream, stream_write, stream_finish, stream_read, stream_accept}
use Rattle.ymx_machine.specs.stream.StreamRules.{StreamCall}
use Rattle.ymx_machine.specs.stream.StreamRules.StreamCall.{Writes, Reads, Finishes}
use Rattle.ymx_machine.specs.machine.Machines.{Machine, mirror_machine, new_machine}
use Rattle.ymx_machine.specs.machine.CallRules.{OnStream, AcceptRule}
use Rattle.ymx_machine.specs.machine.FreeMoves.{Releases}
use Rattle.ymx_machine.specs.machine.Runs.{MachineStep}
use Rattle.ymx_joined.specs.Stages.{Numbers, alone, IsWritable, IsComing, IsDecided, IsReadable}
use Rattle.ymx_joined.proofs.Machines.{flip-flip, change-one, look-one, found-one}
use Rattle.ymx_joined.proofs.Moves.{IsAt}
use Rattle.ymx_joined.proofs.Carriage.{at-a}

-- ---- no record is given up, so none goes

lingers : (p : Phase) → is_lingering p ≡ false → p ≡ Lingering → ⊥
lingers p e f = let k : is_lingering Lingering ≡ false = subst (λ (q : Phase). is_lingering q ≡ false) f e in absurd cc

none-goes_a : (k : Numbers) (id : ℕ) (s : Stream) (offered : List ℕ) (ids : List ℕ) (n : Machine) → is_lingering s.me ≡ false → Releases ids (alone k id s offered) n → n ≡ alone k id s offered
none-goes_a k id s offered [] n e r = r
none-goes_a k id s offered (i ∷ ids) n e r =
    let a = r.0 in
    let f = found-one i id s a.2.0 a.2.1 in absurd (lingers s.me e (ap (λ (x : Stream). x.me) (sym f.1) ∙ a.2.2))

none-goes_b : (k : Numbers) (id : ℕ) (s : Stream) (offered : List ℕ) (ids : List ℕ) (n : Machine) → is_lingering s.you ≡ false → Releases ids (mirror_machine (alone k id s offered)) n →
    n ≡ mirror_machine (alone k id s offered)
none-goes_b k id s offered [] n e r = r
none-goes_b k id s offered (i ∷ ids) n e r =
    let a = r.0 in
    let f = found-one i id (flip s) a.2.0 a.2.1 in absurd (lingers s.you e (ap (λ (x : Stream). x.me) (sym f.1) ∙ a.2.2))

-- the machine after a call at A, and at B
stands-a : (k : Numbers) (id : ℕ) (Stage : Stream → List ℕ → Type 0) (s : Stream) (offered : List ℕ) (ids : List ℕ) (mid n : Machine) → mid ≡ alone k id s offered → is_lingering s.me ≡ false → Releases ids mid n →
    Stage s offered → IsAt k id Stage n
stands-a k id Stage s offered ids mid n e l r h =
    record { stream = s; offered = offered; is = none-goes_a k id s offered ids n l (subst (λ (x : Machine). Releases ids x n) e r); stage = h }

stands-b : (k : Numbers) (id : ℕ) (Stage : Stream → List ℕ → Type 0) (s : Stream) (offered : List ℕ) (ids : List ℕ) (mid n : Machine) → mid ≡ mirror_machine (alone k id s offered) → is_lingering s.you ≡ false →
    Releases ids mid (mirror_machine n) → Stage s offered → IsAt k id Stage n
stands-b k id Stage s offered ids mid n e l r h =
    at-a k id Stage n (record { stream = s; offered = offered; is = none-goes_b k id s offered ids (mirror_machine n) l (subst (λ (x : Machine). Releases ids x (mirror_machine n)) e r); stage = h })

-- ---- open

-- the windows, and what is next after one stream
abbrev pub opened_numbers : (window_a window_b : ℕ) → Numbers
opened_numbers window_a window_b = record { mine = window_a; next = 3; yours = window_b; your_next = 2 }

pub open-step : (window_a window_b : ℕ) (given : Answer) (n : Machine) → MachineStep (step.At A call.Open) given (new_machine window_a 1 window_b 2) n →
    ((given ≡ answer.Opened 1) × IsAt (opened_numbers window_a window_b) 1 (IsWritable first_credit []) n) ⊎ (given ≡ answer.Refused (OutOfMemory evidence))
open-step window_a window_b given n h = elim h.4 [
  | inl made ↦ inl (
    h.3 ∙ ap answer_of made.0,
    stands-a (opened_numbers window_a window_b) 1 (IsWritable first_credit []) (stream_write [] (opened_stream window_a window_b)) [] h.2 h.1 n made.1 refl h.5
        (record { own = refl; me = refl; you = refl; here = refl; way = refl; fin = refl; rst_outbound = refl; rst_inbound = refl; credit = omega arith; offered_none = refl }),
  )
  | inr none ↦ inr (h.3 ∙ ap answer_of none.0)
]

-- ---- write

on-one : (id : ℕ) (c : StreamCall) (s : Stream) (m : Machine) (r : Reply) (n : Machine) → OnStream id c (look id ((id, s) ∷ [])) m r n → OnStream id c (Some s) m r n
on-one id c s m r n h = subst (λ (o : Option Stream). OnStream id c o m r n) (look-one id s) h

took-all : (bytes : List ℕ) (p : Phase) (fin : Mark) (credit : ℕ) → p ≡ Live → fin ≡ Unsaid → length bytes ≤ credit →
    write_reply false bytes p (not (is_unsaid fin)) credit ≡ reply.Wrote (Took (length bytes))
took-all bytes p fin credit e f h = rw (e, f) (grind (arith, nat_tests))

written-stage : (bytes : List ℕ) (s : Stream) (offered : List ℕ) → IsWritable (length bytes) [] s offered → IsWritable 0 bytes (stream_write bytes s) offered
written-stage bytes s offered h = record {
  own = h.own;
  me = h.me;
  you = h.you;
  here = h.here;
  way = ap (λ (z : List ℕ). z ++ bytes) h.way;
  fin = h.fin;
  rst_outbound = h.rst_outbound;
  rst_inbound = h.rst_inbound;
  credit = omega arith;
  offered_none = h.offered_none;
}

pub write-step : (k : Numbers) (id : ℕ) (bytes : List ℕ) (s : Stream) (offered : List ℕ) (given : Answer) (n : Machine) → IsWritable (length bytes) [] s offered →
    MachineStep (step.At A (call.Write id bytes)) given (alone k id s offered) n →
    ((given ≡ answer.Wrote (Took (length bytes))) × IsAt k id (IsWritable 0 bytes) n) ⊎ (given ≡ answer.Refused (OutOfMemory evidence))
write-step k id bytes s offered given n w h =
    let on = on-one id (Writes bytes) s (alone k id s offered) h.0 h.1 h.4 in
    elim on.1 [
      | inl made ↦ (
          let told = made.0 ∙ took-all bytes s.me s.outbound.fin s.outbound.credit w.me w.fin w.credit in
          let all : take (bytes_moved h.0) bytes ≡ bytes = ap (λ (r : Reply). take (bytes_moved r) bytes) told ∙ take_all (length bytes) bytes (omega arith) in
          let to : on.0 ≡ stream_write bytes s = made.1 ∙ ap (λ (z : List ℕ). stream_write z s) all in
          let is : h.1 ≡ alone k id (stream_write bytes s) offered = on.2 ∙ (ap (λ (z : List (ℕ × Stream)). record (alone k id s offered) { streams = z }) (change-one id (λ _. on.0) s) ∙ ap (λ (t : Stream). alone k id t offered) to) in
          inl (
            h.3 ∙ ap answer_of told,
            stands-a k id (IsWritable 0 bytes) (stream_write bytes s) offered h.2 h.1 n is (ap is_lingering w.me) h.5 (written-stage bytes s offered w),
          )
          )
      | inr none ↦ inr (h.3 ∙ ap answer_of none.1)
    ]

-- ---- finish

finishes : (p : Phase) (fin : Mark) → p ≡ Live → fin ≡ Unsaid → finish_reply false p (not (is_unsaid fin)) ≡ reply.Done
finishes p fin e f = rw (e, f) refl

finished-stage : (id room : ℕ) (bytes : List ℕ) (s : Stream) (offered : List ℕ) → IsWritable room bytes s offered → IsComing id bytes (stream_finish s) offered
finished-stage id room bytes s offered h = record {
  own = h.own;
  me = h.me;
  you = inl (h.you, h.offered_none);
  split = ap (λ (z : List ℕ). z ++ s.outbound.way) h.here ∙ h.way;
  fin = refl;
  rst_outbound = h.rst_outbound;
  rst_inbound = h.rst_inbound;
}

pub finish-step : (k : Numbers) (id room : ℕ) (bytes : List ℕ) (s : Stream) (offered : List ℕ) (given : Answer) (n : Machine) → IsWritable room bytes s offered →
    MachineStep (step.At A (call.Finish id)) given (alone k id s offered) n → (given ≡ answer.Done) × IsAt k id (IsComing id bytes) n
finish-step k id room bytes s offered given n w h =
    let on = on-one id Finishes s (alone k id s offered) h.0 h.1 h.4 in
    let told = on.1.0 ∙ finishes s.me s.outbound.fin w.me w.fin in
    let to : on.0 ≡ stream_finish s = on.1.1 ∙ ap (λ (r : Reply). if is_done r then stream_finish s else s) told in
    let is : h.1 ≡ alone k id (stream_finish s) offered = on.2 ∙ (ap (λ (z : List (ℕ × Stream)). record (alone k id s offered) { streams = z }) (change-one id (λ _. on.0) s) ∙ ap (λ (t : Stream). alone k id t offered) to) in (
      h.3 ∙ ap answer_of told,
      stands-a k id (IsComing id bytes) (stream_finish s) offered h.2 h.1 n is (ap is_lingering w.me) h.5 (finished-stage id room bytes s offered w),
    )

-- ---- accept

-- the stream after an accept at B, as A sees it
abbrev accepted_b : Stream → Stream
accepted_b s = flip (stream_accept false (flip s))

accepts : (k : Numbers) (id : ℕ) (s : Stream) (offered ids : List ℕ) (r : Reply) (n : Machine) → offered ≡ ids → AcceptRule offered (mirror_machine (alone k id s offered)) r n →
    AcceptRule ids (mirror_machine (alone k id s offered)) r n
accepts k id s offered ids r n e h = subst (λ (z : List ℕ). AcceptRule z (mirror_machine (alone k id s offered)) r n) e h

accepted-machine : (k : Numbers) (id : ℕ) (s : Stream) (offered : List ℕ) →
    (let m = mirror_machine (alone k id s offered) in
    record m { streams = change id (stream_accept false) m.streams; me = record m.me { offered = [] } } ≡ mirror_machine (alone k id (accepted_b s) []))
accepted-machine k id s offered = rw (change-one id (stream_accept false) (flip s), flip-flip (stream_accept false (flip s))) refl

pub accept-step : (k : Numbers) (id no_memory : ℕ) (bytes : List ℕ) (s : Stream) (offered : List ℕ) (given : Answer) (n : Machine) → IsDecided no_memory id bytes s offered →
    MachineStep (step.At B call.Accept) given (alone k id s offered) n →
    ((given ≡ answer.Accepted (Some id)) × IsAt k id (IsReadable bytes) n) ⊎ ((given ≡ answer.Accepted None) × (0 < no_memory))
accept-step k id no_memory bytes s offered given n (inl there) h =
    let a = accepts k id s offered (id ∷ []) h.0 h.1 there.offered_one h.4 in inl (
      h.3 ∙ ap answer_of a.0,
      stands-b k id (IsReadable bytes) (accepted_b s) [] h.2 h.1 n (a.1 ∙ accepted-machine k id s offered) refl h.5
          (record { you = refl; here = there.here; fin = there.fin; offered_none = refl }),
    )
accept-step k id no_memory bytes s offered given n (inr refused) h =
    let a = accepts k id s offered [] h.0 h.1 refused.offered_none h.4 in inr (h.3 ∙ ap answer_of a.0, refused.counts)

-- ---- read

-- the stream after a read of n bytes at B, as A sees it
abbrev read_b : ℕ → Stream → Stream
read_b n s = flip (stream_read n (flip s))

gives-all : (max : ℕ) (p : Phase) (here : List ℕ) (fin : Mark) → p ≡ Live → fin ≡ Here → 0 < max → length here ≤ max → (length here == 0) ≡ false →
    read_reply false max p here (is_here fin) ≡ reply.Read here
gives-all max p here fin e f some h full =
    let all = take_all max here h in
    let k : (max == 0) ≡ false = grind (arith, nat_tests) in rw (e, f, k, full, all) refl

gives-end : (max : ℕ) (p : Phase) (here : List ℕ) (fin : Mark) → p ≡ Live → fin ≡ Here → 0 < max → (length here == 0) ≡ true →
    read_reply false max p here (is_here fin) ≡ reply.ReadEnd
gives-end max p here fin e f some none = let k : (max == 0) ≡ false = grind (arith, nat_tests) in rw (e, f, k, none) refl

none-left : (xs : List ℕ) → (length xs == 0) ≡ true → xs ≡ []
none-left [] e = refl
none-left (x ∷ xs) e = absurd (let k : length (x ∷ xs) ≡ 0 = agrees (length (x ∷ xs)) 0 e in omega arith)

some-left : (xs : List ℕ) → (length xs == 0) ≡ false → xs ≢ []
some-left xs e q = let k : (let none : List ℕ = [] in length none == 0) ≡ false = subst (λ (z : List ℕ). (length z == 0) ≡ false) q e in absurd cc

read-stage : (n : ℕ) (rest : List ℕ) (s : Stream) (offered : List ℕ) → length rest ≤ n → IsReadable rest s offered → IsReadable [] (read_b n s) offered
read-stage n rest s offered h w = record {
  you = w.you;
  here = ap (drop n) w.here ∙ drop_all n rest h;
  fin = w.fin;
  offered_none = w.offered_none;
}

read-machine : (k : Numbers) (id n : ℕ) (s : Stream) (offered : List ℕ) →
    (let m = mirror_machine (alone k id s offered) in record m { streams = change id (λ _. stream_read n (flip s)) m.streams } ≡ mirror_machine (alone k id (read_b n s) offered))
read-machine k id n s offered = rw (change-one id (λ _. stream_read n (flip s)) (flip s), flip-flip (stream_read n (flip s))) refl

-- what a read of a stream leaves, whose reply moved n bytes
reads : (k : Numbers) (id max n : ℕ) (s : Stream) (offered : List ℕ) (r : Reply) (mid : Machine) → bytes_moved r ≡ n →
    OnStream id (Reads max) (Some (flip s)) (mirror_machine (alone k id s offered)) r mid → mid ≡ mirror_machine (alone k id (read_b n s) offered)
reads k id max n s offered r mid e on =
    let m = mirror_machine (alone k id s offered) in
    let to : on.0 ≡ stream_read n (flip s) = on.1.1 ∙ ap (λ (i : ℕ). stream_read i (flip s)) e in
    on.2 ∙ (ap (λ (t : Stream). record m { streams = change id (λ _. t) m.streams }) to ∙ read-machine k id n s offered)

pub read-step : (k : Numbers) (id max : ℕ) (rest : List ℕ) (s : Stream) (offered : List ℕ) (given : Answer) (n : Machine) → 0 < max → length rest ≤ max → IsReadable rest s offered →
    MachineStep (step.At B (call.Read id max)) given (alone k id s offered) n →
    ((given ≡ answer.Read rest) × (rest ≢ []) × IsAt k id (IsReadable []) n) ⊎ ((given ≡ answer.ReadEnd) × (rest ≡ []) × IsAt k id (IsReadable []) n)
read-step k id max rest s offered given n some fits w h =
    let on = on-one id (Reads max) (flip s) (mirror_machine (alone k id s offered)) h.0 h.1 h.4 in
    let within : length s.outbound.here ≤ max = subst (λ (z : List ℕ). length z ≤ max) (sym w.here) fits in
    elim (when (length s.outbound.here == 0)) [
      | inl none ↦ (
          let told : h.0 ≡ reply.ReadEnd = on.1.0 ∙ gives-end max s.you s.outbound.here s.outbound.fin w.you w.fin some none in
          let empty : rest ≡ [] = sym w.here ∙ none-left s.outbound.here none in
          let is = reads k id max 0 s offered h.0 h.1 (ap bytes_moved told) on in
          inr (
            h.3 ∙ ap answer_of told,
            empty,
            stands-b k id (IsReadable []) (read_b 0 s) offered h.2 h.1 n is (ap is_lingering w.you) h.5
                (read-stage 0 rest s offered (subst (λ (z : List ℕ). length z ≤ 0) (sym empty) (omega arith)) w),
          )
          )
      | inr full ↦ (
          let told : h.0 ≡ reply.Read s.outbound.here = on.1.0 ∙ gives-all max s.you s.outbound.here s.outbound.fin w.you w.fin some within full in
          let is = reads k id max (length s.outbound.here) s offered h.0 h.1 (ap bytes_moved told) on in
          inl (
            h.3 ∙ (ap answer_of told ∙ ap answer.Read w.here),
            (λ q. some-left s.outbound.here full (w.here ∙ q)),
            stands-b k id (IsReadable []) (read_b (length s.outbound.here) s) offered h.2 h.1 n is (ap is_lingering w.you) h.5
                (read-stage (length s.outbound.here) rest s offered (subst (λ (z : List ℕ). length rest ≤ length z) (sym w.here) (omega arith)) w),
          )
          )
    ]
