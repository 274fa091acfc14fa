-- Every feed keeps the limits.
use Rattle.std.proofs.Common.{◌≡◌, ℕ, ◌<◌, List, [], ◌∷◌, ◌++◌, length, take, Bool, true, false, not, ◌&&◌, ◌==◌, nat_le, refl, sym, subst, arith, length-append}
use Rattle.ymx_header.specs.Headers.{header_of}
use Rattle.ymx_machine.specs.declared.types.Fed.{Fed}
use Rattle.ymx_model.specs.session.Sessions.{Session, Incoming, is_deaf, is_broken}
use Rattle.ymx_machine.specs.shared.Limits.{most_answers}
use Rattle.ymx_model.specs.session.Sessions.Incoming.{Head, Payload}
use Rattle.ymx_model.specs.session.Arrivals.{head_comes}
use Rattle.ymx_model.specs.session.Feeds.{Takes, Feeds, is_stuck, is_between, byte_comes, byte_in}
use Rattle.ymx_law_session.specs.Limits.{IsWithin, IsIncomingWithin, IsPayloadWithin}
use Rattle.ymx_machine.proofs.Tests.{split, none_of, not_le, differs}
use Rattle.ymx_law_session.proofs.limits.FramesKeep.{head-keeps, piece-keeps}

-- a session that takes a byte of a header finds room for an answer
header_room : (s : Session) (seen : List ℕ) → s.incoming ≡ Head seen → is_deaf s.status ≡ false → is_stuck s ≡ false → IsWithin s → length s.answers < most_answers
header_room s [] inc d free w =
    let a = none_of (is_broken s.status) (not (is_deaf s.status) && is_between s.incoming && nat_le most_answers (length s.answers)) free in
    let b : (not false && is_between (Head []) && nat_le most_answers (length s.answers)) ≡ false = rw (d, inc) at a.1 in
    not_le most_answers (length s.answers) b
header_room s (x ∷ seen) inc d free w = w.answers.room (rw inc refl)

header-keeps : (bytes : List ℕ) (s : Session) → length bytes < 12 → length s.answers < most_answers → IsWithin s → IsWithin (record s { incoming = Head bytes })
header-keeps bytes s few l w = record {
  table = w.table;
  offered = w.offered;
  pings = w.pings;
  answers = record { count = w.answers.count; room = λ t. l };
  outgoing = w.outgoing;
  incoming = few;
  next = w.next;
}

-- a header that has begun has fewer than twelve bytes
pub header_few : (seen : List ℕ) (s : Session) → s.incoming ≡ Head seen → IsWithin s → length seen < 12
header_few seen s inc w =
    let p : length seen < 12 = (let P : Incoming → Type 0 = λ i. IsIncomingWithin i s.role s.next s.table.entries in subst P inc w.incoming) in p

-- twelve bytes make it whole
pub few_more : (seen : List ℕ) (b : ℕ) → length seen < 12 → (length seen == 11) ≡ false → length (seen ++ b ∷ []) < 12
few_more seen b few f = let n = differs (length seen) 11 f in omega (arith, n, length-append seen (b ∷ []))

pub payload_some : (id n : ℕ) (fin discarded : Bool) (s : Session) → s.incoming ≡ Payload id n fin discarded → IsWithin s → 0 < n
payload_some id n fin true s inc w =
    let p : 0 < n = (let P : Incoming → Type 0 = λ i. IsIncomingWithin i s.role s.next s.table.entries in subst P inc w.incoming) in p
payload_some id n fin false s inc w =
    let p : IsPayloadWithin id n s.role s.next s.table.entries = (let P : Incoming → Type 0 = λ i. IsIncomingWithin i s.role s.next s.table.entries in subst P inc w.incoming) in p.some

in-keeps : (no_memory : Bool) (b : ℕ) (s : Session) (i : Incoming) → s.incoming ≡ i → is_deaf s.status ≡ false → is_stuck s ≡ false → IsWithin s → IsWithin (byte_in no_memory b s i)
in-keeps no_memory b s (Head seen) inc d free w =
    let l = header_room s seen inc d free w in
    split IsWithin (length seen == 11) (head_comes no_memory (header_of (seen ++ b ∷ [])) (record s { incoming = Head [] })) (record s { incoming = Head (seen ++ b ∷ []) })
    (λ t. head-keeps no_memory (header_of (seen ++ b ∷ [])) (record s { incoming = Head [] }) refl l (header-keeps [] s (omega arith) l w))
    (λ f. header-keeps (seen ++ b ∷ []) s (few_more seen b (header_few seen s inc w) f) l w)
in-keeps no_memory b s (Payload id n fin discarded) inc d free w =
    let some = payload_some id n fin discarded s inc w in piece-keeps (b ∷ []) id n fin discarded s inc (omega arith) w

pub byte-keeps : (no_memory : Bool) (b : ℕ) (s : Session) → is_stuck s ≡ false → IsWithin s → IsWithin (byte_comes no_memory b s)
byte-keeps no_memory b s free w =
    split IsWithin (is_deaf s.status) s (byte_in no_memory b s s.incoming) (λ t. w) (λ d. in-keeps no_memory b s s.incoming refl d free w)

pub takes-keep : (bytes : List ℕ) (s t : Session) (starved : ℕ) → Takes bytes s t starved → IsWithin s → IsWithin t
takes-keep [] s t starved p w = subst IsWithin (sym p.0) w
takes-keep (b ∷ bytes) s t starved (no_memory, more, free, e, p) w = takes-keep bytes (byte_comes no_memory b s) t more p (byte-keeps no_memory b s free w)

pub feeds-keep : (bytes : List ℕ) (s t : Session) (fed : Fed) → Feeds s bytes fed t → IsWithin s → IsWithin t
feeds-keep bytes s t fed p w = takes-keep (take fed.taken bytes) s t p.took.0 p.took.1 w
