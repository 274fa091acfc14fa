-- Examples of writes too long to be computed: a write takes what the credit allows.
use Rattle.std.proofs.Common.{◌≡◌, ℕ, ◌+◌, ◌-◌, ◌<◌, ◌≤◌, List, length, take, min, false, ◌==◌, Some, refl, sym, ap, ◌∙◌, subst, arith, length-take}
use Rattle.std.proofs.lemmas.Bool.Decides.{nat_tests}
use Rattle.ymx_model.specs.declared.types.Status.TheVariants.{Running}
use Rattle.ymx_machine.specs.declared.types.Reply.TheVariants.{Wrote as WroteReply}
use Rattle.ymx_machine.specs.declared.types.Wrote.TheVariants.{Took, Wait}
use Rattle.ymx_machine.specs.shared.Phases.Phase.{Live}
use Rattle.ymx_model.specs.session.Records.{End, end_write}
use Rattle.ymx_machine.specs.shared.Lists.{look}
use Rattle.ymx_model.specs.session.Sessions.{Session, on_stream}
use Rattle.ymx_model.specs.session.Calls.{write_to}
use Rattle.ymx_machine.proofs.Lists.{look-change_same}
use Rattle.ymx_headline.proofs.worked.Windows.{wide_fed}

-- a stream that may be written to, with this credit
pub record IsWritable (s : Session) (id credit : ℕ) : Type 0 where
  pub entry : End
  pub there : look id s.table.entries ≡ Some entry
  pub runs : s.status ≡ Running
  pub live : entry.phase ≡ Live
  pub unfinished : entry.writer.finished ≡ false
  pub left : entry.writer.credit ≡ credit

not_zero : (n : ℕ) → 0 < n → (n == 0) ≡ false
not_zero n l = grind (arith, nat_tests)

written : (s : Session) (id credit : ℕ) (bytes : List ℕ) → IsWritable s id credit → 0 < length bytes → 0 < credit →
    (write_to id bytes s).next ≡ on_stream id (end_write (take (min (length bytes) credit) bytes)) s
written s id credit bytes w some left =
    let c = not_zero (min (length bytes) credit) (omega arith) in
    rw (w.runs, w.there, w.live, w.unfinished, not_zero (length bytes) some, w.left, not_zero credit left, c) refl

pub took : (s : Session) (id credit : ℕ) (bytes : List ℕ) → IsWritable s id credit → 0 < length bytes → 0 < credit →
    ((write_to id bytes s).reply ≡ WroteReply (Took (min (length bytes) credit))) × IsWritable (write_to id bytes s).next id (credit - min (length bytes) credit)
took s id credit bytes w some left =
    let k = min (length bytes) credit in
    let P : Session → Type 0 = λ t. IsWritable t id (credit - k) in (
      rw (w.runs, w.there, w.live, w.unfinished, not_zero (length bytes) some, w.left, not_zero credit left) refl,
      subst P (sym (written s id credit bytes w some left)) record {
        entry = end_write (take k bytes) w.entry;
        there = look-change_same id (end_write (take k bytes)) s.table.entries ∙ rw w.there refl;
        runs = w.runs;
        live = w.live;
        unfinished = w.unfinished;
        left = omega (arith, length-take k bytes, w.left);
      },
    )

pub waits : (s : Session) (id : ℕ) (bytes : List ℕ) → IsWritable s id 0 → 0 < length bytes → (write_to id bytes s).reply ≡ WroteReply Wait
waits s id bytes w some = rw (w.runs, w.there, w.live, w.unfinished, not_zero (length bytes) some, w.left) refl

-- three writes in a row: the second takes what is left, the third waits
three : (s : Session) (n c : ℕ) (one two last : List ℕ) → IsWritable s 1 c → length one ≡ n → length two ≡ n → 0 < length last → 0 < n → n < c → c ≤ n + n →
    ((write_to 1 one s).reply ≡ WroteReply (Took n))
    × ((write_to 1 two (write_to 1 one s).next).reply ≡ WroteReply (Took (c - n)))
    × ((write_to 1 last (write_to 1 two (write_to 1 one s).next).next).reply ≡ WroteReply Wait)
three s n c one two last w a b some l m k =
    let first = took s 1 c one w (omega arith) (omega arith) in
    let x : min (length one) c ≡ n = omega arith in
    let W : ℕ → Type 0 = λ r. IsWritable (write_to 1 one s).next 1 r in
    let v : IsWritable (write_to 1 one s).next 1 (c - n) = subst W (ap (λ y. c - y) x) first.1 in
    let second = took (write_to 1 one s).next 1 (c - n) two v (omega arith) (omega arith) in
    let y : min (length two) (c - n) ≡ c - n = omega arith in
    let z : c - n - min (length two) (c - n) ≡ 0 = omega arith in
    let V : ℕ → Type 0 = λ r. IsWritable (write_to 1 two (write_to 1 one s).next).next 1 r in
    (first.0 ∙ ap (λ r. WroteReply (Took r)) x, second.0 ∙ ap (λ r. WroteReply (Took r)) y, waits _ 1 last (subst V z second.1) some)

-- the peer's window is 1,048,576 bytes: of two times 1,000,000 bytes it takes 1,000,000 and 48,576, and then the writer waits
pub wide_writes : (one two last : List ℕ) → length one ≡ 1000000 → length two ≡ 1000000 → 0 < length last →
    ((write_to 1 one wide_fed.world.b).reply ≡ WroteReply (Took 1000000))
    × ((write_to 1 two (write_to 1 one wide_fed.world.b).next).reply ≡ WroteReply (Took 48576))
    × ((write_to 1 last (write_to 1 two (write_to 1 one wide_fed.world.b).next).next).reply ≡ WroteReply Wait)
wide_writes one two last a b some =
    three wide_fed.world.b 1000000 1048576 one two last (record { entry = _; there = refl; runs = refl; live = refl; unfinished = refl; left = refl }) a b some (omega arith) (omega arith) (omega arith)
