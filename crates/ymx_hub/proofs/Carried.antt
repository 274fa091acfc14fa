-- The bytes that reads and writes carried, call by call.
use Rattle.std.proofs.Common.{◌≡◌, ℕ, List, [], ◌∷◌, ◌++◌, length, take, drop, refl, sym, ◌∙◌, ap, arith, append-nil, append_assoc, Ok, Err}
use Rattle.std.proofs.lemmas.List.{take_all}
use Rattle.std.proofs.Math.Seq.{take-add}
use Rattle.ymx_model.specs.session.Events.{Event}
use Rattle.ymx_model.specs.declared.types.Entry.{Entry}
use Rattle.ymx_machine.specs.shared.Events.{Reply}
use Rattle.ymx_machine.specs.declared.types.Reply.TheVariants as reply
use Rattle.ymx_hub.specs.Books.{One}
use Rattle.ymx_hub.specs.declared.write_fault.WriteFault.{WriteFault}
use Rattle.ymx_hub.specs.Turns.{took_of, total, AreWrites, AreWaits, WriteTurns}
use Rattle.ymx_hub.specs.Carried.{offered, bytes_written, read_of, read_bytes}

pub written_append : (xs ys : List Entry) → bytes_written (xs ++ ys) ≡ bytes_written xs ++ bytes_written ys
written_append [] ys = refl
written_append (x ∷ xs) ys =
    ap (λ (l : List ℕ). take (took_of x.reply) (offered x.event) ++ l) (written_append xs ys) ∙ sym (append_assoc (take (took_of x.reply) (offered x.event)) (bytes_written xs) (bytes_written ys))

pub read_append : (xs ys : List Entry) → read_bytes (xs ++ ys) ≡ read_bytes xs ++ read_bytes ys
read_append [] ys = refl
read_append (x ∷ xs) ys = ap (λ (l : List ℕ). read_of x.reply ++ l) (read_append xs ys) ∙ sym (append_assoc (read_of x.reply) (read_bytes xs) (read_bytes ys))

-- writes of what was left took the first so many bytes
writes_take : (id seat : ℕ) (left : List ℕ) (es : List Entry) → AreWrites id seat left es → bytes_written es ≡ take (total es) left
writes_take id seat left [] w = refl
writes_take id seat left (e ∷ es) w =
    ap (λ (v : Event). take (took_of e.reply) (offered v) ++ bytes_written es) w.0.1
    ∙ ap (λ (l : List ℕ). take (took_of e.reply) left ++ l) (writes_take id seat (drop (took_of e.reply) left) es w.1)
    ∙ sym (take-add (took_of e.reply) (total es) left)

pub all_written : (id seat : ℕ) (bytes : List ℕ) (u : Unit {0}) (added : List Entry) → WriteTurns id bytes seat (Ok u) added → bytes_written added ≡ bytes
all_written id seat bytes u added (w, (e, last)) = writes_take id seat bytes added w ∙ ap (λ n. take n bytes) e ∙ take_all (length bytes) bytes (omega arith)

pub some_written : (id seat : ℕ) (bytes : List ℕ) (stop : WriteFault) (added : List Entry) → WriteTurns id bytes seat (Err stop) added → bytes_written added ≡ take stop.taken bytes
some_written id seat bytes stop added (w, (e, why)) = writes_take id seat bytes added w ∙ ap (λ n. take n bytes) e

pub waits_read : (seat : ℕ) (event : Event) (es : List Entry) → AreWaits seat event reply.ReadWait es → read_bytes es ≡ []
waits_read seat event [] w = refl
waits_read seat event (e ∷ es) w = ap (λ (r : Reply). read_of r ++ read_bytes es) w.0.2 ∙ waits_read seat event es w.1

pub one_read : (seat : ℕ) (event : Event) (told : Reply) (es : List Entry) → One seat event told es → read_bytes es ≡ read_of told
one_read seat event told es (p, e) = ap read_bytes e ∙ append-nil (read_of told)
