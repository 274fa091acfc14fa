-- What a read gives: no empty list of bytes where the buffer has room.
use Rattle.std.proofs.Common.{◌≡◌, ℕ, ◌<◌, List, take, length, Bool, true, false, not, ◌==◌, Option, None, Some, refl, ap, ◌∙◌, arith}
use Rattle.std.proofs.lemmas.Grind.{common_steps}
use Rattle.std.proofs.lemmas.Bool.Decides.{nat_tests}
use Rattle.ymx_machine.specs.shared.Events.{Reply}
use Rattle.ymx_machine.specs.declared.types.Call.TheVariants as call
use Rattle.ymx_machine.specs.declared.types.Reply.TheVariants.{Read}
use Rattle.ymx_machine.specs.shared.Phases.{Phase, is_live, is_reset}
use Rattle.ymx_machine.specs.shared.Replies.{read_reply}
use Rattle.ymx_model.specs.session.Records.{End}
use Rattle.ymx_machine.specs.shared.Lists.{look}
use Rattle.ymx_model.specs.session.Sessions.{Session, is_closed, is_lost}
use Rattle.ymx_model.specs.session.Calls.{Outcome as OutcomeOf, at_record, read_outcome, read_from}
use Rattle.ymx_model.specs.session.Histories.{CallGives}
use Rattle.ymx_model.specs.session.Histories.CallGives.{Outcome, NoMemory}
use Rattle.ymx_machine.proofs.Tests.{split}

-- a reply that gives no bytes, and yet gives them
abbrev is_empty_read : Reply → Bool
is_empty_read (Read bytes) = length bytes == 0
is_empty_read _ = false

some_taken : (max : ℕ) (here : List ℕ) → 0 < max → not (length here == 0) ≡ true → (length (take max here) == 0) ≡ false
some_taken max here p n = grind (arith, nat_tests, common_steps)

reply_gives : (lost : Bool) (max : ℕ) (p : Phase) (here : List ℕ) (ended : Bool) → 0 < max → is_empty_read (read_reply lost max p here ended) ≡ false
reply_gives lost max p here ended m =
    let P : Reply → Type 0 = λ r. is_empty_read r ≡ false in
    split P (is_reset p) _ _ (λ t. refl) (λ f1.
    split P (not (is_live p)) _ _ (λ t. refl) (λ f2.
    split P (max == 0) _ _ (λ t. grind (arith, nat_tests)) (λ f3.
    split P (not (length here == 0)) _ _ (λ t. some_taken max here m t) (λ f4.
    split P ended _ _ (λ t. refl) (λ f5.
    split P lost _ _ (λ t. refl) (λ f6. refl))))))

record_gives : (id max : ℕ) (s : Session) (o : Option End) → 0 < max → is_empty_read (at_record (read_outcome id max s) s o).reply ≡ false
record_gives id max s None m = refl
record_gives id max s (Some e) m = reply_gives (is_lost s.status) max e.phase e.reader.unread e.reader.ended m

read_gives : (id max : ℕ) (s : Session) → 0 < max → is_empty_read (read_from id max s).reply ≡ false
read_gives id max s m =
    split (λ (o : OutcomeOf). is_empty_read o.reply ≡ false) (is_closed s.status) _ _ (λ t. refl) (λ n. record_gives id max s (look id s.table.entries) m)

some_of : (n : ℕ) (buffer : List ℕ) → is_empty_read (Read (take n buffer)) ≡ false → 0 < n
some_of n buffer e = grind (arith, nat_tests, common_steps)

pub read_some : (id max count : ℕ) (buffer : List ℕ) (s t : Session) → CallGives s (call.Read id max) (Read (take count buffer)) t → 0 < max → 0 < count
read_some id max count buffer s t (Outcome answer state) m = some_of count buffer (ap is_empty_read answer ∙ read_gives id max s m)
read_some id max count buffer s t (NoMemory needs answer state) m = cc
