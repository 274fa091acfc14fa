-- What the rules of a stream's calls say.
use Rattle.std.proofs.Common.{◌≡◌, ℕ, ◌≤◌, List, length, take, Bool, true, false, ◌==◌, subst, arith}
use Rattle.std.proofs.lemmas.Bool.Decides.{nat_tests}
use Rattle.ymx_machine.specs.declared.types.Reply.TheVariants.{ReadEnd}
use Rattle.ymx_machine.specs.shared.Phases.{Phase, is_up, takes, is_unborn}
use Rattle.ymx_machine.specs.shared.Phases.Phase.{Live}
use Rattle.std.specs.Prelude.{MatchBool}
use Rattle.ymx_machine.specs.shared.Replies.{bytes_moved, is_done, write_reply, read_reply, finish_reply, reset_reply}
use Rattle.ymx_headline.proofs.machine.lanes.LaneLaws.{lists}

pub if-so_true : (b : Bool) (P Q : Type 0) → b ≡ true → MatchBool b P Q → P
if-so_true b P Q e h = subst (λ (x : Bool). MatchBool x P Q) e h

pub if-so_false : (b : Bool) (P Q : Type 0) → b ≡ false → MatchBool b P Q → Q
if-so_false b P Q e h = subst (λ (x : Bool). MatchBool x P Q) e h

-- a write takes no more than the credit
pub write-fits : (lost : Bool) (bytes : List ℕ) (p : Phase) (said : Bool) (credit : ℕ) →
    length (take (bytes_moved (write_reply lost bytes p said credit)) bytes) ≤ credit
write-fits lost bytes p said credit = grind (arith, nat_tests, lists)

-- and takes bytes only at a live end that isn't finished
pub write-live : (lost : Bool) (bytes : List ℕ) (p : Phase) (said : Bool) (credit : ℕ) →
    (bytes_moved (write_reply lost bytes p said credit) == 0) ≡ false → (p ≡ Live) × (said ≡ false)
write-live lost bytes p said credit n = grind (arith, nat_tests, lists)

pub read-live : (lost : Bool) (max : ℕ) (p : Phase) (here : List ℕ) (ended : Bool) →
    (bytes_moved (read_reply lost max p here ended) == 0) ≡ false → p ≡ Live
read-live lost max p here ended n = grind (arith, nat_tests, lists)

-- the end is answered only where nothing is there, and the end is
pub read-over : (lost : Bool) (max : ℕ) (p : Phase) (here : List ℕ) (ended : Bool) →
    read_reply lost max p here ended ≡ ReadEnd → (p ≡ Live) × (length here ≡ 0) × (ended ≡ true)
read-over lost max p here ended e = grind (arith, nat_tests, lists)

pub finish-live : (lost : Bool) (p : Phase) (said : Bool) → is_done (finish_reply lost p said) ≡ true → (p ≡ Live) × (said ≡ false)
finish-live lost p said e = grind arith

pub reset-live : (lost : Bool) (p : Phase) → is_done (reset_reply lost p) ≡ true → p ≡ Live
reset-live lost p e = grind arith

pub live-up : (p : Phase) → p ≡ Live → is_up p ≡ true
live-up p e = grind arith

pub takes-up : (p : Phase) → takes p ≡ true → is_up p ≡ true
takes-up p e = grind arith

pub born-up : (p : Phase) → is_unborn p ≡ false → takes p ≡ false → is_up p ≡ false
born-up p e f = grind arith
