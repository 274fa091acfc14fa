-- Why a pump has ended.
use Rattle.std.proofs.Common.{◌≡◌, ◌⊎◌, ℕ, List, Bool, true, false, Option, inl, inr, refl, subst}
use Rattle.std.specs.Io.KnownBytes.{IsAtEnd}
use Rattle.ymx_machine.specs.shared.Evidence.{evidence}
use Rattle.ymx_model.specs.devices.Devices.{has_failed}
use Rattle.ymx_connect.specs.declared.pump_end.PumpWhy.{PumpWhy}
use Rattle.ymx_connect.specs.declared.pump_end.PumpWhy.TheVariants.{End, Device, Broken, Memory, NoThread}
use Rattle.ymx_connect.specs.Ends.{WriteEnd, WriteEndOrNone, ReadEnd, FeedEnd}

-- what isn't false is true
pub is_keeping : (b : Bool) → (b ≡ false → ⊥) → b ≡ true
is_keeping true f = refl
is_keeping false f = absurd (f refl)

-- this reason, or no memory for the entry that says it
abbrev pub Either : (keeps : Bool) (why result : PumpWhy) → Type 0
Either keeps why result = (result ≡ why) ⊎ ((keeps ≡ true) × (result ≡ Memory evidence))

-- the reader has nothing left
pub read_ended : (keeps : Bool) (fails failed : ℕ) (remaining : Option (List ℕ)) (has_refused : Bool) (result : PumpWhy) → IsAtEnd remaining →
    Either keeps End result → ReadEnd keeps fails failed remaining has_refused result
read_ended keeps fails failed remaining has_refused result a (inl e) = rw e a
read_ended keeps fails failed remaining has_refused result a (inr m) = rw m.1 m.0

-- the reader failed
pub read_failed : (keeps : Bool) (fails failed : ℕ) (remaining : Option (List ℕ)) (has_refused : Bool) (result : PumpWhy) → has_failed fails failed ≡ true →
    Either keeps Device result → ReadEnd keeps fails failed remaining has_refused result
read_failed keeps fails failed remaining has_refused result f (inl e) = rw e f
read_failed keeps fails failed remaining has_refused result f (inr m) = rw m.1 m.0

-- the feeds have ended the pump
pub read_stopped : (keeps : Bool) (fails failed : ℕ) (remaining : Option (List ℕ)) (has_refused : Bool) (why : PumpWhy) → FeedEnd keeps has_refused why →
    ReadEnd keeps fails failed remaining has_refused why
read_stopped keeps fails failed remaining has_refused End f = absurd f
read_stopped keeps fails failed remaining has_refused Device f = absurd f
read_stopped keeps fails failed remaining has_refused (Broken fault) f = tt
read_stopped keeps fails failed remaining has_refused NoThread f = absurd f
read_stopped keeps fails failed remaining has_refused _ f = f

-- no call of the reader had failed before the last turn
pub read_last : (keeps : Bool) (fails between failed : ℕ) (remaining : Option (List ℕ)) (has_refused : Bool) (why : PumpWhy) → between ≡ fails →
    ReadEnd keeps between failed remaining has_refused why → ReadEnd keeps fails failed remaining has_refused why
read_last keeps fails between failed remaining has_refused why e r = subst (λ (n : ℕ). ReadEnd keeps n failed remaining has_refused why) e r

-- the writer failed
pub write_failed : (keeps : Bool) (fails failed : ℕ) (is_ended has_refused : Bool) (result : PumpWhy) → has_failed fails failed ≡ true →
    Either keeps Device result → WriteEnd keeps fails failed is_ended has_refused result
write_failed keeps fails failed is_ended has_refused result f (inl e) = rw e f
write_failed keeps fails failed is_ended has_refused result f (inr m) = rw m.1 m.0

-- no call of the writer had failed before the last turn
pub write_last : (keeps : Bool) (fails between failed : ℕ) (is_ended has_refused : Bool) (why : PumpWhy) → between ≡ fails →
    WriteEnd keeps between failed is_ended has_refused why → WriteEnd keeps fails failed is_ended has_refused why
write_last keeps fails between failed is_ended has_refused why e r = subst (λ (n : ℕ). WriteEnd keeps n failed is_ended has_refused why) e r

-- a pump that ran has a thread
pub has_thread : (keeps : Bool) (fails failed : ℕ) (is_ended has_refused : Bool) (why : PumpWhy) → WriteEnd keeps fails failed is_ended has_refused why → why ≡ NoThread → ⊥
has_thread keeps fails failed is_ended has_refused why w e = rw e at w

-- a thread was made, and the pump has ended so
pub write_ran : (keeps : Bool) (fails failed : ℕ) (is_ended has_refused : Bool) (why : PumpWhy) → WriteEnd keeps fails failed is_ended has_refused why →
    WriteEndOrNone keeps fails failed is_ended has_refused why
write_ran keeps fails failed is_ended has_refused NoThread w = tt
write_ran keeps fails failed is_ended has_refused _ w = w
