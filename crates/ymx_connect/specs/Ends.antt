-- What is so where a pump has ended, for each reason (this project's own).
use Rattle.std.specs.Prelude.{◌≡◌, ℕ, List, Bool, true, Option}
use Rattle.std.specs.Io.KnownBytes.{IsAtEnd}
use Rattle.ymx_model.specs.devices.Devices.{has_failed}
use Rattle.ymx_connect.specs.declared.pump_end.PumpWhy.{PumpWhy}
use Rattle.ymx_connect.specs.declared.pump_end.PumpWhy.TheVariants.{End, Device, Broken, Memory, Gate, NoThread}

-- A write pump: no call of the writer failed, and the writer was ended; or one of them failed; or there was no memory, which
-- only a recorder that keeps needs; or its gate has refused.
abbrev pub WriteEnd : (keeps : Bool) (fails failed : ℕ) (is_ended has_refused : Bool) → PumpWhy → Type 0
WriteEnd keeps fails failed is_ended has_refused End = (failed ≡ fails) × (is_ended ≡ true)
WriteEnd keeps fails failed is_ended has_refused Device = has_failed fails failed ≡ true
WriteEnd keeps fails failed is_ended has_refused (Broken fault) = ⊥
WriteEnd keeps fails failed is_ended has_refused (Memory refused) = keeps ≡ true
WriteEnd keeps fails failed is_ended has_refused Gate = has_refused ≡ true
WriteEnd keeps fails failed is_ended has_refused NoThread = ⊥

-- A read pump: the reader has nothing left; or a call of it failed; or the session broke; or there was no memory, which only a
-- recorder that keeps needs; or its gate has refused.
abbrev pub ReadEnd : (keeps : Bool) (fails failed : ℕ) → Option (List ℕ) → (has_refused : Bool) → PumpWhy → Type 0
ReadEnd keeps fails failed remaining has_refused End = IsAtEnd remaining
ReadEnd keeps fails failed remaining has_refused Device = has_failed fails failed ≡ true
ReadEnd keeps fails failed remaining has_refused (Broken fault) = Unit {0}
ReadEnd keeps fails failed remaining has_refused (Memory refused) = keeps ≡ true
ReadEnd keeps fails failed remaining has_refused Gate = has_refused ≡ true
ReadEnd keeps fails failed remaining has_refused NoThread = ⊥

-- a read pump in its feeds
abbrev pub FeedEnd : (keeps has_refused : Bool) → PumpWhy → Type 0
FeedEnd keeps has_refused (Broken fault) = Unit {0}
FeedEnd keeps has_refused (Memory refused) = keeps ≡ true
FeedEnd keeps has_refused Gate = has_refused ≡ true
FeedEnd keeps has_refused _ = ⊥

-- a write pump for which a thread is to be made: none could be, or it has ended so
abbrev pub WriteEndOrNone : (keeps : Bool) (fails failed : ℕ) (is_ended has_refused : Bool) → PumpWhy → Type 0
WriteEndOrNone keeps fails failed is_ended has_refused NoThread = Unit {0}
WriteEndOrNone keeps fails failed is_ended has_refused why = WriteEnd keeps fails failed is_ended has_refused why
