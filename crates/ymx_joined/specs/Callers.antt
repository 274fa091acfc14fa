-- What the callers of two sessions see of a stream, in the sessions' histories (this project's own).
use Rattle.std.specs.Prelude.{ℕ, ◌≡◌, ◌==◌, ◌++◌, ◌∷◌, ◌||◌, if◌then◌else◌, List, [], take, Bool, true, false, Some, slice_get}
use Rattle.ymx_machine.specs.declared.types.Call.TheVariants as call
use Rattle.ymx_machine.specs.declared.types.Reply.TheVariants as reply
use Rattle.ymx_machine.specs.declared.types.Wrote.TheVariants.{Took}
use Rattle.ymx_machine.specs.shared.Events.{Reply}
use Rattle.ymx_model.specs.session.Events.{Event}
use Rattle.ymx_model.specs.declared.types.Event.TheVariants as event
use Rattle.ymx_model.specs.declared.types.Entry.{Entry}
use Rattle.ymx_connect.specs.Told.{Exchanges, Echoes}

-- the bytes that a stream took at an event, its first ones included
abbrev pub took_at : ℕ → Event → Reply → List ℕ
took_at id (event.Call (call.Write to bytes)) (reply.Wrote (Took n)) = if to == id then take n bytes else []
took_at id (event.Call (call.OpenWith bytes)) (reply.OpenedWith to n) = if to == id then take n bytes else []
took_at id _ _ = []

-- those of all entries
abbrev pub all_taken : ℕ → List Entry → List ℕ
all_taken id [] = []
all_taken id (x ∷ xs) = took_at id x.event x.reply ++ all_taken id xs

-- the bytes that it gave
abbrev pub gave_at : ℕ → Event → Reply → List ℕ
gave_at id (event.Call (call.Read from room)) (reply.Read bytes) = if from == id then bytes else []
gave_at id _ _ = []

-- those of all entries
abbrev pub all_given : ℕ → List Entry → List ℕ
all_given id [] = []
all_given id (x ∷ xs) = gave_at id x.event x.reply ++ all_given id xs

-- a read of it was answered with the end
abbrev pub ended_at : ℕ → Event → Reply → Bool
ended_at id (event.Call (call.Read from room)) reply.ReadEnd = from == id
ended_at id _ _ = false

-- one of these entries was
abbrev pub was_ended : ℕ → List Entry → Bool
was_ended id [] = false
was_ended id (x ∷ xs) = ended_at id x.event x.reply || was_ended id xs

-- it was finished, and this was not refused
abbrev pub finished_at : ℕ → Event → Reply → Bool
finished_at id (event.Call (call.Finish to)) reply.Done = to == id
finished_at id _ _ = false

-- one of these entries was
abbrev pub was_finished : ℕ → List Entry → Bool
was_finished id [] = false
was_finished id (x ∷ xs) = finished_at id x.event x.reply || was_finished id xs

-- the caller was given it: by opening it or by accepting it
abbrev pub opens_or_accepts : ℕ → Event → Reply → Bool
opens_or_accepts id (event.Call call.Open) (reply.Opened new) = new == id
opens_or_accepts id (event.Call (call.OpenWith bytes)) (reply.OpenedWith new n) = new == id
opens_or_accepts id (event.Call call.Accept) (reply.Accepted (Some new)) = new == id
opens_or_accepts id _ _ = false

-- ---- what holds of them

-- What a stream gave at one end (`to`) is a beginning of what it took at the other (`from`). Where its end was read at the one, it is all
-- of it, and the stream was finished at the other.
pub record CarriesStream (id : ℕ) (from to : List Entry) : Type 0 where
  pub begins : (rest : List ℕ) × (all_taken id from ≡ all_given id to ++ rest)
  pub whole : was_ended id to ≡ true → all_taken id from ≡ all_given id to
  pub finished : was_ended id to ≡ true → was_finished id from ≡ true

-- each stream, both ways
abbrev pub CarryAll : List Entry → List Entry → Type 0
CarryAll xs ys = (id : ℕ) → CarriesStream id xs ys × CarriesStream id ys xs

-- no stream is opened or accepted at two places
abbrev pub AreHandedOutOnce : List Entry → Type 0
AreHandedOutOnce xs =
    (id p q : ℕ) (x y : Entry) → slice_get xs p ≡ Some x → opens_or_accepts id x.event x.reply ≡ true → slice_get xs q ≡ Some y → opens_or_accepts id y.event y.reply ≡ true → p ≡ q

-- after its finish a stream takes nothing
abbrev pub TakeNoneBehindFinish : List Entry → Type 0
TakeNoneBehindFinish xs = (id : ℕ) (before after : List Entry) (x : Entry) → xs ≡ before ++ x ∷ after → finished_at id x.event x.reply ≡ true → all_taken id after ≡ []

-- after its end a stream gives nothing
abbrev pub GiveNoneBehindEnd : List Entry → Type 0
GiveNoneBehindEnd xs = (id : ℕ) (before after : List Entry) (x : Entry) → xs ≡ before ++ x ∷ after → ended_at id x.event x.reply ≡ true → all_given id after ≡ []

-- ---- what comes back

-- What came back on a stream, whose other end echoed it, is what was written; and so is what the other end read and wrote.
abbrev pub EchoesCome : (here there : List Entry) → Type 0
EchoesCome here there =
    (text got echo : List ℕ) (x : Exchanges text got (Some here)) → Echoes x.writer.id echo (Some there) → (echo ≡ text) × (got ≡ text)
