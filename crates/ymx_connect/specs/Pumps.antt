-- What a pump moved, and what it added to the list of its seat (this project's own).
use Rattle.std.specs.Prelude.{◌≡◌, ℕ, ◌-◌, ◌^◌, List, [], ◌∷◌, ◌++◌, length, take, min, Bool, true, false, Option, Some, None}
use Rattle.std.specs.Io.KnownBytes.{Appends, Consumes}
use Rattle.ymx_header.specs.declared.fault.Fault.{Fault}
use Rattle.ymx_machine.specs.declared.types.Fed.{Fed}
use Rattle.ymx_machine.specs.declared.types.Why.{Why}
use Rattle.ymx_machine.specs.declared.types.Why.TheVariants as feed
use Rattle.ymx_machine.specs.shared.Events.{Reply}
use Rattle.ymx_model.specs.declared.types.Event.TheVariants as event
use Rattle.ymx_machine.specs.declared.types.Reply.TheVariants as reply
use Rattle.ymx_model.specs.declared.types.Entry.{Entry}
use Rattle.ymx_seats.specs.Views.{SeatView}
use Rattle.ymx_hub.specs.Books.{Books, One}
use Rattle.ymx_hub.specs.Shown.{BooksShown}
use Rattle.ymx_connect.specs.declared.pump_end.PumpWhy.{PumpWhy}
use Rattle.ymx_connect.specs.declared.pump_end.PumpWhy.TheVariants.{End, Device, Broken}

-- a count of bytes stays at the greatest u64
abbrev pub byte_count : List ℕ → ℕ
byte_count bytes = min (length bytes) (2 ^ 64 - 1)

-- ---- the write pump

-- an emission by this seat into a buffer of this size, which gave these bytes
pub record IsEmit (size seat : ℕ) (bytes : List ℕ) (e : Entry) : Type 0 where
  pub named : e.seat ≡ seat
  pub event : e.event ≡ event.Emit size
  pub reply : e.reply ≡ reply.Emitted bytes

-- emissions, which gave these bytes one after the other
abbrev pub AreEmits : (size seat : ℕ) → List ℕ → List Entry → Type 0
AreEmits size seat given [] = given ≡ []
AreEmits size seat given (e ∷ es) =
    (bytes : List ℕ) × (more : List ℕ) × (given ≡ bytes ++ more) × IsEmit size seat bytes e × AreEmits size seat more es

-- all that was given was written; where the writer failed, a beginning
abbrev pub IsWritten : (failed : Bool) → List ℕ → List ℕ → Type 0
IsWritten true written given = (n : ℕ) × (written ≡ take n given)
IsWritten false written given = written ≡ given

-- the pump's last entry: that the input ended, exactly if it ended with Device
abbrev pub EndsWrite : ℕ → PumpWhy → List Entry → Type 0
EndsWrite seat Device added = One seat event.FeedEnd reply.Done added
EndsWrite seat _ added = added ≡ []

-- the emissions whose bytes were written, and then what the pump's end adds
pub record WriteAdds (size seat : ℕ) (failed : Bool) (written : List ℕ) (why : PumpWhy) (added : List Entry) : Type 0 where
  pub emits : List Entry
  pub closing : List Entry
  pub parts : added ≡ emits ++ closing
  pub given : List ℕ
  pub emitted : AreEmits size seat given emits
  pub wrote : IsWritten failed written given
  pub ended : EndsWrite seat why closing

-- What a write pump did. The writer took the bytes written, which are those that the emissions gave. The history may have been
-- shown to its seat after them.
pub record PumpWrote (keeps : Bool) (size : ℕ) (failed : Bool) (before after : Option (List ℕ)) (old new : SeatView) (moved : ℕ) (why : PumpWhy) : Type 0 where
  pub written : List ℕ
  pub took : Appends before after written
  pub amount : moved ≡ byte_count written
  pub booked : BooksShown keeps old new (WriteAdds size old.number failed written why)

-- ---- the read pump

-- a feed by this seat: its bytes are the next of those that are left, and it took the first of them
pub record IsFeed (seat : ℕ) (left taken rest : List ℕ) (e : Entry) : Type 0 where
  pub named : e.seat ≡ seat
  pub kept : List ℕ
  pub later : List ℕ
  pub event : e.event ≡ event.Feed (taken ++ kept)
  pub fed : Fed
  pub reply : e.reply ≡ reply.Fed fed
  pub count : fed.taken ≡ length taken
  pub split : left ≡ taken ++ rest
  pub next : rest ≡ kept ++ later

-- feeds of the bytes that are left, one after the other; what they took, joined, and what is left then
abbrev pub AreFeeds : (seat : ℕ) → (left taken last : List ℕ) → List Entry → Type 0
AreFeeds seat left taken last [] = (taken ≡ []) × (left ≡ last)
AreFeeds seat left taken last (e ∷ es) =
    (first : List ℕ) × (more : List ℕ) × (rest : List ℕ) × (taken ≡ first ++ more) × IsFeed seat left first rest e × AreFeeds seat rest more last es

-- the fault with which a feed stopped, if the session is broken
abbrev pub fault_of_feed : Why → Option Fault
fault_of_feed (feed.Broken fault) = Some fault
fault_of_feed _ = None

-- the fault that a reply tells, if it is that of a feed which stopped with one
abbrev pub fault_told : Reply → Option Fault
fault_told (reply.Fed fed) = fault_of_feed fed.why
fault_told _ = None

-- the fault with which a pump ended, if it ended with Broken
abbrev pub fault_of_end : PumpWhy → Option Fault
fault_of_end (Broken fault) = Some fault
fault_of_end _ = None

-- The last entry tells this fault, and those before it none. With no fault, none tells any.
abbrev pub TellsLast : Option Fault → List Entry → Type 0
TellsLast fault [] = fault ≡ None
TellsLast fault (e ∷ []) = fault_told e.reply ≡ fault
TellsLast fault (e ∷ f ∷ fs) = (fault_told e.reply ≡ None) × TellsLast fault (f ∷ fs)

-- nothing is left where the reader ended or failed
abbrev pub IsLeft : PumpWhy → List ℕ → Type 0
IsLeft End last = last ≡ []
IsLeft Device last = last ≡ []
IsLeft _ last = Unit {0}

-- the pump's last entry: that the input ended, exactly if it ended with End or Device
abbrev pub EndsRead : ℕ → PumpWhy → List Entry → Type 0
EndsRead seat End added = One seat event.FeedEnd reply.Done added
EndsRead seat Device added = One seat event.FeedEnd reply.Done added
EndsRead seat _ added = added ≡ []

-- The feeds of the bytes given, and then what the pump's end adds. It ended with Broken exactly if the last feed told
-- that fault, and no feed before it told any.
pub record ReadAdds (seat : ℕ) (given taken last : List ℕ) (why : PumpWhy) (added : List Entry) : Type 0 where
  pub feeds : List Entry
  pub closing : List Entry
  pub parts : added ≡ feeds ++ closing
  pub fed : AreFeeds seat given taken last feeds
  pub broke : TellsLast (fault_of_end why) feeds
  pub ended : EndsRead seat why closing

-- What a read pump did. The reader gave the bytes given, of which the feeds took the first: all where it ended or failed.
pub record PumpRead (keeps : Bool) (before after : Option (List ℕ)) (old new : SeatView) (moved : ℕ) (why : PumpWhy) : Type 0 where
  pub given : List ℕ
  pub taken : List ℕ
  pub last : List ℕ
  pub gave : Consumes before after given
  pub parts : given ≡ taken ++ last
  pub whole : IsLeft why last
  pub amount : moved ≡ byte_count taken
  pub booked : Books keeps old new (ReadAdds old.number given taken last why)
