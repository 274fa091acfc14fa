-- What a call of a hub that waits adds to the list of its seat (this project's own).
use Rattle.std.specs.Prelude.{◌≡◌, ◌<◌, ℕ, ◌+◌, ◌⊎◌, List, [], ◌∷◌, ◌++◌, length, take, drop, true, false, Option, Some, None, Result, Ok, Err}
use Rattle.ymx_machine.specs.shared.Evidence.{evidence}
use Rattle.ymx_machine.specs.declared.types.CallFault.{CallFault}
use Rattle.ymx_machine.specs.declared.types.CallFault.TheVariants.{Lost, Closed}
use Rattle.ymx_machine.specs.declared.types.Wrote.{Wrote}
use Rattle.ymx_machine.specs.declared.types.Wrote.TheVariants.{Took}
use Rattle.ymx_model.specs.session.Events.{Event}
use Rattle.ymx_machine.specs.shared.Events.{Reply}
use Rattle.ymx_machine.specs.declared.types.Reply.TheVariants as reply
use Rattle.ymx_model.specs.declared.types.Entry.{Entry}
use Rattle.ymx_session.specs.Replies.{pinged_or}
use Rattle.ymx_seats.specs.Views.{SeatView}
use Rattle.ymx_hub.specs.declared.faults.HubFault.{HubFault}
use Rattle.ymx_hub.specs.declared.faults.HubFault.TheVariants.{Memory}
use Rattle.ymx_hub.specs.Answers.{hub_fault_of}
use Rattle.ymx_hub.specs.Books.{One, Asks, IsGiven, IsRefused, to_accept, to_write, to_read, to_ping, to_collect}
use Rattle.ymx_hub.specs.declared.write_fault.WriteFault.{WriteFault}

-- each entry names this seat, has this event, and was told to wait by this reply
abbrev pub AreWaits : ℕ → Event → Reply → List Entry → Type 0
AreWaits seat event told [] = Unit {0}
AreWaits seat event told (e ∷ es) = ((e.seat ≡ seat) × (e.event ≡ event) × (e.reply ≡ told)) × AreWaits seat event told es

-- waits, then what comes last
abbrev pub Turns : ℕ → Event → Reply → (List Entry → Type 0) → List Entry → Type 0
Turns seat event told Last added =
    (waits : List Entry) × (last : List Entry) × (added ≡ waits ++ last) × AreWaits seat event told waits × Last last

-- ---- accept

-- the session gives out no more streams
abbrev pub IsOver : CallFault → Type 0
IsOver why = (why ≡ Lost) ⊎ (why ≡ Closed)

-- the stream, the refusal that ends it all, or another
abbrev pub AcceptsLast : ℕ → Result (Option (ℕ × SeatView × SeatView)) HubFault → List Entry → Type 0
AcceptsLast seat (Ok (Some made)) last = IsGiven to_accept (reply.Accepted (Some made.0)) seat made.1 made.2 last
AcceptsLast seat (Ok None) last = (why : CallFault) × IsOver why × One seat to_accept (reply.Refused why) last
AcceptsLast seat (Err fault) last = IsRefused to_accept seat fault last

abbrev pub AcceptsInTurns : ℕ → Result (Option (ℕ × SeatView × SeatView)) HubFault → List Entry → Type 0
AcceptsInTurns seat result added = Turns seat to_accept (reply.Accepted None) (AcceptsLast seat result) added

-- ---- read

-- bytes at the front of the buffer, at least one; the end for 0; or the refusal
abbrev pub ReadsLast : (id size : ℕ) → (buffer : List ℕ) → ℕ → Result ℕ HubFault → List Entry → Type 0
ReadsLast id size buffer seat (Ok n) last =
    ((0 < n) × One seat (to_read id size) (reply.Read (take n buffer)) last) ⊎ ((n ≡ 0) × One seat (to_read id size) reply.ReadEnd last)
ReadsLast id size buffer seat (Err fault) last =
    ((fault ≡ Memory evidence) × (last ≡ []))
    ⊎ ((why : CallFault) × (fault ≡ hub_fault_of why) × One seat (to_read id size) (reply.Refused why) last)

abbrev pub ReadTurns : (id size : ℕ) → (buffer : List ℕ) → ℕ → Result ℕ HubFault → List Entry → Type 0
ReadTurns id size buffer seat result added = Turns seat (to_read id size) reply.ReadWait (ReadsLast id size buffer seat result) added

-- ---- ping

-- the answer that is back, or the refusal
abbrev pub PongsLast : (number : ℕ) → ℕ → Result ℕ HubFault → List Entry → Type 0
PongsLast number seat (Ok n) last = (n ≡ number) × One seat (to_collect number) (reply.Ponged true) last
PongsLast number seat (Err fault) last =
    ((fault ≡ Memory evidence) × (last ≡ []))
    ⊎ ((why : CallFault) × (fault ≡ hub_fault_of why) × One seat (to_collect number) (reply.Refused why) last)

-- a ping of this number, then the waits for its answer
abbrev pub IsPinged : ℕ → Result ℕ HubFault → List Entry → Type 0
IsPinged seat result added =
    (number : ℕ) × (asked : List Entry) × (rest : List Entry) × (added ≡ asked ++ rest)
    × One seat to_ping (reply.Pinged number) asked
    × Turns seat (to_collect number) (reply.Ponged false) (PongsLast number seat result) rest

-- that, or the ping was refused
abbrev pub PingTurns : ℕ → Result ℕ HubFault → List Entry → Type 0
PingTurns seat (Ok n) added = IsPinged seat (Ok n) added
PingTurns seat (Err fault) added = IsPinged seat (Err fault) added ⊎ Asks to_ping pinged_or seat (Err fault) added

-- ---- write

-- how many bytes a write took
abbrev pub took_of : Reply → ℕ
took_of (reply.Wrote (Took n)) = n
took_of _ = 0

-- how many bytes the writes took
abbrev pub total : List Entry → ℕ
total [] = 0
total (e ∷ es) = took_of e.reply + total es

-- each entry is a write of the bytes that were still left
abbrev pub AreWrites : (id seat : ℕ) → (left : List ℕ) → List Entry → Type 0
AreWrites id seat left [] = Unit {0}
AreWrites id seat left (e ∷ es) =
    ((e.seat ≡ seat) × (e.event ≡ to_write id left)) × AreWrites id seat (drop (took_of e.reply) left) es

-- the last entry has such a reply
abbrev pub EndsIn : (Reply → Type 0) → List Entry → Type 0
EndsIn Such [] = ⊥
EndsIn Such (e ∷ []) = Such e.reply
EndsIn Such (e ∷ f ∷ fs) = EndsIn Such (f ∷ fs)

-- a write took some
abbrev pub HasTaken : Reply → Type 0
HasTaken told = (n : ℕ) × (told ≡ reply.Wrote (Took n))

-- a write was answered with what it took, or that it has to wait
abbrev pub IsWrote : Reply → Type 0
IsWrote told = (wrote : Wrote) × (told ≡ reply.Wrote wrote)

-- no write was refused: there was none, or the last was answered so
abbrev pub IsUnrefused : List Entry → Type 0
IsUnrefused added = (added ≡ []) ⊎ EndsIn IsWrote added

-- all bytes were taken; or the first so many, up to a refusal, or to lack of memory for the next entry
abbrev pub WriteEnds : (bytes : List ℕ) → Result (Unit {0}) WriteFault → List Entry → Type 0
WriteEnds bytes (Ok u) added = (total added ≡ length bytes) × EndsIn HasTaken added
WriteEnds bytes (Err stop) added =
    (total added ≡ stop.taken)
    × (((stop.fault ≡ Memory evidence) × IsUnrefused added)
    ⊎ ((why : CallFault) × (stop.fault ≡ hub_fault_of why) × EndsIn (λ told. told ≡ reply.Refused why) added))

-- writes of what was left, and how they ended
abbrev pub WriteTurns : (id : ℕ) → (bytes : List ℕ) → ℕ → Result (Unit {0}) WriteFault → List Entry → Type 0
WriteTurns id bytes seat result added = AreWrites id seat bytes added × WriteEnds bytes result added
