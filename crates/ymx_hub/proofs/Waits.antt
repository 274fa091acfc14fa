-- Calls that wait: what their turns add.
use Rattle.std.proofs.Common.{◌≡◌, ◌<◌, ℕ, List, [], ◌∷◌, ◌++◌, Bool, true, false, refl, take, Result, Ok, Err, subst, inl, inr}
use Rattle.ymx_model.specs.declared.types.Entry.{Entry}
use Rattle.ymx_model.specs.session.Events.{Event}
use Rattle.ymx_machine.specs.shared.Events.{Reply}
use Rattle.ymx_machine.specs.declared.types.Reply.TheVariants.{Pinged, Ponged, Read, ReadWait, ReadEnd}
use Rattle.ymx_model.specs.declared.types.Got.{Got}
use Rattle.ymx_model.specs.declared.types.Got.TheVariants as got
use Rattle.ymx_session.specs.Replies.{pinged_or, ponged_or, read_or}
use Rattle.ymx_seats.specs.Views.{SeatView}
use Rattle.ymx_hub.specs.declared.faults.HubFault.{HubFault}
use Rattle.ymx_hub.specs.Books.{Books, One, Asks, to_ping, to_collect, to_read}
use Rattle.ymx_hub.specs.Turns.{AreWaits, Turns, PongsLast, IsPinged, PingTurns, ReadTurns, ReadsLast}
use Rattle.ymx_hub.proofs.Books.{books_same, books_at, books_weaker}

waits_append : (seat : ℕ) (event : Event) (told : Reply) (es ds : List Entry) → AreWaits seat event told es → AreWaits seat event told ds → AreWaits seat event told (es ++ ds)
waits_append seat event told [] ds w v = v
waits_append seat event told (e ∷ es) ds w v = (w.0, waits_append seat event told es ds w.1 v)

one_waits : (seat : ℕ) (event : Event) (told : Reply) (ds : List Entry) → One seat event told ds → AreWaits seat event told ds
one_waits seat event told ds h = rw h.1 ((refl, refl, refl), tt)

pub waits_none : (keeps : Bool) (seat : SeatView) (event : Event) (told : Reply) → Books keeps seat seat (AreWaits seat.number event told)
waits_none keeps seat event told = books_same keeps seat (AreWaits seat.number event told) tt

-- one turn more that was told to wait
pub waits_on : (keeps : Bool) (old mid new : SeatView) (event : Event) (told : Reply) → Books keeps old mid (AreWaits old.number event told) → Books keeps mid new (One mid.number event told) → Books keeps old new (AreWaits old.number event told)
waits_on keeps old mid new event told g h =
    books_at keeps old mid new (AreWaits old.number event told) (λ n. One n event told) (AreWaits old.number event told)
    (λ es ds w o. waits_append old.number event told es ds w (one_waits old.number event told ds o)) g h

-- waits, then the last turn
pub turns_end : (keeps : Bool) (old mid new : SeatView) (event : Event) (told : Reply) (Last : ℕ → List Entry → Type 0) → Books keeps old mid (AreWaits old.number event told) → Books keeps mid new (Last mid.number) → Books keeps old new (Turns old.number event told (Last old.number))
turns_end keeps old mid new event told Last g h =
    books_at keeps old mid new (AreWaits old.number event told) Last (Turns old.number event told (Last old.number)) (λ es ds w l. (es, ds, refl, w, l)) g h

-- ---- a ping

pinged_by : (seat number : ℕ) (result : Result ℕ HubFault) (es ds : List Entry) → One seat to_ping (Pinged number) es → Turns seat (to_collect number) (Ponged false) (PongsLast number seat result) ds → IsPinged seat result (es ++ ds)
pinged_by seat number result es ds o l = (number, es, ds, refl, o, l)

-- the ping, the waits for its answer, and what came last
pinged : (keeps : Bool) (old mid now new : SeatView) (number : ℕ) (result : Result ℕ HubFault) → Books keeps old mid (One old.number to_ping (Pinged number)) → Books keeps mid now (AreWaits mid.number (to_collect number) (Ponged false)) → Books keeps now new (PongsLast number now.number result) → Books keeps old new (IsPinged old.number result)
pinged keeps old mid now new number result g w l =
    books_at keeps old mid new (One old.number to_ping (Pinged number)) (λ n. Turns n (to_collect number) (Ponged false) (PongsLast number n result)) (IsPinged old.number result)
    (λ es ds o t. pinged_by old.number number result es ds o t) g
    (turns_end keeps mid now new (to_collect number) (Ponged false) (λ n. PongsLast number n result) w l)

-- the answer is back
pub pong_back : (keeps : Bool) (old mid now new : SeatView) (number : ℕ) → Books keeps old mid (Asks to_ping pinged_or old.number (Ok number)) → Books keeps mid now (AreWaits mid.number (to_collect number) (Ponged false)) → Books keeps now new (Asks (to_collect number) ponged_or now.number (Ok true)) → Books keeps old new (PingTurns old.number (Ok number))
pong_back keeps old mid now new number g w h =
    pinged keeps old mid now new number (Ok number) g w (books_weaker keeps now new (Asks (to_collect number) ponged_or now.number (Ok true)) (PongsLast number now.number (Ok number)) (λ es o. (refl, o)) h)

-- the question for it was refused
pub pong_refused : (keeps : Bool) (old mid now new : SeatView) (number : ℕ) (fault : HubFault) → Books keeps old mid (Asks to_ping pinged_or old.number (Ok number)) → Books keeps mid now (AreWaits mid.number (to_collect number) (Ponged false)) → Books keeps now new (Asks {A = Bool} (to_collect number) ponged_or now.number (Err fault)) → Books keeps old new (PingTurns old.number (Err fault))
pong_refused keeps old mid now new number fault g w h =
    books_weaker keeps old new (IsPinged old.number (Err fault)) (PingTurns old.number (Err fault)) (λ es p. inl p) (pinged keeps old mid now new number (Err fault) g w h)

-- the ping was refused
pub ping_refused : (keeps : Bool) (old new : SeatView) (fault : HubFault) → Books keeps old new (Asks {A = ℕ} to_ping pinged_or old.number (Err fault)) → Books keeps old new (PingTurns old.number (Err fault))
ping_refused keeps old new fault g = books_weaker keeps old new (Asks {A = ℕ} to_ping pinged_or old.number (Err fault)) (PingTurns old.number (Err fault)) (λ es p. inr p) g

-- ---- a read

-- what a read into a buffer of another name, but of the same size, added
at_size : (keeps : Bool) (mid new : SeatView) (id size more : ℕ) (buffer : List ℕ) (given : Result Got HubFault) → more ≡ size → Books keeps mid new (Asks (to_read id more) (λ given. read_or given buffer) mid.number given) → Books keeps mid new (Asks (to_read id size) (λ given. read_or given buffer) mid.number given)
at_size keeps mid new id size more buffer given r h = subst (λ (n : ℕ). Books keeps mid new (Asks (to_read id n) (λ given. read_or given buffer) mid.number given)) r h

pub read_waits : (keeps : Bool) (old mid new : SeatView) (id size more : ℕ) (buffer : List ℕ) → Books keeps old mid (AreWaits old.number (to_read id size) ReadWait) → more ≡ size → Books keeps mid new (Asks (to_read id more) (λ given. read_or given buffer) mid.number (Ok got.Wait)) → Books keeps old new (AreWaits old.number (to_read id size) ReadWait)
read_waits keeps old mid new id size more buffer g r h =
    waits_on keeps old mid new (to_read id size) ReadWait g (at_size keeps mid new id size more buffer (Ok got.Wait) r h)

pub read_end : (keeps : Bool) (old mid new : SeatView) (id size more : ℕ) (buffer : List ℕ) → Books keeps old mid (AreWaits old.number (to_read id size) ReadWait) → more ≡ size → Books keeps mid new (Asks (to_read id more) (λ given. read_or given buffer) mid.number (Ok got.End)) → Books keeps old new (ReadTurns id size buffer old.number (Ok 0))
read_end keeps old mid new id size more buffer g r h =
    turns_end keeps old mid new (to_read id size) ReadWait (λ n. ReadsLast id size buffer n (Ok 0)) g
    (books_weaker keeps mid new (One mid.number (to_read id size) ReadEnd) (ReadsLast id size buffer mid.number (Ok 0)) (λ es o. inr (refl, o)) (at_size keeps mid new id size more buffer (Ok got.End) r h))

pub read_bytes : (keeps : Bool) (old mid new : SeatView) (id size more count : ℕ) (buffer : List ℕ) → Books keeps old mid (AreWaits old.number (to_read id size) ReadWait) → more ≡ size → 0 < count → Books keeps mid new (Asks (to_read id more) (λ given. read_or given buffer) mid.number (Ok (got.Bytes count))) → Books keeps old new (ReadTurns id size buffer old.number (Ok count))
read_bytes keeps old mid new id size more count buffer g r some h =
    turns_end keeps old mid new (to_read id size) ReadWait (λ n. ReadsLast id size buffer n (Ok count)) g
    (books_weaker keeps mid new (One mid.number (to_read id size) (Read (take count buffer))) (ReadsLast id size buffer mid.number (Ok count)) (λ es o. inl (some, o)) (at_size keeps mid new id size more buffer (Ok (got.Bytes count)) r h))

pub read_refused : (keeps : Bool) (old mid new : SeatView) (id size more : ℕ) (buffer : List ℕ) (fault : HubFault) → Books keeps old mid (AreWaits old.number (to_read id size) ReadWait) → more ≡ size → Books keeps mid new (Asks {A = Got} (to_read id more) (λ given. read_or given buffer) mid.number (Err fault)) → Books keeps old new (ReadTurns id size buffer old.number (Err fault))
read_refused keeps old mid new id size more buffer fault g r h =
    turns_end keeps old mid new (to_read id size) ReadWait (λ n. ReadsLast id size buffer n (Err fault)) g
    (at_size keeps mid new id size more buffer (Err fault) r h)
