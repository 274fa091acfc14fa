-- The last entry of a read at the end.
use Rattle.std.proofs.Common.{◌≡◌, ℕ, List, ◌++◌, Bool, refl, Ok}
use Rattle.ymx_model.specs.declared.types.Entry.{Entry}
use Rattle.ymx_model.specs.declared.types.Got.TheVariants as got
use Rattle.ymx_machine.specs.declared.types.Reply.TheVariants.{ReadWait, ReadEnd}
use Rattle.ymx_session.specs.Replies.{read_or}
use Rattle.ymx_seats.specs.Views.{SeatView, entry}
use Rattle.ymx_hub.specs.Books.{Books, One, Asks, to_read}
use Rattle.ymx_hub.specs.Turns.{AreWaits, EndsIn}
use Rattle.ymx_hub.proofs.Books.{books_both}
use Rattle.ymx_hub.proofs.Written.{ends_more}

ended_by : (seat id size : ℕ) (es ds : List Entry) → One seat (to_read id size) ReadEnd ds → EndsIn (λ told. told ≡ ReadEnd) (es ++ ds)
ended_by seat id size es ds o = rw o.1 (ends_more (λ told. told ≡ ReadEnd) es (entry o.0 seat (to_read id size) ReadEnd) refl)

-- waits, then the turn that found the end
pub read_ends : (keeps : Bool) (old mid new : SeatView) (id size more : ℕ) (buffer : List ℕ) → Books keeps old mid (AreWaits old.number (to_read id size) ReadWait) → Books keeps mid new (Asks (to_read id more) (λ given. read_or given buffer) mid.number (Ok got.End)) → Books keeps old new (EndsIn (λ told. told ≡ ReadEnd))
read_ends keeps old mid new id size more buffer g h =
    books_both keeps old mid new (AreWaits old.number (to_read id size) ReadWait) (One mid.number (to_read id more) ReadEnd) (EndsIn (λ told. told ≡ ReadEnd)) (λ es ds w o. ended_by mid.number id more es ds o) g h
