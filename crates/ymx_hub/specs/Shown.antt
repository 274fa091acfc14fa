-- What a seat has seen once the history was shown to it (this project's own).
use Rattle.std.specs.Prelude.{◌≡◌, ℕ, List, Bool, Option, Some, None}
use mathlib.Core.List.{IsPrefix}
use Rattle.ymx_model.specs.declared.types.Entry.{Entry}
use Rattle.ymx_seats.specs.Journals.{part}
use Rattle.ymx_seats.specs.Views.{SeatView}
use Rattle.ymx_hub.specs.Books.{Books}

-- the history that was seen goes on, and no entry of this caller is new
abbrev pub HasGrown : (number : ℕ) → (before after : Option (List Entry)) → Type 0
HasGrown number None None = Unit {0}
HasGrown number None (Some after) = ⊥
HasGrown number (Some before) None = ⊥
HasGrown number (Some before) (Some after) = IsPrefix before after × (part number after ≡ part number before)

-- the seat has seen more, and is else as it was
pub record IsShown (old new : SeatView) : Type 0 where
  pub rest : new ≡ record old { seen = new.seen }
  pub grown : HasGrown old.number old.seen new.seen

-- entries that are such were booked, and after them the history was shown
pub record BooksShown (keeps : Bool) (old new : SeatView) (Such : List Entry → Type 0) : Type 0 where
  pub between : SeatView
  pub booked : Books keeps old between Such
  pub shown : IsShown between new
