-- Histories that exist in proofs alone, and what their keeper and their callers know (this project's own).
use Rattle.std.specs.Prelude.{◌≡◌, ℕ, ◌≤◌, ◌==◌, List, [], ◌∷◌, ◌++◌, length, filter, set, true, false, slice_get, Some}
use mathlib.Core.List.{IsPrefix}
use mathlib.Core.Option.{some}
use lib.ListN.{get_elem?}
use Rattle.atomic_table.specs.Seated.{TableId}
use Rattle.ymx_machine.specs.declared.types.Reply.TheVariants as reply
use Rattle.ymx_model.specs.declared.types.Event.TheVariants as event
use Rattle.ymx_model.specs.declared.types.Config.{Config}
use Rattle.ymx_model.specs.declared.types.Entry.{Entry}
use Rattle.ymx_seats.specs.declared.plays.Knowledge.{Knowledge}
use Rattle.ymx_seats.specs.declared.plays.Right.{Right}
use Rattle.ymx_seats.specs.declared.plays.Right.TheVariants.{Free, Writes, Reads, Released}

-- what is named where nothing is
abbrev pub no_table : TableId
no_table = record { words = 0; slots = 0; views_name = 0; atom = 0; block = 0; offset = 0; slot_names = [] }

abbrev pub no_config : Config
no_config = record { window = 0; first = 0 }

abbrev pub no_entry : Entry
no_entry = record { position = 0; seat = 0; event = event.FeedEnd; reply = reply.Done }

-- the entries that name this caller, in their order
abbrev pub part : ℕ → List Entry → List Entry
part n es = filter (λ e. e.seat == n) es

-- ---- what contracts see

-- what the reading half of a stream may do, for whose writing half this is the right
abbrev pub reads_of : Right → Right
reads_of (Writes id at) = Reads id at
reads_of right = right

-- what a caller may do once it has released its reads to all
abbrev pub release_of : Right → Right
release_of (Reads id at) = Released id at
release_of right = right

-- a journal: its entries, and what each caller may do that was numbered
pub record JournalView : Type 0 where
  pub whole : List Entry
  pub rights : List Right

-- a witness: the number of its caller, what that may do, and the history that it has seen
pub record WitnessView : Type 0 where
  pub number : ℕ
  pub right : Right
  pub seen : List Entry

-- ---- what is known

-- the keeper, who knows the whole history
abbrev pub knower : List Entry → List Right → Knowledge
knower whole rights = record { keeps = true; rights = rights; whole = whole; speaks = false; number = 0; right = Free; seen = [] }

-- a caller, with what it may do and has seen
abbrev pub caller : ℕ → Right → List Entry → Knowledge
caller number right seen = record { keeps = false; rights = []; whole = []; speaks = true; number = number; right = right; seen = seen }

abbrev pub nobody : Knowledge
nobody = record { keeps = false; rights = []; whole = []; speaks = false; number = 0; right = Free; seen = [] }

-- the keeper, with what a caller knows
abbrev pub visited : Knowledge → Knowledge → Knowledge
visited v w = record { keeps = v.keeps; rights = v.rights; whole = v.whole; speaks = w.speaks; number = w.number; right = w.right; seen = w.seen }

-- the caller who was there
abbrev pub visitor : Knowledge → Knowledge
visitor v = record { keeps = false; rights = []; whole = []; speaks = v.speaks; number = v.number; right = v.right; seen = v.seen }

abbrev pub witness_of : Knowledge → WitnessView
witness_of v = record { number = v.number; right = v.right; seen = v.seen }

-- what the one pass of a witness knows
abbrev pub witnessed : List Knowledge → WitnessView
witnessed [] = record { number = 0; right = Free; seen = [] }
witnessed (v ∷ vs) = witness_of v

-- ---- the rule

-- What is known is so: the keeper's history is the history, and what a caller has seen is a beginning of it, in which all
-- of the caller's entries stand. Each number is with one pass.
pub record Fits (keeper : ℕ) (owner : ℕ → ℕ) (rights : List Right) (log : List Entry) (id : ℕ) (v : Knowledge) : Type 0 where
  pub keeps : v.keeps ≡ true → (id ≡ keeper) × (v.whole ≡ log) × (v.rights ≡ rights)
  pub speaks : v.speaks ≡ true → (owner v.number ≡ id) × (slice_get rights v.number ≡ Some v.right) × IsPrefix v.seen log × (part v.number log ≡ part v.number v.seen)

-- There is one history and one keeper. Only callers that were numbered have entries.
pub record IsKept (views : List Knowledge) : Type 0 where
  pub keeper : ℕ
  pub owner : ℕ → ℕ
  pub rights : List Right
  pub log : List Entry
  pub fits : (id : ℕ) (v : Knowledge) → get_elem? views id ≡ some v → Fits keeper owner rights log id v
  pub unmade : (n : ℕ) → length rights ≤ n → part n log ≡ []

-- ---- what a step tells the keeper

-- what the caller had seen is a beginning of the whole history, in which no other entry is the caller's; and the keeper knows what
-- the caller may do
abbrev pub IsBehind : Knowledge → Type 0
IsBehind v = IsPrefix v.seen v.whole × (part v.number v.whole ≡ part v.number v.seen) × (slice_get v.rights v.number ≡ Some v.right)

-- the keeper, with a caller that has then seen this whole history
abbrev pub shown : List Entry → Knowledge → Knowledge
shown whole v = record { keeps = v.keeps; rights = v.rights; whole = whole; speaks = v.speaks; number = v.number; right = v.right; seen = whole }

-- the keeper, with a caller that has released its reads
abbrev pub having_released : Knowledge → Knowledge
having_released v = record v { rights = set v.rights v.number (release_of v.right); right = release_of v.right }

module _ {S : Type 0} where
  abbrev pub HasAdded : Entry → Knowledge × S → Knowledge × S → Type 0
  HasAdded e v w = IsBehind v.0 × (w ≡ (shown (v.0.whole ++ e ∷ []) v.0, v.1))

  abbrev pub HasShown : Knowledge × S → Knowledge × S → Type 0
  HasShown v w = IsBehind v.0 × (w ≡ (shown v.0.whole v.0, v.1))

  abbrev pub HasReleased : Knowledge × S → Knowledge × S → Type 0
  HasReleased v w = IsBehind v.0 × (w ≡ (having_released v.0, v.1))

  abbrev pub HasCounted : Knowledge × S → Knowledge × S → Type 0
  HasCounted v w = (part (length v.0.rights) v.0.whole ≡ []) × (w ≡ v)
