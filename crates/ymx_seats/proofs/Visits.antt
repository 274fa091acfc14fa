-- A caller comes to the keeper of a journal, and leaves.
use Rattle.std.proofs.Common.{◌≡◌, ℕ, ◌<◌, List, [], ◌∷◌, set, sym, ap, ◌∙◌}
use Rattle.atomic_table.specs.declared.badge.Badge.{Badge}
use Rattle.atomic_table.specs.Seated.{TableId}
use Rattle.atomic_table.specs.Table.{Allows, Splits, Joins}
use Rattle.ymx_model.specs.declared.types.Entry.{Entry}
use Rattle.ymx_seats.specs.declared.plays.Knowledge.{Knowledge}
use Rattle.ymx_seats.specs.declared.plays.Right.{Right}
use Rattle.ymx_seats.specs.Journals.{release_of, knower, caller, nobody, visited, visitor, shown, having_released, HasAdded, HasShown, HasReleased}
use Rattle.ymx_seats.proofs.Moves.{Rules, knows, keeper_of, alone, adds, shows, releases, joins, splits}

-- `held` is what the keeper's seat knows, and `pass` what the seat knows that is made of the caller's badge `was`, once
-- that is taken out of the witness
module _ {named at table there : TableId} {held : Knowledge × List (ℕ × ℕ)} {whole : List Entry} {rights : List Right} {was out : Badge Knowledge} {number : ℕ} {right : Right} {seen : List Entry} {seat : ℕ} {pass : Knowledge} {slots : List (ℕ × ℕ)}
    (journal : (at ≡ named) × (table ≡ named) × (held ≡ knows (knower whole rights)) × (0 < table.words)) (witness : (was.table_id ≡ named) × (was.views ≡ caller number right seen ∷ [])) (taken : out ≡ was)
    (seated : (there ≡ out.table_id) × (seat ≡ out.id) × (out.views ≡ pass ∷ []) × (slots ≡ [])) where
  is_caller : pass ≡ caller number right seen
  is_caller = alone pass (caller number right seen) (sym seated.2 ∙ (ap (λ (b : Badge Knowledge). b.views) taken ∙ witness.1))

  pub comes : (id other : ℕ) → (at ≡ table) × (there ≡ table) × (slots ≡ []) × (0 < table.words) × Joins Rules id held.0 other pass (visited held.0 pass) nobody
  comes id other = (
    journal.0 ∙ sym journal.1,
    seated.0 ∙ (ap (λ (b : Badge Knowledge). b.table_id) taken ∙ (witness.0 ∙ sym journal.1)),
    seated.3,
    journal.3,
    joins id other held.0 pass whole rights number right seen (ap (λ (x : Knowledge × List (ℕ × ℕ)). x.0) journal.2) is_caller,
  )

  -- the keeper's seat after that, which knows `met`
  module _ {now : TableId} {id was_id : ℕ} {met : Knowledge × List (ℕ × ℕ)} (joined : (now ≡ at) × (id ≡ was_id) × (met ≡ (visited held.0 pass, held.1))) where
    met_is : met ≡ knows (keeper_of whole rights number right seen)
    met_is = joined.2 ∙ (λ k. (visited (journal.2 k).0 (is_caller k), (journal.2 k).1))

    same_table : now ≡ table
    same_table = joined.0 ∙ (journal.0 ∙ sym journal.1)

    pub adds_met : (slot_count : ℕ) (e : Entry) → e.seat ≡ number → (now ≡ table) × (0 < table.words) × Allows Rules slot_count id met 0 (λ n. n) (λ n w. HasAdded e met w)
    adds_met slot_count e by = (same_table, journal.3, adds slot_count id e met whole rights number right seen met_is by)

    pub shows_met : (slot_count : ℕ) → (now ≡ table) × (0 < table.words) × Allows Rules slot_count id met 0 (λ n. n) (λ n w. HasShown met w)
    shows_met slot_count = (same_table, journal.3, shows slot_count id met whole rights number right seen met_is)

    -- and after the caller was shown the history `next`
    pub leaves : {then : TableId} {last : Knowledge × List (ℕ × ℕ)} {next : List Entry} → then ≡ now → last ≡ (shown next met.0, met.1) → (again : ℕ)
        → (then ≡ table) × (0 < table.words) × Splits Rules again last.0 (knower last.0.whole last.0.rights) (visitor last.0)
    leaves {then} {last} {next} stays told again = (
      stays ∙ same_table,
      journal.3,
      splits again last.0 next rights number right next
          (ap (λ (x : Knowledge × List (ℕ × ℕ)). x.0) told ∙ ap (λ (x : Knowledge × List (ℕ × ℕ)). shown next x.0) met_is),
    )

    pub releases_met : (slot_count : ℕ) → (now ≡ table) × (0 < table.words) × Allows Rules slot_count id met 0 (λ n. n) (λ n w. HasReleased met w)
    releases_met slot_count = (same_table, journal.3, releases slot_count id met whole rights number right seen met_is)

    -- and after the caller released its reads
    pub leaves_released : {then : TableId} {last : Knowledge × List (ℕ × ℕ)} → then ≡ now → last ≡ (having_released met.0, met.1) → (again : ℕ)
        → (then ≡ table) × (0 < table.words) × Splits Rules again last.0 (knower last.0.whole last.0.rights) (visitor last.0)
    leaves_released {then} {last} stays told again = (
      stays ∙ same_table,
      journal.3,
      splits again last.0 whole (set rights number (release_of right)) number (release_of right) seen
          (ap (λ (x : Knowledge × List (ℕ × ℕ)). x.0) told ∙ ap (λ (x : Knowledge × List (ℕ × ℕ)). having_released x.0) met_is),
    )
