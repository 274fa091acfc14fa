-- What holds of the entries and the journal of a session still does once the entry of one more event was added.
use Rattle.std.proofs.Common.{◌≡◌, ℕ, ◌++◌, List, length, Bool, true, Option, refl, sym, subst}
use Rattle.std.specs.Prelude.{Contains}
use Rattle.ymx_model.specs.declared.types.Entry.{Entry}
use Rattle.ymx_model.specs.session.Events.{Event}
use Rattle.ymx_machine.specs.shared.Events.{Reply}
use Rattle.ymx_model.specs.declared.types.Role.{Role}
use Rattle.ymx_model.specs.declared.types.Config.{Config}
use Rattle.ymx_model.specs.session.Sessions.{Session}
use Rattle.ymx_model.specs.session.Emissions.{in_turn}
use Rattle.ymx_model.specs.session.Histories.{Gives}
use Rattle.ymx_seats.specs.Journals.{JournalView}
use Rattle.ymx_seats.specs.declared.plays.Right.{Right}
use Rattle.ymx_seats.specs.Views.{entry, kept_entries, journal_after, HasRight}
use Rattle.ymx_hub.specs.Booked.{Kept, IsJournaled}
use Rattle.ymx_hub.specs.Rights.{MayDo, AllReleased}
use Rattle.ymx_hub.proofs.History.{kept_after}
use Rattle.ymx_hub.proofs.Journals.{journaled_after, all_after, half_known}
use Rattle.ymx_hub.proofs.Extends.{journal_at, after_at}

pub entered : (keeps witnessed over : Bool) (named : Role) (with : Config) (role : Role) (config : Config) (es fs gs : List Entry) (j k l : Option JournalView) (s t : Session)
    (given n m : ℕ) (a : Event) (r : Reply) (right other : Right) (ids : List ℕ) →
    gs ≡ fs ++ kept_entries keeps (entry (length fs) m a r) → l ≡ journal_after m a r k → m ≡ n → fs ≡ es → k ≡ j → other ≡ right →
    Kept keeps over role config es s → IsJournaled witnessed named with role config j s given → AllReleased ids j →
    Gives in_turn s a r t → HasRight m other k → (witnessed ≡ true → MayDo (Contains ids) right a) →
    Kept keeps over role config gs t × IsJournaled witnessed named with role config l t given × AllReleased ids l
entered keeps witnessed over named with role config es fs gs j k l s t given n m a r right other ids e f p q u o kept journaled released gives known may = (
  subst (λ xs. Kept keeps over role config xs t) (sym (after_at keeps m n a a r r fs es gs e p refl refl q)) (kept_after keeps over role config es s t n a r kept gives),
  subst (λ (x : Option JournalView). IsJournaled witnessed named with role config x t given) (sym (journal_at m n a a r r k j l f p refl refl u))
      (journaled_after witnessed named with role config j s t given n a r right ids journaled gives (half_known n m right other j k p o u known) released may),
  subst (AllReleased ids) (sym (journal_at m n a a r r k j l f p refl refl u)) (all_after ids j n a r released),
)
