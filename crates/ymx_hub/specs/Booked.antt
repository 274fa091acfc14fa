-- What is under the lock of a hub (this project's own).
use Rattle.std.specs.Prelude.{◌≡◌, ℕ, ◌==◌, ◌-◌, ◌++◌, ◌∷◌, List, [], length, position, swap_remove, nat_eq, Bool, true, false, Option, Some, None, if◌then◌else◌}
use Rattle.std.specs.List.{list_any}
use Rattle.std.specs.Option.{option_map_or}
use Rattle.ymx_model.specs.declared.types.Role.{Role}
use Rattle.ymx_model.specs.declared.types.Config.{Config}
use Rattle.ymx_model.specs.declared.types.Entry.{Entry}
use Rattle.ymx_model.specs.session.Sessions.{Session}
use Rattle.ymx_seats.specs.Journals.{JournalView}
use Rattle.ymx_seats.specs.Transcripts.{IsHistory}
use Rattle.ymx_hub.specs.Rights.{AreRightful}

-- The session, with the role and config with which it was made; the entries so far; the journal, where the recorder
-- witnesses; how many seats were given; how many streams that were handed out have both halves unspent; those with one half spent;
-- those that were released, whose reading halves are unspent; whether the transcript was handed out.
pub record BookedView : Type 0 where
  pub role : Role
  pub config : Config
  pub session : Session
  pub entries : List Entry
  pub journal : Option JournalView
  pub given : ℕ
  pub unspent : ℕ
  pub half_spent : List ℕ
  pub released : List ℕ
  pub ended : Bool

-- one half of this stream is spent
abbrev pub is_half_spent : ℕ → BookedView → Bool
is_half_spent id h = list_any (nat_eq id) h.half_spent

-- the ids but this one, in whose place the last comes
abbrev pub without : ℕ → List ℕ → List ℕ
without id [] = []
without id (x ∷ xs) = option_map_or (λ at. swap_remove (x ∷ xs) at x) (position (nat_eq id) (x ∷ xs)) (x ∷ xs)

-- One more half of this stream is spent: where the other half was spent, no half of it is left to be spent.
abbrev pub spent : ℕ → BookedView → BookedView
spent id h =
    if is_half_spent id h then record h { half_spent = without id h.half_spent }
    else if h.unspent == 0 then h
    else record h { unspent = h.unspent - 1; half_spent = h.half_spent ++ id ∷ [] }

-- Until they are moved out, the entries that are kept are the history of the session, which was made with this
-- role and config. A recorder that keeps nothing has none, and hands out no transcript.
abbrev pub Kept : (keeps ended : Bool) → Role → Config → List Entry → Session → Type 0
Kept true false role config entries s = IsHistory role config entries s
Kept true true role config entries s = Unit {0}
Kept false ended role config entries s = (entries ≡ []) × (ended ≡ false)

-- A recorder that witnesses has a journal, whose whole history is that of the session. The session was made with the role
-- and config that the recorder names, the journal has numbered as many callers as seats were given, and each entry is one that its
-- caller may make. Another recorder has no journal.
abbrev pub IsJournaled : (witnessed : Bool) (named : Role) (with : Config) → Role → Config → Option JournalView → Session → (given : ℕ) → Type 0
IsJournaled true named with role config None s given = ⊥
IsJournaled true named with role config (Some j) s given =
    (role ≡ named) × (config ≡ with) × IsHistory role config j.whole s × (length j.rights ≡ given) × AreRightful j.rights j.whole
IsJournaled false named with role config None s given = Unit {0}
IsJournaled false named with role config (Some j) s given = ⊥

-- with what this session was made, which has done nothing
abbrev pub config_of : Session → Config
config_of s = record { window = s.table.window; first = s.next }

-- a session that has done nothing is booked, with this journal, if there is one
abbrev pub fresh : Session → Option JournalView → BookedView
fresh s journal = record {
  role = s.role;
  config = config_of s;
  session = s;
  entries = [];
  journal = journal;
  given = 0;
  unspent = 0;
  half_spent = [];
  released = [];
  ended = false;
}

-- a journal that nothing stands in, of such a session as the recorder names, where it witnesses
abbrev pub IsUnused : (witnessed : Bool) (named : Role) (with : Config) → Session → Option JournalView → Type 0
IsUnused true named with s None = ⊥
IsUnused true named with s (Some j) = (s.role ≡ named) × (config_of s ≡ with) × (j.whole ≡ []) × (j.rights ≡ [])
IsUnused false named with s None = Unit {0}
IsUnused false named with s (Some j) = ⊥
