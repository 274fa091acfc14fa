-- Records that were given up go as soon as nothing of them is left to send (this project's own).
use Rattle.std.specs.Prelude.{◌≡◌, ℕ, true, false, None, Some}
use Rattle.ymx_machine.specs.shared.Phases.{is_lingering}
use Rattle.ymx_model.specs.session.Records.{End}
use Rattle.ymx_model.specs.session.FramesDue.{is_empty}
use Rattle.ymx_machine.specs.shared.Lists.{look}
use Rattle.ymx_model.specs.session.Sessions.{Session, is_closed, is_spent}

-- Until the session is closed no record is spent: of one that was given up a frame is due, or its frame
-- begun isn't out. And a frame begun is a stream's only while bytes of it are left.
pub record IsReaped (s : Session) : Type 0 where
  pub none_spent : is_closed s.status ≡ false → (id : ℕ) (e : End) → look id s.table.entries ≡ Some e → is_spent s.table.window s.outgoing id (Some e) ≡ false
  pub none_begun : is_empty s.outgoing.bytes ≡ true → s.outgoing.of ≡ None

-- no record was given up and is still there
abbrev pub NoneLingers : Session → Type 0
NoneLingers s = (id : ℕ) (e : End) → look id s.table.entries ≡ Some e → is_lingering e.phase ≡ false
