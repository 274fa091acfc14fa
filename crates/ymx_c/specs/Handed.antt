-- What C is handed by the address of a thing that was made.
use Rattle.std.specs.Prelude.{Option, None, Some}
use Rattle.std.specs.Box.Ownership.{box_owns}
use Rattle.std.specs.Ptr.{if_non_null}
use Rattle.libc.specs.Heap.{chunk}
use base.Fml.{Fml, ftrue}
use denote.RattleType.{RattleType}
use denote.RawPtr.{Ptr}

-- the value lies at the address, and C may use and free its block; or the address is NULL, and there is nothing
abbrev pub handed : (R : RattleType) → Ptr → R.Denot → Fml
handed R at value = if_non_null at (box_owns chunk R at value)

-- the same where it is known whether there is a value
abbrev pub owned_if_made : (R : RattleType) → Ptr → Option R.Denot → Fml
owned_if_made R at None = ftrue
owned_if_made R at (Some value) = box_owns chunk R at value
