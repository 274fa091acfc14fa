-- What the frames of one stream under way carry, and the order in which they follow each other (framing, flags).
use Rattle.std.specs.Prelude.{ℕ, ◌+◌, ◌≡◌, List, [], ◌∷◌, ◌++◌, Bool, true, false}
use Rattle.std.specs.List.{list_any}
use Rattle.ymx_model.specs.session.Parts.{Part}
use Rattle.ymx_model.specs.session.Parts.Part.{Syn, Ack, Data, Credit, Fin, Rst}

-- the payload of a part
abbrev pub load : Part → List ℕ
load (Syn d) = []
load (Ack d) = []
load (Data b) = b
load (Credit d) = []
load Fin = []
load Rst = []

-- the credit that a part gives back
abbrev pub gift : Part → ℕ
gift (Syn d) = d
gift (Ack d) = d
gift (Data b) = 0
gift (Credit d) = d
gift Fin = 0
gift Rst = 0

abbrev pub part_is_syn : Part → Bool
part_is_syn (Syn d) = true
part_is_syn _ = false

abbrev pub part_is_ack : Part → Bool
part_is_ack (Ack d) = true
part_is_ack _ = false

abbrev pub part_is_fin : Part → Bool
part_is_fin Fin = true
part_is_fin _ = false

abbrev pub part_is_rst : Part → Bool
part_is_rst Rst = true
part_is_rst _ = false

-- all the payload under way, joined
abbrev pub loads : List Part → List ℕ
loads [] = []
loads (f ∷ fs) = load f ++ loads fs

-- all the credit under way
abbrev pub gifts : List Part → ℕ
gifts [] = 0
gifts (f ∷ fs) = gift f + gifts fs

-- whether one of them is a SYN, an ACK, a FIN, an RST
abbrev pub holds_syn : List Part → Bool
holds_syn = list_any part_is_syn

abbrev pub holds_ack : List Part → Bool
holds_ack = list_any part_is_ack

abbrev pub holds_fin : List Part → Bool
holds_fin = list_any part_is_fin

abbrev pub holds_rst : List Part → Bool
holds_rst = list_any part_is_rst

-- what may come after a part: one ACK, no payload and no FIN after FIN, nothing after RST
abbrev pub Behind : Part → List Part → Type 0
Behind (Syn d) fs = Unit {0}
Behind (Ack d) fs = holds_ack fs ≡ false
Behind (Data b) fs = Unit {0}
Behind (Credit d) fs = Unit {0}
Behind Fin fs = (loads fs ≡ []) × (holds_fin fs ≡ false)
Behind Rst fs = fs ≡ []

-- the order in which an end sends: a SYN only first
abbrev pub Ordered : List Part → Type 0
Ordered [] = Unit {0}
Ordered (f ∷ fs) = (holds_syn fs ≡ false) × Behind f fs × Ordered fs
