-- Calls of a cutter, one after the other (this project's own).
use Rattle.std.specs.Prelude.{◌≡◌, ℕ, List, [], ◌∷◌, take, Option}
use Rattle.std.specs.List.{flat_map}
use Rattle.ymx_cutter.specs.declared.item.Item.{Item}
use Rattle.ymx_cutter.specs.Frames.{IsBytes}
use Rattle.ymx_cutter.specs.Gathered.{Gathered, gathers}
use Rattle.ymx_cutter.specs.Cutters.{Seen, next_of}

-- a call as its caller sees it: the bytes that it took, and its item
pub record Call : Type 0 where
  pub bytes : List ℕ
  pub item : Option Item

-- Each call goes on from what was seen before it. Its input may be any bytes.
abbrev pub AreCalls : ℕ → Seen → List Call → Seen → Type 0
AreCalls limit seen [] end = end ≡ seen
AreCalls limit seen (call ∷ calls) end =
    (input : List ℕ) × IsBytes input × (call.bytes ≡ take (next_of limit seen input).taken input)
    × (call.item ≡ (next_of limit seen input).item) × AreCalls limit (next_of limit seen input).seen calls end

-- the bytes that the calls took, joined
abbrev pub text_of : List Call → List ℕ
text_of calls = flat_map (λ call. call.bytes) calls

-- what their items make
abbrev pub gathered : Gathered → List Call → Gathered
gathered g [] = g
gathered g (call ∷ calls) = gathered (gathers g call.bytes call.item) calls
