-- How a cutter keeps what it has seen.
use Rattle.std.specs.Prelude.{◌+◌, ◌^◌, ◌<◌, ⊤}
use Rattle.ymx_cutter.specs.declared.cutter.Begun.{Begun}
use Rattle.ymx_cutter.specs.declared.cutter.Begun.TheVariants as begun
use Rattle.ymx_cutter.specs.Cutters.{Seen}
use Rattle.ymx_cutter.specs.Cutters.Seen.{InHeader, Payload, Broken}

abbrev pub seen_of : Begun → Seen
seen_of (begun.Header bytes) = InHeader bytes
seen_of (begun.Payload came missing) = Payload came missing
seen_of (begun.Broken fault) = Broken fault

-- bytes of a payload that has begun are missing, and its length fits its field
abbrev pub IsBegunWithin : Begun → Type 0
IsBegunWithin (begun.Header bytes) = ⊤
IsBegunWithin (begun.Payload came missing) = (0 < missing) × (came + missing < 2 ^ 32)
IsBegunWithin (begun.Broken fault) = ⊤
