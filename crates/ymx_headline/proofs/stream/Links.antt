-- Both sides see one stream, and a stream begins.
use Rattle.std.proofs.Common.{◌≡◌, ℕ, ◌≤◌, List, [], length, Bool, true, false, not, inl, inr, arith}
use Rattle.ymx_machine.specs.shared.Limits.{first_credit}
use Rattle.ymx_machine.specs.stream.Streams.{Stream, flip, opened_stream, stream_write}
use Rattle.ymx_machine.specs.shared.Phases.Phase.{Unborn, Live}
use Rattle.ymx_model.specs.session.Records.{End, new_end, end_write}
use Rattle.ymx_model.specs.session.Parts.{Part}
use Rattle.ymx_headline.specs.stream.Links.{Alive, Related}
use Rattle.ymx_headline.proofs.stream.Directions.{lists}

pub not_not : (b : Bool) → not (not b) ≡ b
not_not b = grind arith

pub flips : (wx wy : ℕ) (x y : End) (xy yx : List Part) (s : Stream) → Alive wx wy x y xy yx s → Alive wy wx y x yx xy (flip s)
flips wx wy x y xy yx s c = record { outbound = c.inbound; inbound = rw not_not c.outbound }

pub related-flip : (wx wy : ℕ) (x y : End) (xy yx : List Part) (s : Stream) → Related wx wy x y xy yx s → Related wy wx y x yx xy (flip s)
related-flip wx wy x y xy yx s (inl c) = inl (flips wx wy x y xy yx s c)
related-flip wx wy x y xy yx s (inr (inl c)) = inr (inr (rw not_not c))
related-flip wx wy x y xy yx s (inr (inr c)) = inr (inl c)

-- a stream begins with data
pub begins-with : (bytes : List ℕ) (with_data : Bool) (wx wy : ℕ) → first_credit ≤ wx → first_credit ≤ wy → length bytes ≤ first_credit →
    Alive wx wy (end_write bytes (new_end wx Live true with_data)) (new_end wy Unborn false false) [] [] (stream_write bytes (opened_stream wx wy))
begins-with bytes with_data wx wy a b fits = grind (arith, lists)
