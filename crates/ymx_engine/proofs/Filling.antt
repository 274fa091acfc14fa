-- How many bytes a device gives that may have more.
use Rattle.std.proofs.Common.{◌≡◌, ℕ, ◌≤◌, ◌<◌, ◌+◌, min, List, length, Bool, true, false, ◌||◌, nat_le, sym, ap, ◌∙◌, arith}
use Rattle.std.proofs.lemmas.Bool.Decides.{nat_tests}
use Rattle.ymx_engine.specs.declared.device.Pulled.{Pulled}
use Rattle.ymx_engine.specs.declared.device.Pulled.TheVariants as pulled
use Rattle.ymx_engine.specs.declared.directions.Directions.{Directions}
use Rattle.ymx_engine.specs.Devices.{Seen, Marks, IsPulled, may_have_more, pulled_count}
use Rattle.ymx_engine.specs.Directions.{is_open, may_pull}
use Rattle.ymx_engine.proofs.Quiet.{both}

more_so : (n room : ℕ) (closing : Bool) → closing ≡ false → (nat_le room n || closing) ≡ true → room ≤ n
more_so n room true far h = cc
more_so n room false far h = grind (arith, nat_tests)

-- where the end isn't near it filled its room
pub filled_room : (r : Pulled) (buffer : List ℕ) (a b : Seen) → IsPulled r buffer a b → b.marks.may_pull ≡ true → b.marks.is_closing ≡ false → length buffer ≤ pulled_count r
filled_room r buffer a b p on near =
    let far : a.marks.is_closing ≡ false = sym (ap (λ (m : Marks). m.is_closing) p.marks) ∙ near in
    let marks = sym (ap (λ (m : Marks). m.may_pull) p.marks) ∙ on in
    by r (both a.marks.may_pull (may_have_more r (length buffer) a.marks.is_closing) marks).1 far
  where
    by : (r : Pulled) → may_have_more r (length buffer) a.marks.is_closing ≡ true → a.marks.is_closing ≡ false → length buffer ≤ pulled_count r
    by (pulled.Gave n) more far = more_so n (length buffer) a.marks.is_closing far more
    by pulled.NotNow more far = cc
    by pulled.Ended more far = cc
    by pulled.Failed more far = cc

pub filled : (w : Directions) (n most : ℕ) (buffer : List ℕ) (a b : Seen) → IsPulled (pulled.Gave n) buffer a b → may_pull w b.marks ≡ true → b.marks.is_closing ≡ false → most ≤ length buffer → most ≤ n
filled w n most buffer a b p may near fits =
    let all = filled_room (pulled.Gave n) buffer a b p (both b.marks.may_pull (is_open w.to_peer) may).0 near in
    omega (arith, all, fits)

-- one whose end isn't near, and that was given room for a whole read or as many bytes as its stream takes, gave a whole read, or
-- the stream takes none now
pub filled_whole : (room left n most : ℕ) → min room most ≤ n → left + n ≡ room → 0 < left → most ≤ n
filled_whole room left n most all less some = omega (arith, all, less, some)
