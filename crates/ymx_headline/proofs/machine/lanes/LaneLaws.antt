-- What happens to a lane keeps its law.
use Rattle.std.proofs.Common.{◌≡◌, ℕ, ◌+◌, ◌-◌, ◌<◌, ◌≤◌, List, [], ◌∷◌, ◌++◌, length, take, drop, Bool, true, false, refl, append_assoc, append-nil, arith, length-append, length-drop}
use Rattle.std.proofs.lemmas.Grind.{common_steps}
use Rattle.ymx_machine.specs.stream.Lanes.{Mark, Lane, new_lane, lane_write, lane_arrive, lane_vanish, lane_read, lane_return, lane_fin, lane_empty, lane_cut, lane_struck}
use Rattle.ymx_machine.specs.shared.Limits.{first_credit}
use Rattle.ymx_machine.specs.shared.Phases.{Phase, is_up, takes}
use Rattle.ymx_headline.specs.machine.LaneLaws.{IsBounded}

pub ruleset lists = (common_steps, append_assoc, length-append, append-nil)

-- a list is as long as its two parts
pub parts : (n : ℕ) (xs : List ℕ) → length (take n xs) + length (drop n xs) ≡ length xs
parts n xs = grind (arith, lists)

pub law-new : (w : ℕ) (p q : Phase) → first_credit ≤ w → IsBounded w p q (new_lane w)
law-new w p q wide = grind (arith, lists)

pub law-write : (w : ℕ) (p q : Phase) (bytes : List ℕ) (l : Lane) → length bytes ≤ l.credit → IsBounded w p q l → IsBounded w p q (lane_write bytes l)
law-write w p q bytes l fits c = grind (arith, lists)

pub law-arrive : (w : ℕ) (p q : Phase) (n : ℕ) (l : Lane) → takes q ≡ true → IsBounded w p q l → IsBounded w p q (lane_arrive n l)
law-arrive w p q n l t c = let e = parts n l.way in grind (arith, lists)

pub law-vanish : (w : ℕ) (p q : Phase) (n : ℕ) (l : Lane) → is_up q ≡ false → IsBounded w p q l → IsBounded w p q (lane_vanish n l)
law-vanish w p q n l d c = let e = parts n l.way in grind (arith, lists)

pub law-read : (w : ℕ) (p q : Phase) (n : ℕ) (l : Lane) → IsBounded w p q l → IsBounded w p q (lane_read n l)
law-read w p q n l c = let e = parts n l.here in grind (arith, lists)

pub law-return : (w : ℕ) (p q : Phase) (n : ℕ) (l : Lane) → n ≤ l.owed → IsBounded w p q l → IsBounded w p q (lane_return n l)
law-return w p q n l fits c = grind (arith, lists)

pub law-fin : (w : ℕ) (p q : Phase) (m : Mark) (l : Lane) → IsBounded w p q l → IsBounded w p q (lane_fin m l)
law-fin w p q m l c = grind (arith, lists)

pub law-empty : (w : ℕ) (p q q' : Phase) (l : Lane) → is_up q' ≡ false → IsBounded w p q l → IsBounded w p q' (lane_empty l)
law-empty w p q q' l d c = grind (arith, lists)

pub law-cut : (w : ℕ) (p p' q : Phase) (n : ℕ) (m : Mark) (l : Lane) → is_up p' ≡ false → IsBounded w p q l → IsBounded w p' q (lane_cut n m l)
law-cut w p p' q n m l d c = let e = parts n l.way in grind (arith, lists)

-- a reset arrives at the writer
pub law-struck_writer : (w : ℕ) (p p' q : Phase) (l : Lane) → is_up p' ≡ false → IsBounded w p q l → IsBounded w p' q (lane_struck l)
law-struck_writer w p p' q l d c = grind (arith, lists)

-- a reset arrives at the reader
pub law-struck_reader : (w : ℕ) (p q q' : Phase) (l : Lane) → is_up q' ≡ false → IsBounded w p q l → IsBounded w p q' (lane_empty (lane_struck l))
law-struck_reader w p q q' l d c = grind (arith, lists)

-- the ends go on, and none comes up again
pub law-phases : (w : ℕ) (p p' q q' : Phase) (l : Lane) → (is_up p' ≡ true → is_up p ≡ true) → (is_up q' ≡ true → is_up q ≡ true) →
    (takes q' ≡ false → takes q ≡ false) → IsBounded w p q l → IsBounded w p' q' l
law-phases w p p' q q' l f g t c = record { at_most = c.at_most; exact = λ a b. c.exact (f a) (g b); unread = c.unread; dropped = λ d. c.dropped (t d) }
