-- What happens to a lane keeps its face.
use Rattle.std.proofs.Common.{◌≡◌, ◌⊎◌, ℕ, ◌<◌, ◌≤◌, List, [], ◌++◌, length, take, drop, true, false, sym, ◌∙◌, ap, append_assoc, arith}
use Rattle.ymx_machine.specs.stream.Lanes.{Mark, is_unsaid, is_here, taken_back, Lane, new_lane, lane_write, lane_arrive, lane_vanish, lane_read, lane_return, lane_fin, lane_empty, lane_cut, lane_struck}
use Rattle.ymx_machine.specs.shared.Limits.{first_credit}
use Rattle.ymx_machine.specs.stream.Lanes.Mark.{Said, Here}
use Rattle.ymx_machine.specs.shared.Phases.{Phase, is_up}
use Rattle.ymx_headline.proofs.machine.faces.Pasts.{Past, Faces}
use Rattle.ymx_headline.proofs.machine.lanes.LaneLaws.{lists, parts}

-- a list is its two parts
pub halves : (n : ℕ) (xs : List ℕ) → take n xs ++ drop n xs ≡ xs
halves n xs = grind (arith, lists)

-- and before more
pub halves_before : (n : ℕ) (xs ys : List ℕ) → take n xs ++ (drop n xs ++ ys) ≡ xs ++ ys
halves_before n xs ys = sym (append_assoc (take n xs) (drop n xs) ys) ∙ ap (λ (zs : List ℕ). zs ++ ys) (halves n xs)

abbrev pub wrote : List ℕ → Past → Past
wrote bytes h = record h { written = h.written ++ bytes }

abbrev pub gave : List ℕ → Past → Past
gave bytes h = record h { got = h.got ++ bytes }

pub face-new : (w : ℕ) (p q : Phase) (h : Past) → first_credit ≤ w → h.written ≡ [] → h.got ≡ [] → h.ended ≡ false →
    Faces w p q (new_lane w) h [] []
face-new w p q h wide x y z = grind (arith, lists)

pub face-write : (w : ℕ) (p q : Phase) (bytes : List ℕ) (l : Lane) (h : Past) (r b : List ℕ) →
    is_up p ≡ true → is_unsaid l.fin ≡ true → length bytes ≤ l.credit →
    Faces w p q l h r b → Faces w p q (lane_write bytes l) (wrote bytes h) (r ++ bytes) []
face-write w p q bytes l h r b u o fits c = grind (arith, lists)

pub face-arrive : (w : ℕ) (p q : Phase) (n : ℕ) (l : Lane) (h : Past) (r b : List ℕ) →
    is_up q ≡ true → Faces w p q l h r b → Faces w p q (lane_arrive n l) h r b
face-arrive w p q n l h r b u c = let e = halves_before n l.way b in grind (arith, lists)

pub face-vanish : (w : ℕ) (p q : Phase) (n : ℕ) (l : Lane) (h : Past) (r b : List ℕ) →
    is_up q ≡ false → Faces w p q l h r b → Faces w p q (lane_vanish n l) h r b
face-vanish w p q n l h r b u c = grind (arith, lists)

pub face-end : (w : ℕ) (p q : Phase) (l : Lane) (h : Past) (r b : List ℕ) →
    l.way ≡ [] → l.fin ≡ Said → Faces w p q l h r b → Faces w p q (lane_fin Here l) h r b
face-end w p q l h r b e f c = grind (arith, lists)

pub face-read : (w : ℕ) (p q : Phase) (n : ℕ) (l : Lane) (h : Past) (r b : List ℕ) →
    is_up q ≡ true → Faces w p q l h r b → Faces w p q (lane_read n l) (gave (take n l.here) h) (drop n l.here ++ (l.way ++ b)) b
face-read w p q n l h r b u c = let e = halves_before n l.here (l.way ++ b) in let k = parts n l.here in grind (arith, lists)

pub face-return : (w : ℕ) (p q : Phase) (n : ℕ) (l : Lane) (h : Past) (r b : List ℕ) →
    n ≤ l.owed → Faces w p q l h r b → Faces w p q (lane_return n l) h r b
face-return w p q n l h r b fits c = grind (arith, lists)

pub face-finish : (w : ℕ) (p q : Phase) (l : Lane) (h : Past) (r b : List ℕ) →
    is_up p ≡ true → is_unsaid l.fin ≡ true → Faces w p q l h r b → Faces w p q (lane_fin Said l) (record h { finished = true }) r b
face-finish w p q l h r b u o c = grind (arith, lists)

-- a read is answered with the end
pub face-over : (w : ℕ) (p q : Phase) (l : Lane) (h : Past) (r b : List ℕ) →
    is_up q ≡ true → l.here ≡ [] → is_here l.fin ≡ true → Faces w p q l h r b → Faces w p q l (record h { ended = true }) r b
face-over w p q l h r b u e f c = grind (arith, lists)

pub face-empty : (w : ℕ) (p q q' : Phase) (l : Lane) (h : Past) (r b : List ℕ) →
    is_up q' ≡ false → Faces w p q l h r b → Faces w p q' (lane_empty l) h r b
face-empty w p q q' l h r b d c = grind (arith, lists)

pub face-cut : (w : ℕ) (p p' q : Phase) (n : ℕ) (m : Mark) (l : Lane) (h : Past) (r b : List ℕ) →
    is_up p ≡ true → is_up p' ≡ false → n ≤ length l.way → (n < length l.way → m ≡ taken_back l.fin) → (m ≡ l.fin) ⊎ (m ≡ taken_back l.fin) →
    Faces w p q l h r b → Faces w p' q (lane_cut n m l) h r (drop n l.way ++ b)
face-cut w p p' q n m l h r b u d fits shorter fin c = let e = halves_before n l.way b in grind (arith, lists)

-- a reset arrives, and the reader is down
pub face-struck : (w : ℕ) (p p' q q' : Phase) (l : Lane) (h : Past) (r b : List ℕ) →
    is_up q' ≡ false → Faces w p q l h r b → Faces w p' q' (lane_struck l) h r b
face-struck w p p' q q' l h r b d c = grind (arith, lists)

-- the ends go on, and none comes up again
pub face-phases : (w : ℕ) (p p' q q' : Phase) (l : Lane) (h : Past) (r b : List ℕ) → (is_up p' ≡ true → is_up p ≡ true) → (is_up q' ≡ true → is_up q ≡ true) →
    Faces w p q l h r b → Faces w p' q' l h r b
face-phases w p p' q q' l h r b f g c = grind (arith, lists)
