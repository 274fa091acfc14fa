-- Each event of one direction is a move of the machine's lane, or none.
use Rattle.std.proofs.Common.{◌≡◌, ℕ, ◌+◌, ◌-◌, ◌<◌, ◌≤◌, List, [], ◌∷◌, ◌++◌, length, take, drop, Bool, true, false, not, ◌&&◌, ◌||◌, if◌then◌else◌, refl, ap, append_assoc, append-nil, arith, length-append, length-drop}
use Rattle.std.proofs.lemmas.Grind.{common_steps}
use Rattle.ymx_machine.specs.stream.Lanes.{Mark, Lane, taken_back, lane_write, lane_arrive, lane_vanish, lane_read, lane_return, lane_empty, lane_cut}
use Rattle.ymx_machine.specs.stream.Lanes.Mark.{Said, Here}
use Rattle.ymx_machine.specs.shared.Phases.{Phase, is_up, takes}
use Rattle.ymx_model.specs.session.Records.{Writer, Reader, dead_writer, writer_write, writer_send, writer_grant, writer_finish, writer_begin_fin, reader_arrive, reader_read, reader_announce, reader_end}
use Rattle.ymx_headline.specs.stream.Directions.{LaneHolds, LaneEnds, fin_waits}

pub ruleset lists = (common_steps, append_assoc, length-append, append-nil)

pub kept-write : (bytes : List ℕ) {v : ℕ} {p q : Phase} {w : Writer} {fly : List ℕ} {due told : ℕ} {r : Reader} {l : Lane} →
    is_up p ≡ true → length bytes ≤ w.credit → LaneHolds v p q w fly due told r l → LaneHolds v p q (writer_write bytes w) fly due told r (lane_write bytes l)
kept-write bytes u fits c = grind (arith, lists)

pub kept-sent : (n : ℕ) {v : ℕ} {p q : Phase} {w : Writer} {fly : List ℕ} {due told : ℕ} {r : Reader} {l : Lane} →
    LaneHolds v p q w fly due told r l → LaneHolds v p q (writer_send n w) (fly ++ take n w.unsent) due told r l
kept-sent n c = grind (arith, lists)

pub kept-arrive : (bytes : List ℕ) {v : ℕ} {p q : Phase} {w : Writer} {fly : List ℕ} {due told : ℕ} {r : Reader} {l : Lane} →
    takes q ≡ true → LaneHolds v p q w (bytes ++ fly) due told r l → LaneHolds v p q w fly due told (reader_arrive bytes r) (lane_arrive (length bytes) l)
kept-arrive bytes t c = grind (arith, lists)

pub kept-vanish : (bytes : List ℕ) {v : ℕ} {p q : Phase} {w : Writer} {fly : List ℕ} {due told : ℕ} {r : Reader} {l : Lane} →
    is_up q ≡ false → LaneHolds v p q w (bytes ++ fly) due told r l → LaneHolds v p q w fly due told r (lane_vanish (length bytes) l)
kept-vanish bytes d c = grind (arith, lists)

pub kept-read : (n : ℕ) {v : ℕ} {p q : Phase} {w : Writer} {fly : List ℕ} {due told : ℕ} {r : Reader} {l : Lane} →
    takes q ≡ true → LaneHolds v p q w fly due told r l → LaneHolds v p q w fly due told (reader_read n r) (lane_read n l)
kept-read n t c = grind (arith, lists)

-- n of what was to be announced goes out
pub kept-told : (n : ℕ) {v : ℕ} {p q : Phase} {w : Writer} {fly : List ℕ} {due more told less : ℕ} {r : Reader} {l : Lane} →
    more ≡ due + n → told ≡ n + less → LaneHolds v p q w fly due told r l → LaneHolds v p q w fly more less (reader_announce n r) l
kept-told n e f c = grind (arith, lists)

-- the reader's end announces less later
pub kept-less : (less : ℕ) {v : ℕ} {p q : Phase} {w : Writer} {fly : List ℕ} {due told : ℕ} {r : Reader} {l : Lane} →
    less ≤ told → LaneHolds v p q w fly due told r l → LaneHolds v p q w fly due less r l
kept-less less h c = grind (arith, lists)

-- all that is owed is announced
pub kept-announce : {v : ℕ} {p q : Phase} {w : Writer} {fly : List ℕ} {due : ℕ} {r : Reader} {l : Lane} →
    is_up q ≡ true → LaneHolds v p q w fly due 0 r l → LaneHolds v p q w fly (due + r.owed) 0 (reader_announce r.owed r) l
kept-announce u c = grind (arith, lists)

pub kept-given : (d : ℕ) {v : ℕ} {p q : Phase} {w : Writer} {fly : List ℕ} {due told : ℕ} {r : Reader} {l : Lane} →
    is_up p ≡ true → LaneHolds v p q w fly (d + due) told r l → LaneHolds v p q (writer_grant d w) fly due told r (lane_return d l)
kept-given d u c = grind (arith, lists)

pub kept-dropped : (d : ℕ) {v : ℕ} {p q : Phase} {w : Writer} {fly : List ℕ} {due told : ℕ} {r : Reader} {l : Lane} →
    is_up p ≡ false → LaneHolds v p q w fly (d + due) told r l → LaneHolds v p q w fly due told r l
kept-dropped d u c = grind (arith, lists)

-- the writer's end is over
pub kept-stopped : (m : Mark) (p' : Phase) {v : ℕ} {p q : Phase} {w : Writer} {fly : List ℕ} {due told : ℕ} {r : Reader} {l : Lane} →
    is_up p' ≡ false → LaneHolds v p q w fly due told r l → LaneHolds v p' q dead_writer fly due told r (lane_cut (length fly) m l)
kept-stopped m p' u c = grind (arith, lists)

-- the writer's end is given up, and what it has unsent stays
pub kept-down : (p' : Phase) {v : ℕ} {p q : Phase} {w : Writer} {fly : List ℕ} {due told : ℕ} {r : Reader} {l : Lane} →
    is_up p' ≡ false → LaneHolds v p q w fly due told r l → LaneHolds v p' q w fly due told r l
kept-down p' u c = grind (arith, lists)

-- the reader's end is over
pub kept-emptied : (q' : Phase) (less : ℕ) (r' : Reader) {v : ℕ} {p q : Phase} {w : Writer} {fly : List ℕ} {due told : ℕ} {r : Reader} {l : Lane} →
    is_up q' ≡ false → r'.unread ≡ [] → less ≤ told → LaneHolds v p q w fly due told r l → LaneHolds v p q' w fly due less r' (lane_empty l)
kept-emptied q' less r' u e h c = grind (arith, lists)

-- the end mark

pub ends-write : (bytes : List ℕ) {p q : Phase} {w : Writer} {fly : List ℕ} {f : Bool} {r : Reader} {m : Mark} →
    is_up p ≡ true → w.finished ≡ false → LaneEnds p q w fly f r m → LaneEnds p q (writer_write bytes w) fly f r m
ends-write bytes u o c = grind (arith, lists)

pub ends-sent : (n : ℕ) {p q : Phase} {w : Writer} {fly : List ℕ} {f : Bool} {r : Reader} {m : Mark} →
    LaneEnds p q w fly f r m → LaneEnds p q (writer_send n w) (fly ++ take n w.unsent) f r m
ends-sent n c = grind (arith, lists)

no_more : (xs ys : List ℕ) → xs ++ ys ≡ [] → ys ≡ []
no_more [] ys e = e
no_more (x ∷ xs) ys e = absurd (cc)

pub ends-arrive : (bytes : List ℕ) {p q : Phase} {w : Writer} {fly : List ℕ} {f : Bool} {r : Reader} {m : Mark} →
    LaneEnds p q w (bytes ++ fly) f r m → LaneEnds p q w fly f (reader_arrive bytes r) m
ends-arrive bytes c = record {
  said = c.said;
  unsaid = c.unsaid;
  sent = c.sent;
  last = c.last;
  over = λ h. (no_more bytes _ (c.over h).0, (c.over h).1);
  ended = c.ended;
}

pub ends-finish : {p q : Phase} {w : Writer} {fly : List ℕ} {f : Bool} {r : Reader} {m : Mark} →
    is_up p ≡ true → w.finished ≡ false → LaneEnds p q w fly f r m → LaneEnds p q (writer_finish w) fly f r Said
ends-finish u o c = grind (arith, lists)

pub ends-goes : {p q : Phase} {w : Writer} {fly : List ℕ} {f : Bool} {r : Reader} {m : Mark} →
    fin_waits w ≡ true → w.unsent ≡ [] → LaneEnds p q w fly f r m → LaneEnds p q (writer_begin_fin w) fly true r m
ends-goes g e c = grind (arith, lists)

-- the FIN comes, to an end that takes it or to one that is over
pub ends-comes : (more : Bool) {p q : Phase} {w : Writer} {fly : List ℕ} {r : Reader} {m : Mark} →
    fly ≡ [] → more ≡ false → LaneEnds p q w fly true r m → LaneEnds p q w fly more (reader_end r) Here
ends-comes more e n c = grind (arith, lists)

pub ends-ignored : (more : Bool) {p q : Phase} {w : Writer} {fly : List ℕ} {r : Reader} {m : Mark} →
    is_up q ≡ false → fly ≡ [] → more ≡ false → LaneEnds p q w fly true r m → LaneEnds p q w fly more r Here
ends-ignored more u e n c = grind (arith, lists)

-- the writer's end is over: an end mark whose FIN hasn't gone out is taken back
pub ends-stopped : (p' : Phase) {p q : Phase} {w : Writer} {fly : List ℕ} {f : Bool} {r : Reader} {m : Mark} →
    is_up p' ≡ false → LaneEnds p q w fly f r m → LaneEnds p' q dead_writer fly f r (if fin_waits w then taken_back m else m)
ends-stopped p' u c = grind (arith, lists)

pub ends-given_up : (p' : Phase) {p q : Phase} {w : Writer} {fly : List ℕ} {f : Bool} {r : Reader} {m : Mark} →
    is_up p' ≡ false → LaneEnds p q w fly f r m → LaneEnds p' q w fly f r m
ends-given_up p' u c = grind arith

pub ends-down : (q' : Phase) (r' : Reader) {p q : Phase} {w : Writer} {fly : List ℕ} {f : Bool} {r : Reader} {m : Mark} →
    is_up q' ≡ false → LaneEnds p q w fly f r m → LaneEnds p q' w fly f r' m
ends-down q' r' u c = grind arith
