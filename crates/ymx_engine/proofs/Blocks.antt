-- What waits in a block.
use Rattle.std.proofs.Common.{◌≡◌, ℕ, ◌+◌, ◌-◌, ◌≤◌, nat_lt, nat_le, List, ◌++◌, length, take, drop, true, not, ◌&&◌, sym, ap, ◌∙◌, subst, arith}
use Rattle.std.proofs.Math.Seq.{take-add, take-append-add}
use Rattle.std.proofs.lemmas.List.{length-take-le, length-append, length-drop, take-append-le, drop-append-le, with_items_is}
use Rattle.std.specs.Prelude.{vec_len}
use Rattle.std.specs.Vec.{with_items}
use Rattle.std.specs.declared.vec.Vec.{Vec}
use borrow.Rule.Slice.PartMut.{post_of}
use Rattle.std.proofs.lemmas.Grind.{common_steps}
use Rattle.ymx_machine.proofs.Tests.{is_le, both_of}
use Rattle.ymx_machine.specs.shared.Limits.{data_limit}
use Rattle.ymx_model.specs.session.Sessions.{Session}
use Rattle.ymx_model.specs.session.Emissions.{is_ready}
use Rattle.ymx_session.specs.Streams.{room_of}
use Rattle.ymx_session.specs.Through.{goes_through}

-- bytes that are put into the room after those that wait
pub waits_behind : (at end count : ℕ) (memory room post : List ℕ) → at ≤ end → end ≤ length memory → count ≤ length room →
    drop at (take (end + count) (take end memory ++ (room ++ post))) ≡ drop at (take end memory) ++ take count room
waits_behind at end count memory room post a b k =
    let l : length (take end memory) ≡ end = length-take-le end memory b in
    let all : take (end + count) (take end memory ++ (room ++ post)) ≡ take end memory ++ take count (room ++ post) =
    subst (λ (n : ℕ). take (n + count) (take end memory ++ (room ++ post)) ≡ take end memory ++ take count (room ++ post)) l (take-append-add (take end memory) (room ++ post) count) in
    ap (drop at) (all ∙ ap (λ (v : List ℕ). take end memory ++ v) (take-append-le count room post k)) ∙ drop-append-le at (take end memory) (take count room) (rw l a)

-- the same of a block's memory, of which the room was lent
pub block_behind : {Z : Type 0} (at end count : ℕ) (memory : Vec ℕ Z) (lent new : List ℕ) → lent ≡ memory.items → at ≤ end → end ≤ vec_len memory → count ≤ length new → length new ≡ length lent - end →
    drop at (take (end + count) (with_items memory (take end lent ++ (new ++ post_of end (length lent - end) lent))).items) ≡ drop at (take end memory.items) ++ take count new
block_behind at end count memory lent new same a b k l =
    let all : length lent ≡ vec_len memory = omega (arith, ap length same, memory.ok.0) in
    let post = post_of end (length lent - end) lent in
    let none : length post ≡ 0 = simp (length-drop, length-drop) (omega arith) in
    let whole : length (take end lent ++ (new ++ post)) ≡ vec_len memory = omega (arith, length-append (take end lent) (new ++ post), length-append new post, length-take-le end lent (omega arith), none) in
    ap (λ (v : List ℕ). drop at (take (end + count) v)) (with_items_is memory (take end lent ++ (new ++ post)) whole)
    ∙ waits_behind at end count lent new post a (omega arith) k ∙ ap (λ (v : List ℕ). drop at (take end v) ++ take count new) same

pub room_length : (end : ℕ) (xs : List ℕ) → length (take (length xs - end) (drop end xs)) ≡ length xs - end
room_length end xs = grind (arith, common_steps)

-- what goes through fits
pub through_fits : (id n size : ℕ) (s : Session) → goes_through id n size s ≡ true → 12 + n ≤ size
through_fits id n size s h =
    let a = both_of (nat_lt 0 n && nat_le n data_limit && nat_le (12 + n) size && nat_le n (room_of id s)) (not (is_ready s)) h in
    let b = both_of (nat_lt 0 n && nat_le n data_limit && nat_le (12 + n) size) (nat_le n (room_of id s)) a.0 in
    let c = both_of (nat_lt 0 n && nat_le n data_limit) (nat_le (12 + n) size) b.0 in
    is_le (12 + n) size c.1

-- a part of a slice, and what is left of it

pub part_is : (done count : ℕ) (xs : List ℕ) → done + count ≤ length xs → take done xs ++ take (done + count - done) (drop done xs) ≡ take (done + count) xs
part_is done count xs h =
    let e : done + count - done ≡ count = omega arith in
    ap (λ (n : ℕ). take done xs ++ take n (drop done xs)) e ∙ sym (take-add done count xs)

pub part_length : (done count : ℕ) (xs : List ℕ) → done + count ≤ length xs → length (take (done + count - done) (drop done xs)) ≡ count
part_length done count xs h = grind (arith, common_steps)

pub rest_length : (count : ℕ) (xs : List ℕ) → count ≤ length xs → length (take (length xs - count) (drop count xs)) + count ≡ length xs
rest_length count xs h = grind (arith, common_steps)

pub rest_is : (count : ℕ) (xs : List ℕ) → take (length xs - count) (drop count xs) ≡ drop count xs
rest_is count xs = grind (arith, common_steps)
