-- What calls on the records of a table are to a session.
use Rattle.std.proofs.Common.{◌≡◌, ℕ, ◌+◌, ◌<◌, ◌≤◌, ◌==◌, min, List, [], ◌∷◌, ◌++◌, length, take, drop, Bool, true, false, None, Some, refl, sym, ap, ◌∙◌, arith}
use Rattle.std.proofs.lemmas.Grind.{common_steps}
use Rattle.std.proofs.lemmas.Bool.Decides.{nat_tests}
use Rattle.ymx_machine.specs.declared.types.Reply.TheVariants.{Read}
use Rattle.ymx_machine.specs.declared.types.CallFault.TheVariants.{Closed}
use Rattle.ymx_machine.specs.shared.Limits.{first_credit}
use Rattle.ymx_machine.specs.shared.Phases.{Phase, is_live, is_reset}
use Rattle.ymx_machine.specs.shared.Phases.Phase.{Live}
use Rattle.ymx_machine.specs.shared.Replies.{read_reply}
use Rattle.ymx_model.specs.session.Records.{End, new_end, end_write, end_read}
use Rattle.ymx_model.specs.session.Tables.{Table, insert_record, with_record}
use Rattle.ymx_machine.specs.shared.Lists.{look, change}
use Rattle.ymx_model.specs.session.Sessions.{Session, is_closed, is_lost, on_stream}
use Rattle.ymx_model.specs.session.Calls.{session_opened, read_from}
use Rattle.ymx_session.specs.Replies.{stream_fault, end_fault}
use Rattle.ymx_session.specs.Streams.{waiting}

-- ---- opening

take-min : (n : ℕ) (xs : List ℕ) → take (min (length xs) n) xs ≡ take n xs
take-min n xs = grind (arith, common_steps)

-- a record just made, with its first bytes, is at the end of the table
pub opened-is : (with_data : Bool) (bytes : List ℕ) (count : ℕ) (made wrote : End) (table : Table) (v s : Session) → v ≡ s → made ≡ new_end v.table.window Live true with_data →
    count ≡ min (length bytes) made.writer.credit → wrote ≡ end_write (take count bytes) made → table ≡ insert_record v.next wrote v.table →
    record v { table = table; next = v.next + 2 } ≡ session_opened with_data (take first_credit bytes) s
opened-is with_data bytes count made wrote table v s e m k w t =
    let n : count ≡ min (length bytes) 262144 = k ∙ ap (λ (x : End). min (length bytes) x.writer.credit) m in
    let f : take count bytes ≡ take 262144 bytes = rw n (take-min 262144 bytes) in
    let g : wrote ≡ end_write (take first_credit bytes) (new_end v.table.window Live true with_data) = rw (w, f, m) refl in
    rw (t, g) (ap (session_opened with_data (take first_credit bytes)) e)

-- ---- a stream that a caller has

-- it is open in both directions at a session that is not closed
pub record IsCallers (id : ℕ) (e : End) (s : Session) : Type 0 where
  pub closed : is_closed s.status ≡ false
  pub there : look id s.table.entries ≡ Some e
  pub live : is_live e.phase ≡ true
  pub reset : is_reset e.phase ≡ false

pub callers : (id : ℕ) (e : End) (s : Session) → stream_fault id s ≡ None → look id s.table.entries ≡ Some e → IsCallers id e s
callers id e s f l = of (is_closed s.status) refl
  where
    live_of : (p : Phase) → end_fault (Some (record e { phase = p })) ≡ None → (is_live p ≡ true) × (is_reset p ≡ false)
    live_of p g = grind arith

    of : (b : Bool) → is_closed s.status ≡ b → IsCallers id e s
    of true c = let g : Some Closed ≡ None = rw c at f in cc
    of false c =
        let g : end_fault (Some e) ≡ None = rw (c, l) at f in
        let o = live_of e.phase g in
        record { closed = c; there = l; live = o.0; reset = o.1 }

-- ---- reading

pub change-at : (id : ℕ) (f g : End → End) (e : End) (ps : List (ℕ × End)) → look id ps ≡ Some e → f e ≡ g e → change id f ps ≡ change id g ps
change-at id f g e [] l h = refl
change-at id f g e (p ∷ ps) l h = let more = change-at id f g e ps in grind (arith, nat_tests)

-- as many as are there
end_read-min : (max : ℕ) (e : End) (n : ℕ) → n ≡ min max (length e.reader.unread) → end_read n e ≡ end_read max e
end_read-min max e n k = let d : drop n e.reader.unread ≡ drop max e.reader.unread = grind (arith, common_steps) in let m : min n (length e.reader.unread) ≡ min max (length e.reader.unread) = omega arith in rw (d, m) refl

read_of : (xs : List ℕ) (max n : ℕ) (old : List ℕ) → n ≡ min max (length xs) → take n (take n xs ++ drop n old) ≡ take max xs
read_of xs max n old k = grind (arith, common_steps)

some-length : (n : ℕ) → 0 < n → (n == 0) ≡ false
some-length n l = grind (arith, nat_tests)

length-front : (max : ℕ) (xs : List ℕ) → 0 < max → 0 < length xs → (length (take max xs) == 0) ≡ false
length-front max xs l m = some-length _ (grind (arith, common_steps))

read-reply : (max : ℕ) (e : End) (s : Session) → 0 < max → 0 < length e.reader.unread → is_live e.phase ≡ true → is_reset e.phase ≡ false →
    read_reply (is_lost s.status) max e.phase e.reader.unread e.reader.ended ≡ Read (take max e.reader.unread)
read-reply max e s l m live reset = let a = some-length max l in let b = some-length (length e.reader.unread) m in rw (reset, live, a, b) refl

-- it may be read, bytes of it wait, and at most `max` are asked for
pub record MayRead (id max : ℕ) (e : End) (s : Session) : Type 0 where
  pub may : stream_fault id s ≡ None
  pub there : look id s.table.entries ≡ Some e
  pub asked : 0 < max
  pub unread : 0 < length e.reader.unread

pub read-gives : (id n : ℕ) (old new : List ℕ) (e : End) (s : Session) → MayRead id (length old) e s →
    n ≡ min (length old) (length e.reader.unread) → new ≡ take n e.reader.unread ++ drop n old → Read (take n new) ≡ (read_from id (length old) s).reply
read-gives id n old new e s f k w =
    let c = callers id e s f.may f.there in
    let r = read-reply (length old) e s f.asked f.unread c.live c.reset in
    rw (w, read_of e.reader.unread (length old) n old k, c.closed, c.there, r) refl

-- whatever the bytes are read into
pub read-leaves : (id n max : ℕ) (e : End) (table : Table) (v s : Session) → v ≡ s → MayRead id max e s → n ≡ min max (length e.reader.unread) → table ≡ with_record id (end_read n) v.table →
    record v { table = table } ≡ (read_from id max s).next
read-leaves id n max e table v s w f k t =
    let c = callers id e s f.may f.there in
    let r = read-reply max e s f.asked f.unread c.live c.reset in
    let some = length-front max e.reader.unread f.asked f.unread in
    let same = change-at id (end_read n) (end_read max) e s.table.entries f.there (end_read-min max e n k) in
    let go : (read_from id max s).next ≡ on_stream id (end_read n) s = rw (c.closed, c.there, r, some, same) refl in
    rw t (ap (on_stream id (end_read n)) w ∙ sym go)

pub read-rest : (n : ℕ) (xs old new : List ℕ) → n ≡ min (length old) (length xs) → new ≡ take n xs ++ drop n old → new ≡ take n new ++ drop n old
read-rest n xs old new k w = let t : take n (take n xs ++ drop n old) ≡ take n xs = grind (arith, common_steps) in rw (w, t) refl

-- ---- bytes that are lent, and taken out once they were seen

-- the bytes that wait are those of the caller's stream
pub waiting-is : (id : ℕ) (e : End) (s : Session) → stream_fault id s ≡ None → look id s.table.entries ≡ Some e → waiting id s ≡ e.reader.unread
waiting-is id e s f l = rw (f, l) refl

pub consume-gives : (id n count : ℕ) (e : End) (s : Session) → MayRead id count e s →
    n ≡ min count (length e.reader.unread) → Read (take n (take count (waiting id s))) ≡ (read_from id count s).reply
consume-gives id n count e s f k =
    let c = callers id e s f.may f.there in
    let r = read-reply count e s f.asked f.unread c.live c.reset in
    let same : take n (take count e.reader.unread) ≡ take count e.reader.unread = grind (arith, common_steps) in
    rw (waiting-is id e s f.may f.there, same, c.closed, c.there, r) refl

-- no more is taken out than waits
pub consume-within : (id n count : ℕ) (e : End) (s : Session) → MayRead id count e s →
    n ≡ min count (length e.reader.unread) → n ≤ length (waiting id s)
consume-within id n count e s f k =
    let few : n ≤ length e.reader.unread = grind (arith, common_steps) in
    rw (waiting-is id e s f.may f.there) few
