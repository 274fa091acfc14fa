-- The writes of a call that writes all.
use Rattle.std.proofs.Common.{◌≡◌, ℕ, ◌+◌, inl, inr, List, [], ◌∷◌, ◌++◌, length, drop, Bool, refl, sym, ap, ◌∙◌, arith, Ok, Err}
use Rattle.std.proofs.lemmas.Grind.{common_steps}
use Rattle.ymx_model.specs.declared.types.Entry.{Entry}
use Rattle.ymx_machine.specs.declared.types.Wrote.{Wrote}
use Rattle.ymx_machine.specs.declared.types.Wrote.TheVariants.{Took, Wait}
use Rattle.ymx_machine.specs.shared.Events.{Reply}
use Rattle.ymx_machine.specs.declared.types.Reply.TheVariants as reply
use Rattle.ymx_session.specs.Replies.{wrote_or}
use Rattle.ymx_seats.specs.Views.{SeatView, entry}
use Rattle.ymx_hub.specs.declared.faults.HubFault.{HubFault}
use Rattle.ymx_hub.specs.Answers.{took_count}
use Rattle.ymx_hub.specs.Books.{Books, One, Asks, to_write}
use Rattle.ymx_hub.specs.Turns.{took_of, total, AreWrites, EndsIn, HasTaken, IsWrote, IsUnrefused, WriteTurns}
use Rattle.ymx_hub.proofs.Books.{books_same, books_at}

total_more : (es : List Entry) (e : Entry) → total (es ++ e ∷ []) ≡ total es + took_of e.reply
total_more [] e = omega arith
total_more (x ∷ xs) e = omega (arith, total_more xs e)

drop_drop : (m n : ℕ) (xs : List ℕ) → drop n (drop m xs) ≡ drop (m + n) xs
drop_drop m n xs = grind (arith, common_steps)

writes_more : (id seat : ℕ) (left : List ℕ) (es : List Entry) (e : Entry) → AreWrites id seat left es → e.seat ≡ seat → e.event ≡ to_write id (drop (total es) left) → AreWrites id seat left (es ++ e ∷ [])
writes_more id seat left [] e a n v = ((n, v ∙ ap (to_write id) (grind (arith, common_steps))), tt)
writes_more id seat left (x ∷ xs) e a n v =
    (a.0, writes_more id seat (drop (took_of x.reply) left) xs e a.1 n (v ∙ ap (to_write id) (sym (drop_drop (took_of x.reply) (total xs) left))))

pub ends_more : (Such : Reply → Type 0) (es : List Entry) (e : Entry) → Such e.reply → EndsIn Such (es ++ e ∷ [])
ends_more Such [] e s = s
ends_more Such (x ∷ []) e s = s
ends_more Such (x ∷ y ∷ ys) e s = ends_more Such (y ∷ ys) e s

-- writes that took so many of these bytes
abbrev HaveTaken : (id seat : ℕ) → List ℕ → ℕ → List Entry → Type 0
HaveTaken id seat bytes taken added = AreWrites id seat bytes added × (total added ≡ taken)

-- what the turns have added so far
abbrev pub Written : (id seat : ℕ) → List ℕ → ℕ → List Entry → Type 0
Written id seat bytes taken added = HaveTaken id seat bytes taken added × IsUnrefused added

pub written_none : (keeps : Bool) (seat : SeatView) (id : ℕ) (bytes : List ℕ) → Books keeps seat seat (Written id seat.number bytes 0)
written_none keeps seat id bytes = books_same keeps seat (Written id seat.number bytes 0) ((tt, refl), inl refl)

-- one more write, of what is left
written_by : (id seat taken : ℕ) (bytes rest : List ℕ) (told : Reply) (es ds : List Entry) → rest ≡ drop taken bytes → HaveTaken id seat bytes taken es → One seat (to_write id rest) told ds → HaveTaken id seat bytes (taken + took_of told) (es ++ ds)
written_by id seat taken bytes rest told es ds r w o =
    rw o.1 (
      writes_more id seat bytes es (entry o.0 seat (to_write id rest) told) w.0 refl (ap (to_write id) (r ∙ ap (λ (k : ℕ). drop k bytes) (sym w.1))),
      total_more es (entry o.0 seat (to_write id rest) told) ∙ ap (λ (k : ℕ). k + took_of told) w.1,
    )

ended_by : (Such : Reply → Type 0) (seat : ℕ) (id : ℕ) (rest : List ℕ) (told : Reply) (es ds : List Entry) → One seat (to_write id rest) told ds → Such told → EndsIn Such (es ++ ds)
ended_by Such seat id rest told es ds o s = rw o.1 (ends_more Such es (entry o.0 seat (to_write id rest) told) s)

-- one more write, of what is left, which was not refused
turned_by : (id seat taken now : ℕ) (bytes rest : List ℕ) (wrote : Wrote) (es ds : List Entry) → rest ≡ drop taken bytes → now ≡ taken + took_of (reply.Wrote wrote) → Written id seat bytes taken es → One seat (to_write id rest) (reply.Wrote wrote) ds → Written id seat bytes now (es ++ ds)
turned_by id seat taken now bytes rest wrote es ds r k w o =
    rw k (written_by id seat taken bytes rest (reply.Wrote wrote) es ds r w.0 o, inr (ended_by IsWrote seat id rest (reply.Wrote wrote) es ds o (wrote, refl)))

took_same : (wrote : Wrote) → took_count wrote ≡ took_of (reply.Wrote wrote)
took_same (Took n) = refl
took_same Wait = refl

-- a turn that wrote some, or none
pub written_more : (keeps : Bool) (old mid new : SeatView) (id taken now : ℕ) (bytes rest : List ℕ) (wrote : Wrote) → Books keeps old mid (Written id old.number bytes taken) → rest ≡ drop taken bytes → now ≡ taken + took_count wrote → Books keeps mid new (Asks (to_write id rest) wrote_or mid.number (Ok wrote)) → Books keeps old new (Written id old.number bytes now)
written_more keeps old mid new id taken now bytes rest wrote g r k h =
    books_at keeps old mid new (Written id old.number bytes taken) (λ n. One n (to_write id rest) (reply.Wrote wrote)) (Written id old.number bytes now)
    (λ es ds w o. turned_by id old.number taken now bytes rest wrote es ds r (k ∙ ap (λ (n : ℕ). taken + n) (took_same wrote)) w o) g h

done_by : (id seat taken count : ℕ) (bytes rest : List ℕ) (u : Unit {0}) (es ds : List Entry) → rest ≡ drop taken bytes → taken + count ≡ length bytes → Written id seat bytes taken es → One seat (to_write id rest) (reply.Wrote (Took count)) ds → WriteTurns id bytes seat (Ok u) (es ++ ds)
done_by id seat taken count bytes rest u es ds r k w o =
    let all = written_by id seat taken bytes rest (reply.Wrote (Took count)) es ds r w.0 o in
    (all.0, (all.1 ∙ k, ended_by HasTaken seat id rest (reply.Wrote (Took count)) es ds o (count, refl)))

-- the turn that wrote the last
pub write_done : (keeps : Bool) (old mid new : SeatView) (id taken count : ℕ) (bytes rest : List ℕ) (u : Unit {0}) → Books keeps old mid (Written id old.number bytes taken) → rest ≡ drop taken bytes → taken + count ≡ length bytes → Books keeps mid new (Asks (to_write id rest) wrote_or mid.number (Ok (Took count))) → Books keeps old new (WriteTurns id bytes old.number (Ok u))
write_done keeps old mid new id taken count bytes rest u g r k h =
    books_at keeps old mid new (Written id old.number bytes taken) (λ n. Asks (to_write id rest) wrote_or n (Ok (Took count))) (WriteTurns id bytes old.number (Ok u))
    (λ es ds w o. done_by id old.number taken count bytes rest u es ds r k w o) g h

stopped_by : (id seat taken : ℕ) (bytes rest : List ℕ) (fault : HubFault) (es ds : List Entry) → rest ≡ drop taken bytes → Written id seat bytes taken es → Asks {A = Wrote} (to_write id rest) wrote_or seat (Err fault) ds → WriteTurns id bytes seat (Err (record { taken = taken; fault = fault })) (es ++ ds)
stopped_by id seat taken bytes rest fault es ds r w (inl n) =
    let none : es ++ ds ≡ es = ap (λ (v : List Entry). es ++ v) n.1 ∙ grind (arith, common_steps) in
    rw none (w.0.0, (w.0.1, inl (n.0, w.1)))
stopped_by id seat taken bytes rest fault es ds r w (inr o) =
    let all = written_by id seat taken bytes rest (reply.Refused o.0) es ds r w.0 o.2 in
    (all.0, (all.1 ∙ grind (arith, common_steps), inr (o.0, o.1, ended_by (λ told. told ≡ reply.Refused o.0) seat id rest (reply.Refused o.0) es ds o.2 refl)))

-- the turn that was refused
pub write_stopped : (keeps : Bool) (old mid new : SeatView) (id taken : ℕ) (bytes rest : List ℕ) (fault : HubFault) → Books keeps old mid (Written id old.number bytes taken) → rest ≡ drop taken bytes → Books keeps mid new (Asks {A = Wrote} (to_write id rest) wrote_or mid.number (Err fault)) → Books keeps old new (WriteTurns id bytes old.number (Err (record { taken = taken; fault = fault })))
write_stopped keeps old mid new id taken bytes rest fault g r h =
    books_at keeps old mid new (Written id old.number bytes taken) (λ n. Asks {A = Wrote} (to_write id rest) wrote_or n (Err fault)) (WriteTurns id bytes old.number (Err (record { taken = taken; fault = fault })))
    (λ es ds w o. stopped_by id old.number taken bytes rest fault es ds r w o) g h
