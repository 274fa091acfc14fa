-- What reads and writes of a stream add, call after call.
use Rattle.std.proofs.Common.{◌≡◌, ℕ, ◌+◌, ◌-◌, ◌^◌, ◌<◌, ◌≤◌, inl, inr, min, List, [], ◌∷◌, ◌++◌, length, take, drop, Bool, Ok, arith, refl, sym, ◌∙◌, ap, subst, append-nil, append_assoc}
use Rattle.std.proofs.lemmas.List.{length-take-le}
use Rattle.std.proofs.lemmas.Grind.{common_steps}
use Rattle.ymx_machine.specs.declared.types.Wrote.TheVariants.{Took}
use Rattle.ymx_machine.specs.shared.Events.{Reply}
use Rattle.ymx_machine.specs.declared.types.Reply.TheVariants as reply
use Rattle.ymx_model.specs.declared.types.Entry.{Entry}
use Rattle.ymx_seats.specs.Views.{SeatView}
use Rattle.ymx_hub.specs.Books.{Books, One, to_read}
use Rattle.ymx_hub.specs.Halves.{HalfView}
use Rattle.ymx_hub.specs.Turns.{took_of, AreWaits, AreWrites, EndsIn, HasTaken, IsWrote, IsUnrefused, ReadTurns, WriteTurns}
use Rattle.ymx_hub.specs.Carried.{read_bytes, bytes_written}
use Rattle.ymx_hub.proofs.Books.{books_same, books_at}
use Rattle.ymx_hub.proofs.Carried.{read_append, written_append, waits_read, one_read, all_written}
use Rattle.ymx_connect.specs.Streams.{AreReads, ReadsOn, ReadsUpTo, AreWritesTo, WritesOn, Copies}

-- ---- reads

reads_append : (id seat : ℕ) (es ds : List Entry) → AreReads id seat es → AreReads id seat ds → AreReads id seat (es ++ ds)
reads_append id seat [] ds r t = t
reads_append id seat (e ∷ es) ds r t = (r.0, reads_append id seat es ds r.1 t)

waits_are : (id seat size : ℕ) (es : List Entry) → AreWaits seat (to_read id size) reply.ReadWait es → AreReads id seat es
waits_are id seat size [] w = tt
waits_are id seat size (e ∷ es) w = ((w.0.0, (size, w.0.1), inl w.0.2), waits_are id seat size es w.1)

one_gives : (id seat size : ℕ) (bytes : List ℕ) (es : List Entry) → One seat (to_read id size) (reply.Read bytes) es → AreReads id seat es
one_gives id seat size bytes es (p, e) = subst (AreReads id seat) (sym e) ((refl, (size, refl), inr (bytes, refl)), tt)

waited : (id seat size : ℕ) (bytes : List ℕ) (es waits : List Entry) → ReadsOn id seat bytes es → AreWaits seat (to_read id size) reply.ReadWait waits → ReadsOn id seat bytes (es ++ waits)
waited id seat size bytes es waits r w = (
  reads_append id seat es waits r.0 (waits_are id seat size waits w),
  read_append es waits ∙ ap (λ (l : List ℕ). read_bytes es ++ l) (waits_read seat (to_read id size) waits w) ∙ append-nil (read_bytes es) ∙ r.1,
)

given : (id seat size : ℕ) (bytes more : List ℕ) (es ds : List Entry) → ReadsOn id seat bytes es → One seat (to_read id size) (reply.Read more) ds → ReadsOn id seat (bytes ++ more) (es ++ ds)
given id seat size bytes more es ds r o = (
  reads_append id seat es ds r.0 (one_gives id seat size more ds o),
  read_append es ds ∙ ap (λ (l : List ℕ). read_bytes es ++ l) (one_read seat (to_read id size) (reply.Read more) ds o) ∙ ap (λ (l : List ℕ). l ++ more) r.1,
)

-- one turn more, which gave bytes
turn_gives : (id seat size n : ℕ) (bytes buffer : List ℕ) (es ds : List Entry) → 0 < n → ReadsOn id seat bytes es → ReadTurns id size buffer seat (Ok n) ds → ReadsOn id seat (bytes ++ take n buffer) (es ++ ds)
turn_gives id seat size n bytes buffer es ds some r (waits, last, e, w, inl (s, o)) =
    subst (λ (l : List Entry). ReadsOn id seat (bytes ++ take n buffer) (es ++ l)) (sym e)
    (subst (ReadsOn id seat (bytes ++ take n buffer)) (append_assoc es waits last)
    (given id seat size bytes (take n buffer) (es ++ waits) last (waited id seat size bytes es waits r w) o))
turn_gives id seat size n bytes buffer es ds some r (waits, last, e, w, inr (none, o)) = absurd (omega arith)

-- a last turn, which found the end
turn_ends : (id seat size n : ℕ) (bytes buffer : List ℕ) (es ds : List Entry) → n ≡ 0 → ReadsOn id seat bytes es → ReadTurns id size buffer seat (Ok n) ds → ReadsUpTo reply.ReadEnd id seat bytes (es ++ ds)
turn_ends id seat size n bytes buffer es ds none r (waits, last, e, w, inl (s, o)) = absurd (omega arith)
turn_ends id seat size n bytes buffer es ds none r (waits, last, e, w, inr (zero, o)) =
    (es ++ waits, last, size, ap (λ (l : List Entry). es ++ l) e ∙ sym (append_assoc es waits last), waited id seat size bytes es waits r w, o)

pub reads_none : (keeps : Bool) (seat : SeatView) (id : ℕ) → Books keeps seat seat (ReadsOn id seat.number [])
reads_none keeps seat id = books_same keeps seat (ReadsOn id seat.number []) (tt, refl)

pub reads_more : (keeps : Bool) (old mid new : SeatView) (id now size n : ℕ) (bytes buffer : List ℕ) → 0 < n → now ≡ id → Books keeps old mid (ReadsOn id old.number bytes) → Books keeps mid new (ReadTurns now size buffer mid.number (Ok n)) → Books keeps old new (ReadsOn id old.number (bytes ++ take n buffer))
reads_more keeps old mid new id now size n bytes buffer some same g h =
    books_at keeps old mid new (ReadsOn id old.number bytes) (λ k. ReadTurns id size buffer k (Ok n)) (ReadsOn id old.number (bytes ++ take n buffer))
    (λ es ds r t. turn_gives id old.number size n bytes buffer es ds some r t) g
    (subst (λ (k : ℕ). Books keeps mid new (ReadTurns k size buffer mid.number (Ok n))) same h)

pub reads_end : (keeps : Bool) (old mid new : SeatView) (id now size n : ℕ) (bytes buffer : List ℕ) → n ≡ 0 → now ≡ id → Books keeps old mid (ReadsOn id old.number bytes) → Books keeps mid new (ReadTurns now size buffer mid.number (Ok n)) → Books keeps old new (ReadsUpTo reply.ReadEnd id old.number bytes)
reads_end keeps old mid new id now size n bytes buffer none same g h =
    books_at keeps old mid new (ReadsOn id old.number bytes) (λ k. ReadTurns id size buffer k (Ok n)) (ReadsUpTo reply.ReadEnd id old.number bytes)
    (λ es ds r t. turn_ends id old.number size n bytes buffer es ds none r t) g
    (subst (λ (k : ℕ). Books keeps mid new (ReadTurns k size buffer mid.number (Ok n))) same h)

-- ---- writes

writes_append : (id seat : ℕ) (es ds : List Entry) → AreWritesTo id seat es → AreWritesTo id seat ds → AreWritesTo id seat (es ++ ds)
writes_append id seat [] ds w v = v
writes_append id seat (e ∷ es) ds w v = (w.0, writes_append id seat es ds w.1 v)

turns_are : (id seat : ℕ) (left : List ℕ) (es : List Entry) → AreWrites id seat left es → AreWritesTo id seat es
turns_are id seat left [] w = tt
turns_are id seat left (e ∷ es) w = ((w.0.0, (left, w.0.1)), turns_are id seat (drop (took_of e.reply) left) es w.1)

ends_later : (Such : Reply → Type 0) (es ds : List Entry) → EndsIn Such ds → EndsIn Such (es ++ ds)
ends_later Such [] ds h = h
ends_later Such (e ∷ es) [] h = absurd h
ends_later Such (e ∷ []) (d ∷ ds) h = h
ends_later Such (e ∷ f ∷ fs) (d ∷ ds) h = ends_later Such (f ∷ fs) (d ∷ ds) h

taken_last : (es : List Entry) → EndsIn HasTaken es → EndsIn IsWrote es
taken_last [] h = absurd h
taken_last (e ∷ []) (n, t) = (Took n, t)
taken_last (e ∷ f ∷ fs) h = taken_last (f ∷ fs) h

unrefused_more : (es ds : List Entry) → IsUnrefused es → IsUnrefused ds → IsUnrefused (es ++ ds)
unrefused_more es ds u (inl none) = subst IsUnrefused (sym (ap (λ (l : List Entry). es ++ l) none ∙ append-nil es)) u
unrefused_more es ds u (inr h) = inr (ends_later IsWrote es ds h)

-- one call more, which wrote all
turn_writes : (id seat : ℕ) (bytes more : List ℕ) (u : Unit {0}) (es ds : List Entry) → WritesOn id seat bytes es → WriteTurns id more seat (Ok u) ds → WritesOn id seat (bytes ++ more) (es ++ ds)
turn_writes id seat bytes more u es ds w (a, (t, last)) = (
  (
    writes_append id seat es ds w.0.0 (turns_are id seat more ds a),
    written_append es ds ∙ ap (λ (l : List ℕ). bytes_written es ++ l) (all_written id seat more u ds (a, (t, last))) ∙ ap (λ (l : List ℕ). l ++ more) w.0.1,
  ),
  unrefused_more es ds w.1 (inr (taken_last ds last)),
)

writes_none : (keeps : Bool) (seat : SeatView) (id : ℕ) → Books keeps seat seat (WritesOn id seat.number [])
writes_none keeps seat id = books_same keeps seat (WritesOn id seat.number []) ((tt, refl), inl refl)

writes_more : (keeps : Bool) (old mid new : SeatView) (id now : ℕ) (bytes more : List ℕ) (u : Unit {0}) → now ≡ id → Books keeps old mid (WritesOn id old.number bytes) → Books keeps mid new (WriteTurns now more mid.number (Ok u)) → Books keeps old new (WritesOn id old.number (bytes ++ more))
writes_more keeps old mid new id now bytes more u same g h =
    books_at keeps old mid new (WritesOn id old.number bytes) (λ k. WriteTurns id more k (Ok u)) (WritesOn id old.number (bytes ++ more))
    (λ es ds w t. turn_writes id old.number bytes more u es ds w t) g
    (subst (λ (k : ℕ). Books keeps mid new (WriteTurns k more mid.number (Ok u))) same h)

-- ---- copies

abbrev most : ℕ
most = 2 ^ 64 - 1

counts_more : (moved part : List ℕ) (bytes more count : ℕ) → bytes ≡ min (length moved) most → length part ≡ count → more ≡ min (bytes + count) most →
    more ≡ min (length (moved ++ part)) most
counts_more moved part bytes more count e l m = grind (arith, common_steps)

-- So far this was read, and written, and counted, and both halves are of the streams of which they were.
pub record HasCopied (keeps : Bool) (reader writer reads writes : HalfView) (count : ℕ) : Type 0 where
  pub bytes : List ℕ
  pub counted : count ≡ min (length bytes) most
  pub from : reads.id ≡ reader.id
  pub to : writes.id ≡ writer.id
  pub read : Books keeps reader.seat reads.seat (ReadsOn reader.id reader.seat.number bytes)
  pub written : Books keeps writer.seat writes.seat (WritesOn writer.id writer.seat.number bytes)

pub copied_none : (keeps : Bool) (reader writer : HalfView) → HasCopied keeps reader writer reader writer 0
copied_none keeps reader writer = record {
  bytes = [];
  counted = refl;
  from = refl;
  to = refl;
  read = reads_none keeps reader.seat reader.id;
  written = writes_none keeps writer.seat writer.id;
}

-- a round more
pub copied_more : (keeps : Bool) (reader writer reads writes reads_now writes_now : HalfView) (count more size n : ℕ) (buffer piece : List ℕ) (u : Unit {0}) →
    HasCopied keeps reader writer reads writes count → 0 < n → n ≤ length buffer → piece ≡ take n buffer → more ≡ min (count + n) most →
    reads_now.id ≡ reads.id → writes_now.id ≡ writes.id →
    Books keeps reads.seat reads_now.seat (ReadTurns reads.id size buffer reads.seat.number (Ok n)) → Books keeps writes.seat writes_now.seat (WriteTurns writes.id piece writes.seat.number (Ok u)) →
    HasCopied keeps reader writer reads_now writes_now more
copied_more keeps reader writer reads writes reads_now writes_now count more size n buffer piece u h some fits e m from to read write = record {
  bytes = h.bytes ++ take n buffer;
  counted = counts_more h.bytes (take n buffer) count more n h.counted (length-take-le n buffer fits) m;
  from = from ∙ h.from;
  to = to ∙ h.to;
  read = reads_more keeps reader.seat reads.seat reads_now.seat reader.id reads.id size n h.bytes buffer some h.from h.read read;
  written = subst (λ (l : List ℕ). Books keeps writer.seat writes_now.seat (WritesOn writer.id writer.seat.number (h.bytes ++ l))) e (writes_more keeps writer.seat writes.seat writes_now.seat writer.id writes.id h.bytes piece u h.to h.written write);
}

-- the end was read
pub copied_all : (keeps : Bool) (reader writer reads writes : HalfView) (after : SeatView) (count size n : ℕ) (buffer : List ℕ) →
    HasCopied keeps reader writer reads writes count → n ≡ 0 → Books keeps reads.seat after (ReadTurns reads.id size buffer reads.seat.number (Ok n)) →
    Copies keeps reader writer after writes.seat count
copied_all keeps reader writer reads writes after count size n buffer h none read =
    record { bytes = h.bytes; counted = h.counted; read = reads_end keeps reader.seat reads.seat after reader.id reads.id size n h.bytes buffer none h.from h.read read; written = h.written }
