-- What the calls of a half add to what its seat tells.
use Rattle.std.proofs.Common.{◌≡◌, ℕ, ◌==◌, inl, inr, List, [], ◌∷◌, ◌++◌, take, drop, Bool, true, false, if◌then◌else◌, Option, None, Some, Result, Ok, Err, MatchResult, IfOk, IfErr, refl, sym, ap, subst, ◌∙◌, append_assoc, append-nil, arith}
use Rattle.std.proofs.lemmas.Bool.Decides.{nat_tests}
use Rattle.std.proofs.lemmas.List.{take_all}
use Rattle.std.specs.Io.KnownBytes.{Appends, Keeps, WriteAppends}
use Rattle.ymx_machine.specs.declared.types.CallFault.{CallFault}
use Rattle.ymx_model.specs.session.Events.{Event}
use Rattle.ymx_machine.specs.shared.Events.{Reply}
use Rattle.ymx_machine.specs.declared.types.Reply.TheVariants as reply
use Rattle.ymx_model.specs.declared.types.Entry.{Entry}
use Rattle.ymx_seats.specs.Journals.{part}
use Rattle.ymx_seats.specs.Views.{SeatView, entry}
use Rattle.ymx_seats.proofs.Moves.{part-append}
use Rattle.ymx_hub.specs.declared.faults.HubFault.{HubFault}
use Rattle.ymx_hub.specs.Answers.{hub_fault_of}
use Rattle.ymx_hub.specs.Books.{Books, Gains, Grows, Extends, One, Forgets, SpendsWith, Spends, Closes, to_read, to_finish, to_reset, to_forget}
use Rattle.ymx_hub.specs.declared.write_fault.WriteFault.{WriteFault}
use Rattle.ymx_hub.specs.Turns.{took_of, EndsIn, AreWaits, AreWrites, WriteTurns, ReadTurns, ReadsLast}
use Rattle.ymx_hub.specs.Carried.{offered, bytes_written, read_bytes}
use Rattle.ymx_hub.proofs.Carried.{written_append, read_append, all_written, some_written, waits_read, one_read}
use Rattle.ymx_tunnel.specs.Told.{part_seen, own_entries, carried, HasSaidEnd, HasToldRefusal, SaidEnd, ToldRefusal}

-- ---- what is told of entries that were added

tells_more : (told : List Entry → List ℕ) (before after : List Entry) (Such : List Entry → Type 0) (bytes : List ℕ) →
    ((xs ys : List Entry) → told (xs ++ ys) ≡ told xs ++ told ys) → ((added : List Entry) → Such added → told added ≡ bytes) → Gains true before after Such →
    Appends (Some (told before)) (Some (told after)) bytes
tells_more told before after Such bytes joins f (added, e, s) = ap told e ∙ joins before added ∙ ap (λ (l : List ℕ). told before ++ l) (f added s)

tells_same : (told : List Entry → List ℕ) (before after : List Entry) (Such : List Entry → Type 0) →
    ((xs ys : List Entry) → told (xs ++ ys) ≡ told xs ++ told ys) → ((added : List Entry) → Such added → told added ≡ []) → Gains true before after Such →
    Keeps (Some (told before)) (Some (told after))
tells_same told before after Such joins f (added, e, s) = ap told e ∙ joins before added ∙ ap (λ (l : List ℕ). told before ++ l) (f added s) ∙ append-nil (told before)

-- ---- a sink

take_none : (n : ℕ) → take {A = ℕ} n [] ≡ []
take_none n = take_all {A = ℕ} n [] (omega arith)

write_all_took : (before after : List Entry) (id seat : ℕ) (bytes : List ℕ) (result : Result (Unit {0}) WriteFault) → Gains true before after (WriteTurns id bytes seat result) →
    MatchResult result (λ _. Appends (Some (bytes_written before)) (Some (bytes_written after)) bytes)
    (λ stop. Appends (Some (bytes_written before)) (Some (bytes_written after)) (take stop.taken bytes))
write_all_took before after id seat bytes (Ok u) g =
    tells_more bytes_written before after (WriteTurns id bytes seat (Ok u)) bytes written_append (all_written id seat bytes u) g
write_all_took before after id seat bytes (Err stop) g =
    tells_more bytes_written before after (WriteTurns id bytes seat (Err stop)) (take stop.taken bytes) written_append (some_written id seat bytes stop) g

forgets_writes : (id seat : ℕ) (added : List Entry) → Forgets id seat added → bytes_written added ≡ []
forgets_writes id seat added (inl e) = ap bytes_written e
forgets_writes id seat added (inr (told, (p, e))) = ap bytes_written e ∙ ap (λ (l : List ℕ). l ++ []) (take_none (took_of told))

-- a call that offers no bytes
spends_writes : (event : Event) (id seat : ℕ) (told : Reply) (added : List Entry) → offered event ≡ [] → SpendsWith event id seat told added → bytes_written added ≡ []
spends_writes event id seat told added none (p, rest, e, f) =
    ap bytes_written e ∙ ap (λ (l : List ℕ). take (took_of told) l ++ bytes_written rest) none ∙ ap (λ (l : List ℕ). l ++ bytes_written rest) (take_none (took_of told)) ∙ forgets_writes id seat rest f

spent_writes : (event : Event) (id seat : ℕ) (result : Result (Unit {0}) HubFault) (added : List Entry) → offered event ≡ [] → Spends event id seat result added → bytes_written added ≡ []
spent_writes event id seat (Ok u) added none s = spends_writes event id seat reply.Done added none s
spent_writes event id seat (Err fault) added none (inl (m, e)) = ap bytes_written e
spent_writes event id seat (Err fault) added none (inr (why, f, s)) = spends_writes event id seat (reply.Refused why) added none s

-- ---- a source

bytes_read : (id size : ℕ) (buffer : List ℕ) (seat n : ℕ) (last : List Entry) → ReadsLast id size buffer seat (Ok n) last → read_bytes last ≡ take n buffer
bytes_read id size buffer seat n last (inl (some, one)) = one_read seat (to_read id size) (reply.Read (take n buffer)) last one
bytes_read id size buffer seat n last (inr (none, one)) = one_read seat (to_read id size) reply.ReadEnd last one ∙ sym (ap (λ k. take k buffer) none)

none_read : (id size : ℕ) (buffer : List ℕ) (seat : ℕ) (fault : HubFault) (last : List Entry) → ReadsLast id size buffer seat (Err fault) last → read_bytes last ≡ []
none_read id size buffer seat fault last (inl (m, e)) = ap read_bytes e
none_read id size buffer seat fault last (inr (why, f, one)) = one_read seat (to_read id size) (reply.Refused why) last one

reads_give : (id size : ℕ) (buffer : List ℕ) (seat n : ℕ) (added : List Entry) → ReadTurns id size buffer seat (Ok n) added → read_bytes added ≡ take n buffer
reads_give id size buffer seat n added (waits, last, e, w, l) =
    ap read_bytes e ∙ read_append waits last ∙ ap (λ (b : List ℕ). b ++ read_bytes last) (waits_read seat (to_read id size) waits w) ∙ bytes_read id size buffer seat n last l

reads_give_none : (id size : ℕ) (buffer : List ℕ) (seat : ℕ) (fault : HubFault) (added : List Entry) → ReadTurns id size buffer seat (Err fault) added → read_bytes added ≡ []
reads_give_none id size buffer seat fault added (waits, last, e, w, l) =
    ap read_bytes e ∙ read_append waits last ∙ ap (λ (b : List ℕ). b ++ read_bytes last) (waits_read seat (to_read id size) waits w) ∙ none_read id size buffer seat fault last l

read_gave : (before after : List Entry) (id size : ℕ) (buffer : List ℕ) (seat : ℕ) (result : Result ℕ HubFault) → Gains true before after (ReadTurns id size buffer seat result) →
    WriteAppends (Some (read_bytes before)) (Some (read_bytes after)) result buffer
read_gave before after id size buffer seat (Ok n) g =
    tells_more read_bytes before after (ReadTurns id size buffer seat (Ok n)) (take n buffer) read_append (reads_give id size buffer seat n) g
read_gave before after id size buffer seat (Err fault) g =
    tells_same read_bytes before after (ReadTurns id size buffer seat (Err fault)) read_append (reads_give_none id size buffer seat fault) g

-- the end was said by the last of some entries
says_end : (before waits last after : List Entry) (seat : ℕ) (event : Event) → after ≡ before ++ (waits ++ last) → One seat event reply.ReadEnd last → HasSaidEnd after
says_end before waits last after seat event e (p, f) =
    (before ++ waits, entry p seat event reply.ReadEnd, [], e ∙ ap (λ (l : List Entry). before ++ (waits ++ l)) f ∙ sym (append_assoc before waits (entry p seat event reply.ReadEnd ∷ [])), refl)

end_read : (before after : List Entry) (id size : ℕ) (buffer : List ℕ) (seat n : ℕ) (added : List Entry) → after ≡ before ++ added → n ≡ 0 → ReadTurns id size buffer seat (Ok n) added → HasSaidEnd after
end_read before after id size buffer seat n added e none (waits, last, f, w, inl (some, one)) = absurd (omega arith)
end_read before after id size buffer seat n added e none (waits, last, f, w, inr (zero, one)) =
    says_end before waits last after seat (to_read id size) (e ∙ ap (λ (l : List Entry). before ++ l) f) one

read_ended : (before after : List Entry) (id size : ℕ) (buffer : List ℕ) (seat : ℕ) (result : Result ℕ HubFault) → Gains true before after (ReadTurns id size buffer seat result) →
    IfOk result (λ count. count ≡ 0 → HasSaidEnd after)
read_ended before after id size buffer seat (Ok n) (added, e, r) = λ none. end_read before after id size buffer seat n added e none r
read_ended before after id size buffer seat (Err fault) g = tt

closes_reads : (id seat : ℕ) (result : Result (Unit {0}) HubFault) (added : List Entry) → Closes id seat result added → read_bytes added ≡ []
closes_reads id seat (Ok u) added (inl e) = ap read_bytes e
closes_reads id seat (Ok u) added (inr one) = one_read seat (to_forget id) reply.Done added one
closes_reads id seat (Err fault) added (inl (m, e)) = ap read_bytes e
closes_reads id seat (Err fault) added (inr (why, f, one)) = one_read seat (to_forget id) (reply.Refused why) added one

close_keeps : (before after : List Entry) (id seat : ℕ) (result : Result (Unit {0}) HubFault) → Gains true before after (Closes id seat result) →
    Keeps (Some (read_bytes before)) (Some (read_bytes after))
close_keeps before after id seat result g = tells_same read_bytes before after _ read_append (closes_reads id seat result) g

close_ended : (before after : List Entry) (Such : List Entry → Type 0) → Gains true before after Such → HasSaidEnd before → HasSaidEnd after
close_ended before after Such (added, e, s) (front, x, back, f, none) =
    (front, x, back ++ added, e ∙ ap (λ (l : List Entry). l ++ added) f ∙ append_assoc front (x ∷ back) added, none)

-- ---- refusals

-- the last of these entries has such a reply
abbrev Last : (Reply → Type 0) → List Entry → Type 0
Last Such es = (front : List Entry) × (e : Entry) × (es ≡ front ++ e ∷ []) × Such e.reply

last_later : (Such : Reply → Type 0) (e : Entry) (es : List Entry) → Last Such es → Last Such (e ∷ es)
last_later Such e es (front, x, p, s) = (e ∷ front, x, ap (λ (l : List Entry). e ∷ l) p, s)

last_of : (Such : Reply → Type 0) (es : List Entry) → EndsIn Such es → Last Such es
last_of Such [] h = absurd h
last_of Such (e ∷ []) h = ([], e, refl, h)
last_of Such (e ∷ f ∷ fs) h = last_later Such e (f ∷ fs) (last_of Such (f ∷ fs) h)

tells_refusal : (before added after : List Entry) (why : CallFault) (fault : HubFault) → after ≡ before ++ added → fault ≡ hub_fault_of why → Last (λ told. told ≡ reply.Refused why) added →
    HasToldRefusal fault after
tells_refusal before added after why fault e f (front, x, p, s) =
    inr (why, f, before ++ front, x, [], e ∙ ap (λ (l : List Entry). before ++ l) p ∙ sym (append_assoc before front (x ∷ [])), s)

write_refused : (before after : List Entry) (id seat : ℕ) (bytes : List ℕ) (result : Result (Unit {0}) WriteFault) → Gains true before after (WriteTurns id bytes seat result) →
    IfErr result (λ stop. HasToldRefusal stop.fault after)
write_refused before after id seat bytes (Ok u) g = tt
write_refused before after id seat bytes (Err stop) (added, e, (w, (t, inl m))) = inl m.0
write_refused before after id seat bytes (Err stop) (added, e, (w, (t, inr (why, f, ends)))) = tells_refusal before added after why stop.fault e f (last_of _ added ends)

read_refused : (before after : List Entry) (id size : ℕ) (buffer : List ℕ) (seat : ℕ) (result : Result ℕ HubFault) → Gains true before after (ReadTurns id size buffer seat result) →
    IfErr result (λ fault. HasToldRefusal fault after)
read_refused before after id size buffer seat (Ok n) g = tt
read_refused before after id size buffer seat (Err fault) (added, e, (waits, last, f, w, inl m)) = inl m.0
read_refused before after id size buffer seat (Err fault) (added, e, (waits, last, f, w, inr (why, g, (p, h)))) =
    tells_refusal before added after why fault e g (waits, entry p seat (to_read id size) (reply.Refused why), f ∙ ap (λ (l : List Entry). waits ++ l) h, refl)

close_refused : (before after : List Entry) (Such : List Entry → Type 0) → Gains true before after Such → (fault : HubFault) → HasToldRefusal fault before → HasToldRefusal fault after
close_refused before after Such (added, e, s) fault (inl m) = inl m
close_refused before after Such (added, e, s) fault (inr (why, f, front, x, back, g, told)) =
    inr (why, f, front, x, back ++ added, e ∙ ap (λ (l : List Entry). l ++ added) g ∙ append_assoc front (x ∷ back) added, told)

-- ---- the entries that a seat can tell

-- where they can be told, entries that are such were added
abbrev Added : (before after : Option (List Entry)) → (List Entry → Type 0) → Type 0
Added None None Such = Unit {0}
Added None (Some after) Such = ⊥
Added (Some before) None Such = ⊥
Added (Some before) (Some after) Such = Gains true before after Such

-- each of these entries names this seat
abbrev AreOf : ℕ → List Entry → Type 0
AreOf n [] = Unit {0}
AreOf n (e ∷ es) = (e.seat ≡ n) × AreOf n es

picked : (n : ℕ) (e : Entry) (es : List Entry) (b : Bool) → (e.seat == n) ≡ b → e.seat ≡ n → (if b then e ∷ es else es) ≡ e ∷ es
picked n e es true is own = refl
picked n e es false is own = absurd (grind (arith, nat_tests))

all_own : (n : ℕ) (es : List Entry) → AreOf n es → part n es ≡ es
all_own n [] own = refl
all_own n (e ∷ es) own = picked n e (part n es) (e.seat == n) refl own.0 ∙ ap (λ (l : List Entry). e ∷ l) (all_own n es own.1)

part_grows : (n : ℕ) (before added after : List Entry) → Grows n before added after → part n after ≡ part n before ++ part n added
part_grows n before [] after g = ap (part n) g ∙ sym (append-nil (part n before))
part_grows n before (e ∷ es) after (between, none, p, g) =
    part_grows n ((before ++ between) ++ e ∷ []) es after g
    ∙ ap (λ (l : List Entry). l ++ part n es) (
    part-append n (before ++ between) (e ∷ [])
    ∙ ap (λ (l : List Entry). l ++ part n (e ∷ [])) (part-append n before between ∙ ap (λ (l : List Entry). part n before ++ l) none ∙ append-nil (part n before))
    )
    ∙ append_assoc (part n before) (part n (e ∷ [])) (part n es)
    ∙ ap (λ (l : List Entry). part n before ++ l) (sym (part-append n (e ∷ []) es))

added_seen : (n m : ℕ) (v w : Option (List Entry)) (Such : List Entry → Type 0) → ((added : List Entry) → Such added → AreOf n added) → m ≡ n → Extends n v w Such →
    Added (part_seen n v) (part_seen m w) Such
added_seen n m None None Such own e x = tt
added_seen n m None (Some w) Such own e x = x
added_seen n m (Some v) None Such own e x = x
added_seen n m (Some v) (Some w) Such own e (added, s, g) =
    (added, ap (λ (k : ℕ). part k w) e ∙ part_grows n v added w g ∙ ap (λ (l : List Entry). part n v ++ l) (all_own n added (own added s)), s)

added_by : (keeps : Bool) (old new : SeatView) (Such : List Entry → Type 0) → ((added : List Entry) → Such added → AreOf old.number added) → Books keeps old new Such →
    Added (own_entries keeps old) (own_entries keeps new) Such
added_by true old new Such own b = b.gains
added_by false old new Such own b = added_seen old.number new.number old.seen new.seen Such own b.number b.extends

-- ---- whose entries they are

own_append : (n : ℕ) (xs ys : List Entry) → AreOf n xs → AreOf n ys → AreOf n (xs ++ ys)
own_append n [] ys a b = b
own_append n (x ∷ xs) ys a b = (a.0, own_append n xs ys a.1 b)

own_none : (n : ℕ) (es : List Entry) → es ≡ [] → AreOf n es
own_none n es e = subst (AreOf n) (sym e) tt

own_one : (n : ℕ) (event : Event) (told : Reply) (es : List Entry) → One n event told es → AreOf n es
own_one n event told es (p, e) = subst (AreOf n) (sym e) (refl, tt)

own_writes : (id n : ℕ) (left : List ℕ) (es : List Entry) → AreWrites id n left es → AreOf n es
own_writes id n left [] w = tt
own_writes id n left (e ∷ es) w = (w.0.0, own_writes id n (drop (took_of e.reply) left) es w.1)

own_waits : (n : ℕ) (event : Event) (told : Reply) (es : List Entry) → AreWaits n event told es → AreOf n es
own_waits n event told [] w = tt
own_waits n event told (e ∷ es) w = (w.0.0, own_waits n event told es w.1)

own_last : (id size : ℕ) (buffer : List ℕ) (n : ℕ) (result : Result ℕ HubFault) (last : List Entry) → ReadsLast id size buffer n result last → AreOf n last
own_last id size buffer n (Ok count) last (inl (some, one)) = own_one n (to_read id size) (reply.Read (take count buffer)) last one
own_last id size buffer n (Ok count) last (inr (none, one)) = own_one n (to_read id size) reply.ReadEnd last one
own_last id size buffer n (Err fault) last (inl (m, e)) = own_none n last e
own_last id size buffer n (Err fault) last (inr (why, f, one)) = own_one n (to_read id size) (reply.Refused why) last one

own_reads : (id size : ℕ) (buffer : List ℕ) (n : ℕ) (result : Result ℕ HubFault) (added : List Entry) → ReadTurns id size buffer n result added → AreOf n added
own_reads id size buffer n result added (waits, last, e, w, l) =
    subst (AreOf n) (sym e) (own_append n waits last (own_waits n (to_read id size) reply.ReadWait waits w) (own_last id size buffer n result last l))

own_forgets : (id n : ℕ) (es : List Entry) → Forgets id n es → AreOf n es
own_forgets id n es (inl e) = own_none n es e
own_forgets id n es (inr (told, one)) = own_one n (to_forget id) told es one

own_spends_with : (event : Event) (id n : ℕ) (told : Reply) (added : List Entry) → SpendsWith event id n told added → AreOf n added
own_spends_with event id n told added (p, rest, e, f) = subst (AreOf n) (sym e) (refl, own_forgets id n rest f)

own_spends : (event : Event) (id n : ℕ) (result : Result (Unit {0}) HubFault) (added : List Entry) → Spends event id n result added → AreOf n added
own_spends event id n (Ok u) added s = own_spends_with event id n reply.Done added s
own_spends event id n (Err fault) added (inl (m, e)) = own_none n added e
own_spends event id n (Err fault) added (inr (why, f, s)) = own_spends_with event id n (reply.Refused why) added s

own_closes : (id n : ℕ) (result : Result (Unit {0}) HubFault) (added : List Entry) → Closes id n result added → AreOf n added
own_closes id n (Ok u) added (inl e) = own_none n added e
own_closes id n (Ok u) added (inr one) = own_one n (to_forget id) reply.Done added one
own_closes id n (Err fault) added (inl (m, e)) = own_none n added e
own_closes id n (Err fault) added (inr (why, f, one)) = own_one n (to_forget id) (reply.Refused why) added one

-- ---- the calls of a sink

took_in : (before after : Option (List Entry)) (id seat : ℕ) (bytes : List ℕ) (result : Result (Unit {0}) WriteFault) → Added before after (WriteTurns id bytes seat result) →
    MatchResult result (λ _. Appends (carried bytes_written before) (carried bytes_written after) bytes)
    (λ stop. Appends (carried bytes_written before) (carried bytes_written after) (take stop.taken bytes))
took_in None after id seat bytes (Ok u) g = tt
took_in None after id seat bytes (Err stop) g = tt
took_in (Some before) None id seat bytes result g = absurd g
took_in (Some before) (Some after) id seat bytes result g = write_all_took before after id seat bytes result g

write_refused_in : (before after : Option (List Entry)) (id seat : ℕ) (bytes : List ℕ) (result : Result (Unit {0}) WriteFault) → Added before after (WriteTurns id bytes seat result) →
    IfErr result (λ stop. ToldRefusal stop.fault after)
write_refused_in before None id seat bytes (Ok u) g = tt
write_refused_in before None id seat bytes (Err stop) g = tt
write_refused_in None (Some after) id seat bytes result g = absurd g
write_refused_in (Some before) (Some after) id seat bytes (Ok u) g = tt
write_refused_in (Some before) (Some after) id seat bytes (Err stop) g = write_refused before after id seat bytes (Err stop) g

added_writes : (keeps : Bool) (old new : SeatView) (id : ℕ) (bytes : List ℕ) (result : Result (Unit {0}) WriteFault) → Books keeps old new (WriteTurns id bytes old.number result) →
    Added (own_entries keeps old) (own_entries keeps new) (WriteTurns id bytes old.number result)
added_writes keeps old new id bytes result b = added_by keeps old new (WriteTurns id bytes old.number result) (λ added w. own_writes id old.number bytes added w.0) b

pub sink_took : (keeps : Bool) (old new : SeatView) (id : ℕ) (bytes : List ℕ) (result : Result (Unit {0}) WriteFault) → Books keeps old new (WriteTurns id bytes old.number result) →
    MatchResult result (λ _. Appends (carried bytes_written (own_entries keeps old)) (carried bytes_written (own_entries keeps new)) bytes)
    (λ stop. Appends (carried bytes_written (own_entries keeps old)) (carried bytes_written (own_entries keeps new)) (take stop.taken bytes))
sink_took keeps old new id bytes result b =
    took_in (own_entries keeps old) (own_entries keeps new) id old.number bytes result (added_writes keeps old new id bytes result b)

pub sink_refused : (keeps : Bool) (old new : SeatView) (id : ℕ) (bytes : List ℕ) (result : Result (Unit {0}) WriteFault) → Books keeps old new (WriteTurns id bytes old.number result) →
    IfErr result (λ stop. ToldRefusal stop.fault (own_entries keeps new))
sink_refused keeps old new id bytes result b =
    write_refused_in (own_entries keeps old) (own_entries keeps new) id old.number bytes result (added_writes keeps old new id bytes result b)

kept_in : (event : Event) (before after : Option (List Entry)) (id seat : ℕ) (result : Result (Unit {0}) HubFault) → offered event ≡ [] → Added before after (Spends event id seat result) →
    Keeps (carried bytes_written before) (carried bytes_written after)
kept_in event None after id seat result none g = tt
kept_in event (Some before) None id seat result none g = absurd g
kept_in event (Some before) (Some after) id seat result none g =
    tells_same bytes_written before after _ written_append (λ added s. spent_writes event id seat result added none s) g

sink_kept : (event : Event) (keeps : Bool) (old new : SeatView) (id : ℕ) (result : Result (Unit {0}) HubFault) → offered event ≡ [] → Books keeps old new (Spends event id old.number result) →
    Keeps (carried bytes_written (own_entries keeps old)) (carried bytes_written (own_entries keeps new))
sink_kept event keeps old new id result none b =
    kept_in event (own_entries keeps old) (own_entries keeps new) id old.number result none (added_by keeps old new (Spends event id old.number result) (own_spends event id old.number result) b)

pub finish_kept : (keeps : Bool) (old new : SeatView) (id : ℕ) (result : Result (Unit {0}) HubFault) → Books keeps old new (Spends (to_finish id) id old.number result) →
    Keeps (carried bytes_written (own_entries keeps old)) (carried bytes_written (own_entries keeps new))
finish_kept keeps old new id result b = sink_kept (to_finish id) keeps old new id result refl b

pub reset_kept : (keeps : Bool) (old new : SeatView) (id : ℕ) (result : Result (Unit {0}) HubFault) → Books keeps old new (Spends (to_reset id) id old.number result) →
    Keeps (carried bytes_written (own_entries keeps old)) (carried bytes_written (own_entries keeps new))
reset_kept keeps old new id result b = sink_kept (to_reset id) keeps old new id result refl b

-- ---- the calls of a source

gave_in : (before after : Option (List Entry)) (id size : ℕ) (buffer : List ℕ) (seat : ℕ) (result : Result ℕ HubFault) → Added before after (ReadTurns id size buffer seat result) →
    WriteAppends (carried read_bytes before) (carried read_bytes after) result buffer
gave_in None after id size buffer seat (Ok n) g = tt
gave_in None after id size buffer seat (Err fault) g = tt
gave_in (Some before) None id size buffer seat result g = absurd g
gave_in (Some before) (Some after) id size buffer seat result g = read_gave before after id size buffer seat result g

ended_in : (before after : Option (List Entry)) (id size : ℕ) (buffer : List ℕ) (seat : ℕ) (result : Result ℕ HubFault) → Added before after (ReadTurns id size buffer seat result) →
    IfOk result (λ count. count ≡ 0 → SaidEnd after)
ended_in before after id size buffer seat (Err fault) g = tt
ended_in before None id size buffer seat (Ok n) g = λ none. tt
ended_in None (Some after) id size buffer seat (Ok n) g = absurd g
ended_in (Some before) (Some after) id size buffer seat (Ok n) g = read_ended before after id size buffer seat (Ok n) g

read_refused_in : (before after : Option (List Entry)) (id size : ℕ) (buffer : List ℕ) (seat : ℕ) (result : Result ℕ HubFault) → Added before after (ReadTurns id size buffer seat result) →
    IfErr result (λ fault. ToldRefusal fault after)
read_refused_in before after id size buffer seat (Ok n) g = tt
read_refused_in before None id size buffer seat (Err fault) g = tt
read_refused_in None (Some after) id size buffer seat (Err fault) g = absurd g
read_refused_in (Some before) (Some after) id size buffer seat (Err fault) g = read_refused before after id size buffer seat (Err fault) g

added_reads : (keeps : Bool) (old new : SeatView) (id size : ℕ) (buffer : List ℕ) (result : Result ℕ HubFault) → Books keeps old new (ReadTurns id size buffer old.number result) →
    Added (own_entries keeps old) (own_entries keeps new) (ReadTurns id size buffer old.number result)
added_reads keeps old new id size buffer result b = added_by keeps old new (ReadTurns id size buffer old.number result) (own_reads id size buffer old.number result) b

pub source_gave : (keeps : Bool) (old new : SeatView) (id size : ℕ) (buffer : List ℕ) (result : Result ℕ HubFault) → Books keeps old new (ReadTurns id size buffer old.number result) →
    WriteAppends (carried read_bytes (own_entries keeps old)) (carried read_bytes (own_entries keeps new)) result buffer
source_gave keeps old new id size buffer result b =
    gave_in (own_entries keeps old) (own_entries keeps new) id size buffer old.number result (added_reads keeps old new id size buffer result b)

pub source_ended : (keeps : Bool) (old new : SeatView) (id size : ℕ) (buffer : List ℕ) (result : Result ℕ HubFault) → Books keeps old new (ReadTurns id size buffer old.number result) →
    IfOk result (λ count. count ≡ 0 → SaidEnd (own_entries keeps new))
source_ended keeps old new id size buffer result b =
    ended_in (own_entries keeps old) (own_entries keeps new) id size buffer old.number result (added_reads keeps old new id size buffer result b)

pub source_refused : (keeps : Bool) (old new : SeatView) (id size : ℕ) (buffer : List ℕ) (result : Result ℕ HubFault) → Books keeps old new (ReadTurns id size buffer old.number result) →
    IfErr result (λ fault. ToldRefusal fault (own_entries keeps new))
source_refused keeps old new id size buffer result b =
    read_refused_in (own_entries keeps old) (own_entries keeps new) id size buffer old.number result (added_reads keeps old new id size buffer result b)

closed_in : (before after : Option (List Entry)) (id seat : ℕ) (result : Result (Unit {0}) HubFault) → Added before after (Closes id seat result) →
    Keeps (carried read_bytes before) (carried read_bytes after)
closed_in None after id seat result g = tt
closed_in (Some before) None id seat result g = absurd g
closed_in (Some before) (Some after) id seat result g = close_keeps before after id seat result g

still_ended : (before after : Option (List Entry)) (Such : List Entry → Type 0) → Added before after Such → SaidEnd before → SaidEnd after
still_ended before None Such g h = tt
still_ended None (Some after) Such g h = absurd g
still_ended (Some before) (Some after) Such g h = close_ended before after Such g h

still_refused : (before after : Option (List Entry)) (Such : List Entry → Type 0) → Added before after Such → (fault : HubFault) → ToldRefusal fault before → ToldRefusal fault after
still_refused before None Such g fault h = tt
still_refused None (Some after) Such g fault h = absurd g
still_refused (Some before) (Some after) Such g fault h = close_refused before after Such g fault h

added_closes : (keeps : Bool) (old new : SeatView) (id : ℕ) (result : Result (Unit {0}) HubFault) → Books keeps old new (Closes id old.number result) →
    Added (own_entries keeps old) (own_entries keeps new) (Closes id old.number result)
added_closes keeps old new id result b = added_by keeps old new (Closes id old.number result) (own_closes id old.number result) b

pub close_kept : (keeps : Bool) (old new : SeatView) (id : ℕ) (result : Result (Unit {0}) HubFault) → Books keeps old new (Closes id old.number result) →
    Keeps (carried read_bytes (own_entries keeps old)) (carried read_bytes (own_entries keeps new))
close_kept keeps old new id result b = closed_in (own_entries keeps old) (own_entries keeps new) id old.number result (added_closes keeps old new id result b)

pub close_still_ended : (keeps : Bool) (old new : SeatView) (id : ℕ) (result : Result (Unit {0}) HubFault) → Books keeps old new (Closes id old.number result) →
    SaidEnd (own_entries keeps old) → SaidEnd (own_entries keeps new)
close_still_ended keeps old new id result b h = still_ended (own_entries keeps old) (own_entries keeps new) (Closes id old.number result) (added_closes keeps old new id result b) h

pub close_still_refused : (keeps : Bool) (old new : SeatView) (id : ℕ) (result : Result (Unit {0}) HubFault) → Books keeps old new (Closes id old.number result) →
    (fault : HubFault) → ToldRefusal fault (own_entries keeps old) → ToldRefusal fault (own_entries keeps new)
close_still_refused keeps old new id result b fault h = still_refused (own_entries keeps old) (own_entries keeps new) (Closes id old.number result) (added_closes keeps old new id result b) fault h
