-- A call of a session on a stream is a call of the law on its end.
use Rattle.std.proofs.Common.{◌≡◌, ◌≢◌, inl, inr, ℕ, ◌+◌, List, [], length, take, Bool, true, false, not, ◌&&◌, ◌==◌, nat_lt, if◌then◌else◌, Option, None, Some, refl, sym, ap, ◌∙◌, subst, arith}
use Rattle.std.specs.Prelude.{is_some}
use Rattle.std.proofs.lemmas.Grind.{common_steps}
use Rattle.std.proofs.lemmas.Bool.Decides.{nat_tests}
use Rattle.ymx_machine.specs.shared.Evidence.{evidence}
use Rattle.ymx_machine.specs.shared.Events.{Reply}
use Rattle.ymx_machine.specs.declared.types.Reply.TheVariants.{Refused}
use Rattle.ymx_machine.specs.declared.types.CallFault.TheVariants.{OutOfMemory}
use Rattle.ymx_machine.specs.shared.Limits.{first_credit}
use Rattle.ymx_machine.specs.shared.Phases.{Phase, is_lingering, is_live, is_reset}
use Rattle.ymx_machine.specs.shared.Phases.Phase.{WasReset, Lingering}
use Rattle.ymx_machine.specs.stream.StreamRules.{StreamCall}
use Rattle.ymx_machine.specs.shared.Replies.{write_reply, read_reply, finish_reply, reset_reply, forget_reply, bytes_moved, is_done}
use Rattle.ymx_machine.specs.stream.StreamRules.StreamCall.{Writes, Reads, Finishes, Resets, Forgets}
use Rattle.ymx_model.specs.session.Records.{End, end_write, end_read, end_finish, end_reset, end_forget}
use Rattle.ymx_model.specs.declared.types.FrameKind.{FrameKind}
use Rattle.ymx_model.specs.session.FramesDue.{next_kind, is_due}
use Rattle.ymx_machine.specs.shared.Lists.{look, Distinct}
use Rattle.ymx_model.specs.session.Tables.{remove_record}
use Rattle.ymx_model.specs.session.Sessions.{Session, is_lost, is_closed, belongs_to, is_spent, on_stream, reap}
use Rattle.ymx_model.specs.session.Calls.{Outcome, outcome, at_stream, write_outcome, read_outcome, if_done, finish_outcome, reset_outcome, forget_outcome, takes_memory, unsent_count, write_to}
use Rattle.ymx_model.specs.session.Histories.{CallGives}
use Rattle.ymx_model.specs.session.Histories.CallGives.{Outcome as HasOutcome, NoMemory}
use Rattle.ymx_headline.specs.stream.Answers.{EndRule}
use Rattle.ymx_law_session.specs.Limits.{IsWithin}
use Rattle.ymx_machine.proofs.Tests.{split, both_of}
use Rattle.ymx_machine.proofs.Lists.{look-change_same, look-without_same, distinct-change}
use Rattle.ymx_law_session.proofs.due.Ready.{due-kind}
use Rattle.ymx_headline.proofs.records.Ends.{call_on, Has}

-- ---- what is left of a record

pub lingers : (p : Phase) → is_lingering p ≡ true → p ≡ Lingering
lingers p e = grind arith

pub none_due : (window : ℕ) (e : End) → is_due window e ≡ false → next_kind window e ≡ None
none_due window e d = of (next_kind window e) (sym (due-kind window e) ∙ d)
  where
    of : (k : Option FrameKind) → is_some k ≡ false → k ≡ None
    of None z = refl
    of (Some k) z = cc

is_not : (b : Bool) → not b ≡ true → b ≡ false
is_not true e = cc
is_not false e = refl

pub has-some : (window : ℕ) (e : End) (o : Option End) → o ≡ Some e → Has window e o
has-some window e o p = let P : Option End → Type 0 = Has window e in subst P (sym p) refl

-- a record that changes is the changed end, or has gone as one that was given up
pub reaped-has : (id : ℕ) (e : End) (s : Session) → look id s.table.entries ≡ Some e → Distinct s.table.entries →
    Has s.table.window e (look id (reap id s).table.entries)
reaped-has id e s l d =
    split (λ x. Has s.table.window e (look id x.table.entries)) (is_spent s.table.window s.outgoing id (look id s.table.entries)) (record s { table = remove_record id s.table }) s
    (λ t. let z : is_spent s.table.window s.outgoing id (Some e) ≡ true = rw l at t in
    let p = both_of (is_lingering e.phase && not (is_due s.table.window e)) (not (belongs_to s.outgoing.of id)) z in
    let q = both_of (is_lingering e.phase) (not (is_due s.table.window e)) p.0 in
    let gone = look-without_same id s.table.entries d in
    rw gone (inr (lingers e.phase q.0, none_due s.table.window e (is_not (is_due s.table.window e) q.1))))
    (λ f. has-some s.table.window e (look id s.table.entries) l)

pub on-look : (id : ℕ) (f : End → End) (e : End) (s : Session) → look id s.table.entries ≡ Some e → look id (on_stream id f s).table.entries ≡ Some (f e)
on-look id f e s l = look-change_same id f s.table.entries ∙ rw l refl

-- ---- nothing moves

write-none : (e : End) → end_write [] e ≡ e
write-none e = grind (arith, common_steps)

read-none : (e : End) → end_read 0 e ≡ e
read-none e = grind (arith, common_steps)

-- ---- the calls

record Follows (c : StreamCall) (id : ℕ) (e : End) (s : Session) (o : Outcome) : Type 0 where
  next : End
  rule : EndRule (is_lost s.status) c e o.reply next
  has : Has s.table.window next (look id o.next.table.entries)

with-is : (id : ℕ) (f : End → Outcome) (e : End) (s : Session) → look id s.table.entries ≡ Some e → is_closed s.status ≡ false → at_stream id f s ≡ f e
with-is id f e s l c = rw (c, l) refl

taken-none : (n : ℕ) (bytes : List ℕ) → n ≡ 0 → take n bytes ≡ []
taken-none n bytes z = rw z refl

nothing : (n : ℕ) → (n == 0) ≡ true → n ≡ 0
nothing n t = grind (arith, nat_tests)

something : (n : ℕ) → not (n == 0) ≡ true → n ≢ 0
something n t z = grind (arith, nat_tests)

write-follows : (id : ℕ) (bytes : List ℕ) (e : End) (s : Session) → look id s.table.entries ≡ Some e → Follows (Writes bytes) id e s (write_outcome id bytes s e)
write-follows id bytes e s l =
    let r = write_reply (is_lost s.status) bytes e.phase e.writer.finished e.writer.credit in record {
      next = end_write (take (bytes_moved r) bytes) e;
      rule = inl (refl, refl);
      has = split (λ x. Has s.table.window (end_write (take (bytes_moved r) bytes) e) (look id x.table.entries)) (bytes_moved r == 0) s (on_stream id (end_write (take (bytes_moved r) bytes)) s)
          (λ t. has-some s.table.window _ _ (l ∙ ap Some (sym (ap (λ xs. end_write xs e) (taken-none (bytes_moved r) bytes (nothing (bytes_moved r) t)) ∙ write-none e))))
          (λ f. has-some s.table.window _ _ (on-look id (end_write (take (bytes_moved r) bytes)) e s l));
    }

read-length : (n : ℕ) (e : End) → end_read n e ≡ end_read (length (take n e.reader.unread)) e
read-length n e = grind (arith, common_steps)

-- a read gives as much as is there and asked for
read_as_much : (lost : Bool) (max : ℕ) (e : End) → (bytes_moved (read_reply lost max e.phase e.reader.unread e.reader.ended) == 0) ≡ false →
    end_read max e ≡ end_read (bytes_moved (read_reply lost max e.phase e.reader.unread e.reader.ended)) e
read_as_much lost max e f = of (is_reset e.phase) (is_live e.phase) (max == 0) (length e.reader.unread == 0) e.reader.ended lost refl refl refl refl refl refl
  where
    of : (a b c d g h : Bool) → is_reset e.phase ≡ a → is_live e.phase ≡ b → (max == 0) ≡ c → (length e.reader.unread == 0) ≡ d → e.reader.ended ≡ g → lost ≡ h →
        end_read max e ≡ end_read (bytes_moved (read_reply lost max e.phase e.reader.unread e.reader.ended)) e
    of true b c d g h p q r s t u = let z : (bytes_moved (read_reply lost max e.phase e.reader.unread e.reader.ended) == 0) ≡ true = rw p refl in absurd cc
    of false false c d g h p q r s t u = let z : (bytes_moved (read_reply lost max e.phase e.reader.unread e.reader.ended) == 0) ≡ true = rw (p, q) refl in absurd cc
    of false true true d g h p q r s t u = let z : (bytes_moved (read_reply lost max e.phase e.reader.unread e.reader.ended) == 0) ≡ true = rw (p, q, r) refl in absurd cc
    of false true false true true h p q r s t u = let z : (bytes_moved (read_reply lost max e.phase e.reader.unread e.reader.ended) == 0) ≡ true = rw (p, q, r, s, t) refl in absurd cc
    of false true false true false true p q r s t u = let z : (bytes_moved (read_reply lost max e.phase e.reader.unread e.reader.ended) == 0) ≡ true = rw (p, q, r, s, t, u) refl in absurd cc
    of false true false true false false p q r s t u = let z : (bytes_moved (read_reply lost max e.phase e.reader.unread e.reader.ended) == 0) ≡ true = rw (p, q, r, s, t, u) refl in absurd cc
    of false true false false g h p q r s t u = rw (p, q, r, s) (read-length max e)

read-follows : (id max : ℕ) (e : End) (s : Session) → look id s.table.entries ≡ Some e → Follows (Reads max) id e s (read_outcome id max s e)
read-follows id max e s l =
    let r = read_reply (is_lost s.status) max e.phase e.reader.unread e.reader.ended in record {
      next = end_read (bytes_moved r) e;
      rule = (refl, refl);
      has = split (λ x. Has s.table.window (end_read (bytes_moved r) e) (look id x.table.entries)) (bytes_moved r == 0) s (on_stream id (end_read max) s)
          (λ t. has-some s.table.window _ _ (l ∙ ap Some (sym (ap (λ n. end_read n e) (nothing (bytes_moved r) t) ∙ read-none e))))
          (λ f. has-some s.table.window _ _ (on-look id (end_read max) e s l ∙ ap Some (read_as_much (is_lost s.status) max e f)));
    }

-- where the reply is Done the stream has changed, and else not
done-follows : (window : ℕ) (id : ℕ) (r : Reply) (e f : End) (s changed : Session) → look id s.table.entries ≡ Some e → Has window f (look id changed.table.entries) →
    Has window (if is_done r then f else e) (look id (if_done r changed s).next.table.entries)
done-follows window id r e f s changed l h = of (is_done r) refl
  where
    of : (b : Bool) → is_done r ≡ b → Has window (if is_done r then f else e) (look id (if_done r changed s).next.table.entries)
    of true d = rw d h
    of false d = rw d (has-some window e (look id s.table.entries) l)

finish-follows : (id : ℕ) (e : End) (s : Session) → look id s.table.entries ≡ Some e → Follows Finishes id e s (finish_outcome id s e)
finish-follows id e s l =
    let r = finish_reply (is_lost s.status) e.phase e.writer.finished in record {
      next = if is_done r then end_finish e else e;
      rule = (refl, refl);
      has = done-follows s.table.window id r e (end_finish e) s (on_stream id end_finish s) l (has-some s.table.window _ _ (on-look id end_finish e s l));
    }

reset-follows : (id : ℕ) (e : End) (s : Session) → look id s.table.entries ≡ Some e → Follows Resets id e s (reset_outcome id s e)
reset-follows id e s l =
    let r = reset_reply (is_lost s.status) e.phase in record {
      next = if is_done r then end_reset WasReset e else e;
      rule = (refl, refl);
      has = done-follows s.table.window id r e (end_reset WasReset e) s (on_stream id (end_reset WasReset) s) l (has-some s.table.window _ _ (on-look id (end_reset WasReset) e s l));
    }

forget-follows : (id : ℕ) (e : End) (s : Session) → look id s.table.entries ≡ Some e → IsWithin s → Follows Forgets id e s (forget_outcome id s e)
forget-follows id e s l w =
    let r = forget_reply e.phase in
    let f = end_forget (is_lost s.status) in record {
      next = if is_done r then f e else e;
      rule = (refl, refl);
      has = done-follows s.table.window id r e (f e) s (reap id (on_stream id f s)) l
          (reaped-has id (f e) (on_stream id f s) (on-look id f e s l) (distinct-change id f s.table.entries w.table.distinct));
    }

-- a call that finds its memory
outcome-follows : (c : StreamCall) (id : ℕ) (e : End) (s : Session) → look id s.table.entries ≡ Some e → is_closed s.status ≡ false → IsWithin s → Follows c id e s (outcome (call_on c id) s)
outcome-follows (Writes bytes) id e s l c w =
    let P : Outcome → Type 0 = Follows (Writes bytes) id e s in subst P (sym (with-is id (write_outcome id bytes s) e s l c)) (write-follows id bytes e s l)
outcome-follows (Reads max) id e s l c w =
    let P : Outcome → Type 0 = Follows (Reads max) id e s in subst P (sym (with-is id (read_outcome id max s) e s l c)) (read-follows id max e s l)
outcome-follows Finishes id e s l c w =
    let P : Outcome → Type 0 = Follows Finishes id e s in subst P (sym (with-is id (finish_outcome id s) e s l c)) (finish-follows id e s l)
outcome-follows Resets id e s l c w =
    let P : Outcome → Type 0 = Follows Resets id e s in subst P (sym (with-is id (reset_outcome id s) e s l c)) (reset-follows id e s l)
outcome-follows Forgets id e s l c w =
    let P : Outcome → Type 0 = Follows Forgets id e s in subst P (sym (with-is id (forget_outcome id s) e s l c)) (forget-follows id e s l w)

-- and one that doesn't: only a write wants any
starves : (c : StreamCall) (id : ℕ) (e : End) (s : Session) → look id s.table.entries ≡ Some e → is_closed s.status ≡ false → takes_memory (call_on c id) s ≡ true →
    EndRule (is_lost s.status) c e (Refused (OutOfMemory evidence)) e
starves (Writes bytes) id e s l c m =
    let some = (both_of (nat_lt first_credit (unsent_count (look id s.table.entries) + bytes_moved (write_to id bytes s).reply)) (not (bytes_moved (write_to id bytes s).reply == 0)) m).1 in
    let same : (write_to id bytes s).reply ≡ write_reply (is_lost s.status) bytes e.phase e.writer.finished e.writer.credit = ap (λ o. o.reply) (with-is id (write_outcome id bytes s) e s l c) in
    let n : bytes_moved (write_to id bytes s).reply ≢ 0 = something (bytes_moved (write_to id bytes s).reply) some in
    inr (rw (← same) n, refl, refl)
starves (Reads max) id e s l c m = cc
starves Finishes id e s l c m = cc
starves Resets id e s l c m = cc
starves Forgets id e s l c m = cc

pub calls : (c : StreamCall) (id : ℕ) (e : End) (reply : Reply) (s t : Session) → look id s.table.entries ≡ Some e → is_closed s.status ≡ false → IsWithin s →
    CallGives s (call_on c id) reply t → (f : End) × EndRule (is_lost s.status) c e reply f × Has s.table.window f (look id t.table.entries)
calls c id e reply s t l open_ w (HasOutcome answer state) =
    let f = outcome-follows c id e s l open_ w in (f.next, rw answer f.rule, rw state f.has)
calls c id e reply s t l open_ w (NoMemory needs answer state) =
    (e, rw answer (starves c id e s l open_ needs), rw state (has-some s.table.window e (look id s.table.entries) l))
