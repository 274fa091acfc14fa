-- A refusal changes nothing, and what concerns one stream leaves every other record as it was.
use Rattle.std.proofs.Common.{◌≡◌, ℕ, List, [], ◌∷◌, length, Bool, true, false, ◌==◌, nat_le, if◌then◌else◌, Option, None, Some, refl, sym, arith}
use Rattle.std.specs.Prelude.{count_by}
use Rattle.std.proofs.lemmas.Bool.Decides.{nat_tests}
use Rattle.ymx_machine.specs.shared.Events.{Reply}
use Rattle.ymx_machine.specs.declared.types.Reply.TheVariants.{Done, Wrote, Read}
use Rattle.ymx_machine.specs.shared.Events.{Call}
use Rattle.ymx_machine.specs.declared.types.Call.TheVariants as call
use Rattle.ymx_machine.specs.shared.Replies.{bytes_moved, is_done}
use Rattle.ymx_model.specs.session.Records.{End}
use Rattle.ymx_machine.specs.shared.Limits.{most_pings, most_records, most_unacknowledged}
use Rattle.ymx_model.specs.session.Pings.{has_back}
use Rattle.ymx_machine.specs.shared.Lists.{look}
use Rattle.ymx_model.specs.session.Sessions.{Session, is_lost, is_closed}
use Rattle.ymx_model.specs.session.Calls.{Outcome, outcome, open_or, accept_of, at_stream, at_record, write_outcome, read_outcome, finish_outcome, reset_outcome, forget_outcome, is_unacknowledged}
use Rattle.ymx_law_session.specs.Refusals.{reply_is_refused}
use Rattle.ymx_machine.proofs.Tests.{split}

-- a refusal of this outcome leaves s
abbrev pub Leaves : Session → Outcome → Type 0
Leaves s o = reply_is_refused o.reply ≡ true → o.next ≡ s

-- a refusal moves nothing and is not Done
refused_moves : (r : Reply) → reply_is_refused r ≡ true → bytes_moved r ≡ 0
refused_moves (Wrote w) e = cc
refused_moves (Read bytes) e = cc
refused_moves _ e = refl

refused_done : (r : Reply) → reply_is_refused r ≡ true → is_done r ≡ false
refused_done Done e = sym e
refused_done _ e = refl

moves_none : (n : ℕ) → n ≡ 0 → (n == 0) ≡ true
moves_none n e = grind (arith, nat_tests)

open_leaves : (s : Session) (o : Outcome) → Leaves s o → Leaves s (open_or s o)
open_leaves s o l =
    let Q = Leaves s in
    split Q (is_closed s.status) _ _ (λ t r. refl) (λ f1.
    split Q (is_lost s.status) _ _ (λ t r. refl) (λ f2.
    split Q s.away.there _ _ (λ t r. refl) (λ f3.
    split Q (nat_le 4294967294 s.next) _ _ (λ t r. refl) (λ f4.
    split Q (nat_le most_unacknowledged (count_by (is_unacknowledged s.role) s.table.entries)) _ _ (λ t r. refl) (λ f5.
    split Q (nat_le most_records (length s.table.entries)) _ _ (λ t r. refl) (λ f6. l))))))

record_leaves : (f : End → Outcome) (s : Session) (o : Option End) → ((e : End) → Leaves s (f e)) → Leaves s (at_record f s o)
record_leaves f s None l = λ r. refl
record_leaves f s (Some e) l = l e

with_leaves : (id : ℕ) (f : End → Outcome) (s : Session) → ((e : End) → Leaves s (f e)) → Leaves s (at_stream id f s)
with_leaves id f s l = split (Leaves s) (is_closed s.status) _ _ (λ t r. refl) (λ n. record_leaves f s (look id s.table.entries) l)

accept_leaves : (ids : List ℕ) (s : Session) → Leaves s (accept_of ids s)
accept_leaves [] s = split (Leaves s) (is_lost s.status) _ _ (λ t r. refl) (λ f r. refl)
accept_leaves (id ∷ ids) s = λ r. cc

if_moved : (n : ℕ) (s t : Session) → n ≡ 0 → (if n == 0 then s else t) ≡ s
if_moved n s t e = rw (moves_none n e) refl

if_not_done : (b : Bool) (s t : Session) → b ≡ false → (if b then t else s) ≡ s
if_not_done b s t e = rw e refl

-- a refusal changes nothing
pub refusals : (c : Call) (s : Session) → Leaves s (outcome c s)
refusals call.Open s = open_leaves s _ (λ r. cc)
refusals (call.OpenWith bytes) s = open_leaves s _ (λ r. cc)
refusals call.Accept s = split (Leaves s) (is_closed s.status) _ _ (λ t r. refl) (λ f. accept_leaves s.offered s)
refusals (call.Write id bytes) s = with_leaves id (write_outcome id bytes s) s (λ e r. if_moved _ s _ (refused_moves _ r))
refusals (call.Read id max) s = with_leaves id (read_outcome id max s) s (λ e r. if_moved _ s _ (refused_moves _ r))
refusals (call.Finish id) s = with_leaves id (finish_outcome id s) s (λ e r. if_not_done _ s _ (refused_done _ r))
refusals (call.Reset id) s = with_leaves id (reset_outcome id s) s (λ e r. if_not_done _ s _ (refused_done _ r))
refusals (call.Forget id) s = with_leaves id (forget_outcome id s) s (λ e r. if_not_done _ s _ (refused_done _ r))
refusals call.Ping s =
    let Q = Leaves s in
    split Q (is_closed s.status) _ _ (λ t r. refl) (λ f. split Q (is_lost s.status) _ _ (λ t r. refl) (λ g.
    split Q (nat_le most_pings (length s.pings.pending)) _ _ (λ t r. refl) (λ k r. cc)))
refusals (call.Ponged n) s =
    let Q = Leaves s in
    split Q (is_closed s.status) _ _ (λ t r. refl) (λ f. split Q (has_back n s.pings.pending) _ _ (λ t r. cc) (λ g.
    split Q (is_lost s.status) _ _ (λ t r. refl) (λ k r. refl)))
refusals call.GoAway s =
    let Q = Leaves s in
    split Q (is_closed s.status) _ _ (λ t r. refl) (λ f. split Q (is_lost s.status) _ _ (λ t r. refl) (λ g r. cc))
refusals call.Close s = λ r. cc
