-- A stream that is opened or accepted, and a frame of a stream that goes out, leave every other record as it was.
use Rattle.std.proofs.Common.{◌≡◌, ℕ, List, [], ◌∷◌, length, min, take, drop, Bool, true, false, ◌||◌, ◌==◌, nat_lt, nat_le, if◌then◌else◌, Option, None, Some, count_by, refl, sym, subst}
use Rattle.ymx_machine.specs.declared.types.Call.TheVariants as call
use Rattle.ymx_machine.specs.declared.types.Reply.TheVariants.{Accepted, Opened, OpenedWith}
use Rattle.ymx_machine.specs.declared.types.CallFault.TheVariants as fault
use Rattle.ymx_machine.specs.shared.Limits.{first_credit, most_records, most_unacknowledged}
use Rattle.ymx_model.specs.session.Records.{End, end_accept}
use Rattle.ymx_model.specs.declared.types.FrameKind.{FrameKind}
use Rattle.ymx_model.specs.session.FramesDue.{next_kind, begin_frame, spelled}
use Rattle.ymx_machine.specs.shared.Lists.{look}
use Rattle.ymx_model.specs.session.Tables.{with_record, pass_turn}
use Rattle.ymx_model.specs.session.Sessions.{Session, nothing_outgoing, is_running, is_lost, is_closed, on_stream}
use Rattle.ymx_model.specs.session.Calls.{Outcome, outcome, answers, accept_of, open_or, session_opened, refused, is_unacknowledged}
use Rattle.ymx_model.specs.session.Emissions.{begin, begin_stream, begin_kind, moves_on, reaps}
use Rattle.ymx_model.specs.session.Emissions.Choice.{AStream}
use Rattle.ymx_law_session.specs.Refusals.{OthersSame}
use Rattle.ymx_machine.proofs.Tests.{split}
use Rattle.ymx_machine.proofs.Lists.{look-change_other, look-added_other}
use Rattle.ymx_law_session.proofs.limits.EmissionsKeep.{if_some, none_if}
use Rattle.ymx_law_session.proofs.nothing_else.Others.{OthersIn, others-reaped}

-- ---- opening

open-or : (s : Session) (o : Outcome) → OthersIn s.next s o → OthersIn s.next s (open_or s o)
open-or s o h =
    let P = OthersIn s.next s in
    let same : (f : _) → P (refused f s) = λ f j n. refl in
    split P (is_closed s.status) (refused fault.Closed s) _ (λ e. same fault.Closed) (λ e.
    split P (is_lost s.status) (refused fault.Lost s) _ (λ e. same fault.Lost) (λ e.
    split P s.away.there (refused fault.PeerAway s) _ (λ e. same fault.PeerAway) (λ e.
    split P (nat_le 4294967294 s.next) (refused fault.Exhausted s) _ (λ e. same fault.Exhausted) (λ e.
    split P (nat_le most_unacknowledged (count_by (is_unacknowledged s.role) s.table.entries)) (refused fault.OpensPending s) (if nat_le most_records (length s.table.entries) then refused fault.TooMany s else o) (λ e. same fault.OpensPending) (λ e.
    split P (nat_le most_records (length s.table.entries)) (refused fault.TooMany s) o (λ e. same fault.TooMany) (λ e. h))))))

pub open-others : (s : Session) → OthersSame s.next s (outcome call.Open s).next
open-others s = open-or s (answers (Opened s.next) (session_opened false [] s)) (λ j n. look-added_other s.next j _ s.table.entries n)

pub open_with-others : (bytes : List ℕ) (s : Session) → OthersSame s.next s (outcome (call.OpenWith bytes) s).next
open_with-others bytes s =
    open-or s (answers (OpenedWith s.next (min (length bytes) first_credit)) (session_opened true (take first_credit bytes) s)) (λ j n. look-added_other s.next j _ s.table.entries n)

-- ---- accepting

pub accept-others : (id : ℕ) (s : Session) → (outcome call.Accept s).reply ≡ Accepted (Some id) → OthersSame id s (outcome call.Accept s).next
accept-others id s = by (is_closed s.status) s.offered
  where
    of : (ids : List ℕ) → (accept_of ids s).reply ≡ Accepted (Some id) → OthersSame id s (accept_of ids s).next
    of [] e = split (λ o. o.reply ≡ Accepted (Some id) → OthersSame id s o.next) (is_lost s.status) (refused fault.Lost s) (answers (Accepted None) s) (λ l r. λ j n. refl) (λ l r. λ j n. refl) e
    of (x ∷ xs) e = let same : x ≡ id = cc in
        subst (λ y. OthersSame y s (on_stream x (end_accept (is_lost s.status)) (record s { offered = xs }))) same (λ j n. look-change_other x j _ s.table.entries n)

    by : (b : Bool) (ids : List ℕ) → (if b then refused fault.Closed s else accept_of ids s).reply ≡ Accepted (Some id) → OthersSame id s (if b then refused fault.Closed s else accept_of ids s).next
    by true ids e = λ j n. refl
    by false ids e = of ids e

-- ---- frames that go out

begun-others : (id limit : ℕ) (e : End) (k : Option FrameKind) (s t : Session) → begin_kind id limit e k s ≡ Some t → OthersSame id s t
begun-others id limit e None s t b = cc
begun-others id limit e (Some kind) s t b =
    let u = record s {
      table = pass_turn id (with_record id (begin_frame s.table.window limit kind) s.table);
      outgoing = record { bytes = spelled kind s.table.window limit id e; of = Some id };
    } in
    let is : t ≡ u = cc in
    subst (OthersSame id s) (sym is) (λ j n. look-change_other id j (begin_frame s.table.window limit kind) s.table.entries n)

stream-others : (id limit : ℕ) (o : Option End) (s t : Session) → begin_stream id limit o s ≡ Some t → OthersSame id s t
stream-others id limit None s t b = cc
stream-others id limit (Some e) s t b =
    begun-others id limit e (next_kind s.table.window e) s t (none_if (limit == 0 || nat_lt first_credit limit) (begin_kind id limit e (next_kind s.table.window e) s) t b).1

pub begin-others : (id limit : ℕ) (s t : Session) → begin (AStream id limit) s ≡ Some t → OthersSame id s t
begin-others id limit s t b = stream-others id limit (look id s.table.entries) s t (if_some (is_running s.status) (begin_stream id limit (look id s.table.entries) s) t b).1

pub moves-others : (n id : ℕ) (s : Session) → s.outgoing.of ≡ Some id → OthersSame id s (moves_on n s)
moves-others n id s e =
    split (OthersSame id s) (nat_lt n (length s.outgoing.bytes)) (record s { outgoing = record { bytes = drop n s.outgoing.bytes; of = s.outgoing.of } }) (reaps s.outgoing.of (record s { outgoing = nothing_outgoing }))
    (λ l j m. refl)
    (λ l. subst (λ o. OthersSame id s (reaps o (record s { outgoing = nothing_outgoing }))) (sym e) (others-reaped id s (record s { outgoing = nothing_outgoing }) (λ j m. refl)))
