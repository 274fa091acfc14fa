-- What calls and frames do to a record keeps it within its limits.
use Rattle.std.proofs.Common.{◌≡◌, ℕ, ◌+◌, ◌≤◌, List, length, drop, min, Bool, true, false, ◌&&◌, refl, sym, ◌∙◌, arith, length-append, length-drop}
use Rattle.ymx_machine.specs.shared.Limits.{first_credit}
use Rattle.ymx_machine.specs.shared.Phases.{Phase, takes, is_offered, is_reset, is_recorded, struck}
use Rattle.ymx_machine.specs.shared.Phases.Phase.{Lingering}
use Rattle.ymx_model.specs.session.Records.{End, Reader, window_held, new_end, end_write, end_read, end_finish, end_accept, end_reset, end_forget, takes_payload, receive_data, receive_credit, receive_fin, receive_piece, receive_ack, receive_rst, reader_announce}
use Rattle.ymx_model.specs.declared.types.FrameKind.{FrameKind}
use Rattle.ymx_model.specs.session.FramesDue.{begin_frame}
use Rattle.ymx_model.specs.declared.types.FrameKind.TheVariants.{Open, OpenWith, Accept, Reset, Credit, Data, Fin}
use Rattle.ymx_law_session.specs.Limits.{IsEndWithin, IsSilent}
use Rattle.ymx_machine.proofs.Tests.{split}

new_silent : (window : ℕ) (p : Phase) (syn with_data : Bool) → (is_offered p ≡ true → syn ≡ false) → is_offered p ≡ true → IsSilent (new_end window p syn with_data)
new_silent window p syn with_data q o = record { syn = q o; ack = refl; rst = refl; unsent = refl; finished = refl }

pub new-within : (window : ℕ) (p : Phase) (syn with_data : Bool) → first_credit ≤ window → is_recorded p ≡ true → (is_offered p ≡ true → syn ≡ false) →
    IsEndWithin window (new_end window p syn with_data)
new-within window p syn with_data w r q = record {
  phase = r;
  within = omega arith;
  all = λ t. omega arith;
  credit = omega arith;
  offered = new_silent window p syn with_data q;
}

-- ---- calls, on a record that isn't merely offered

pub write-within : (window : ℕ) (bytes : List ℕ) (e : End) → is_offered e.phase ≡ false → IsEndWithin window e → IsEndWithin window (end_write bytes e)
write-within window bytes e n h = record { phase = h.phase; within = h.within; all = h.all; credit = omega (arith, h.credit); offered = λ o. cc }

read_sum : (n : ℕ) (r : Reader) → length (drop n r.unread) + r.granted + (r.owed + min n (length r.unread)) ≡ length r.unread + r.granted + r.owed
read_sum n r = omega (arith, length-drop n r.unread)

pub read-within : (window n : ℕ) (e : End) → is_offered e.phase ≡ false → IsEndWithin window e → IsEndWithin window (end_read n e)
read-within window n e o h = record {
  phase = h.phase;
  within = omega (arith, read_sum n e.reader, h.within);
  all = λ t. read_sum n e.reader ∙ h.all t;
  credit = h.credit;
  offered = λ q. cc;
}

pub finish-within : (window : ℕ) (e : End) → is_offered e.phase ≡ false → IsEndWithin window e → IsEndWithin window (end_finish e)
finish-within window e n h = record { phase = h.phase; within = h.within; all = h.all; credit = h.credit; offered = λ o. cc }

pub takes_offered : (p : Phase) → is_offered p ≡ true → takes p ≡ true
takes_offered p e = grind arith

pub accept-within : (window : ℕ) (lost : Bool) (e : End) → is_offered e.phase ≡ true → IsEndWithin window e → IsEndWithin window (end_accept lost e)
accept-within window lost e o h = record {
  phase = refl;
  within = h.within;
  all = λ t. h.all (takes_offered e.phase o);
  credit = h.credit;
  offered = λ q. cc;
}

pub reset-within : (window : ℕ) (p : Phase) (e : End) → is_recorded p ≡ true → takes p ≡ false → is_offered p ≡ false → IsEndWithin window (end_reset p e)
reset-within window p e r t o = record { phase = r; within = omega arith; all = λ q. cc; credit = omega arith; offered = λ q. cc }

dead-lingering : (window : ℕ) (e : End) → e.phase ≡ Lingering → window_held e.reader ≤ window → e.writer.credit ≤ 4294967295 → IsEndWithin window e
dead-lingering window e p w c = record {
  phase = rw p refl;
  within = w;
  all = λ q. let n : takes e.phase ≡ false = rw p refl in cc;
  credit = c;
  offered = λ q. let n : is_offered e.phase ≡ false = rw p refl in cc;
}

pub forget-within : (window : ℕ) (lost : Bool) (e : End) → IsEndWithin window e → IsEndWithin window (end_forget lost e)
forget-within window lost e h =
    split (IsEndWithin window) lost _ _ (λ t. dead-lingering window _ refl (omega arith) (omega arith)) (λ f.
    split (IsEndWithin window) (is_reset e.phase) _ _ (λ t. dead-lingering window _ refl h.within h.credit) (λ g.
    split (IsEndWithin window) (e.writer.finished && e.reader.ended) _ _ (λ t. dead-lingering window _ refl (omega (arith, h.within)) h.credit) (λ k.
    reset-within window Lingering e refl refl refl)))

-- ---- frames that come

silent_same : (d e : End) → d.marks.syn ≡ e.marks.syn → d.marks.ack ≡ e.marks.ack → d.marks.rst ≡ e.marks.rst → d.writer.unsent ≡ e.writer.unsent → d.writer.finished ≡ e.writer.finished → IsSilent d → IsSilent e
silent_same d e s a r u f h = record { syn = sym s ∙ h.syn; ack = sym a ∙ h.ack; rst = sym r ∙ h.rst; unsent = sym u ∙ h.unsent; finished = sym f ∙ h.finished }

pub data-within : (window : ℕ) (bytes : List ℕ) (e : End) → (takes_payload e ≡ true → length bytes ≤ e.reader.granted) → IsEndWithin window e → IsEndWithin window (receive_data bytes e)
data-within window bytes e fits h =
    split (IsEndWithin window) (takes_payload e) _ _ (λ t. let l = fits t in record {
      phase = h.phase;
      within = omega (arith, h.within, length-append e.reader.unread bytes);
      all = λ q. omega (arith, h.all q, length-append e.reader.unread bytes);
      credit = h.credit;
      offered = λ o. silent_same e _ refl refl refl refl refl (h.offered o);
    }) (λ f. h)

pub credit-within : (window d : ℕ) (e : End) → (takes e.phase ≡ true → e.writer.credit + d ≤ 4294967295) → IsEndWithin window e → IsEndWithin window (receive_credit d e)
credit-within window d e fits h =
    split (IsEndWithin window) (takes e.phase) _ _ (λ t. let l = fits t in record {
      phase = h.phase;
      within = h.within;
      all = h.all;
      credit = l;
      offered = λ o. silent_same e _ refl refl refl refl refl (h.offered o);
    }) (λ f. h)

pub fin-within : (window : ℕ) (e : End) → IsEndWithin window e → IsEndWithin window (receive_fin e)
fin-within window e h =
    split (IsEndWithin window) (takes_payload e) _ _ (λ t. record {
      phase = h.phase;
      within = h.within;
      all = h.all;
      credit = h.credit;
      offered = λ o. silent_same e _ refl refl refl refl refl (h.offered o);
    }) (λ f. h)

pub piece-within : (window : ℕ) (fin : Bool) (bytes : List ℕ) (e : End) → (takes_payload e ≡ true → length bytes ≤ e.reader.granted) →
    IsEndWithin window e → IsEndWithin window (receive_piece fin bytes e)
piece-within window true bytes e fits h = fin-within window _ (data-within window bytes e fits h)
piece-within window false bytes e fits h = data-within window bytes e fits h

pub ack-within : (window : ℕ) (e : End) → IsEndWithin window e → IsEndWithin window (receive_ack e)
ack-within window e h = record {
  phase = h.phase;
  within = h.within;
  all = h.all;
  credit = h.credit;
  offered = λ o. silent_same e _ refl refl refl refl refl (h.offered o);
}

struck_recorded : (p : Phase) → is_recorded p ≡ true → is_offered p ≡ false → (is_recorded (struck p) ≡ true) × (takes (struck p) ≡ false) × (is_offered (struck p) ≡ false)
struck_recorded p r o = grind arith

pub rst-within : (window : ℕ) (e : End) → is_offered e.phase ≡ false → IsEndWithin window e → IsEndWithin window (receive_rst e)
rst-within window e o h =
    let s = struck_recorded e.phase h.phase o in
    record { phase = s.0; within = omega arith; all = λ q. cc; credit = omega arith; offered = λ q. cc }

-- ---- frames that go

announce_sum : (n : ℕ) (r : Reader) → window_held (reader_announce n r) ≡ window_held r
announce_sum n r = omega arith

pub sends-within : (window limit : ℕ) (kind : FrameKind) (e : End) → is_offered e.phase ≡ false → IsEndWithin window e → IsEndWithin window (begin_frame window limit kind e)
sends-within window limit Open e o h =
    record { phase = h.phase; within = omega (arith, h.within); all = λ q. announce_sum _ e.reader ∙ h.all q; credit = h.credit; offered = λ q. cc }
sends-within window limit OpenWith e o h = record { phase = h.phase; within = h.within; all = h.all; credit = h.credit; offered = λ q. cc }
sends-within window limit Accept e o h =
    record { phase = h.phase; within = omega (arith, h.within); all = λ q. announce_sum _ e.reader ∙ h.all q; credit = h.credit; offered = λ q. cc }
sends-within window limit Reset e o h = record { phase = h.phase; within = h.within; all = h.all; credit = h.credit; offered = λ q. cc }
sends-within window limit Credit e o h =
    record { phase = h.phase; within = omega (arith, h.within); all = λ q. announce_sum _ e.reader ∙ h.all q; credit = h.credit; offered = λ q. cc }
sends-within window limit Data e o h = record { phase = h.phase; within = h.within; all = h.all; credit = h.credit; offered = λ q. cc }
sends-within window limit Fin e o h = record { phase = h.phase; within = h.within; all = h.all; credit = h.credit; offered = λ q. cc }
