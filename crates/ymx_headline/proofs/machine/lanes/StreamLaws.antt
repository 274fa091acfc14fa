-- What happens to a stream keeps the law of its lanes.
use Rattle.std.proofs.Common.{◌≡◌, ◌⊎◌, inl, inr, ℕ, ◌≤◌, List, length, take, Bool, true, false, not, refl, sym, ap, subst, arith}
use Rattle.ymx_machine.specs.shared.Events.{Reply}
use Rattle.ymx_machine.specs.stream.Lanes.{Mark, new_lane, is_unsaid}
use Rattle.ymx_machine.specs.shared.Limits.{first_credit}
use Rattle.ymx_machine.specs.shared.Phases.{Phase, struck, is_up, takes, is_unborn}
use Rattle.ymx_machine.specs.stream.Streams.{Stream, flip, opened_stream, Move, Allowed, after_move, stream_write, stream_accept, stream_forget, stream_reset}
use Rattle.ymx_machine.specs.stream.Streams.Move.{Arrive, EndArrives, Return, SynOffered, SynRefused, AckArrives, ResetArrives, Released}
use Rattle.ymx_machine.specs.shared.Phases.Phase.{Live, Offered, WasReset, Lingering, Refused, Gone, Unborn}
use Rattle.ymx_machine.specs.stream.StreamRules.{StreamCall, StreamRule, ResetsTo, forgets_quietly}
use Rattle.std.specs.Prelude.{MatchBool}
use Rattle.ymx_machine.specs.shared.Replies.{bytes_moved, is_done}
use Rattle.ymx_machine.specs.stream.StreamRules.StreamCall.{Writes, Reads, Finishes, Resets, Forgets}
use Rattle.ymx_machine.proofs.Tests.{when}
use Rattle.ymx_headline.specs.machine.LaneLaws.{ObeysWindows}
use Rattle.ymx_headline.proofs.machine.lanes.LaneLaws.{law-new, law-write, law-arrive, law-vanish, law-read, law-return, law-fin, law-empty, law-cut, law-struck_writer, law-struck_reader, law-phases}
use Rattle.ymx_headline.proofs.machine.lanes.StreamFacts.{if-so_true, if-so_false, write-fits, born-up}

pub laws-flip : (mine yours : ℕ) (s : Stream) → ObeysWindows mine yours s → ObeysWindows yours mine (flip s)
laws-flip mine yours s c = record { outbound = c.inbound; inbound = c.outbound }

pub laws-unflip : (mine yours : ℕ) (s : Stream) → ObeysWindows mine yours (flip s) → ObeysWindows yours mine s
laws-unflip mine yours s c = record { outbound = c.inbound; inbound = c.outbound }

arrives : (mine yours n : ℕ) (s : Stream) → is_unborn s.me ≡ false → (takes s.me ≡ true) ⊎ (takes s.me ≡ false) →
    ObeysWindows mine yours s → ObeysWindows mine yours (after_move (Arrive n) s)
arrives mine yours n s b (inl t) c = record { outbound = c.outbound; inbound = rw t (law-arrive mine s.you s.me n s.inbound t c.inbound) }
arrives mine yours n s b (inr t) c = record { outbound = c.outbound; inbound = rw t (law-vanish mine s.you s.me n s.inbound (born-up s.me b t) c.inbound) }

pub struck-down : (p : Phase) → is_unborn p ≡ false → is_up (struck p) ≡ false
struck-down p b = grind arith

-- an end that goes another way comes up only if it was up
pub laws-me : (mine yours : ℕ) (p : Phase) (s : Stream) → (is_up p ≡ true → is_up s.me ≡ true) → (takes p ≡ false → takes s.me ≡ false) →
    ObeysWindows mine yours s → ObeysWindows mine yours (record s { me = p })
laws-me mine yours p s f t c = record {
  outbound = law-phases yours s.me p s.you s.you s.outbound f (λ u. u) (λ u. u) c.outbound;
  inbound = law-phases mine s.you s.you s.me p s.inbound (λ u. u) f t c.inbound;
}

pub laws-move : (mine yours : ℕ) (m : Move) (s : Stream) → Allowed m s → ObeysWindows mine yours s → ObeysWindows mine yours (after_move m s)
laws-move mine yours (Arrive n) s a c = arrives mine yours n s a.0 (when (takes s.me)) c
laws-move mine yours EndArrives s a c = record { outbound = c.outbound; inbound = law-fin mine s.you s.me _ s.inbound c.inbound }
laws-move mine yours (Return n) s a c = record { outbound = law-return yours s.me s.you n s.outbound a.1 c.outbound; inbound = c.inbound }
laws-move mine yours SynOffered s a c = laws-me mine yours Offered s (λ u. ap is_up a) (λ u. absurd (cc)) c
laws-move mine yours SynRefused s a c = let k = laws-me mine yours Refused s (λ u. absurd (cc)) (λ u. ap takes a) c in record { outbound = k.outbound; inbound = k.inbound }
laws-move mine yours AckArrives s a c = record { outbound = c.outbound; inbound = c.inbound }
laws-move mine yours ResetArrives s a c = record {
  outbound = law-struck_writer yours s.me (struck s.me) s.you s.outbound (struck-down s.me a.1) c.outbound;
  inbound = law-struck_reader mine s.you s.me (struck s.me) s.inbound (struck-down s.me a.1) c.inbound;
}
laws-move mine yours Released s a c = laws-me mine yours Gone s (λ u. absurd (cc)) (λ u. ap takes a) c

laws-is : (mine yours : ℕ) (s t : Stream) → t ≡ s → ObeysWindows mine yours s → ObeysWindows mine yours t
laws-is mine yours s t e c = subst (ObeysWindows mine yours) (sym e) c

pub laws-new : (mine yours : ℕ) (bytes : List ℕ) → first_credit ≤ mine → first_credit ≤ yours → length bytes ≤ first_credit →
    ObeysWindows mine yours (stream_write bytes (opened_stream mine yours))
laws-new mine yours bytes a b fits = record {
  outbound = law-write yours Live Unborn bytes (new_lane yours) fits (law-new yours Live Unborn b);
  inbound = law-new mine Unborn Live a;
}

laws-reset : (mine yours n : ℕ) (p : Phase) (m a : Mark) (s : Stream) → is_up p ≡ false → ObeysWindows mine yours s → ObeysWindows mine yours (stream_reset p n m a s)
laws-reset mine yours n p m a s d c = record {
  outbound = law-cut yours s.me p s.you n m s.outbound d c.outbound;
  inbound = law-empty mine s.you s.me p s.inbound d c.inbound;
}

laws-resets : (mine yours : ℕ) (p : Phase) (s t : Stream) → is_up p ≡ false → ResetsTo p s t → ObeysWindows mine yours s → ObeysWindows mine yours t
laws-resets mine yours p s t d h c = laws-is mine yours _ t h.4 (laws-reset mine yours h.0 p h.1 h.2 s d c)

laws-forget : (mine yours : ℕ) (s : Stream) → ObeysWindows mine yours s → ObeysWindows mine yours (stream_forget s)
laws-forget mine yours s c = record {
  outbound = law-phases yours s.me Lingering s.you s.you s.outbound (λ u. absurd (cc)) (λ u. u) (λ u. u) c.outbound;
  inbound = law-empty mine s.you s.me Lingering s.inbound refl c.inbound;
}

pub laws-accept : (mine yours : ℕ) (lost : Bool) (s : Stream) → s.me ≡ Offered → ObeysWindows mine yours s → ObeysWindows mine yours (stream_accept lost s)
laws-accept mine yours lost s o c = record {
  outbound = law-phases yours s.me Live s.you s.you s.outbound (λ u. ap is_up o) (λ u. u) (λ u. u) c.outbound;
  inbound = law-phases mine s.you s.you s.me Live s.inbound (λ u. u) (λ u. ap is_up o) (λ u. absurd (cc)) c.inbound;
}

laws-forgets : (mine yours : ℕ) (lost : Bool) (s t : Stream) → (forgets_quietly lost s ≡ true) ⊎ (forgets_quietly lost s ≡ false) →
    MatchBool (forgets_quietly lost s) (t ≡ stream_forget s) (ResetsTo Lingering s t) → ObeysWindows mine yours s → ObeysWindows mine yours t
laws-forgets mine yours lost s t (inl q) h c = laws-is mine yours _ t (if-so_true _ _ _ q h) (laws-forget mine yours s c)
laws-forgets mine yours lost s t (inr q) h c = laws-resets mine yours Lingering s t refl (if-so_false _ _ _ q h) c

pub laws-rule : (mine yours : ℕ) (lost : Bool) (c : StreamCall) (s t : Stream) (r : Reply) → StreamRule lost c s r t → ObeysWindows mine yours s → ObeysWindows mine yours t
laws-rule mine yours lost (Writes bytes) s t r (inl h) c =
    laws-is mine yours _ t h.1 (record {
      outbound = law-write yours s.me s.you _ s.outbound (subst (λ (x : Reply). length (take (bytes_moved x) bytes) ≤ s.outbound.credit) (sym h.0) (write-fits lost bytes s.me (not (is_unsaid s.outbound.fin)) s.outbound.credit)) c.outbound;
      inbound = c.inbound;
    })
laws-rule mine yours lost (Writes bytes) s t r (inr h) c = laws-is mine yours s t h.2 c
laws-rule mine yours lost (Reads max) s t r h c = laws-is mine yours _ t h.1 (record { outbound = c.outbound; inbound = law-read mine s.you s.me (bytes_moved r) s.inbound c.inbound })
laws-rule mine yours lost Finishes s t r h c = elim (when (is_done r)) [
  | inl d ↦ laws-is mine yours _ t (rw d at h.1) (record { outbound = law-fin yours s.me s.you _ s.outbound c.outbound; inbound = c.inbound })
  | inr d ↦ laws-is mine yours s t (rw d at h.1) c
]
laws-rule mine yours lost Resets s t r h c = elim (when (is_done r)) [
  | inl d ↦ laws-resets mine yours WasReset s t refl (if-so_true _ _ _ d h.1) c
  | inr d ↦ laws-is mine yours s t (if-so_false _ _ _ d h.1) c
]
laws-rule mine yours lost Forgets s t r h c = elim (when (is_done r)) [
  | inl d ↦ laws-forgets mine yours lost s t (when (forgets_quietly lost s)) (if-so_true _ _ _ d h.1) c
  | inr d ↦ laws-is mine yours s t (if-so_false _ _ _ d h.1) c
]
