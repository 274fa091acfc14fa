-- What happens to a stream keeps the faces of its lanes.
use Rattle.std.proofs.Common.{◌≡◌, ◌⊎◌, inl, inr, ℕ, ◌≤◌, List, [], ◌∷◌, ◌++◌, length, take, drop, Bool, true, false, not, ◌==◌, if◌then◌else◌, refl, sym, ◌∙◌, ap, subst, append-nil, arith}
use Rattle.std.proofs.lemmas.Bool.Decides.{nat_tests}
use Rattle.ymx_machine.specs.shared.Events.{Reply}
use Rattle.ymx_machine.specs.declared.types.Reply.TheVariants as reply
use Rattle.ymx_machine.specs.declared.types.Wrote.TheVariants.{Took}
use Rattle.ymx_machine.specs.stream.Lanes.{Mark, Lane, new_lane, is_unsaid, is_here, lane_arrive, lane_vanish, lane_struck}
use Rattle.ymx_machine.specs.shared.Limits.{first_credit}
use Rattle.ymx_machine.specs.stream.Lanes.Mark.{Said, Here}
use Rattle.ymx_machine.specs.shared.Phases.{Phase, struck, is_up, takes, is_unborn}
use Rattle.ymx_machine.specs.stream.Streams.{Stream, flip, opened_stream, Move, Allowed, after_move, stream_write, stream_read, stream_finish, stream_accept, stream_forget, stream_reset}
use Rattle.ymx_machine.specs.stream.Streams.Move.{Arrive, EndArrives, Return, SynOffered, SynRefused, AckArrives, ResetArrives, Released}
use Rattle.ymx_machine.specs.shared.Phases.Phase.{Live, Offered, WasReset, Lingering, Refused, Gone, Unborn}
use Rattle.ymx_machine.specs.stream.StreamRules.{StreamCall, StreamRule, ResetsTo, forgets_quietly}
use Rattle.std.specs.Prelude.{MatchBool}
use Rattle.ymx_machine.specs.shared.Replies.{bytes_moved, is_done, write_reply, read_reply, forget_reply}
use Rattle.ymx_machine.specs.stream.StreamRules.StreamCall.{Writes, Reads, Finishes, Resets, Forgets}
use Rattle.ymx_machine.proofs.Tests.{when}
use Rattle.ymx_headline.proofs.machine.faces.Pasts.{Past, HasFace, IsWhole, HasFaces}
use Rattle.ymx_headline.proofs.machine.lanes.LaneLaws.{lists}
use Rattle.ymx_headline.proofs.machine.faces.LaneFaces.{wrote, gave, face-new, face-write, face-arrive, face-vanish, face-end, face-read, face-return, face-finish, face-over, face-empty, face-cut, face-struck, face-phases}
use Rattle.ymx_headline.proofs.machine.lanes.StreamFacts.{if-so_true, if-so_false, write-fits, write-live, read-live, read-over, finish-live, reset-live, live-up, takes-up, born-up}
use Rattle.ymx_headline.proofs.machine.lanes.StreamLaws.{struck-down}
use Rattle.ymx_headline.proofs.machine.order.Maps.{flip-back}

pub faces-flip : (mine yours : ℕ) (s : Stream) (po pi : Past) → HasFaces mine yours s po pi → HasFaces yours mine (flip s) pi po
faces-flip mine yours s po pi c = record { outbound = c.inbound; inbound = c.outbound; rst_outbound = c.rst_inbound; rst_inbound = c.rst_outbound; came_outbound = c.came_inbound; came_inbound = c.came_outbound; whole_outbound = c.whole_inbound; whole_inbound = c.whole_outbound }

pub faces-unflip : (mine yours : ℕ) (s : Stream) (po pi : Past) → HasFaces mine yours (flip s) po pi → HasFaces yours mine s pi po
faces-unflip mine yours s po pi c = subst (λ (x : Stream). HasFaces yours mine x pi po) (flip-back s) (faces-flip mine yours (flip s) po pi c)

-- only the lane that is read changes, and its past
inbound-now : (mine yours : ℕ) (l : Lane) (now : Past) (s : Stream) (po pi : Past) → (face : HasFace mine s.you s.me l now) → IsWhole s.me s.rst_inbound l now face.1 →
    HasFaces mine yours s po pi → HasFaces mine yours (record s { inbound = l }) po now
inbound-now mine yours l now s po pi face whole c = record {
  outbound = c.outbound;
  inbound = face;
  rst_outbound = c.rst_outbound;
  rst_inbound = c.rst_inbound;
  came_outbound = c.came_outbound;
  came_inbound = c.came_inbound;
  whole_outbound = c.whole_outbound;
  whole_inbound = whole;
}

-- only the lane that is written changes, and its past
outbound-now : (mine yours : ℕ) (l : Lane) (now : Past) (s : Stream) (po pi : Past) → (face : HasFace yours s.me s.you l now) → IsWhole s.you s.rst_outbound l now face.1 →
    HasFaces mine yours s po pi → HasFaces mine yours (record s { outbound = l }) now pi
outbound-now mine yours l now s po pi face whole c = faces-unflip yours mine _ pi now (inbound-now yours mine l now (flip s) pi po face whole (faces-flip mine yours s po pi c))

faces-is : (mine yours : ℕ) (s t : Stream) (po pi : Past) → t ≡ s → HasFaces mine yours s po pi → HasFaces mine yours t po pi
faces-is mine yours s t po pi e c = subst (λ (x : Stream). HasFaces mine yours x po pi) (sym e) c

-- what comes to a lane goes where its reader is
comes-to : (mine yours : ℕ) (l k : Lane) (s : Stream) (po pi : Past) → k ≡ l → HasFaces mine yours (record s { inbound = l }) po pi → HasFaces mine yours (record s { inbound = k }) po pi
comes-to mine yours l k s po pi e c = subst (λ (x : Lane). HasFaces mine yours (record s { inbound = x }) po pi) (sym e) c

arrives : (mine yours n : ℕ) (s : Stream) (po pi : Past) → is_unborn s.me ≡ false → (takes s.me ≡ true) ⊎ (takes s.me ≡ false) →
    HasFaces mine yours s po pi → HasFaces mine yours (after_move (Arrive n) s) po pi
arrives mine yours n s po pi b (inl t) c =
    let e : (if takes s.me then lane_arrive n s.inbound else lane_vanish n s.inbound) ≡ lane_arrive n s.inbound = rw t refl in
    comes-to mine yours _ _ s po pi e (inbound-now mine yours _ pi s po pi
    (c.inbound.0, c.inbound.1, face-arrive mine s.you s.me n s.inbound pi c.inbound.0 c.inbound.1 (takes-up s.me t) c.inbound.2) c.whole_inbound c)
arrives mine yours n s po pi b (inr t) c =
    let e : (if takes s.me then lane_arrive n s.inbound else lane_vanish n s.inbound) ≡ lane_vanish n s.inbound = rw t refl in
    comes-to mine yours _ _ s po pi e (inbound-now mine yours _ pi s po pi
    (c.inbound.0, c.inbound.1, face-vanish mine s.you s.me n s.inbound pi c.inbound.0 c.inbound.1 (born-up s.me b t) c.inbound.2) c.whole_inbound c)

-- only the acknowledgement changes
ack-now : (mine yours : ℕ) (m : Mark) (s : Stream) (po pi : Past) → HasFaces mine yours s po pi → HasFaces mine yours (record s { ack = m }) po pi
ack-now mine yours m s po pi c =
    record { outbound = c.outbound; inbound = c.inbound; rst_outbound = c.rst_outbound; rst_inbound = c.rst_inbound; came_outbound = c.came_outbound; came_inbound = c.came_inbound; whole_outbound = c.whole_outbound; whole_inbound = c.whole_inbound }

-- an end that goes another way comes up only if it was up
not-up : (b c : Bool) → (b ≡ true → c ≡ true) → c ≡ false → b ≡ false
not-up b c f e = grind arith

faces-me : (mine yours : ℕ) (p : Phase) (m : Mark) (s : Stream) (po pi : Past) → (is_up p ≡ true → is_up s.me ≡ true) → (is_unsaid m ≡ false → is_up p ≡ false) →
    (is_unsaid m ≡ true → is_unsaid s.rst_outbound ≡ true) → (is_here m ≡ true → is_here s.rst_outbound ≡ true) →
    HasFaces mine yours s po pi → HasFaces mine yours (record s { me = p; rst_outbound = m }) po pi
faces-me mine yours p m s po pi f g un co c = record {
  outbound = (c.outbound.0, c.outbound.1, face-phases yours s.me p s.you s.you s.outbound po c.outbound.0 c.outbound.1 f (λ u. u) c.outbound.2);
  inbound = (c.inbound.0, c.inbound.1, face-phases mine s.you s.you s.me p s.inbound pi c.inbound.0 c.inbound.1 (λ u. u) f c.inbound.2);
  rst_outbound = g;
  rst_inbound = c.rst_inbound;
  came_outbound = λ e. c.came_outbound (co e);
  came_inbound = λ e. not-up (is_up p) (is_up s.me) f (c.came_inbound e);
  whole_outbound = λ u e. c.whole_outbound u (un e);
  whole_inbound = λ u e. c.whole_inbound (f u) e;
}

-- a test doesn't come out both ways
pub not-both : (b : Bool) → b ≡ true → b ≡ false → ⊥
not-both b e f = let k : true ≡ false = sym e ∙ f in absurd (cc)

-- an end that is up has said no reset
up-unsaid : (b c : Bool) (p q : Phase) → (b ≡ false → is_up p ≡ false) → is_up p ≡ true → b ≡ false → is_up q ≡ false
up-unsaid b c p q f u e = grind arith

pub faces-move : (mine yours : ℕ) (m : Move) (s : Stream) (po pi : Past) → Allowed m s → HasFaces mine yours s po pi → HasFaces mine yours (after_move m s) po pi
faces-move mine yours (Arrive n) s po pi a c = arrives mine yours n s po pi a.0 (when (takes s.me)) c
faces-move mine yours EndArrives s po pi a c = inbound-now mine yours _ pi s po pi
    (c.inbound.0, c.inbound.1, face-end mine s.you s.me s.inbound pi c.inbound.0 c.inbound.1 a.0 a.2 c.inbound.2) (λ u e. ((c.whole_inbound u e).0, λ f. refl)) c
faces-move mine yours (Return n) s po pi a c = outbound-now mine yours _ po s po pi
    (c.outbound.0, c.outbound.1, face-return yours s.me s.you n s.outbound po c.outbound.0 c.outbound.1 a.1 c.outbound.2) c.whole_outbound c
faces-move mine yours SynOffered s po pi a c =
    faces-me mine yours Offered s.rst_outbound s po pi (λ u. ap is_up a) (λ e. up-unsaid (is_unsaid s.rst_outbound) true s.me Offered c.rst_outbound (ap is_up a) e) (λ u. u) (λ u. u) c
faces-move mine yours SynRefused s po pi a c = faces-me mine yours Refused Said s po pi (λ u. absurd (cc)) (λ e. refl) (λ u. absurd (cc)) (λ u. absurd (cc)) c
faces-move mine yours AckArrives s po pi a c = ack-now mine yours Here s po pi c
faces-move mine yours ResetArrives s po pi a c =
    let d : is_up s.you ≡ false = c.rst_inbound (ap is_unsaid a.0) in
    let e = struck-down s.me a.1 in record {
      outbound = (c.outbound.0, c.outbound.1, face-struck yours s.me (struck s.me) s.you s.you s.outbound po c.outbound.0 c.outbound.1 d c.outbound.2);
      inbound = (
        c.inbound.0,
        c.inbound.1,
        face-empty mine s.you (struck s.me) (struck s.me) (lane_struck s.inbound) pi c.inbound.0 c.inbound.1 e
            (face-struck mine s.you s.you s.me (struck s.me) s.inbound pi c.inbound.0 c.inbound.1 e c.inbound.2),
      );
      rst_outbound = λ u. e;
      rst_inbound = λ u. d;
      came_outbound = λ u. d;
      came_inbound = λ u. e;
      whole_outbound = λ u w. absurd (not-both (is_up s.you) u d);
      whole_inbound = λ u w. absurd (not-both (is_up (struck s.me)) u e);
    }
faces-move mine yours Released s po pi a c = faces-me mine yours Gone s.rst_outbound s po pi (λ u. absurd (cc)) (λ e. refl) (λ u. u) (λ u. u) c

-- ---- a call

-- what a write took, and what a read gave
abbrev pub took_bytes : List ℕ → Reply → List ℕ
took_bytes bytes (reply.Wrote (Took n)) = take n bytes
took_bytes bytes _ = []

abbrev pub gave_bytes : Reply → List ℕ
gave_bytes (reply.Read bytes) = bytes
gave_bytes _ = []

abbrev pub is_end : Reply → Bool
is_end reply.ReadEnd = true
is_end _ = false

-- the past of the lane that the caller writes, and of the one that it reads
abbrev pub past_out : StreamCall → Reply → Past → Past
past_out (Writes bytes) r h = wrote (took_bytes bytes r) h
past_out Finishes r h = if is_done r then record h { finished = true } else h
past_out _ r h = h

abbrev pub past_inbound : StreamCall → Reply → Past → Past
past_inbound (Reads max) r h = if is_end r then record h { ended = true } else gave (gave_bytes r) h
past_inbound _ r h = h

-- ---- nothing

wrote-none : (h : Past) (bs : List ℕ) → bs ≡ [] → wrote bs h ≡ h
wrote-none h bs e = rw (e, append-nil) refl

gave-none : (h : Past) (bs : List ℕ) → bs ≡ [] → gave bs h ≡ h
gave-none h bs e = rw (e, append-nil) refl

took-none : (lost : Bool) (bytes : List ℕ) (p : Phase) (said : Bool) (credit : ℕ) →
    (bytes_moved (write_reply lost bytes p said credit) == 0) ≡ true → (took_bytes bytes (write_reply lost bytes p said credit) ≡ []) × (take (bytes_moved (write_reply lost bytes p said credit)) bytes ≡ [])
took-none lost bytes p said credit z = grind (arith, nat_tests, lists)

took-is : (lost : Bool) (bytes : List ℕ) (p : Phase) (said : Bool) (credit : ℕ) →
    took_bytes bytes (write_reply lost bytes p said credit) ≡ take (bytes_moved (write_reply lost bytes p said credit)) bytes
took-is lost bytes p said credit = grind (arith, nat_tests, lists)

gave-is : (lost : Bool) (max : ℕ) (p : Phase) (here : List ℕ) (ended : Bool) →
    gave_bytes (read_reply lost max p here ended) ≡ take (bytes_moved (read_reply lost max p here ended)) here
gave-is lost max p here ended = grind (arith, nat_tests, lists)

-- ---- the calls

past-same : (mine yours : ℕ) (s : Stream) (po po' pi pi' : Past) → po' ≡ po → pi' ≡ pi → HasFaces mine yours s po pi → HasFaces mine yours s po' pi'
past-same mine yours s po po' pi pi' e f c = rw (e, f) c

write-none : (bs : List ℕ) (s : Stream) → bs ≡ [] → stream_write bs s ≡ s
write-none bs s e = grind (arith, lists)

read-none : (n : ℕ) (s : Stream) → (n == 0) ≡ true → stream_read n s ≡ s
read-none n s e = grind (arith, nat_tests, lists)

none-taken : (n : ℕ) (xs : List ℕ) → (n == 0) ≡ true → take n xs ≡ []
none-taken n xs e = grind (arith, nat_tests, lists)

none-there : (xs : List ℕ) → length xs ≡ 0 → xs ≡ []
none-there [] e = refl
none-there (x ∷ xs) e = absurd (omega arith)

not-false : (b : Bool) → not b ≡ false → b ≡ true
not-false b e = grind arith

writes : (mine yours : ℕ) (lost : Bool) (bytes : List ℕ) (s t : Stream) (r : Reply) (po pi : Past) → r ≡ write_reply lost bytes s.me (not (is_unsaid s.outbound.fin)) s.outbound.credit →
    t ≡ stream_write (take (bytes_moved r) bytes) s → ((bytes_moved r == 0) ≡ true) ⊎ ((bytes_moved r == 0) ≡ false) →
    HasFaces mine yours s po pi → HasFaces mine yours t (past_out (Writes bytes) r po) pi
writes mine yours lost bytes s t r po pi e f (inl z) c =
    let k = took-none lost bytes s.me (not (is_unsaid s.outbound.fin)) s.outbound.credit (subst (λ (x : Reply). (bytes_moved x == 0) ≡ true) e z) in
    let a : took_bytes bytes r ≡ [] = subst (λ (x : Reply). took_bytes bytes x ≡ []) (sym e) k.0 in
    let b : take (bytes_moved r) bytes ≡ [] = subst (λ (x : Reply). take (bytes_moved x) bytes ≡ []) (sym e) k.1 in
    faces-is mine yours s t _ pi (f ∙ write-none _ s b) (past-same mine yours s po _ pi pi (wrote-none po _ a) refl c)
writes mine yours lost bytes s t r po pi e f (inr z) c =
    let l = write-live lost bytes s.me (not (is_unsaid s.outbound.fin)) s.outbound.credit (subst (λ (x : Reply). (bytes_moved x == 0) ≡ false) e z) in
    let a : took_bytes bytes r ≡ take (bytes_moved r) bytes = subst (λ (x : Reply). took_bytes bytes x ≡ take (bytes_moved x) bytes) (sym e) (took-is lost bytes s.me (not (is_unsaid s.outbound.fin)) s.outbound.credit) in
    let fits : length (take (bytes_moved r) bytes) ≤ s.outbound.credit = subst (λ (x : Reply). length (take (bytes_moved x) bytes) ≤ s.outbound.credit) (sym e) (write-fits lost bytes s.me (not (is_unsaid s.outbound.fin)) s.outbound.credit) in
    faces-is mine yours (stream_write (take (bytes_moved r) bytes) s) t _ pi f (outbound-now mine yours _ _ s po pi (
      c.outbound.0 ++ take (bytes_moved r) bytes,
      [],
      rw a (face-write yours s.me s.you (take (bytes_moved r) bytes) s.outbound po c.outbound.0 c.outbound.1 (live-up s.me l.0) (not-false _ l.1) fits c.outbound.2),
    )
    (λ u w. (refl, (c.whole_outbound u w).1)) c)

reads : (mine yours : ℕ) (lost : Bool) (max : ℕ) (s : Stream) (r : Reply) (po pi : Past) → r ≡ read_reply lost max s.me s.inbound.here (is_here s.inbound.fin) →
    ((bytes_moved r == 0) ≡ true) ⊎ ((bytes_moved r == 0) ≡ false) →
    HasFaces mine yours s po pi → HasFaces mine yours (stream_read (bytes_moved r) s) po (gave (gave_bytes r) pi)
reads mine yours lost max s r po pi e z c =
    let a : gave_bytes r ≡ take (bytes_moved r) s.inbound.here = subst (λ (x : Reply). gave_bytes x ≡ take (bytes_moved x) s.inbound.here) (sym e) (gave-is lost max s.me s.inbound.here (is_here s.inbound.fin)) in
    elim z [
      | inl n ↦ faces-is mine yours s _ po _ (read-none _ s n) (past-same mine yours s po po pi _ refl (gave-none pi _ (a ∙ none-taken _ s.inbound.here n)) c)
      | inr n ↦ (let l = read-live lost max s.me s.inbound.here (is_here s.inbound.fin) (subst (λ (x : Reply). (bytes_moved x == 0) ≡ false) e n) in rw a (inbound-now mine yours _ _ s po pi
          (drop (bytes_moved r) s.inbound.here ++ (s.inbound.way ++ c.inbound.1), c.inbound.1, face-read mine s.you s.me (bytes_moved r) s.inbound pi c.inbound.0 c.inbound.1 (live-up s.me l) c.inbound.2)
          c.whole_inbound c))
    ]

is-read_end : (r : Reply) → is_end r ≡ true → r ≡ reply.ReadEnd
is-read_end r e = grind arith

end-moves_none : (r : Reply) → is_end r ≡ true → (bytes_moved r == 0) ≡ true
end-moves_none r e = grind (arith, nat_tests)

reads-end : (mine yours : ℕ) (lost : Bool) (max : ℕ) (s : Stream) (r : Reply) (po pi : Past) → r ≡ read_reply lost max s.me s.inbound.here (is_here s.inbound.fin) →
    is_end r ≡ true → HasFaces mine yours s po pi → HasFaces mine yours (stream_read (bytes_moved r) s) po (record pi { ended = true })
reads-end mine yours lost max s r po pi e n c =
    let k = read-over lost max s.me s.inbound.here (is_here s.inbound.fin) (sym e ∙ is-read_end r n) in
    faces-is mine yours s _ po _ (read-none _ s (end-moves_none r n)) (inbound-now mine yours s.inbound (record pi { ended = true }) s po pi
    (c.inbound.0, c.inbound.1, face-over mine s.you s.me s.inbound pi c.inbound.0 c.inbound.1 (live-up s.me k.0) (none-there s.inbound.here k.1) k.2 c.inbound.2) c.whole_inbound c)

finishes : (mine yours : ℕ) (s : Stream) (po pi : Past) → s.me ≡ Live → is_unsaid s.outbound.fin ≡ true → HasFaces mine yours s po pi →
    HasFaces mine yours (stream_finish s) (record po { finished = true }) pi
finishes mine yours s po pi l o c = outbound-now mine yours _ _ s po pi
    (c.outbound.0, c.outbound.1, face-finish yours s.me s.you s.outbound po c.outbound.0 c.outbound.1 (live-up s.me l) o c.outbound.2) (λ u w. ((c.whole_outbound u w).0, λ f. refl)) c

resets : (mine yours : ℕ) (p : Phase) (s t : Stream) (po pi : Past) → is_up p ≡ false → s.me ≡ Live → ResetsTo p s t → HasFaces mine yours s po pi → HasFaces mine yours t po pi
resets mine yours p s t po pi d l h c = faces-is mine yours (stream_reset p h.0 h.1 h.2 s) t po pi h.4 (record {
  outbound = (
    c.outbound.0,
    drop h.0 s.outbound.way ++ c.outbound.1,
    face-cut yours s.me p s.you h.0 h.1 s.outbound po c.outbound.0 c.outbound.1 (live-up s.me l) d h.3.within h.3.shorter h.3.fin c.outbound.2,
  );
  inbound = (c.inbound.0, c.inbound.1, face-empty mine s.you s.me p s.inbound pi c.inbound.0 c.inbound.1 d c.inbound.2);
  rst_outbound = λ e. d;
  rst_inbound = c.rst_inbound;
  came_outbound = λ e. absurd (cc);
  came_inbound = λ e. d;
  whole_outbound = λ u w. absurd (cc);
  whole_inbound = λ u w. absurd (not-both (is_up p) u d);
})

forgets-quietly : (mine yours : ℕ) (s : Stream) (po pi : Past) → HasFaces mine yours s po pi → HasFaces mine yours (stream_forget s) po pi
forgets-quietly mine yours s po pi c = record {
  outbound = (c.outbound.0, c.outbound.1, face-phases yours s.me Lingering s.you s.you s.outbound po c.outbound.0 c.outbound.1 (λ u. absurd (cc)) (λ u. u) c.outbound.2);
  inbound = (c.inbound.0, c.inbound.1, face-empty mine s.you s.me Lingering s.inbound pi c.inbound.0 c.inbound.1 refl c.inbound.2);
  rst_outbound = λ e. refl;
  rst_inbound = c.rst_inbound;
  came_outbound = c.came_outbound;
  came_inbound = λ e. refl;
  whole_outbound = c.whole_outbound;
  whole_inbound = λ u w. absurd (cc);
}

pub faces-accept : (mine yours : ℕ) (lost : Bool) (s : Stream) (po pi : Past) → s.me ≡ Offered → HasFaces mine yours s po pi → HasFaces mine yours (stream_accept lost s) po pi
faces-accept mine yours lost s po pi o c =
    ack-now mine yours (if lost then s.ack else Said) (record s { me = Live }) po pi
    (faces-me mine yours Live s.rst_outbound s po pi (λ u. ap is_up o) (λ e. up-unsaid (is_unsaid s.rst_outbound) true s.me Live c.rst_outbound (ap is_up o) e) (λ u. u) (λ u. u) c)

pub faces-new : (mine yours : ℕ) (bytes : List ℕ) (po pi : Past) → first_credit ≤ mine → first_credit ≤ yours → length bytes ≤ first_credit →
    po.written ≡ [] → po.got ≡ [] → po.finished ≡ false → po.ended ≡ false → pi.written ≡ [] → pi.got ≡ [] → pi.finished ≡ false → pi.ended ≡ false →
    HasFaces mine yours (stream_write bytes (opened_stream mine yours)) (wrote bytes po) pi
faces-new mine yours bytes po pi a b fits u v fo w x y fi z = record {
  outbound = (bytes, [], face-write yours Live Unborn bytes (new_lane yours) po [] [] refl refl fits (face-new yours Live Unborn po b u v w));
  inbound = ([], [], face-new mine Unborn Live pi a x y z);
  rst_outbound = λ e. absurd (cc);
  rst_inbound = λ e. absurd (cc);
  came_outbound = λ e. absurd (cc);
  came_inbound = λ e. absurd (cc);
  whole_outbound = λ u w. (refl, λ f. absurd (not-both po.finished f fo));
  whole_inbound = λ u w. (refl, λ f. absurd (not-both pi.finished f fi));
}

forget-live : (lost : Bool) (s : Stream) → is_done (forget_reply s.me) ≡ true → forgets_quietly lost s ≡ false → s.me ≡ Live
forget-live lost s d q = grind arith

forgets : (mine yours : ℕ) (lost : Bool) (s t : Stream) (po pi : Past) → is_done (forget_reply s.me) ≡ true → (forgets_quietly lost s ≡ true) ⊎ (forgets_quietly lost s ≡ false) →
    MatchBool (forgets_quietly lost s) (t ≡ stream_forget s) (ResetsTo Lingering s t) → HasFaces mine yours s po pi → HasFaces mine yours t po pi
forgets mine yours lost s t po pi d (inl q) h c = faces-is mine yours _ t po pi (if-so_true _ _ _ q h) (forgets-quietly mine yours s po pi c)
forgets mine yours lost s t po pi d (inr q) h c = resets mine yours Lingering s t po pi refl (forget-live lost s d q) (if-so_false _ _ _ q h) c

pub faces-rule : (mine yours : ℕ) (lost : Bool) (c : StreamCall) (s t : Stream) (r : Reply) (po pi : Past) → StreamRule lost c s r t →
    HasFaces mine yours s po pi → HasFaces mine yours t (past_out c r po) (past_inbound c r pi)
faces-rule mine yours lost (Writes bytes) s t r po pi (inl h) c = writes mine yours lost bytes s t r po pi h.0 h.1 (when (bytes_moved r == 0)) c
faces-rule mine yours lost (Writes bytes) s t r po pi (inr h) c =
    faces-is mine yours s t _ pi h.2 (past-same mine yours s po _ pi pi (wrote-none po (took_bytes bytes r) (subst (λ (x : Reply). took_bytes bytes x ≡ []) (sym h.1) refl)) refl c)
faces-rule mine yours lost (Reads max) s t r po pi h c = faces-is mine yours _ t po _ h.1 (elim (when (is_end r)) [
  | inl n ↦ rw n (reads-end mine yours lost max s r po pi h.0 n c)
  | inr n ↦ rw n (reads mine yours lost max s r po pi h.0 (when (bytes_moved r == 0)) c)
])
faces-rule mine yours lost Finishes s t r po pi h c = elim (when (is_done r)) [
  | inl d ↦ (let k = finish-live lost s.me (not (is_unsaid s.outbound.fin)) (subst (λ (x : Reply). is_done x ≡ true) h.0 d) in
      faces-is mine yours _ t _ pi (rw d at h.1) (rw d (finishes mine yours s po pi k.0 (not-false _ k.1) c)))
  | inr d ↦ faces-is mine yours s t _ pi (rw d at h.1) (rw d c)
]
faces-rule mine yours lost Resets s t r po pi h c = elim (when (is_done r)) [
  | inl d ↦ resets mine yours WasReset s t po pi refl (reset-live lost s.me (subst (λ (x : Reply). is_done x ≡ true) h.0 d)) (if-so_true _ _ _ d h.1) c
  | inr d ↦ faces-is mine yours s t po pi (if-so_false _ _ _ d h.1) c
]
faces-rule mine yours lost Forgets s t r po pi h c = elim (when (is_done r)) [
  | inl d ↦ forgets mine yours lost s t po pi (subst (λ (x : Reply). is_done x ≡ true) h.0 d) (when (forgets_quietly lost s)) (if-so_true _ _ _ d h.1) c
  | inr d ↦ faces-is mine yours s t po pi (if-so_false _ _ _ d h.1) c
]
