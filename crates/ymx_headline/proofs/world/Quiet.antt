-- In a quiet world no session is inside a frame.
use Rattle.std.proofs.Common.{◌≡◌, ℕ, ◌<◌, List, [], ◌∷◌, ◌++◌, length, Bool, true, false, not, ◌&&◌, refl, sym, ap, ◌∙◌, arith, length-append}
use Rattle.std.specs.List.{All, concat}
use Rattle.ymx_model.specs.session.FramesDue.{is_empty}
use Rattle.ymx_model.specs.session.Sessions.{Session, Incoming, is_running}
use Rattle.ymx_model.specs.session.Sessions.Incoming.{Head, Payload}
use Rattle.ymx_model.specs.session.Emissions.{is_ready}
use Rattle.ymx_model.specs.world.Worlds.{World, Pipe, is_quiet, is_quiet_pipe}
use Rattle.ymx_model.specs.world.UnderWay.{IsOneFrame, held_bytes, lacking}
use Rattle.ymx_law_session.specs.Limits.{IsWithin}
use Rattle.ymx_machine.proofs.Tests.{both_of}
use Rattle.ymx_law_session.proofs.limits.FeedsKeep.{header_few, payload_some}
use Rattle.ymx_headline.specs.world.Texts.{AreFrames, AreWithin, HasFrames}
use Rattle.ymx_headline.proofs.world.Emitted.{empty-bytes}
use Rattle.ymx_headline.proofs.world.Fed.{all-first}
use Rattle.ymx_headline.proofs.world.Worlds.{running_is, running_not_closed, is_on, flows-so}

-- fewer than twelve bytes are no frame
few_none : (seen : List ℕ) (frames : List (List ℕ)) → length seen < 12 → All IsOneFrame frames → seen ≡ concat frames → seen ≡ []
few_none seen [] few a e = e
few_none seen (f ∷ fs) few a e =
    let one = all-first f fs a in let l = ap length e in absurd (omega (arith, one.header, length-append f (concat fs)))

-- nothing is under way
between : (i : Incoming) (rest : List ℕ) (tail : List ℕ) (frames : List (List ℕ)) → ((seen : List ℕ) → i ≡ Head seen → length seen < 12) →
    ((id n : ℕ) (fin discarded : Bool) → i ≡ Payload id n fin discarded → 0 < n) → rest ≡ [] → length tail ≡ lacking i → All IsOneFrame frames →
    held_bytes i ++ rest ≡ tail ++ concat frames → i ≡ Head []
between (Head seen) rest [] frames few some z l a e =
    let same : seen ≡ concat frames = sym (nothing-more seen) ∙ ap (λ xs. seen ++ xs) (sym z) ∙ e in
    ap Head (few_none seen frames (few seen refl) a same)
  where
    nothing-more : (xs : List ℕ) → xs ++ [] ≡ xs
    nothing-more [] = refl
    nothing-more (x ∷ xs) = ap (λ ys. x ∷ ys) (nothing-more xs)
between (Head seen) rest (x ∷ tail) frames few some z l a e = absurd (omega arith)
between (Payload id n fin discarded) rest [] frames few some z l a e = let p = some id n fin discarded refl in absurd (omega arith)
between (Payload id n fin discarded) rest (x ∷ tail) frames few some z l a e = let y : [] ≡ x ∷ (tail ++ concat frames) = rw z at e in absurd cc

quiet-way : (receiver : Session) (pipe : Pipe) (sender : Session) → IsWithin receiver → is_quiet_pipe pipe ≡ true → is_running receiver.status ≡ true → is_running sender.status ≡ true →
    is_ready sender ≡ false → HasFrames receiver pipe sender → receiver.incoming ≡ Head []
quiet-way receiver pipe sender w q r s d h =
    let p = both_of (is_empty pipe.bytes && not pipe.stopped) (not pipe.ended) q in
    let o = both_of (is_empty pipe.bytes) (not pipe.stopped) p.0 in
    let sends = running_not_closed sender.status (running_is sender.status s) in
    let k = h (flows-so receiver pipe sender (record { on = is_on pipe.stopped o.1; runs = running_is receiver.status r; sends = sends })) in
    let u = k.1 in
    let none = none-begun sender.outgoing.bytes refl in
    between receiver.incoming (pipe.bytes ++ sender.outgoing.bytes) u.tail k.0 (λ seen inc. header_few seen receiver inc w) (λ id n fin discarded inc. payload_some id n fin discarded receiver inc w)
    (rw (empty-bytes pipe.bytes o.0, none) refl) u.missing u.each u.text
  where
    none-begun : (xs : List ℕ) → sender.outgoing.bytes ≡ xs → xs ≡ []
    none-begun [] e = refl
    none-begun (x ∷ xs) e = let z : is_ready sender ≡ true = rw e refl in absurd cc

-- the six facts of a quiet world
record IsQuiet (w : World) : Type 0 where
  a : is_ready w.a ≡ false
  b : is_ready w.b ≡ false
  runs_a : is_running w.a.status ≡ true
  runs_b : is_running w.b.status ≡ true
  ab : is_quiet_pipe w.ab ≡ true
  ba : is_quiet_pipe w.ba ≡ true

quiet-is : (w : World) → is_quiet w ≡ true → IsQuiet w
quiet-is w q =
    let p5 = both_of _ (is_quiet_pipe w.ba) q in
    let p4 = both_of _ (is_quiet_pipe w.ab) p5.0 in
    let p3 = both_of _ (is_running w.b.status) p4.0 in
    let p2 = both_of _ (is_running w.a.status) p3.0 in
    let p1 = both_of (not (is_ready w.a)) (not (is_ready w.b)) p2.0 in
    record { a = is_on (is_ready w.a) p1.0; b = is_on (is_ready w.b) p1.1; runs_a = p2.1; runs_b = p3.1; ab = p4.1; ba = p5.1 }

pub quiet-between : (w : World) → is_quiet w ≡ true → AreWithin w → AreFrames w → (w.a.incoming ≡ Head []) × (w.b.incoming ≡ Head [])
quiet-between w q h f =
    let k = quiet-is w q in
    (quiet-way w.a w.ba w.b h.a k.ba k.runs_a k.runs_b k.b f.ba, quiet-way w.b w.ab w.a h.b k.ab k.runs_b k.runs_a k.a f.ab)
