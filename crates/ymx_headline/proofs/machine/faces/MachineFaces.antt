-- The faces of one stream, over the steps of the machine.
use Rattle.std.proofs.Common.{◌≡◌, ◌≢◌, ◌⊎◌, inl, inr, ℕ, ◌≤◌, List, [], ◌∷◌, ◌++◌, length, Bool, true, false, ◌||◌, Option, None, Some, refl, sym, ◌∙◌, ap, subst}
use Rattle.ymx_machine.specs.shared.Events.{Reply}
use Rattle.ymx_machine.specs.shared.Events.{Call}
use Rattle.ymx_machine.specs.shared.Limits.{first_credit}
use Rattle.ymx_machine.specs.stream.Streams.{Stream, after_move, opened_stream, stream_write, stream_accept}
use Rattle.ymx_machine.specs.stream.Streams.Move.{SynOffered, SynRefused}
use Rattle.ymx_machine.specs.shared.Phases.Phase.{Unborn}
use Rattle.ymx_machine.specs.shared.Lists.{look, change}
use Rattle.ymx_machine.specs.machine.Machines.{Machine, mirror_machine}
use Rattle.ymx_machine.specs.machine.FreeMoves.{FreeMove, MayMove, moved_by, machine_refuses}
use Rattle.ymx_machine.specs.machine.FreeMoves.FreeMove.{OfStream, SynArrives, AwayArrives, PingThere, PingBack}
use Rattle.ymx_machine.proofs.Tests.{when, same_or_not}
use Rattle.ymx_headline.proofs.machine.faces.Pasts.{Past, HasFaces}
use Rattle.ymx_headline.proofs.machine.faces.LaneFaces.{wrote}
use Rattle.ymx_headline.proofs.machine.faces.StreamFaces.{past_out, faces-flip, faces-unflip, faces-move, faces-rule, faces-new, faces-accept}
use Rattle.ymx_headline.proofs.machine.order.Maps.{look-change, look-change_other, look-add, look-add_other, flipped, look-mirror}
use Rattle.ymx_headline.proofs.machine.faces.Effects.{tell_outbound, tell_inbound, Untold, Effect}
use Rattle.ymx_headline.proofs.machine.faces.Effects.Effect.{Idles, OpensOne, AcceptsOne, TouchesOne}
use Rattle.ymx_headline.proofs.machine.order.Cores.{Core, core, core-unmoved, Sound, sound-effect, sound-move, sound-mirror, sound-unmirror, offered-front, offered-stream}
use Rattle.ymx_headline.proofs.machine.order.Openers.{Numbered, free, numbered-effect, numbered-move, numbered-mirror, numbered-unmirror}

-- nothing has happened yet
pub record IsBlank (h : Past) : Type 0 where
  pub written : h.written ≡ []
  pub got : h.got ≡ []
  pub finished : h.finished ≡ false
  pub ended : h.ended ≡ false

abbrev pub FaceAt : (mine yours : ℕ) → (past_out past_inbound : Past) → Option Stream → Type 0
FaceAt mine yours po pi None = IsBlank po × IsBlank pi
FaceAt mine yours po pi (Some s) = HasFaces mine yours s po pi

pub record Faced (mine yours i : ℕ) (past_out past_inbound : Past) (c : Core) : Type 0 where
  pub sound : Sound mine yours c
  pub numbered : Numbered c
  pub face : FaceAt mine yours past_out past_inbound (look i c.streams)

pub faced-is : (mine yours i : ℕ) (po pi : Past) (c d : Core) → d ≡ c → Faced mine yours i po pi c → Faced mine yours i po pi d
faced-is mine yours i po pi c d e h = subst (Faced mine yours i po pi) (sym e) h

pub faced-past : (mine yours i : ℕ) (po po' pi pi' : Past) (c : Core) → po' ≡ po → pi' ≡ pi → Faced mine yours i po pi c → Faced mine yours i po' pi' c
faced-past mine yours i po po' pi pi' c e f h = rw (e, f) h

at-is : (mine yours : ℕ) (po pi : Past) (o o' : Option Stream) → o' ≡ o → FaceAt mine yours po pi o → FaceAt mine yours po pi o'
at-is mine yours po pi o o' e h = subst (FaceAt mine yours po pi) (sym e) h

at-past : (mine yours : ℕ) (po po' pi pi' : Past) (o : Option Stream) → po' ≡ po → pi' ≡ pi → FaceAt mine yours po pi o → FaceAt mine yours po' pi' o
at-past mine yours po po' pi pi' o e f h = rw (e, f) h

-- one stream changes, and with it the pasts if it is this one
at-change : (mine yours i j : ℕ) (po po' pi pi' : Past) (f : Stream → Stream) (s : Stream) (xs : List (ℕ × Stream)) → look j xs ≡ Some s →
    (i ≡ j → HasFaces mine yours s po pi → HasFaces mine yours (f s) po' pi') → (i ≢ j → (po' ≡ po) × (pi' ≡ pi)) →
    FaceAt mine yours po pi (look i xs) → FaceAt mine yours po' pi' (look i (change j f xs))
at-change mine yours i j po po' pi pi' f s xs e g u h = elim (same_or_not i j) [
  | inl d ↦ at-is mine yours po' pi' _ _ (ap (λ (x : ℕ). look x (change j f xs)) d ∙ look-change j f xs s e)
      (g d (at-is mine yours po pi _ (Some s) (sym (ap (λ (x : ℕ). look x xs) d ∙ e)) h))
  | inr d ↦ at-is mine yours po' pi' _ _ (look-change_other i j f xs d) (let k = u d in at-past mine yours po po' pi pi' _ k.0 k.1 h)
]

opens : (mine yours i j : ℕ) (po po' pi pi' : Past) (bytes : List ℕ) (xs : List (ℕ × Stream)) → first_credit ≤ mine → first_credit ≤ yours → length bytes ≤ first_credit →
    look j xs ≡ None → (i ≡ j → (po' ≡ wrote bytes po) × (pi' ≡ pi)) → (i ≢ j → (po' ≡ po) × (pi' ≡ pi)) →
    FaceAt mine yours po pi (look i xs) → FaceAt mine yours po' pi' (look i (xs ++ (j, stream_write bytes (opened_stream mine yours)) ∷ []))
opens mine yours i j po po' pi pi' bytes xs a b fits e v u h = elim (same_or_not i j) [
  | inl d ↦ (let k = at-is mine yours po pi _ None (sym (ap (λ (x : ℕ). look x xs) d ∙ e)) h in let q = v d in
      at-is mine yours po' pi' (Some (stream_write bytes (opened_stream mine yours))) _
      (ap (λ (x : ℕ). look x (xs ++ (j, stream_write bytes (opened_stream mine yours)) ∷ [])) d ∙ look-add j _ xs e)
      (at-past mine yours (wrote bytes po) po' pi pi' (Some (stream_write bytes (opened_stream mine yours))) q.0 q.1
      (faces-new mine yours bytes po pi a b fits k.0.written k.0.got k.0.finished k.0.ended k.1.written k.1.got k.1.finished k.1.ended)))
  | inr d ↦ at-is mine yours po' pi' _ _ (look-add_other i j _ xs d) (let k = u d in at-past mine yours po po' pi pi' _ k.0 k.1 h)
]

untold-pasts : (c : Call) (r : Reply) (i : ℕ) (po pi : Past) → Untold c r i → (tell_outbound i c r po ≡ po) × (tell_inbound i c r pi ≡ pi)
untold-pasts c r i po pi u = (u.outbound po, u.inbound pi)

pub faced-effect : (mine yours i : ℕ) (po pi : Past) (c : Call) (m : Machine) (r : Reply) (n : Machine) → first_credit ≤ mine → first_credit ≤ yours →
    Effect c m r n → Faced mine yours i po pi (core m) → Faced mine yours i (tell_outbound i c r po) (tell_inbound i c r pi) (core n)
faced-effect mine yours i po pi c m r n a b (Idles h) k =
    let u = untold-pasts c r i po pi (h.told i) in
    faced-is mine yours i _ _ _ _ (core-unmoved m n h.same) (faced-past mine yours i po _ pi _ _ u.0 u.1 k)
faced-effect mine yours i po pi c m r n a b (OpensOne bytes h) k = record {
  sound = sound-effect mine yours c m r n (OpensOne bytes h) k.sound;
  numbered = numbered-effect mine yours c m r n (OpensOne bytes h) k.sound k.numbered;
  face = at-is mine yours _ _ _ _ (ap (λ (x : Machine). look i x.streams) h.now)
      (subst (λ (w : ℕ). FaceAt mine yours (tell_outbound i c r po) (tell_inbound i c r pi) (look i (m.streams ++ (m.me.next, stream_write bytes (opened_stream w m.you.window)) ∷ []))) (sym k.sound.window_me)
      (subst (λ (w : ℕ). FaceAt mine yours (tell_outbound i c r po) (tell_inbound i c r pi) (look i (m.streams ++ (m.me.next, stream_write bytes (opened_stream mine w)) ∷ []))) (sym k.sound.window_you)
      (opens mine yours i m.me.next po _ pi _ bytes m.streams a b h.fits (free (core m) k.numbered)
      (λ d. (ap (λ (x : ℕ). tell_outbound x c r po) d ∙ h.outbound po, ap (λ (x : ℕ). tell_inbound x c r pi) d ∙ h.inbound pi))
      (λ d. untold-pasts c r i po pi (h.others i d)) k.face)));
}
faced-effect mine yours i po pi c m r n a b (AcceptsOne id ids h) k =
    let s = offered-stream (look id m.streams) (offered-front mine yours (core m) id ids h.front k.sound) in
    let u = untold-pasts c r i po pi (h.told i) in record {
      sound = sound-effect mine yours c m r n (AcceptsOne id ids h) k.sound;
      numbered = numbered-effect mine yours c m r n (AcceptsOne id ids h) k.sound k.numbered;
      face = at-is mine yours _ _ _ _ (ap (λ (x : Machine). look i x.streams) h.now) (at-past mine yours po _ pi _ _ u.0 u.1
          (at-change mine yours i id po po pi pi (stream_accept m.me.lost) s.0 m.streams s.1 (λ d q. faces-accept mine yours m.me.lost s.0 po pi s.2 q) (λ d. (refl, refl)) k.face));
    }
faced-effect mine yours i po pi c m r n a b (TouchesOne id sc s t h) k = record {
  sound = sound-effect mine yours c m r n (TouchesOne id sc s t h) k.sound;
  numbered = numbered-effect mine yours c m r n (TouchesOne id sc s t h) k.sound k.numbered;
  face = at-is mine yours _ _ _ _ (ap (λ (x : Machine). look i x.streams) h.now)
      (at-change mine yours i id po _ pi _ (λ _. t) s m.streams h.there
      (λ d q. subst (λ (x : Past). HasFaces mine yours t x (tell_inbound i c r pi)) (sym (ap (λ (x : ℕ). tell_outbound x c r po) d ∙ h.outbound po))
      (subst (λ (x : Past). HasFaces mine yours t (past_out sc r po) x) (sym (ap (λ (x : ℕ). tell_inbound x c r pi) d ∙ h.inbound pi))
      (faces-rule mine yours m.me.lost sc s t r po pi h.rule q)))
      (λ d. untold-pasts c r i po pi (h.others i d)) k.face);
}

syn-at : (mine yours i id : ℕ) (counted : Bool) (po pi : Past) (m : Machine) (s : Stream) → look id m.streams ≡ Some s → s.me ≡ Unborn →
    ((machine_refuses m || counted) ≡ true) ⊎ ((machine_refuses m || counted) ≡ false) → FaceAt mine yours po pi (look i m.streams) →
    FaceAt mine yours po pi (look i (moved_by (SynArrives id counted) m).streams)
syn-at mine yours i id counted po pi m s e a (inl b) h =
    rw b (at-change mine yours i id po po pi pi (after_move SynRefused) s m.streams e (λ d q. faces-move mine yours SynRefused s po pi a q) (λ d. (refl, refl)) h)
syn-at mine yours i id counted po pi m s e a (inr b) h =
    rw b (at-change mine yours i id po po pi pi (after_move SynOffered) s m.streams e (λ d q. faces-move mine yours SynOffered s po pi a q) (λ d. (refl, refl)) h)

pub faced-move : (mine yours i : ℕ) (po pi : Past) (v : FreeMove) (m : Machine) → MayMove v m → Faced mine yours i po pi (core m) → Faced mine yours i po pi (core (moved_by v m))
faced-move mine yours i po pi (OfStream id v) m a k = record {
  sound = sound-move mine yours (OfStream id v) m a k.sound;
  numbered = numbered-move (OfStream id v) m a k.numbered;
  face = at-change mine yours i id po po pi pi (after_move v) a.2.0 m.streams a.2.1 (λ d q. faces-move mine yours v a.2.0 po pi a.2.2 q) (λ d. (refl, refl)) k.face;
}
faced-move mine yours i po pi (SynArrives id counted) m a k = record {
  sound = sound-move mine yours (SynArrives id counted) m a k.sound;
  numbered = numbered-move (SynArrives id counted) m a k.numbered;
  face = syn-at mine yours i id counted po pi m a.1.0 a.1.1 a.1.2 (when (machine_refuses m || counted)) k.face;
}
faced-move mine yours i po pi AwayArrives m a k = record { sound = k.sound; numbered = numbered-move AwayArrives m a k.numbered; face = k.face }
faced-move mine yours i po pi (PingThere number) m a k = record { sound = k.sound; numbered = numbered-move (PingThere number) m a k.numbered; face = k.face }
faced-move mine yours i po pi (PingBack number) m a k = record { sound = k.sound; numbered = numbered-move (PingBack number) m a k.numbered; face = k.face }

at-flip : (mine yours : ℕ) (po pi : Past) (o : Option Stream) → FaceAt mine yours po pi o → FaceAt yours mine pi po (flipped o)
at-flip mine yours po pi None h = (h.1, h.0)
at-flip mine yours po pi (Some s) h = faces-flip mine yours s po pi h

at-unflip : (mine yours : ℕ) (po pi : Past) (o : Option Stream) → FaceAt mine yours po pi (flipped o) → FaceAt yours mine pi po o
at-unflip mine yours po pi None h = (h.1, h.0)
at-unflip mine yours po pi (Some s) h = faces-unflip mine yours s po pi h

pub faced-mirror : (mine yours i : ℕ) (po pi : Past) (m : Machine) → Faced mine yours i po pi (core m) → Faced yours mine i pi po (core (mirror_machine m))
faced-mirror mine yours i po pi m k = record {
  sound = sound-mirror mine yours m k.sound;
  numbered = numbered-mirror m k.numbered;
  face = at-is yours mine pi po _ _ (look-mirror i m.streams) (at-flip mine yours po pi (look i m.streams) k.face);
}

pub faced-unmirror : (mine yours i : ℕ) (po pi : Past) (m : Machine) → Faced mine yours i po pi (core (mirror_machine m)) → Faced yours mine i pi po (core m)
faced-unmirror mine yours i po pi m k = record {
  sound = sound-unmirror mine yours m k.sound;
  numbered = numbered-unmirror m k.numbered;
  face = at-unflip mine yours po pi (look i m.streams) (at-is mine yours po pi _ _ (sym (look-mirror i m.streams)) k.face);
}
