-- A world that isn't quiet can go on.
use Rattle.std.proofs.Common.{◌≡◌, ℕ, List, [], ◌∷◌, take, min, Bool, true, false, not, ◌&&◌, refl, sym, ap, subst, ◌∙◌, inl, inr, arith}
use Rattle.ymx_model.specs.declared.types.Status.{Status}
use Rattle.ymx_model.specs.declared.types.Status.TheVariants.{Running, Lost, Broken, Closed}
use Rattle.ymx_machine.specs.declared.types.Side.{Side}
use Rattle.ymx_machine.specs.declared.types.Side.TheVariants.{A, B}
use Rattle.ymx_machine.specs.declared.types.Direction.{Direction}
use Rattle.ymx_machine.specs.declared.types.Direction.TheVariants.{AB, BA}
use Rattle.ymx_machine.specs.declared.types.Step.{Step}
use Rattle.ymx_machine.specs.declared.types.Step.TheVariants as step
use Rattle.ymx_machine.specs.declared.types.Answer.{Answer}
use Rattle.ymx_machine.specs.declared.types.Answer.TheVariants as answer
use Rattle.ymx_machine.specs.declared.types.Fed.{Fed}
use Rattle.ymx_machine.specs.declared.types.Reply.TheVariants as reply
use Rattle.ymx_model.specs.session.Sessions.{Session, is_running, is_broken, is_deaf}
use Rattle.ymx_model.specs.session.Feeds.{Feeds, is_stuck, is_between, byte_comes, starves, why_of}
use Rattle.ymx_model.specs.session.Emissions.{in_turn, is_ready}
use Rattle.ymx_model.specs.world.Worlds.{World, Pipe, Steps, StepOfA, is_quiet, is_quiet_pipe, pushed, without_front, mirror_world}
use Rattle.ymx_machine.specs.shared.Steps.{is_of_a}
use Rattle.ymx_law_session.specs.Limits.{IsWithin}
use Rattle.ymx_law_session.proofs.due.Ready.{due-gives}
use Rattle.ymx_machine.proofs.Tests.{when}
use Rattle.ymx_headline.specs.world.Texts.{AreWithin}
use Rattle.ymx_headline.specs.Laws.{IsOpenWorld, IsOpenPipe, carries_bytes}
use Rattle.ymx_headline.proofs.calls.StreamCalls.{so-true, so-false}
use Rattle.ymx_headline.proofs.relation.Still.{IsIdle, idle}

-- a step that carries bytes
pub record GoesOn (st : Step) (w : World) : Type 0 where
  pub given : Answer
  pub next : World
  pub steps : StepOfA in_turn st given w next
  pub bytes_carried : carries_bytes st given ≡ true

-- ---- an emission

emits-on : (side : Side) (w : World) → IsWithin w.a → is_ready w.a ≡ true → GoesOn (step.Emit side 1) w
emits-on side w within r =
    let k = due-gives w.a within r in
    let out : List ℕ = k.0 ∷ [] in
    record {
      given = answer.Emitted 1;
      next = record w { a = k.1; ab = pushed out w.ab };
      steps = (out, k.1, (out, refl, k.2), refl, refl);
      bytes_carried = refl;
    }

-- ---- a delivery

not-broken : (st : Status) → is_running st ≡ true → is_broken st ≡ false
not-broken Running e = refl
not-broken Lost e = refl
not-broken (Broken f) e = absurd cc
not-broken Closed e = refl

never : (a b : Bool) → (a && b && false) ≡ false
never true true = refl
never true false = refl
never false b = refl

idle-free : (s : Session) → IsIdle s → is_stuck s ≡ false
idle-free s i = rw (not-broken s.status i.runs, i.answers) (never (not (is_deaf s.status)) (is_between s.incoming))

feeds-one : (b : ℕ) (s : Session) → is_stuck s ≡ false → Feeds s (b ∷ []) (record { taken = 1; no_memory = min (starves false b s s.incoming) 4294967295; why = why_of (byte_comes false b s).status true }) (byte_comes false b s)
feeds-one b s free = record {
  fits = omega arith;
  took = (starves false b s s.incoming, (false, 0, free, omega arith, (refl, refl)), refl);
  stops = λ l. absurd (omega arith);
  why = refl;
}

delivers-on : (d : Direction) (b : ℕ) (bs : List ℕ) (w : World) → w.ab.bytes ≡ b ∷ bs → is_stuck w.b ≡ false → GoesOn (step.Deliver d 1) w
delivers-on d b bs w e free =
    let fed : Fed = record { taken = 1; no_memory = min (starves false b w.b w.b.incoming) 4294967295; why = why_of (byte_comes false b w.b).status true } in
    let first : b ∷ [] ≡ take 1 w.ab.bytes = sym (ap (take 1) e) in
    record {
      given = answer.Fed fed;
      next = record w { b = byte_comes false b w.b; ab = without_front 1 w.ab };
      steps = (reply.Fed fed, byte_comes false b w.b, (fed, refl, subst (λ bytes. Feeds w.b bytes fed (byte_comes false b w.b)) first (feeds-one b w.b free)), refl, refl);
      bytes_carried = refl;
    }

-- ---- either goes on

pub record Moves (w : World) : Type 0 where
  pub st : Step
  pub given : Answer
  pub next : World
  pub steps : Steps in_turn st given w next
  pub bytes_carried : carries_bytes st given ≡ true

quiet-pipe : (p : Pipe) → IsOpenPipe p → p.bytes ≡ [] → is_quiet_pipe p ≡ true
quiet-pipe p o e = rw (e, o.on, o.untold) refl

pub quiet-world : (w : World) → IsOpenWorld w → is_ready w.a ≡ false → is_ready w.b ≡ false → w.ab.bytes ≡ [] → w.ba.bytes ≡ [] → is_quiet w ≡ true
quiet-world w o a b p q = rw (a, b, o.a, o.b, quiet-pipe w.ab o.ab p, quiet-pipe w.ba o.ba q) refl

at-a : (st : Step) (w : World) → is_of_a st ≡ true → GoesOn st w → Moves w
at-a st w e g = record { st = st; given = g.given; next = g.next; steps = so-true _ _ _ e g.steps; bytes_carried = g.bytes_carried }

at-b : (st : Step) (w : World) → is_of_a st ≡ false → GoesOn st (mirror_world w) → Moves w
at-b st w e g = record { st = st; given = g.given; next = mirror_world g.next; steps = so-false _ _ _ e g.steps; bytes_carried = g.bytes_carried }

pub goes-on : (w : World) → AreWithin w → IsOpenWorld w → is_quiet w ≡ false → Moves w
goes-on w h o n = elim (when (is_ready w.a)) [
  | inl r ↦ at-a (step.Emit A 1) w refl (emits-on A w h.a r)
  | inr a ↦ elim (when (is_ready w.b)) [
    | inl r ↦ at-b (step.Emit B 1) w refl (emits-on B (mirror_world w) h.b r)
    | inr b ↦ of a b w.ab.bytes refl w.ba.bytes refl
  ]
]
  where
    of : is_ready w.a ≡ false → is_ready w.b ≡ false → (ab : List ℕ) → w.ab.bytes ≡ ab → (ba : List ℕ) → w.ba.bytes ≡ ba → Moves w
    of a b (x ∷ xs) e ba f = at-a (step.Deliver AB 1) w refl (delivers-on AB x xs w e (idle-free w.b (idle w.b o.b b)))
    of a b [] e (x ∷ xs) f = at-b (step.Deliver BA 1) w refl (delivers-on BA x xs (mirror_world w) f (idle-free w.a (idle w.a o.a a)))
    of a b [] e [] f = let no : false ≡ true = sym n ∙ quiet-world w o a b e f in absurd cc
