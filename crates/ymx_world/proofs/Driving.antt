-- What drives a world until it is quiet, step by step.
use Rattle.std.proofs.Common.{◌≡◌, ◌<◌, ◌+◌, ℕ, List, [], ◌∷◌, ◌++◌, Bool, true, false, not, ◌&&◌, min, refl, sym, ◌∙◌, inl, inr, arith}
use Rattle.std.specs.List.{All}
use Rattle.std.proofs.lemmas.List.Elements.{All-nil, All-cons, All-append}
use Rattle.std.proofs.lemmas.List.Sums.{sum_by_push}
use Rattle.ymx_machine.specs.shared.Limits.{greatest_number}
use Rattle.ymx_machine.specs.declared.types.Step.{Step}
use Rattle.ymx_machine.specs.declared.types.Step.TheVariants as step
use Rattle.ymx_machine.specs.declared.types.Answer.{Answer}
use Rattle.ymx_model.specs.session.Sessions.{is_running}
use Rattle.ymx_model.specs.session.Emissions.{in_turn, is_ready}
use Rattle.ymx_model.specs.world.Worlds.{World, Pipe, Steps}
use Rattle.ymx_machine.proofs.Tests.{both_of}
use Rattle.ymx_model.specs.declared.types.Role.TheVariants.{Client, Server}
use Rattle.ymx_machine.specs.machine.Machines.{Machine}
use Rattle.ymx_machine.specs.machine.Runs.{IsStillMachine}
use Rattle.ymx_headline.specs.Agrees.{Agrees}
use Rattle.ymx_headline.proofs.relation.Still.{still}
use Rattle.ymx_headline.proofs.runs.Runs.{runs-alike}
use Rattle.ymx_headline.specs.Laws.{IsOpenWorld, IsOpenPipe, is_carriage, carries_bytes, breaks_off}
use Rattle.ymx_headline.proofs.bounds.Potential.{potential_of, some-carried}
use Rattle.ymx_headline.proofs.bounds.Driving.{lowers-open, carries-carriage}
use Rattle.ymx_headline.proofs.bounds.Progress.{quiet-world}
use Rattle.ymx_world.specs.Progress.{GoesForward}
use Rattle.ymx_world.specs.Reached.{IsReached}
use Rattle.ymx_world.specs.Driven.{is_open_pipe, is_open_world, IsDueCarriage, no_memory_of, no_memory_in, IsCarriedOn}
use Rattle.ymx_world.proofs.Bounds.{is-bounded}
use Rattle.ymx_world.proofs.Headlines.{reached-frames}
use Rattle.ymx_world.proofs.Runs.{run_more, reached_along}

-- ---- open worlds

is-false : (b : Bool) → not b ≡ true → b ≡ false
is-false true e = sym e
is-false false e = refl

open-pipe : (p : Pipe) → is_open_pipe p ≡ true → IsOpenPipe p
open-pipe p e = let k = both_of (not p.stopped) (not p.ended) e in record { on = is-false p.stopped k.0; untold = is-false p.ended k.1 }

pub open-world : (w : World) → is_open_world w ≡ true → IsOpenWorld w
open-world w e =
    let k = both_of (is_running w.a.status && is_running w.b.status && is_open_pipe w.ab) (is_open_pipe w.ba) e in
    let l = both_of (is_running w.a.status && is_running w.b.status) (is_open_pipe w.ab) k.0 in
    let m = both_of (is_running w.a.status) (is_running w.b.status) l.0 in
    record { a = m.0; b = m.1; ab = open-pipe w.ab l.1; ba = open-pipe w.ba k.1 }

-- ---- a step that is due

due-carries : (st : Step) (given : Answer) (w : World) → IsDueCarriage st w → GoesForward st given w → carries_bytes st given ≡ true
due-carries (step.Emit side room) given w d f = f d.0 d.1
due-carries (step.Deliver direction n) given w d f = elim (f d.0 d.1) [
  | inl some ↦ some
  | inr held ↦ let no : true ≡ false = sym held.1.due ∙ d.2 in absurd cc
]
due-carries (step.At side call) given w d f = absurd d
due-carries (step.Stop direction) given w d f = absurd d
due-carries (step.End direction) given w d f = absurd d

-- it leaves an open world, with less to carry
pub record IsOneCarriage (st : Step) (w v : World) : Type 0 where
  pub is : is_carriage st ≡ true
  pub on : IsOpenWorld v
  pub less : potential_of v < potential_of w

pub one-carriage : (st : Step) (given : Answer) (w v : World) → IsReached w → IsOpenWorld w → IsDueCarriage st w → GoesForward st given w → breaks_off given ≡ false → Steps in_turn st given w v → IsOneCarriage st w v
one-carriage st given w v r o d f sound s =
    let h = reached-frames w r in
    let some = due-carries st given w d f in
    let is = carries-carriage st given some in
    let l = lowers-open in_turn st given w v h.0 h.1 o is sound s in
    let fall = l.lower in
    let n = some-carried st given some in
    record { is = is; on = l.on; less = omega (arith, fall, n) }

-- ---- all of them

pub carried-none : (n : ℕ) (w : World) → n ≡ 0 → IsReached w → IsCarriedOn n w w
carried-none n w e r = record {
  steps = [];
  answers = [];
  alone = All-nil (λ (st : Step). is_carriage st ≡ true);
  runs = refl;
  counted = e;
  on = λ o. o;
  bounded = λ o. is-bounded [] [] w w r o (All-nil (λ (st : Step). is_carriage st ≡ true)) refl;
  queues = λ m h. runs-alike in_turn [] [] w w m refl h;
}

-- what one more answer counts is added
counted-more : (n more : ℕ) (answers : List Answer) (given : Answer) → n ≡ min (no_memory_in answers) greatest_number → more ≡ min (n + no_memory_of given) greatest_number →
    more ≡ min (no_memory_in (answers ++ given ∷ [])) greatest_number
counted-more n more answers given so_far adds = rw (sum_by_push no_memory_of answers given) (omega arith)

pub carried-more : (n more : ℕ) (w x v : World) (st : Step) (given : Answer) → IsReached w → IsCarriedOn n w x → Steps in_turn st given x v → IsOneCarriage st x v →
    more ≡ min (n + no_memory_of given) greatest_number → IsCarriedOn more w v
carried-more n more w x v st given r h s one adds =
    let P : Step → Type 0 = λ st. is_carriage st ≡ true in
    let alone : All P (h.steps ++ st ∷ []) = All-append P h.steps (st ∷ []) h.alone (All-cons P st [] one.is (All-nil P)) in
    let runs = run_more in_turn h.steps h.answers st given w x v h.runs s in
    record {
      steps = h.steps ++ st ∷ [];
      answers = h.answers ++ given ∷ [];
      alone = alone;
      runs = runs;
      counted = counted-more n more h.answers given h.counted adds;
      on = λ o. one.on;
      bounded = λ o. is-bounded (h.steps ++ st ∷ []) (h.answers ++ given ∷ []) w v r o alone runs;
      queues = λ m a. runs-alike in_turn (h.steps ++ st ∷ []) (h.answers ++ given ∷ []) w v m runs a;
    }

pub reached-carried : (n : ℕ) (w v : World) → IsReached w → IsCarriedOn n w v → IsReached v
reached-carried n w v r h = reached_along h.steps h.answers w v r h.runs

-- nothing is left to carry, and the machine is still
pub driven-still : (w : World) → IsOpenWorld w → (is_ready w.a ≡ false) × (is_ready w.b ≡ false) → (w.ab.bytes ≡ []) × (w.ba.bytes ≡ []) → (m : Machine) → Agrees w m → IsStillMachine m
driven-still w o due under m a = still Client Server w m a (quiet-world w o due.0 due.1 under.0 under.1)
