use Rattle.std.proofs.Common.{◌≡◌, [], ◌∷◌, ℕ, List, Option, None, Some, false, option_map, sym, ap, ◌∙◌, subst, refl}
use Rattle.ymx_policy.specs.declared.commands.Action.{Action}
use Rattle.ymx_policy.specs.declared.commands.Action.TheVariants as action
use Rattle.ymx_policy.specs.declared.commands.Command.{Command}
use Rattle.ymx_policy.specs.declared.machine.State.{State}
use Rattle.ymx_policy.specs.Machine.{after, next_command}
use Rattle.ymx_policy.specs.Past.{Adds, HasCome, command_after, is_end}
use Rattle.ymx_policy.proofs.driver.run.Goals as goal

-- what is not its end doesn't end it
no_end : (d : Action) → ((status : ℕ) → d ≡ action.End status → ⊥) → is_end d ≡ false
no_end (action.End status) h = absurd (h status refl)
no_end other h = refl

-- nothing is on the list besides
adds_none : {A : Type 0} (list : Option (List A)) → Adds [] list list
adds_none None = refl
adds_none (Some xs) = refl

-- what was added first, and what was added then
adds_one : {A : Type 0} (first : List A) (then : A) (a b c : Option (List A)) → Adds first a b → Adds (then ∷ []) b c → Adds (then ∷ first) a c
adds_one first then None b c e f = f ∙ ap (option_map (λ l. then ∷ l)) e
adds_one first then (Some xs) b c e f = f ∙ ap (option_map (λ l. then ∷ l)) e

pub loop-init : goal.loop-init
loop-init g c =
    let P : State → Type 0 = λ s. HasCome c.args.terms.now s (g.W.World.log c.args.world.now) (g.W.World.log c.args.world.now) in
    record {
      next = (tt, tt);
      came = subst P (sym c.new-state.ensures) (record { past = []; valid = tt; state = refl; logged = adds_none _ });
    }

pub returns-in-End : goal.returns-in-End
returns-in-End g c =
    let came = c.loop.invariant.came in
    let same : c.next_command-command.result ≡ command_after c.args.terms.now came.past = c.next_command-command.ensures ∙ ap (next_command c.args.terms.now) came.state in
    let Q : Command → Type 0 = λ a. Adds ((a, c.perform-outcome.result) ∷ came.past) (g.W.World.log c.args.world.now) (g.W.World.log c.perform-outcome.new.self) in
    record {
      past = came.past;
      last = c.perform-outcome.result;
      valid = came.valid;
      ends = ap (λ (a : Command). a.action) (sym same) ∙ c.in-End.is;
      logged = subst Q same (adds_one came.past _ _ _ _ came.logged c.perform-outcome.ensures);
    }

pub loop-preserved : goal.loop-preserved
loop-preserved g c =
    let came = c.loop.invariant.came in
    record {
      next = (tt, tt);
      came = record {
        past = (c.next_command-command.result, c.perform-outcome.result) ∷ came.past;
        valid = (c.next_command-command.ensures ∙ ap (next_command c.args.terms.now) came.state, no_end _ c.in_default.not-End, came.valid);
        state = c.on_outcome.ensures ∙ ap (λ s. after c.args.terms.now s c.perform-outcome.result) came.state;
        logged = adds_one came.past _ _ _ _ came.logged c.perform-outcome.ensures;
      };
    }
