use Rattle.std.proofs.Common.{◌≡◌, ◌∙◌, List, Option, None, Some, option_map, ap, refl}
use Rattle.std.specs.Prelude.{Result, Ok, Err, MatchResult, unwrap_or}
use Rattle.clap.specs.Walk.{Row as Entry}
use Rattle.clap.specs.Words.{Text, subcommand_rows_of}
use Rattle.clap.specs.Matches.{subcommand_name_of}
use Rattle.clap.specs.declared.parser.matches.ArgMatches.{ArgMatches}
use Rattle.clap.specs.declared.parser.matches.ArgMatches.TheViews.{out-ArgMatches}
use Rattle.ymx_arguments.specs.CommandLine.{IsMistakeFor, IsMistakeOf, IsTaskFor, IsTaskOf}
use Rattle.ymx_arguments.specs.declared.options.BadOption.{BadOption}
use Rattle.ymx_arguments.specs.declared.reading.Task.{Task}
use Rattle.ymx_arguments.specs.declared.reading.Task.TheVariants.{Selftest}
use Rattle.ymx_arguments.proofs.reading.task_of.Goals as goal

twice : {A B C : Type 0} (f : B → C) (g : A → B) (o : Option A) → option_map (λ x. f (g x)) o ≡ option_map f (option_map g o)
twice f g None = refl
twice f g (Some x) = refl

-- the name of what was met
name_met : (m : ArgMatches) → subcommand_name_of m ≡ option_map (λ p. p.0) (subcommand_rows_of m)
name_met m = twice (λ (p : Text × List Entry). p.0) _ (out-ArgMatches m).subcommand

-- what is said of a name and of what was given to it is said of what was met
met_is : (r : Result Task BadOption) (met : Option (Text × List Entry)) (name : Text) (given : List Entry) → Some name ≡ option_map (λ p. p.0) met → Some given ≡ option_map (λ p. p.1) met →
    MatchResult r (IsTaskFor name given) (IsMistakeFor name given) → MatchResult r (IsTaskOf met) (IsMistakeOf met)
met_is r None name given n e h = cc
met_is r (Some p) name given n e h = go r (ap (λ (o : Option Text). unwrap_or o name) n) (ap (λ (o : Option (List Entry)). unwrap_or o given) e) h
  where
    go : (r : Result Task BadOption) → name ≡ p.0 → given ≡ p.1 → MatchResult r (IsTaskFor name given) (IsMistakeFor name given) → MatchResult r (IsTaskOf (Some p)) (IsMistakeOf (Some p))
    go (Ok task) named has h = rw (← named, ← has) h
    go (Err bad) named has h = rw (← named, ← has) h

-- the test is run where nothing was met
none_met : (met : Option (Text × List Entry)) → None ≡ option_map (λ p. p.1) met → IsTaskOf met Selftest
none_met None e = refl
none_met (Some p) e = cc

pub returns-in-Some : goal.returns-in-Some
returns-in-Some c = met_is c.task_for.result _ _ _ (c.in-Some.ensures.name ∙ name_met c.args.matches.now) c.in-Some.ensures.rows c.task_for.ensures

pub returns-in-None : goal.returns-in-None
returns-in-None c = none_met _ c.in-None.ensures.rows
