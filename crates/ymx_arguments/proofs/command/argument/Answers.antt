use Rattle.std.proofs.Common.{◌≡◌, ◌++◌, ◌∙◌, Bool, List, Some, [], ◌∷◌, false, map, length, ap, ap₂, refl}
use Rattle.std.proofs.lemmas.List.{map-append}
use Rattle.std.specs.Borrow.{Bor}
use Rattle.clap.specs.Words.{Rule, Text, rule_of}
use Rattle.clap.specs.declared.builder.arg.Arg.{Arg}
use Rattle.ymx_arguments.specs.CommandLine.{named_rule}
use Rattle.ymx_arguments.specs.Rows.{stated}
use Rattle.ymx_arguments.proofs.command.argument.Goals as goal

-- names that the help doesn't show, by themselves
hidden : (names : List (Bor Text)) → map (λ (alias : Bor Text × Bool). alias.0.now) (map (λ name. (name, false)) names) ≡ map (λ name. name.now) names
hidden [] = refl
hidden (name ∷ names) = ap (λ more. name.now ∷ more) (hidden names)

-- the rule so far, and that it isn't for all subcommands
pub returns : goal.returns
returns c =
    let row = c.args.row.now in
    let added = c.in_ok-aliases.ensures in
    let names = ap (map (λ alias. alias.0.now)) added.1 ∙ map-append _ _ _ ∙ ap₂ (λ (one two : List Text). one ++ two) (ap (λ (rule : Rule). rule.aliases) c.new.ensures.rule) (hidden row.old_names.now) in
    let old = ap rule_of added.0 ∙ ap₂ (λ (rule : Rule) (names : List Text). record rule { aliases = names }) c.new.ensures.rule names in
    let shown = ap rule_of c.value_names.ensures ∙ ap (λ (rule : Rule). record rule { value_names = length row.value.now }) old in
    let default = ap rule_of c.default_values.ensures ∙ ap (λ (rule : Rule). record rule { defaults = map (λ text. text.now) row.default.now }) shown in
    let acts = ap rule_of c.action.ensures ∙ ap₂ (λ (rule : Rule) action. record rule { action = Some action }) default c.action_of.ensures in
    let needed = ap rule_of c.required.ensures ∙ ap (λ (rule : Rule). record rule { required = row.is_needed }) acts in
    let global : Arg → Bool = λ a. a.global in (
      c.named.ensures.0 ∙ ap (named_rule (stated row)) (ap rule_of c.help-argument.ensures ∙ needed),
      c.named.ensures.1 ∙ ap global c.help-argument.ensures ∙ ap global c.required.ensures ∙ ap global c.action.ensures ∙ ap global c.default_values.ensures
          ∙ ap global c.value_names.ensures ∙ ap global added.0 ∙ c.new.ensures.optional.1,
    )
