use Rattle.std.proofs.Common.{rules, List, map, ap, Bool, true, false, true≢false, ◌∙◌, ◌≡◌, ◌≢◌, inl, inr, refl, subst, sym}
use Rattle.std.specs.Prelude.{Result, Ok, Err, IfErr}
use Rattle.clap.specs.Faults.{fault_of, is_simple_and_free}
use Rattle.clap.specs.Kinds.{HasKind, IsAmong}
use Rattle.clap.specs.Words.{App, Text, is_simple, kind_of, subcommand_of, subcommand_rows_of, takes}
use Rattle.clap.specs.declared.error.Error.{Error}
use Rattle.clap.specs.declared.error.kind.ErrorKind.TheVariants.{OutOfMemory}
use Rattle.ymx_arguments.specs.CommandLine.{IsClap, IsFaultOf, IsMistakeOf, IsTaskOf, ymx_app}
use Rattle.ymx_arguments.specs.Rows.{rows}
use Rattle.ymx_arguments.specs.declared.reading.CommandFault.{CommandFault}
use Rattle.ymx_arguments.specs.declared.reading.CommandFault.TheVariants.{BadAddress, Clap}
use Rattle.ymx_arguments.proofs.reading.parse.Goals as goal

-- clap's statements are on such a command
simple : is_simple ymx_app ≡ true
unfolding rows
simple = refl

simple_and_free : is_simple_and_free ymx_app ≡ true
unfolding rows
simple_and_free = refl

-- an error of clap is a fault of the words that it doesn't take
fault_found : (e : Error) (words : List Text) (fault : CommandFault) → IsClap (kind_of e) fault → takes ymx_app words ≢ true → HasKind (fault_of ymx_app words) e → IsFaultOf words fault
fault_found e words (Clap error) is other (inl memory) = inr (inl (is ∙ memory))
fault_found e words (Clap error) is other (inr among) = inl (other, subst (λ kind. IsAmong kind (fault_of ymx_app words)) (sym is) among)
fault_found e words (BadAddress option text) is other h = absurd is

-- and at words that it takes there was no memory
fault_of_clap : (e : Error) (words : List Text) (fault : CommandFault) (taken : Bool) → takes ymx_app words ≡ taken → IsClap (kind_of e) fault → (takes ymx_app words ≡ true → kind_of e ≡ OutOfMemory) →
    HasKind (fault_of ymx_app words) e → IsFaultOf words fault
fault_of_clap e words (Clap error) true t is passes h = inr (inl (is ∙ passes t))
fault_of_clap e words (BadAddress option text) true t is passes h = absurd is
fault_of_clap e words fault false t is passes h = fault_found e words fault is (λ taken. true≢false (sym taken ∙ t)) h

-- what holds of a refusal, and what follows of it
err_follows : {T E : Type 0} (r : Result T E) (P Q : E → Type 0) → IfErr r P → ((e : E) → P e → Q e) → IfErr r Q
err_follows (Ok x) P Q h f = tt
err_follows (Err e) P Q h f = f e h

pub returns-in_err-matches-clause-fault : goal.returns-in_err-matches-clause-fault
returns-in_err-matches-clause-fault g c =
    let words = map g.S.AsStr.text c.args.words.now in
    let app = c.in_ok-command.ensures in
    let error = c.in_err-matches.field-0.0 in
    let kind : HasKind (fault_of ymx_app words) error =
    subst (λ (a : App). HasKind (fault_of a words) error) app (c.in_err-matches.ensures.kinds (ap is_simple_and_free app ∙ simple_and_free)) in
    err_follows _ (IsClap (kind_of error)) (IsFaultOf words) (search rules)
    (λ fault is. fault_of_clap error words fault _ refl is (λ taken. c.in_err-matches.ensures.passes (ap (λ (a : App). takes a words) app ∙ taken)) kind)

pub returns-in-Ok-clause-task : goal.returns-in-Ok-clause-task
returns-in-Ok-clause-task g c =
    let words = map g.S.AsStr.text c.args.words.now in
    let app = c.in_ok-command.ensures in
    let met : subcommand_rows_of c.in_ok-matches.matches ≡ subcommand_of ymx_app words = (c.in_ok-matches.ensures.matches (ap is_simple app ∙ simple)).1 ∙ ap (λ (a : App). subcommand_of a words) app in
    subst (λ met. IsTaskOf met c.in-Ok.task) met c.in-Ok.ensures

-- the mistake is one of the subcommand that the words name
pub returns-clause-fault : goal.returns-clause-fault
returns-clause-fault g c =
    let words = map g.S.AsStr.text c.args.words.now in
    let app = c.in_ok-command.ensures in
    let met : subcommand_rows_of c.in_ok-matches.matches ≡ subcommand_of ymx_app words = (c.in_ok-matches.ensures.matches (ap is_simple app ∙ simple)).1 ∙ ap (λ (a : App). subcommand_of a words) app in
    let mistake : IsMistakeOf (subcommand_of ymx_app words) c.in-Err.bad = subst (λ met. IsMistakeOf met c.in-Err.bad) met c.in-Err.ensures in
    inr (inr (c.in-Err.bad, mistake, search rules))
