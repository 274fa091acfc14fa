use Rattle.std.proofs.Common.{◌≡◌, List, Option, None, Some, codes, refl, subst, sym}
use Rattle.std.specs.Prelude.{IsSomeAnd}
use Rattle.std.specs.Net.Grammar.{IsSocketV4Text}
use Rattle.clap.specs.Walk.{Row as Entry}
use Rattle.clap.specs.Words.{Text, first_of, found_of, rows_of}
use Rattle.ymx_arguments.specs.CommandLine.{AreBothGiven, HasClash}
use Rattle.ymx_arguments.specs.Rows.{row_of, rows}
use Rattle.ymx_arguments.proofs.options.peer.Goals as goal

apart : (row_of (codes "peer")).apart ≡ Some (codes "bind")
unfolding rows
apart = refl

-- where `--peer` was given `--bind` wasn't
alone : (given : List Entry) → (HasClash given (codes "peer") → ⊥) → AreBothGiven (first_of (codes "peer") given) (first_of (codes "bind") given) → ⊥
alone given none both = none (subst (λ a. IsSomeAnd a (λ other. AreBothGiven (first_of (codes "peer") given) (first_of other given))) (sym apart) both)

other_none : (one other : Option Text) (P : Text → Type 0) → IsSomeAnd one P → (AreBothGiven one other → ⊥) → other ≡ None
other_none None other P h not = absurd h
other_none (Some x) None P h not = refl
other_none (Some x) (Some y) P h not = absurd (not tt)

pub returns-in_ok-address-in-Some-default : goal.returns-in_ok-address-in-Some-default
returns-in_ok-address-in-Some-default c =
    let met = c.in_ok-address-in-Some-default in
    (met.ensures, other_none _ _ (λ text. IsSocketV4Text text met.field-0) met.ensures.0 (alone (rows_of (found_of c.args.found.now)) c.in_ok-check_apart.ensures.read))
