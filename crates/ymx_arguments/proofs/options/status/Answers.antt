use Rattle.std.proofs.Common.{◌≡◌, Some, IsTrue, true≢false, sym, subst, rules, codes, Option}
use Rattle.std.specs.Prelude.{IsSomeAnd}
use Rattle.std.specs.Net.Addr.{IsLoopbackV4}
use Rattle.std.specs.Net.Grammar.{IsSocketV4Text}
use Rattle.std.proofs.NetLemmas.Theorems.{IsSocketV4Text_unique}
use Rattle.clap.specs.Words.{Text, first_of, found_of, rows_of}
use Rattle.ymx_arguments.specs.CommandLine.{IsNear}
use Rattle.ymx_arguments.proofs.options.status.Goals as goal

-- the text spells no address of the loopback, as it spells one alone
pub returns-else-is_loopback : goal.returns-else-is_loopback
returns-else-is_loopback c =
    let text = c.in-Some.text.now in
    let is : Some text ≡ first_of (codes "status") (rows_of (found_of c.args.found.now)) = search rules in
    let address = c.in_ok-address-in-Some.address in
    let spelled : IsSocketV4Text text address = subst (λ (given : Option Text). IsSomeAnd given (λ text. IsSocketV4Text text address)) (sym is) c.in_ok-address-in-Some.ensures.0 in (
      sym is,
      (λ said. let e = c.flag-is_anywhere.ensures.1 said in cc),
      λ other names near.
          let here : IsNear address = subst IsNear (IsSocketV4Text_unique text other address names spelled) near in
          true≢false (sym (subst IsTrue c.if-is_loopback.false (c.is_loopback.ensures.1 (subst IsLoopbackV4 (sym c.ip.ensures) here)))),
    )
