use Rattle.std.proofs.Common.{◌≡◌, ◌≤◌, Some, [], ap, refl, rules, subst, arith}
use Rattle.std.proofs.NetLemmas.Theorems.{IsSocketV4Text_unique}
use Rattle.std.specs.Prelude.{IsSomeAnd, unwrap_or}
use Rattle.std.specs.Net.Grammar.{IsSocketV4Text}
use Rattle.std.specs.Net.Socket.{v4_port}
use Rattle.std.specs.declared.net.socket_addr.SocketAddrV4.{SocketAddrV4}
use Rattle.clap.specs.Words.{first_of, found_of, rows_of}
use Rattle.ymx_arguments.specs.Rows.{OptionRow, row_of}
use Rattle.ymx_arguments.proofs.options.address.Goals as goal

pub returns-in-Err : goal.returns-in-Err
returns-in-Err c =
    let text = c.in-Some.text.now in
    let least = (row_of c.args.name.now).least in
    let is : Some text ≡ first_of c.args.name.now (rows_of (found_of c.args.found.now)) = search rules in
    subst (λ given. (text ≡ unwrap_or given []) × ((address : SocketAddrV4) → IsSomeAnd given (λ text. IsSocketV4Text text address) × (least ≤ v4_port address) → ⊥)) is (refl, λ address p. c.in-Err.ensures.value address p.0)

-- no other address is spelled than this one, whose port is below the least
pub returns-in-Ok-2 : goal.returns-in-Ok-2
returns-in-Ok-2 c =
    let text = c.in-Some.text.now in
    let least = (row_of c.args.name.now).least in
    let is : Some text ≡ first_of c.args.name.now (rows_of (found_of c.args.found.now)) = search rules in
    subst (λ given. (text ≡ unwrap_or given []) × ((address : SocketAddrV4) → IsSomeAnd given (λ text. IsSocketV4Text text address) × (least ≤ v4_port address) → ⊥)) is (
      refl,
      λ other p.
          let port = ap v4_port (IsSocketV4Text_unique text c.in-Ok.address other c.in-Ok.ensures.value p.0) in
          let row : c.row_of.result.least ≡ least = ap (λ (r : OptionRow). r.least) c.row_of.ensures in
          let low = c.if-row_of-from.false in
          let from = c.from.ensures in
          let at = c.port.ensures in
          omega (arith, port, row, p.1, low, from, at),
    )
