use Rattle.std.proofs.Common.{◌≡◌, length, arith, lit<, inl, inr}
use Rattle.std.specs.List.{position_or_len}
use Rattle.ymx_arguments.specs.CommandLine.{is_slash}
use Rattle.ymx_arguments.proofs.networks.network_in.Goals as goal

pub returns-in-Err : goal.returns-in-Err
returns-in-Err c = λ network names.
    let none : position_or_len is_slash c.args.text.now ≡ length c.args.text.now = c.in-None.ensures.byte (lit< tt) (λ w o h. h) in
    elim names [
      | inl h ↦ c.in-Err.ensures.value network.address h.1
      | inr h ↦ absurd (omega (arith, none, h.0))
    ]

pub returns-in_default-2 : goal.returns-in_default-2
returns-in_default-2 c = λ network names.
    let parts = c.in-Some.ensures.byte (lit< tt) (λ w o h. h) in
    let unread = rw c.in_default.is-0 at c.parse-in-Some.ensures.value in
    elim names [
      | inl h ↦ absurd (omega (arith, parts.2, h.0))
      | inr h ↦ unread network.address (rw parts.0 h.1)
    ]
