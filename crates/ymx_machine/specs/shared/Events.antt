-- Calls and replies, whose bytes a contract sees as a list, owned or lent (this project's own).
use Rattle.std.specs.Prelude.{List, ℕ}
use Rattle.ymx_machine.specs.declared.types.Call.{Call as CallOf}
use Rattle.ymx_machine.specs.declared.types.Reply.{Reply as ReplyOf}

abbrev pub Call : Type 0
Call = CallOf (List ℕ)

abbrev pub Reply : Type 0
Reply = ReplyOf (List ℕ)
