use Rattle.std.proofs.Common.{◌≡◌, ◌≤◌, drop}
use Rattle.ymx_script.specs.Words.{digits}
use Rattle.ymx_script.proofs.words.value_of.Given as goal

abbrev pub invariant-loop-digit : goal.invariant-loop-digit
invariant-loop-digit l = record {
  small : l.number ≤ 4294967295;
  value : digits 0 l.word ≡ digits l.number (drop l.digit-index l.word);
}
