use Rattle.std.proofs.Common.{arith, rules}
use Rattle.std.proofs.lemmas.Grind.{common_steps}
use Rattle.ymx_script.proofs.Reading.{all_without_last, all_if_last}
use Rattle.ymx_script.proofs.lines.Lines.finish.Goals as goal

pub returns-then-is_empty-clause-good : goal.returns-then-is_empty-clause-good
returns-then-is_empty-clause-good c = λ _ text done r. all_without_last text done c.args.self.now (grind (arith, common_steps)) r

pub returns-clause-good : goal.returns-clause-good
returns-clause-good c = all_if_last c.play_line.result c.args.self.now c.play_line.new.self _ c.as_slice.ensures.value (search rules) c.play_line.ensures.played
