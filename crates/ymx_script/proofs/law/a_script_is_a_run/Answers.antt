use Rattle.ymx_script.specs.Scripts.{first_position}
use Rattle.ymx_script.proofs.ScriptRuns.{lines_run}
use Rattle.ymx_script.proofs.law.a_script_is_a_run.Goals as goal

pub returns : goal.returns
returns c = λ lines text p plays. lines_run lines first_position p text plays
