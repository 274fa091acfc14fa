use Rattle.std.proofs.Common.{rules}
use Rattle.ymx_script.proofs.Reading.{next_bad, next_err}
use Rattle.ymx_script.proofs.lines.Lines.next_line.Goals as goal

pub returns-clause-bad : goal.returns-clause-bad
returns-clause-bad c = next_bad c.end_line.result c.args.bytes.now c.args.end c.args.self.now c.add.new.self c.end_line.new.self c.requires.ends (c.in_ok-fits.ensures.good (search rules)) c.end_line.ensures.bad

pub returns-clause-err : goal.returns-clause-err
returns-clause-err c = next_err c.end_line.result c.args.bytes.now c.args.end c.args.self.now c.add.new.self c.end_line.new.self c.requires.ends (c.in_ok-fits.ensures.good (search rules)) c.end_line.ensures.err
