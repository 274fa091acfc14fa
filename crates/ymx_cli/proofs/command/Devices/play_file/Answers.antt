use Rattle.std.proofs.Common.{rules, inr}
use Rattle.ymx_cli.specs.Doing.{change_of}
use Rattle.ymx_cli.proofs.command.Devices.play_file.Goals as goal

pub returns-in-Ok-clause-played : goal.returns-in-Ok-clause-played
returns-in-Ok-clause-played g c =
    let read = c.script-end.ensures in
    let logged = c.finish_script.ensures in
    inr (
      change_of g.F.File.Inlet.remaining g.F.File.Inlet.failures c.in-Ok.file c.script-end.new.reader,
      c.in-Ok.ensures.0,
      c.in-Ok.ensures.1,
      (c.script-end.result, read.printed.0, read.printed.1, read.printed.2, read.printed.3, read.printed.4, read.reading, read.writing, logged.status, logged.good, search rules),
    )
