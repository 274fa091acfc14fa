use Rattle.std.proofs.Common.{rules, inr}
use Rattle.ymx_cli.specs.Doing.{change_of}
use Rattle.ymx_cli.proofs.command.Devices.print_file.Goals as goal

pub returns-in-Ok-clause-printed : goal.returns-in-Ok-clause-printed
returns-in-Ok-clause-printed g c =
    let read = c.frames-end.ensures in
    let logged = c.finish.ensures in
    inr (
      change_of g.F.File.Inlet.remaining g.F.File.Inlet.failures c.in-Ok.file c.frames-end.new.reader,
      c.in-Ok.ensures.0,
      c.in-Ok.ensures.1,
      (c.frames-end.result, read.printed.0, read.printed.1, read.printed.2, read.printed.3, read.printed.4, read.reading, read.writing, logged.status, logged.good, search rules),
    )
