use Rattle.std.proofs.Common.{refl}
use Rattle.ymx_script.proofs.Rounds.{written}
use Rattle.ymx_script.proofs.lines.Lines.clear.Goals as goal

pub returns : goal.returns
returns c = λ text done r. written text done c.args.self.now _ c.clear.ensures.position c.clear.ensures.text refl refl r
