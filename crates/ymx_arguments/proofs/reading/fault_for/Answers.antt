use Rattle.std.proofs.Common.{◌≡◌, ◌∙◌, refl}
use Rattle.std.specs.Borrow.{Bor}
use Rattle.clap.specs.Words.{Text, kind_of}
use Rattle.clap.specs.declared.error.Error.{Error}
use Rattle.ymx_arguments.specs.CommandLine.{IsFaultFor, kind_for}
use Rattle.ymx_arguments.specs.declared.options.BadOption.{BadOption}
use Rattle.ymx_arguments.specs.declared.options.BadOption.TheVariants as bad
use Rattle.ymx_arguments.specs.declared.reading.CommandFault.TheVariants.{Clap}
use Rattle.ymx_arguments.proofs.reading.fault_for.Goals as goal

-- a mistake of clap's kind is said by clap, if it is not an address
said : (mistake : BadOption) (e : Error) → ((name text : Bor Text) → mistake ≡ bad.Address name text → ⊥) → kind_of e ≡ kind_for mistake → IsFaultFor mistake (Clap e)
said (bad.Number name text) e other is = is
said (bad.Address name text) e other is = other name text refl
said (bad.Clash name apart) e other is = is
said bad.NoPeer e other is = is
said (bad.Network text) e other is = is
said bad.ManyNetworks e other is = is
said (bad.FarStatus text) e other is = is
said bad.NoStatus e other is = is

pub returns : goal.returns
returns c = said c.args.bad c.in_ok-error.field-0 c.in_default.not-Address (c.in_ok-error.ensures.kind ∙ c.kind_for.ensures)
