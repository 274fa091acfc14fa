use Rattle.std.proofs.Common.{sym, ◌∙◌}
use Rattle.ymx_engine.proofs.Resting.{rest_none, rest_takes, rest_hears, rest_ends, rest_stops}
use Rattle.ymx_engine.proofs.tunnel.Tunnel.has_work.Goals as goal

pub returns-clause-rest : goal.returns-clause-rest
returns-clause-rest g c = λ serving rests. rest_none _ serving (sym c.may_move.ensures ∙ rests)

pub returns-clause-gives : goal.returns-clause-gives
returns-clause-gives g c = λ serving rests. rest_takes _ serving (sym c.may_move.ensures ∙ rests)

pub returns-clause-hears : goal.returns-clause-hears
returns-clause-hears g c = λ serving rests. rest_hears _ serving (sym c.may_move.ensures ∙ rests)

pub returns-clause-ends : goal.returns-clause-ends
returns-clause-ends g c = λ serving rests. rest_ends _ serving (sym c.may_move.ensures ∙ rests)

pub returns-clause-stops : goal.returns-clause-stops
returns-clause-stops g c = λ serving rests. rest_stops _ serving (sym c.may_move.ensures ∙ rests)
