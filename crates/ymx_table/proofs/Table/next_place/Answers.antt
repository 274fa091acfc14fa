-- The first from the place of the turn on, or the first before it, or none.
use Rattle.std.proofs.Common.{subst, false}
use Rattle.std.specs.Prelude.{◌≡◌, MatchOption}
use Rattle.ymx_model.specs.session.Tables.{Table, any_due}
use Rattle.ymx_table.specs.Turns.{IsTurn}
use Rattle.ymx_table.proofs.Rounds.{turn-behind, found-before}
use Rattle.ymx_table.proofs.Table.next_place.Goals as goal

pub returns-in-Some : goal.returns-in-Some
returns-in-Some c =
    subst (IsTurn c.in-Some.place) c.self.view_is
    (turn-behind _ _ c.self.invariant.flagged c.in-Some.place c.in-Some.ensures)

pub returns-in-None : goal.returns-in-None
returns-in-None c =
    subst (λ (t : Table). MatchOption c.first_from-in-None.result (any_due t.window t.entries ≡ false) (λ at. IsTurn at t)) c.self.view_is
    (found-before _ _ c.self.invariant.flagged c.in-None.ensures _ c.first_from-in-None.ensures)
