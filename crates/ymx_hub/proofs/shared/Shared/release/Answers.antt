-- No room, or one stream more that waits.
use Rattle.std.proofs.Common.{inl, rules, sym, ap, subst, ℕ, List}
use Rattle.std.specs.Prelude.{Contains}
use Rattle.std.proofs.lemmas.List.Elements.{Contains-push}
use Rattle.ymx_hub.proofs.Released.{releases_none, releases_wait, books_right, waits_listed}
use Rattle.ymx_hub.proofs.shared.Shared.release.Goals as goal

pub look-requires : goal.look-requires
look-requires g c = record { may = λ w. inl (c.requires.may w) }

pub returns-in_err-has_room-clause-booked : goal.returns-in_err-has_room-clause-booked
returns-in_err-has_room-clause-booked g c = releases_none g.R.Recorder.KEEPS c.args.seat.now c.args.id c.from_residual.result (search rules)

pub returns-in-Waits-clause-booked : goal.returns-in-Waits-clause-booked
returns-in-Waits-clause-booked g c = books_right g.R.Recorder.KEEPS c.args.seat.now c.look.new.seat c.list.new.seat c.args.id _ c.list.ensures.seat (releases_wait g.R.Recorder.KEEPS c.args.seat.now c.look.new.seat c.args.id tt (search rules))

pub returns-in-Waits-clause-done : goal.returns-in-Waits-clause-done
returns-in-Waits-clause-done g c = inl (
  waits_listed c.args.id c.look.new.self c.list.new.self _ _ c.list.ensures.listed (c.look.ensures.waits (search rules)),
  subst (λ (ids : List ℕ). Contains ids c.args.id) (sym (ap (λ v. v.released) c.list.ensures.listed)) (Contains-push c.look.new.self.released c.args.id),
)

pub returns-in-Spent-clause-refused : goal.returns-in-Spent-clause-refused
returns-in-Spent-clause-refused g c = λ e. absurd (c.in-Spent.ensures.named (search rules))
