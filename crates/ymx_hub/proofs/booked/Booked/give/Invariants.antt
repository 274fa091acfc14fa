use Rattle.ymx_seats.specs.declared.plays.Right.TheVariants.{Writes}
use Rattle.ymx_hub.specs.Rights.{last_place}
use Rattle.ymx_hub.proofs.booked.Booked.give.Given as goal

abbrev pub ghosts-hand_out : goal.ghosts-hand_out
ghosts-hand_out g a = record { right = Writes a._id (last_place a.log.now.journal) }
