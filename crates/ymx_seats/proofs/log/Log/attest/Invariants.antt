use Rattle.std.proofs.Common.{length}
use Rattle.ymx_seats.specs.Views.{entry}
use Rattle.ymx_seats.proofs.log.Log.attest.Given as goal

abbrev pub ghosts-note : goal.ghosts-note
ghosts-note g a = record { entry = entry (length a.journal.now.whole) a.witness.now.number a.event.now a.reply.now }
