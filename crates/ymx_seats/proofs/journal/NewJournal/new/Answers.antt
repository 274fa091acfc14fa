use Rattle.ymx_seats.proofs.Moves.{begins}
use Rattle.ymx_seats.proofs.journal.NewJournal.new.Goals as goal

pub table_of_words-requires : goal.table_of_words-requires
table_of_words-requires c = begins
