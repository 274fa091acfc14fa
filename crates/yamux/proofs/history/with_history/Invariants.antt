-- The journal's name stands for the session and the journal that were just made.
use Rattle.ymx_hub.specs.Booked.{config_of}
use Rattle.yamux.proofs.history.with_history.Given as goal

abbrev pub ghosts-run_named : goal.ghosts-run_named
ghosts-run_named g a = record { table = a.journal; role = a.machine.role; config = config_of a.machine }
