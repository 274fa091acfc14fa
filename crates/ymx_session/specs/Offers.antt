-- The stream of a SYN among those that wait to be accepted (flags).
use Rattle.std.specs.Prelude.{ℕ, [], ◌∷◌, ◌++◌}
use Rattle.ymx_model.specs.session.Tables.{insert_record}
use Rattle.ymx_model.specs.session.Sessions.{Session}
use Rattle.ymx_model.specs.session.Arrivals.{offer}

-- a new stream of this id is there, and waits to be accepted after the others
abbrev pub with_offer : ℕ → Session → Session
with_offer id s = record s { table = insert_record id (offer s) s.table; offered = s.offered ++ id ∷ [] }
