-- Payload that comes and is read at once, where nothing is unread (flow control).
use Rattle.std.specs.Prelude.{◌≡◌, ◌≤◌, ◌+◌, ◌-◌, ℕ, List, [], length, Bool, true}
use Rattle.ymx_model.specs.session.Records.{End, Reader, takes_payload, receive_piece, end_read}

-- n bytes come and are read at once: they were granted, and are owed
abbrev pub reader_pass : ℕ → Reader → Reader
reader_pass n r = record r { granted = r.granted - n; owed = r.owed + n }

-- these bytes come, with the end after them if `fin`, and as many are read
abbrev pub passed : (fin : Bool) → List ℕ → End → End
passed fin bytes e = end_read (length bytes) (receive_piece fin bytes e)

-- The stream takes these bytes, and nothing of it is unread.
pub record MayPass (bytes : List ℕ) (e : End) : Type 0 where
  pub takes : takes_payload e ≡ true
  pub read_up : e.reader.unread ≡ []
  pub granted : length bytes ≤ e.reader.granted
