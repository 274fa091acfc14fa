-- What a contract sees of a socket (this project's own).
use Rattle.ymx_engine.specs.Devices.{Marks}
use Rattle.ymx_loop.specs.declared.socket.Marks.{Marks as SocketEvent}

-- what was reported of it
abbrev pub marks_of : SocketEvent → Marks
marks_of m = record { may_pull = m.may_pull; may_push = m.may_push; is_closing = m.is_closing }
