-- What a header says of its frame by itself: its type, or the first fault (framing).
use Rattle.std.specs.Prelude.{ℕ, ◌==◌, List, if◌then◌else◌, Result, Ok, Err, codes}
use Rattle.ymx_header.specs.declared.header.Header.{Header}
use Rattle.ymx_header.specs.declared.header.Kind.{Kind}
use Rattle.ymx_header.specs.declared.header.Kind.TheVariants.{Data, Window, Ping, Away}
use Rattle.ymx_header.specs.declared.fault.Fault.{Fault}
use Rattle.ymx_header.specs.declared.fault.Fault.TheVariants.{BadVersion, UnknownType, BadSyn, StreamInUse, WindowExceeded, CreditOverflow, BadGoAwayCode, PeerSawProtocolError, PeerSawInternalError}

-- the version is judged before the type
abbrev pub check_of : Header → Result Kind Fault
check_of h =
    if h.version == 0 then
    (if h.kind == 0 then Ok Data
    else if h.kind == 1 then Ok Window
    else if h.kind == 2 then Ok Ping
    else if h.kind == 3 then Ok Away
    else Err UnknownType)
    else Err BadVersion

-- the number that users see after a B
abbrev pub fault_number : Fault → ℕ
fault_number BadVersion = 1
fault_number UnknownType = 2
fault_number BadSyn = 3
fault_number StreamInUse = 4
fault_number WindowExceeded = 5
fault_number CreditOverflow = 6
fault_number BadGoAwayCode = 7
fault_number PeerSawProtocolError = 8
fault_number PeerSawInternalError = 9

-- the name that is printed
abbrev pub fault_name : Fault → List ℕ
fault_name BadVersion = codes "B1"
fault_name UnknownType = codes "B2"
fault_name BadSyn = codes "B3"
fault_name StreamInUse = codes "B4"
fault_name WindowExceeded = codes "B5"
fault_name CreditOverflow = codes "B6"
fault_name BadGoAwayCode = codes "B7"
fault_name PeerSawProtocolError = codes "B8"
fault_name PeerSawInternalError = codes "B9"
