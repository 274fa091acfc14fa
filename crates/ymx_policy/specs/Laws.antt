-- What a user can see of what an endpoint did: words that know nothing of the machine (this project's own).
use Rattle.std.specs.Prelude.{◌≡◌, ◌⊎◌, ◌^◌, ◌-◌, ◌==◌, ◌&&◌, ◌||◌, ℕ, zero, suc, List, [], ◌∷◌, Bool, true, false, not, if◌then◌else◌, min, Option, Some, None, is_some}
use Rattle.std.specs.declared.net.socket_addr.SocketAddrV4.{SocketAddrV4}
use Rattle.ymx_policy.specs.declared.plan.Mode.{Mode}
use Rattle.ymx_policy.specs.declared.plan.Mode.TheVariants.{LocalDials, LocalAwaits}
use Rattle.ymx_policy.specs.declared.plan.Terms.{Terms}
use Rattle.ymx_policy.specs.declared.commands.Fault.{Fault}
use Rattle.ymx_policy.specs.declared.commands.Fault.TheVariants as fault
use Rattle.ymx_policy.specs.declared.commands.Notice.{Notice}
use Rattle.ymx_policy.specs.declared.commands.Notice.TheVariants as notice
use Rattle.ymx_policy.specs.declared.commands.Words.{Words}
use Rattle.ymx_policy.specs.declared.commands.Action.{Action}
use Rattle.ymx_policy.specs.declared.commands.Action.TheVariants as action
use Rattle.ymx_policy.specs.declared.commands.Command.{Command}
use Rattle.ymx_policy.specs.declared.commands.SessionEnd.{SessionEnd}
use Rattle.ymx_policy.specs.declared.commands.Outcome.{Outcome}
use Rattle.ymx_policy.specs.declared.commands.Outcome.TheVariants.{Listening, LackedMemory, NoThread, PeerCame, UserCame, AllCame, NoUsers, SessionEnded, Done}

-- ---- what is logged

-- some fault was logged
abbrev pub is_some_fault : List Fault → Bool
is_some_fault [] = false
is_some_fault (f ∷ others) = true

-- the exit status: 0 where no fault was logged, else 1
abbrev pub status_of : List Fault → ℕ
status_of [] = 0
status_of (f ∷ others) = 1

-- nothing went wrong in the session
abbrev pub is_clean : SessionEnd → Bool
is_clean how = not (how.accept_failed || is_some how.broken || how.lacked_memory || how.lacks_peer)

-- all users came that were to, or a session was over in which nothing went wrong
abbrev pub is_well : Outcome → Bool
is_well AllCame = true
is_well (SessionEnded how) = is_clean how
is_well other = false

-- all have come that were to
abbrev pub is_all_came : Outcome → Bool
is_all_came AllCame = true
is_all_came other = false

-- so it is of what happened last
abbrev pub all_came_last : List (Command × Outcome) → Bool
all_came_last [] = false
all_came_last (entry ∷ past) = is_all_came entry.1

-- what happened last ends it well
abbrev pub ends_well : List (Command × Outcome) → Bool
ends_well [] = false
ends_well (entry ∷ past) = is_well entry.1

-- ---- pauses

-- the tries that failed so far: a connect without a peer, or a session of less than a second, is one more; a longer session ends the row;
-- where all have come no connect is made
abbrev pub tries_after : Action → Outcome → ℕ → ℕ
tries_after (action.Connect peer) PeerCame tries = tries
tries_after (action.Connect peer) AllCame tries = tries
tries_after (action.Connect peer) other tries = suc tries
tries_after (action.Serve session) (SessionEnded how) tries = if how.has_lasted then 0 else suc tries
tries_after (action.Serve session) other tries = suc tries
tries_after other outcome tries = tries

-- how many connects and sessions failed in a row
abbrev pub failed_tries : List (Command × Outcome) → ℕ
failed_tries [] = 0
failed_tries (entry ∷ past) = tries_after entry.0.action entry.1 (failed_tries past)

-- the pause after so many: 1, 2, 4, 8, 16, and then 30 seconds
abbrev pub pause_of : ℕ → ℕ
pause_of zero = 0
pause_of (suc others) = min 30 (2 ^ others)

-- what was done last
abbrev pub last_action : List (Command × Outcome) → Option Action
last_action [] = None
last_action (entry ∷ past) = Some entry.0.action

-- ---- retries

-- After a session whose peer sent Go Away ten connects may fail before users are rejected, after another none; each that fails is one
-- fewer.
abbrev pub retries_after : Action → Outcome → ℕ → ℕ
retries_after (action.Serve session) (SessionEnded how) n = if how.is_peer_away then 10 else 0
retries_after (action.Serve session) other n = 0
retries_after (action.Connect peer) PeerCame n = n
retries_after (action.Connect peer) AllCame n = n
retries_after (action.Connect peer) other n = n - 1
retries_after other outcome n = n

-- how many connects may fail before users are rejected
abbrev pub retries_allowed : List (Command × Outcome) → ℕ
retries_allowed [] = 0
retries_allowed (entry ∷ past) = retries_after entry.0.action entry.1 (retries_allowed past)

-- ---- who is there

-- it came to listen for users, or shares the listener of another link
abbrev pub opens : Action → Outcome → Bool
opens (action.ListenForUsers users) (Listening address) = true
opens (action.ListenForUsers users) Done = true
opens other outcome = false

-- it has come to listen for users
abbrev pub has_opened : List (Command × Outcome) → Bool
has_opened [] = false
has_opened (entry ∷ past) = opens entry.0.action entry.1 || has_opened past

-- a peer is there for a session, where one was or not
abbrev pub peer_after : Action → Outcome → Bool → Bool
peer_after (action.Connect peer) PeerCame there = true
peer_after action.AwaitPeer PeerCame there = true
peer_after (action.Serve session) outcome there = false
peer_after other outcome there = there

-- a peer came for which no session has run
abbrev pub has_peer : List (Command × Outcome) → Bool
has_peer [] = false
has_peer (entry ∷ past) = peer_after entry.0.action entry.1 (has_peer past)

-- users come to it
abbrev pub is_local : Mode → Bool
is_local LocalDials = true
is_local LocalAwaits = true
is_local other = false

-- where it listened for its peer last
abbrev pub listened : Action → Outcome → SocketAddrV4 → SocketAddrV4
listened (action.ListenForPeer wanted) (Listening address) before = address
listened other outcome before = before

-- where its peer is met: at the address of its plan, or where it came to listen
abbrev pub peers_of : Terms → List (Command × Outcome) → SocketAddrV4
peers_of t [] = t.peer
peers_of t (entry ∷ past) = listened entry.0.action entry.1 (peers_of t past)

-- ---- reasons

-- it is about where users or peers come in
abbrev pub is_about_port : Action → Bool
is_about_port (action.Connect peer) = false
is_about_port (action.Serve session) = false
is_about_port (action.Pause seconds) = false
is_about_port other = true

-- what was done last was about where users or peers come in: neither a connect nor a session
abbrev pub is_port_last : List (Command × Outcome) → Bool
is_port_last [] = false
is_port_last (entry ∷ past) = is_about_port entry.0.action

-- this number is that of the rule
abbrev pub is_rule : ℕ → Option ℕ → Bool
is_rule n None = false
is_rule n (Some rule) = rule == n

-- the fault is for this reason
abbrev pub explains : Fault → Action → Outcome → Bool
explains (fault.Broken n) (action.Serve session) (SessionEnded how) = is_rule n how.broken && not how.accept_failed
explains (fault.CannotListen address) (action.Serve session) (SessionEnded how) =
    how.accept_failed || (how.lacks_peer && not (is_some how.broken || how.lacked_memory))
explains (fault.CannotListen address) (action.Serve session) LackedMemory = false
explains (fault.CannotListen address) (action.Serve session) other = true
explains (fault.CannotListen address) action.RejectUsers (NoUsers why) = true
explains (fault.CannotListen address) action.RejectUsers other = false
explains (fault.CannotListen address) d AllCame = false
explains (fault.CannotListen address) (action.ListenForUsers users) (Listening listening_at) = false
explains (fault.CannotListen address) (action.ListenForUsers users) Done = false
explains (fault.CannotListen address) (action.ListenForUsers users) LackedMemory = false
explains (fault.CannotListen address) (action.ListenForUsers users) NoThread = false
explains (fault.CannotListen address) (action.ListenForUsers users) other = true
explains (fault.CannotListen address) (action.ListenForPeer wanted) (Listening listening_at) = false
explains (fault.CannotListen address) (action.ListenForPeer wanted) LackedMemory = false
explains (fault.CannotListen address) (action.ListenForPeer wanted) other = true
explains (fault.CannotListen address) action.AwaitPeer PeerCame = false
explains (fault.CannotListen address) action.AwaitPeer other = true
explains (fault.CannotListen address) action.AdmitPeers other = true
explains (fault.CannotListen address) action.AwaitUser UserCame = false
explains (fault.CannotListen address) action.AwaitUser other = true
explains (fault.CannotReach address) (action.ListenForUsers users) NoThread = true
explains (fault.CannotReach address) (action.Connect peer) PeerCame = false
explains (fault.CannotReach address) (action.Connect peer) AllCame = false
explains (fault.CannotReach address) (action.Connect peer) other = true
explains (fault.CannotReach address) (action.Serve session) (SessionEnded how) =
    how.lacks_peer && not (how.accept_failed || is_some how.broken || how.lacked_memory)
explains (fault.CannotReach address) (action.Serve session) LackedMemory = false
explains (fault.CannotReach address) (action.Serve session) other = true
explains fault.OutOfMemory (action.Serve session) (SessionEnded how) = how.lacked_memory && not (how.accept_failed || is_some how.broken)
explains fault.OutOfMemory (action.Connect peer) LackedMemory = false
explains fault.OutOfMemory other LackedMemory = true
explains f other outcome = false

-- what happened last is the reason for this fault, if it is one
abbrev pub is_explained : Option Fault → List (Command × Outcome) → Bool
is_explained None past = true
is_explained (Some f) [] = false
is_explained (Some f) (entry ∷ past) = explains f entry.0.action entry.1

-- a fault that names an address names the peer's or, of a port of its own, where users or peers come in
abbrev pub NamesAddress : (peer peers users : SocketAddrV4) → Option Fault → Type 0
NamesAddress peer peers users (Some (fault.CannotListen address)) = (address ≡ users) ⊎ (address ≡ peers)
NamesAddress peer peers users (Some (fault.CannotReach address)) = address ≡ peer
NamesAddress peer peers users other = Unit {0}

-- ---- notices

-- whether the log has a peer there, after this notice: not where it has gone
abbrev pub logged_there : Option Notice → Bool → Bool
logged_there (Some (notice.PeerGone peer)) before = false
logged_there other before = before

-- the same after these words
abbrev pub logged_by : Words → Bool → Bool
logged_by words before = logged_there words.last (logged_there words.first before)

-- a session that another follows has logged its peer's arrival, where it ended so
abbrev pub logs_arrival : Action → Outcome → Bool → Bool
logs_arrival (action.Serve session) (SessionEnded how) before = (session.reconnects && how.is_arrival_logged) || before
logs_arrival other outcome before = before

-- whether a peer's arrival was logged, and not its departure since
abbrev pub is_logged_there : List (Command × Outcome) → Bool
is_logged_there [] = false
is_logged_there (entry ∷ past) = logs_arrival entry.0.action entry.1 (logged_by entry.0.words (is_logged_there past))

-- the departure of a peer whose arrival was logged
abbrev pub is_gone : Option Notice → Bool
is_gone (Some (notice.PeerGone peer)) = true
is_gone other = false

-- these words log that
abbrev pub logs_departure : Words → Bool
logs_departure words = is_gone words.first || is_gone words.last

-- where the peer of the last session was, after the outcome of this action: nobody knows it of one that could not begin
abbrev pub last_peer_after : Action → Outcome → (before : Option SocketAddrV4) → Option SocketAddrV4
last_peer_after (action.Serve session) (SessionEnded how) before = how.peer
last_peer_after (action.Serve session) other before = None
last_peer_after other outcome before = before

-- where the peer of the last session was, if that is known
abbrev pub last_peer : List (Command × Outcome) → Option SocketAddrV4
last_peer [] = None
last_peer (entry ∷ past) = last_peer_after entry.0.action entry.1 (last_peer past)

-- a departure that is logged names this address
abbrev pub GoneFrom : (peer : Option SocketAddrV4) → Option Notice → Type 0
GoneFrom peer (Some (notice.PeerGone from)) = from ≡ peer
GoneFrom peer (Some (notice.PeerGoneSilent from)) = from ≡ peer
GoneFrom peer other = Unit {0}
