-- An endpoint as a state machine: at each stage it gives one command, and the outcome leads to the next (this project's own).
use Rattle.std.specs.Prelude.{◌*◌, ◌-◌, ◌==◌, ◌||◌, ℕ, Bool, true, false, not, if◌then◌else◌, is_some, min, Option, Some, None}
use Rattle.std.specs.declared.net.socket_addr.SocketAddrV4.{SocketAddrV4}
use Rattle.ymx_policy.specs.declared.plan.Mode.{Mode}
use Rattle.ymx_policy.specs.declared.plan.Mode.TheVariants.{LocalDials, LocalAwaits, RemoteDials, RemoteAdmits, RemoteServes}
use Rattle.ymx_policy.specs.declared.plan.Terms.{Terms}
use Rattle.ymx_policy.specs.declared.reason.Reason.{Reason}
use Rattle.ymx_policy.specs.declared.reason.Reason.TheVariants as reason
use Rattle.ymx_policy.specs.declared.commands.Named.{Named}
use Rattle.ymx_policy.specs.declared.commands.Named.TheVariants as option
use Rattle.ymx_policy.specs.declared.commands.Notice.{Notice}
use Rattle.ymx_policy.specs.declared.commands.Notice.TheVariants as notice
use Rattle.ymx_policy.specs.declared.commands.Fault.{Fault}
use Rattle.ymx_policy.specs.declared.commands.Fault.TheVariants as fault
use Rattle.ymx_policy.specs.declared.commands.Words.{Words}
use Rattle.ymx_policy.specs.declared.commands.SessionEnd.{SessionEnd}
use Rattle.ymx_policy.specs.declared.commands.Action.{Action}
use Rattle.ymx_policy.specs.declared.commands.Action.TheVariants as action
use Rattle.ymx_policy.specs.declared.commands.Command.{Command}
use Rattle.ymx_policy.specs.declared.commands.Outcome.{Outcome}
use Rattle.ymx_policy.specs.declared.commands.Outcome.TheVariants.{Listening, Failed, LackedMemory, NoThread, PeerCame, UserCame, AllCame, NoUsers, SessionEnded, Done}
use Rattle.ymx_policy.specs.declared.machine.Stage.{Stage}
use Rattle.ymx_policy.specs.declared.machine.Stage.TheVariants as stage
use Rattle.ymx_policy.specs.declared.machine.State.{State}

-- ---- where it goes

-- Where it begins, without --keep and with it: a mistake at a port of its own comes first, but a `local` without --keep connects first.
abbrev pub begins : Mode → (kept : Bool) → Stage
begins LocalDials true = stage.OpeningUsers
begins LocalDials false = stage.Connecting
begins RemoteDials kept = stage.Connecting
begins RemoteServes kept = stage.AwaitingPeer
begins mode kept = stage.OpeningPeers

-- Where it goes on once what a stage is for is there. A `local` without --keep that connects listens for users once its peer is there.
abbrev pub next : Stage → Mode → (kept : Bool) → Stage
next stage.OpeningPeers LocalAwaits kept = stage.OpeningUsers
next stage.OpeningPeers RemoteAdmits kept = stage.AdmittingPeers
next stage.OpeningPeers mode kept = stage.AwaitingPeer
next stage.OpeningUsers LocalDials true = stage.AwaitingUser
next stage.OpeningUsers LocalDials false = stage.Serving
next stage.OpeningUsers mode kept = stage.AwaitingPeer
next stage.Connecting LocalDials false = stage.OpeningUsers
next stage.Connecting mode kept = stage.Serving
next stage.AwaitingPeer mode kept = stage.Serving
next stage.AwaitingUser mode kept = stage.Connecting
next stage.RejectingUsers mode kept = stage.AwaitingUser
next stage.Pausing mode kept = stage.Connecting
next at mode kept = stage.Over

-- After a session: without --keep nothing. A `local` that connects waits for its next user, but rejects those who wait where its peer sent no
-- frame and no Go Away. A `remote` that connects does so at once where no pause is due. One that awaits its peer awaits the next.
abbrev pub after_session : Mode → (kept : Bool) → (is_lost : Bool) → (pause : ℕ) → Stage
after_session mode false is_lost pause = stage.Over
after_session LocalDials true is_lost pause = if is_lost then stage.RejectingUsers else stage.AwaitingUser
after_session RemoteDials true is_lost pause = if pause == 0 then stage.Connecting else stage.Pausing
after_session mode true is_lost pause = stage.AwaitingPeer

-- the pause after a pause of so many seconds: 1 after none, and then 2, 4, 8, 16, 30
abbrev pub longer : ℕ → ℕ
longer seconds = if seconds == 0 then 1 else min 30 (2 * seconds)

-- ---- what it logs

-- nothing
abbrev pub silence : Words
silence = record { first = None; reason = None; fault = None; last = None }

-- that the system refused what an option asks for, where the reason is known
abbrev pub refusal : Named → Option Reason → Option Notice
refusal named (Some reason) = Some (notice.Refused named reason)
refusal named None = None

-- this fault, if there is one, after its reason
abbrev pub fails : (why : Option Notice) → Option Fault → Words
fails why f = record silence { reason = why; fault = f }

-- What is logged after a session with this fault, for this reason: without --keep no more. With it also that the peer has gone, and from
-- where: at last, but by a `local` that connects first, with a notice by which the peer had arrived or not.
abbrev pub session_end_words : Mode → (kept came : Bool) → (peer : Option SocketAddrV4) → Words → Words
session_end_words mode false came peer words = words
session_end_words LocalDials true true peer words = record words { first = Some (notice.PeerGone peer) }
session_end_words LocalDials true false peer words = record words { first = Some (notice.PeerGoneSilent peer) }
session_end_words mode true came peer words = record words { last = Some (notice.PeerGone peer) }

-- ---- which fault it is

-- where a session can't be had, the option is named that says where the peer is met, but by `local` the one where its users come from
abbrev pub serving : Mode → (users peer peers : SocketAddrV4) → Named
serving LocalDials users peer peers = option.Listen users
serving LocalAwaits users peer peers = option.Listen users
serving RemoteDials users peer peers = option.Peer peer
serving mode users peer peers = option.Bind peers

-- the peer can't be reached: it is connected to there, or connects here
abbrev pub peer_fault : Mode → (peer peers : SocketAddrV4) → Fault
peer_fault LocalDials peer peers = fault.CannotReach peer
peer_fault RemoteDials peer peers = fault.CannotReach peer
peer_fault mode peer peers = fault.CannotListen peers

-- that this rule was broken, or else this; who broke it, and how, was logged when it happened
abbrev pub broken_or : Option ℕ → Words → Words
broken_or (Some rule) other = fails None (Some (fault.Broken rule))
broken_or None other = other

-- What is logged of a session that ended so: of a failed accept, a broken rule and lack of memory the first in this order, and after these
-- a peer that can't be had. Users come to `users`; where the peer can't be reached, `session_fault` is the fault.
abbrev pub fault_of : (users : SocketAddrV4) → (session_fault : Fault) → SessionEnd → Words
fault_of users session_fault s =
    if s.accept_failed then fails (refusal (option.Listen users) s.accept_reason) (Some (fault.CannotListen users))
    else broken_or s.broken (if s.lacked_memory then fails None (Some fault.OutOfMemory) else if s.lacks_peer then fails None (Some session_fault) else silence)

-- ---- the machine

-- an endpoint that has done nothing yet
abbrev pub fresh : Terms → State
fresh t = record { stage = begins t.mode t.session.reconnects; words = silence; peers = t.peer; pause = 0; retries_left = 0; has_faulted = false }

-- the action of each stage
abbrev pub action_at : Stage → Terms → State → Action
action_at stage.OpeningPeers t s = action.ListenForPeer (record { address = t.peer; from = t.from })
action_at stage.OpeningUsers t s = action.ListenForUsers t.users
action_at stage.Connecting t s = action.Connect (record { address = t.peer; limit = t.limit })
action_at stage.AwaitingPeer t s = action.AwaitPeer
action_at stage.AdmittingPeers t s = action.AdmitPeers
action_at stage.AwaitingUser t s = action.AwaitUser
action_at stage.Serving t s = action.Serve t.session
action_at stage.RejectingUsers t s = action.RejectUsers
action_at stage.Pausing t s = action.Pause s.pause
action_at stage.Over t s = action.End (if s.has_faulted then 1 else 0)

-- the command that is due: what is to be logged, and then what is to be done
abbrev pub next_command : Terms → State → Command
next_command t s = record { words = s.words; action = action_at s.stage t s }

-- it goes on here, and logs this
abbrev pub goes : State → Stage → Words → State
goes s to words = record s { stage = to; words = words }

-- its command is done: it goes on, and logs this
abbrev pub proceeds : Terms → State → Words → State
proceeds t s words = goes s (next s.stage t.mode t.session.reconnects) words

-- it logs this fault after its reason, and ends
abbrev pub ends : State → (why : Option Notice) → Fault → State
ends s why f = record s { stage = stage.Over; words = fails why (Some f); has_faulted = true }

-- nobody can be accepted where users come in
abbrev pub no_users : Terms → State → Option Reason → State
no_users t s why = ends s (refusal (option.Listen t.users.address) why) (fault.CannotListen t.users.address)

-- nobody can be accepted where peers come in
abbrev pub no_peers : State → Option Reason → State
no_peers s why = ends s (refusal (option.Bind s.peers) why) (fault.CannotListen s.peers)

-- that no thread could be made for a link: the option that asks for links
abbrev pub no_thread : Named → Option Notice
no_thread named = Some (notice.Refused named reason.NoThread)

-- why it can't be done, if that is known
abbrev pub why_of : Outcome → Option Reason
why_of (Failed why) = why
why_of (NoUsers why) = why
why_of other = None

-- it listens for its peer, or can't
abbrev pub after_opening_peers : Terms → State → Outcome → State
after_opening_peers t s (Listening address) = record (proceeds t s (record silence { first = Some (notice.Listening address) })) { peers = address }
after_opening_peers t s AllCame = goes s stage.Over silence
after_opening_peers t s LackedMemory = ends s None fault.OutOfMemory
after_opening_peers t s NoThread = ends s (no_thread option.Peers) (fault.CannotListen s.peers)
after_opening_peers t s other = no_peers s (why_of other)

-- it listens for users, or another link of its does, or it can't
abbrev pub after_opening_users : Terms → State → Outcome → State
after_opening_users t s (Listening address) = proceeds t s (record silence { first = Some (notice.Listening address) })
after_opening_users t s AllCame = goes s stage.Over silence
after_opening_users t s Done = proceeds t s silence
after_opening_users t s LackedMemory = ends s None fault.OutOfMemory
after_opening_users t s NoThread = ends s (no_thread option.Links) (fault.CannotReach t.peer)
after_opening_users t s other = no_users t s (why_of other)

-- A connect that failed ends all but with --keep. There a `local` rejects all users that wait, or retries after
-- a second while retries are left; a `remote` pauses.
abbrev pub unreached : Mode → (kept : Bool) → (peer : SocketAddrV4) → (why : Option Notice) → State → State
unreached mode false peer why s = ends s why (fault.CannotReach peer)
unreached RemoteDials true peer why s =
    record s { stage = stage.Pausing; words = record silence { first = why; last = Some (notice.Unreached peer) }; pause = longer s.pause }
unreached mode true peer why s =
    if s.retries_left == 0 then goes s stage.RejectingUsers (record silence { first = why })
    else record s { stage = stage.Pausing; words = record silence { first = why; last = Some (notice.Unreached peer) }; pause = 1; retries_left = s.retries_left - 1 }

-- the peer that it connects to is there, can't be reached, or is to come no more
abbrev pub after_connecting : Terms → State → Outcome → State
after_connecting t s PeerCame = proceeds t s silence
after_connecting t s AllCame = goes s stage.Over silence
after_connecting t s NoThread = unreached t.mode t.session.reconnects t.peer (no_thread option.Links) s
after_connecting t s other = unreached t.mode t.session.reconnects t.peer (refusal (option.Peer t.peer) (why_of other)) s

-- the peer that it awaited is there, or none comes
abbrev pub after_awaiting_peer : Terms → State → Outcome → State
after_awaiting_peer t s PeerCame = proceeds t s silence
after_awaiting_peer t s AllCame = goes s stage.Over silence
after_awaiting_peer t s (NoUsers why) = no_users t s why
after_awaiting_peer t s other = no_peers s (why_of other)

-- no more peers are to be admitted, or none can be
abbrev pub after_admitting : Terms → State → Outcome → State
after_admitting t s AllCame = goes s stage.Over silence
after_admitting t s other = no_peers s (why_of other)

-- a user waits, or none comes
abbrev pub after_awaiting_user : Terms → State → Outcome → State
after_awaiting_user t s UserCame = proceeds t s silence
after_awaiting_user t s AllCame = goes s stage.Over silence
after_awaiting_user t s other = no_users t s (why_of other)

-- all users that waited are closed
abbrev pub after_rejecting : Terms → State → Outcome → State
after_rejecting t s AllCame = goes s stage.Over silence
after_rejecting t s (NoUsers why) = no_users t s why
after_rejecting t s other = proceeds t s silence

-- the pause that is due after a session: none where it lasted, for a second at least
abbrev pub pause_behind : SessionEnd → (pause : ℕ) → ℕ
pause_behind how pause = if how.has_lasted then 0 else longer pause

-- After a session that ended so, and this is logged of it. Ten connects may fail before users are rejected where its peer sent Go Away, as it is
-- to be there again soon, and else none.
abbrev pub end_session : Terms → State → SessionEnd → Words → State
end_session t s how words = record s {
  stage = after_session t.mode t.session.reconnects (not (how.is_arrival_logged || how.is_peer_away)) (pause_behind how s.pause);
  words = session_end_words t.mode t.session.reconnects how.is_arrival_logged how.peer words;
  pause = pause_behind how s.pause;
  retries_left = if how.is_peer_away then 10 else 0;
  has_faulted = s.has_faulted || is_some words.fault;
}

-- a session in which nothing went wrong
abbrev pub clean : SessionEnd
clean = record {
  accept_failed = false;
  accept_reason = None;
  broken = None;
  peer = None;
  lacked_memory = false;
  lacks_peer = false;
  has_lasted = false;
  is_peer_away = false;
  is_arrival_logged = false;
}

-- the session has ended, or could not begin
abbrev pub after_serving : Terms → State → Outcome → State
after_serving t s (SessionEnded how) = end_session t s how (fault_of t.users.address (peer_fault t.mode t.peer s.peers) how)
after_serving t s LackedMemory = end_session t s clean (fails None (Some fault.OutOfMemory))
after_serving t s other = end_session t s clean (fails (refusal (serving t.mode t.users.address t.peer s.peers) (why_of other)) (Some (peer_fault t.mode t.peer s.peers)))

-- what happened at this stage leads here
abbrev pub after_at : Stage → Terms → State → Outcome → State
after_at stage.OpeningPeers t s h = after_opening_peers t s h
after_at stage.OpeningUsers t s h = after_opening_users t s h
after_at stage.Connecting t s h = after_connecting t s h
after_at stage.AwaitingPeer t s h = after_awaiting_peer t s h
after_at stage.AdmittingPeers t s h = after_admitting t s h
after_at stage.AwaitingUser t s h = after_awaiting_user t s h
after_at stage.Serving t s h = after_serving t s h
after_at stage.RejectingUsers t s h = after_rejecting t s h
after_at stage.Pausing t s h = proceeds t s silence
after_at stage.Over t s h = s

-- what happened leads here
abbrev pub after : Terms → State → Outcome → State
after t s h = after_at s.stage t s h
