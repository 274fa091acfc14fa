-- When nothing is under way between two tunnels, and what has come then (this project's own).
use Rattle.std.specs.Prelude.{ℕ, ◌≡◌, ◌⊎◌, ◌==◌, ◌||◌, ◌&&◌, ◌++◌, ◌∷◌, List, [], Bool, true, false, not, None, Some, IsSome}
use Rattle.std.specs.Io.KnownBytes.{Appends, Consumes}
use Rattle.ymx_machine.specs.declared.types.Call.TheVariants as call
use Rattle.ymx_machine.specs.declared.types.Reply.TheVariants as reply
use Rattle.ymx_machine.specs.shared.Events.{Reply}
use Rattle.ymx_machine.specs.shared.Steps.{answer_of}
use Rattle.ymx_model.specs.declared.types.Event.TheVariants as event
use Rattle.ymx_model.specs.session.Events.{Event}
use Rattle.ymx_model.specs.session.Sessions.{Session, is_running}
use Rattle.ymx_model.specs.session.Emissions.{in_turn}
use Rattle.ymx_model.specs.session.Histories.{Gives}
use Rattle.ymx_session.specs.Replies.{stream_fault}
use Rattle.ymx_session.specs.Streams.{waiting, has_ended}
use Rattle.ymx_headline.specs.machine.Arrivals.{read_of}
use Rattle.ymx_engine.specs.Devices.{Seen}
use Rattle.ymx_engine.specs.Engines.{Engine, IsFlushed}
use Rattle.ymx_engine.specs.Events.{taken, given}
use Rattle.ymx_engine.specs.Lives.{opens_at}
use Rattle.ymx_engine.specs.Served.{NoneGives, NoneEnds, NoneStops, NoneHangs}
use Rattle.ymx_engine.specs.Tunnels.{Tunnel}
use Rattle.ymx_engine.specs.Turns.{Connection, connection_of}
use Rattle.ymx_engine.specs.Directions.{is_open, may_push}
use Rattle.ymx_engine.specs.Work.{has_work}
use Rattle.ymx_joined.specs.Tunnels.{TunnelPair, Turn, HaveCome, events_at_a, events_at_b}

-- Nothing is under way from one engine to another over this pipe: nothing of the one is due, no byte waits for its wire, in
-- the pipe, or to be fed to the other, and both sessions run.
pub record IsQuietWay (from to : Engine) (pipe : List ℕ) : Type 0 where
  pub flushed : IsFlushed from
  pub empty : pipe ≡ []
  pub fed : to.incoming ≡ []
  pub from_runs : is_running from.session.status ≡ true
  pub to_runs : is_running to.session.status ≡ true

-- both ways
abbrev pub AreQuiet : TunnelPair → Type 0
AreQuiet p = IsQuietWay p.a p.b p.ab × IsQuietWay p.b p.a p.ba

-- the stream was finished, and this was not refused
abbrev pub finish_done_at : ℕ → Event → Reply → Bool
finish_done_at id (event.Call (call.Finish other)) reply.Done = other == id
finish_done_at id _ told = false

abbrev pub is_finished : ℕ → List (Event × Reply) → Bool
is_finished id [] = false
is_finished id (e ∷ es) = finish_done_at id e.0 e.1 || is_finished id es

-- What the stream took at one end was given at the other, or waits there to be given. Its end has come there exactly if it
-- was finished.
pub record HasCome (id : ℕ) (from to : List (Event × Reply)) (reader : Session) : Type 0 where
  pub bytes : taken id from ≡ given id to ++ waiting id reader
  pub end : has_ended id reader ≡ is_finished id from

-- What the next read of the stream answers: the first of what waits; where nothing waits, the end if it has come, and else
-- that there is nothing yet.
abbrev pub NextRead : ℕ → Session → Type 0
NextRead id s = (room : ℕ) (told : Reply) (t : Session) → Gives in_turn s (event.Call (call.Read id room)) told t → answer_of told ≡ read_of room (waiting id s) (has_ended id s)

-- ---- who has the stream

-- it was opened or accepted
abbrev pub was_given : ℕ → List (Event × Reply) → Bool
was_given id [] = false
was_given id (e ∷ es) = opens_at id e.0 e.1 || was_given id es

-- it was reset or forgotten, and this was not refused
abbrev pub leaves_at : ℕ → Event → Reply → Bool
leaves_at id (event.Call (call.Reset other)) reply.Done = other == id
leaves_at id (event.Call (call.Forget other)) reply.Done = other == id
leaves_at id _ told = false

abbrev pub was_left : ℕ → List (Event × Reply) → Bool
was_left id [] = false
was_left id (e ∷ es) = leaves_at id e.0 e.1 || was_left id es

-- its side was given it, and did not leave it
abbrev pub was_kept : ℕ → List (Event × Reply) → Bool
was_kept id es = was_given id es && not (was_left id es)

-- ---- two tunnels

-- A stream of two sessions. Where the way to one of them is quiet, and it has the stream, all has come that the stream took
-- at the other end. Where both ways are, both have it if both were given it, and neither left it.
pub record HasArrived (id : ℕ) (at_a at_b : List (Event × Reply)) (p : TunnelPair) : Type 0 where
  pub to_b : IsQuietWay p.a p.b p.ab → stream_fault id p.b.session ≡ None → HasCome id at_a at_b p.b.session
  pub to_a : IsQuietWay p.b p.a p.ba → stream_fault id p.a.session ≡ None → HasCome id at_b at_a p.a.session
  pub both : AreQuiet p → was_kept id at_a ≡ true → was_kept id at_b ≡ true → (stream_fault id p.a.session ≡ None) × (stream_fault id p.b.session ≡ None)

-- Whatever two tunnels did, in whatever order, each stream has arrived where the way is quiet.
abbrev pub AllHasCome : List Turn → Type 0
AllHasCome ts =
    (window_a first_a window_b first_b : ℕ) (q : TunnelPair) → HaveCome ts window_a first_a window_b first_b q →
    (id : ℕ) → HasArrived id (events_at_a ts) (events_at_b ts) q

-- ---- their devices

-- What one device gave the other took, but for these bytes, which come after.
pub record IsAllPassedOn (giver giver_new taker taker_new : Seen) (waits : List ℕ) : Type 0 where
  pub came : List ℕ
  pub went : List ℕ
  pub gave : Consumes giver.left giver_new.left came
  pub took : Appends taker.had taker_new.had went
  pub all : came ≡ went ++ waits

-- ---- two tunnels at rest

-- A tunnel has no work, though its wire may take bytes.
pub record IsAtRest (t : Tunnel) : Type 0 where
  pub idle : has_work t ≡ false
  pub takes : t.wire.marks.may_push ≡ true

-- These are now the two tunnels whose sessions and connections the pair has.
pub record AreOf (q : TunnelPair) (a b : Tunnel) : Type 0 where
  pub engine_a : a.engine ≡ q.a
  pub connections_a : a.connections ≡ q.connections_a
  pub engine_b : b.engine ≡ q.b
  pub connections_b : b.connections ≡ q.connections_b

-- Where this end has the stream, and its connection is there: all that the stream took at the other end was given here, and it was
-- not finished there; or the device here may take none now, as it says itself, or as it was told of the end.
abbrev pub IsDelivered : ℕ → (from to : List (Event × Reply)) → Tunnel → Type 0
IsDelivered id from to here = (l : Connection) → stream_fault id here.engine.session ≡ None → connection_of id here.connections ≡ Some l → ((taken id from ≡ given id to) × (is_finished id from ≡ false)) ⊎ (may_push l.directions l.seen.marks ≡ false)

-- Where this end has the stream no more, as it was reset or the session is closed, and its connection is there: the device may take
-- none now, as it says itself, or as it was told; and its way to the peer isn't open.
abbrev pub IsLetGo : ℕ → Tunnel → Type 0
IsLetGo id here = (l : Connection) → IsSome (stream_fault id here.engine.session) → connection_of id here.connections ≡ Some l → (may_push l.directions l.seen.marks ≡ false) × (is_open l.directions.to_peer ≡ false)

-- What a tunnel at rest leaves to no device: no stream takes bytes that its device may have; where no more come on a stream, and where
-- it takes none any more, its device was told, as far as it may be; and so it is of a session that is over.
pub record LeavesNone (t : Tunnel) : Type 0 where
  pub gives : NoneGives t
  pub hears : NoneHangs t
  pub ends : NoneEnds t
  pub stops : NoneStops t
  pub let_go : (id : ℕ) → IsLetGo id t

-- What two tunnels at rest have come to, over empty pipes. If both sessions run nothing is under way, and each stream is delivered,
-- both ways. Neither leaves anything to a device.
pub record HaveDelivered (at_a at_b : List (Event × Reply)) (q : TunnelPair) (a b : Tunnel) : Type 0 where
  pub quiet : is_running a.engine.session.status ≡ true → is_running b.engine.session.status ≡ true → AreQuiet q
  pub to_b : is_running a.engine.session.status ≡ true → is_running b.engine.session.status ≡ true → (id : ℕ) → IsDelivered id at_a at_b b
  pub to_a : is_running a.engine.session.status ≡ true → is_running b.engine.session.status ≡ true → (id : ℕ) → IsDelivered id at_b at_a a
  pub rests_a : LeavesNone a
  pub rests_b : LeavesNone b

-- Whatever two tunnels did, in whatever order, so it is once both are at rest.
abbrev pub AllIsDelivered : List Turn → Type 0
AllIsDelivered ts =
    (window_a first_a window_b first_b : ℕ) (q : TunnelPair) (a b : Tunnel) → HaveCome ts window_a first_a window_b first_b q → AreOf q a b →
    IsAtRest a → IsAtRest b → q.ab ≡ [] → q.ba ≡ [] → HaveDelivered (events_at_a ts) (events_at_b ts) q a b
