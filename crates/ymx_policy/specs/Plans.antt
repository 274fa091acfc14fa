-- What follows from the command line (this project's own).
use Rattle.std.specs.Prelude.{◌||◌, ◌==◌, ◌/◌, ℕ, Bool, true, false, nat_lt, max, if◌then◌else◌, Option, None, Some, is_some, unwrap_or}
use Rattle.std.specs.declared.net.socket_addr.SocketAddrV4.{SocketAddrV4}
use Rattle.ymx_policy.specs.declared.options.PeerAddress.{PeerAddress}
use Rattle.ymx_policy.specs.declared.options.PeerAddress.TheVariants.{Connect, Listen}
use Rattle.ymx_policy.specs.declared.options.Endpoint.{Endpoint}
use Rattle.ymx_policy.specs.declared.options.Endpoint.TheVariants.{Local, Remote}
use Rattle.ymx_policy.specs.declared.options.Plan.{Plan}
use Rattle.ymx_policy.specs.declared.commands.Keepalive.{Keepalive}
use Rattle.ymx_policy.specs.declared.commands.Users.{Users}
use Rattle.ymx_policy.specs.declared.plan.Mode.{Mode}
use Rattle.ymx_policy.specs.declared.plan.Mode.TheVariants.{LocalDials, LocalAwaits, RemoteDials, RemoteAwaits, RemoteAdmits, RemoteServes}
use Rattle.ymx_policy.specs.declared.plan.Terms.{Terms}

-- the address where the peer is met
abbrev pub address_of : PeerAddress → SocketAddrV4
address_of (Connect address) = address
address_of (Listen address) = address

-- Which endpoint it is that meets its peer so. A `remote` that listens admits peers to links, with --keep or --peers.
abbrev pub mode_of : Endpoint → PeerAddress → (kept : Bool) → Mode
mode_of (Local listen count links names) (Connect address) kept = LocalDials
mode_of (Local listen count links names) (Listen address) kept = LocalAwaits
mode_of (Remote target workers peers) (Connect address) kept = RemoteDials
mode_of (Remote target workers peers) (Listen address) kept = if kept || is_some peers then RemoteAdmits else RemoteAwaits

-- How many links it has that meets its peer so: a `local` its --links, where it connects, and a `remote` that listens as many as --peers
-- says, and else 16 with --keep.
abbrev pub link_count_of : Endpoint → PeerAddress → (kept : Bool) → ℕ
link_count_of (Local listen count links names) (Connect address) kept = links
link_count_of (Local listen count links names) (Listen address) kept = 1
link_count_of (Remote target workers peers) (Connect address) kept = 1
link_count_of (Remote target workers peers) (Listen address) kept = unwrap_or peers (if kept then 16 else 1)

-- it has several links
abbrev pub has_links : Endpoint → Bool
has_links (Local listen count links names) = nat_lt 1 links
has_links (Remote target workers peers) = false

-- its users wait for the first frame of the peer: with --keep or several links
abbrev pub waits_for_first_frame : Endpoint → (kept : Bool) → Bool
waits_for_first_frame (Local listen count links names) kept = kept || nat_lt 1 links
waits_for_first_frame (Remote target workers peers) kept = false

-- others follow a session: with --keep, and at a `remote` with --peers
abbrev pub reconnects_of : Endpoint → (kept : Bool) → Bool
reconnects_of (Local listen count links names) kept = kept
reconnects_of (Remote target workers peers) kept = kept || is_some peers

-- users come to --listen, --count of them; to a `remote` none do
abbrev pub users_of : Endpoint → (peer : SocketAddrV4) → (kept : Bool) → Users
users_of (Local listen count links names) peer kept = record { address = listen; count = count; keeps_listening = kept }
users_of (Remote target workers peers) peer kept = record { address = peer; count = None; keeps_listening = kept }

-- After so many seconds of silence the system sends a probe, and then one after each quarter of them, but not before a second. After four
-- in vain the connection fails. With 0 it never asks.
abbrev pub keepalive_of : ℕ → Option Keepalive
keepalive_of seconds = if seconds == 0 then None else Some (record { idle = seconds; interval = max (seconds / 4) 1; probes = 4 })

-- The connect timeout: as --timeout says or, where others wait for the connect, 10 seconds, and else the system's own.
abbrev pub connect_limit : (is_awaited : Bool) → (timeout : Option ℕ) → Option ℕ
connect_limit is_awaited (Some seconds) = Some seconds
connect_limit true None = Some 10
connect_limit false None = None

-- what follows of a plan
abbrev pub terms_of : Plan → Terms
terms_of p = record {
  mode = mode_of p.endpoint p.peer p.keeps;
  peer = address_of p.peer;
  from = p.from;
  limit = connect_limit (p.keeps || has_links p.endpoint) p.timeout;
  users = users_of p.endpoint (address_of p.peer) p.keeps;
  session = record {
    options = p.session;
    needs_first_frame = is_some p.session.ping || waits_for_first_frame p.endpoint p.keeps;
    reconnects = reconnects_of p.endpoint p.keeps;
  };
  link_count = link_count_of p.endpoint p.peer p.keeps;
}

-- how a link of such an endpoint meets its peer: one that admits peers hands them to its links
abbrev pub link_mode : Mode → Mode
link_mode RemoteAdmits = RemoteServes
link_mode mode = mode

-- the terms of each link of an endpoint
abbrev pub of_link : Terms → Terms
of_link t = record t { mode = link_mode t.mode }
