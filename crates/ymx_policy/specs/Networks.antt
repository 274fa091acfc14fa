-- From where peers may connect (this project's own).
use Rattle.std.specs.Prelude.{◌-◌, ◌^◌, ◌/◌, ◌==◌, ℕ, Bool, Option, Some, None, replicate}
use Rattle.std.specs.List.{list_any}
use Rattle.std.specs.Net.Addr.{ipv4_bits}
use Rattle.std.specs.Net.Socket.{v4_ip}
use Rattle.std.specs.declared.net.ipv4_addr.Ipv4Addr.{Ipv4Addr}
use Rattle.std.specs.declared.net.socket_addr.SocketAddrV4.{SocketAddrV4}
use Rattle.ymx_policy.specs.declared.options.Network.{Network}
use Rattle.ymx_policy.specs.declared.options.Networks.{Networks}

-- the first bits of an address, as a number: those before the last so many
abbrev pub first_bits : (last : ℕ) → Ipv4Addr → ℕ
first_bits last address = ipv4_bits address / 2 ^ last

-- an address is one of a network: its first bits are those of the network's own address
abbrev pub has : Network → Ipv4Addr → Bool
has network address = first_bits (32 - network.bits) address == first_bits (32 - network.bits) network.address

-- a network has all addresses
abbrev pub has_all : Network → Bool
has_all network = network.bits == 0

-- A peer at this address is admitted: it is one of a network. Where it isn't known, only where a network has all.
abbrev pub admits : Networks → (from : Option SocketAddrV4) → Bool
admits n (Some address) = list_any (λ network. has network (v4_ip address)) n.networks
admits n None = list_any has_all n.networks

-- everywhere
abbrev pub all : Networks
all = record { networks = replicate 8 (record { address = record { octets = replicate 4 0 }; bits = 0 }) }
