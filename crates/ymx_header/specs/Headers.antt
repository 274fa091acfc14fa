-- A header: twelve bytes in network order (framing).
use Rattle.std.specs.Prelude.{ℕ, ◌/◌, ◌%◌, ◌^◌, ◌<◌, List, ◌∷◌, ◌++◌, Bool, ◌==◌, slice_index}
use Rattle.byteorder.specs.Endian.{big_bytes, big_from}
use Rattle.ymx_header.specs.declared.header.Header.{Header}

-- version, type, flags (two bytes), stream id (four), length (four)
abbrev pub spelling : Header → List ℕ
spelling h = h.version ∷ h.kind ∷ (big_bytes 2 h.flags ++ big_bytes 4 h.id ++ big_bytes 4 h.length)

-- the same, read from the front
abbrev pub header_of : List ℕ → Header
header_of bytes = record {
  version = slice_index bytes 0;
  kind = slice_index bytes 1;
  flags = big_from 2 2 bytes;
  id = big_from 4 4 bytes;
  length = big_from 8 4 bytes;
}

-- each field fits its bytes
pub record IsInRange (h : Header) : Type 0 where
  pub version : h.version < 256
  pub kind : h.kind < 256
  pub flags : h.flags < 2 ^ 16
  pub id : h.id < 2 ^ 32
  pub length : h.length < 2 ^ 32

-- the flags of the standard are the four lowest bits: SYN 1, ACK 2, FIN 4, RST 8 (flags)
abbrev pub has_syn : Header → Bool
has_syn h = h.flags % 2 == 1

abbrev pub has_ack : Header → Bool
has_ack h = h.flags / 2 % 2 == 1

abbrev pub has_fin : Header → Bool
has_fin h = h.flags / 4 % 2 == 1

abbrev pub has_rst : Header → Bool
has_rst h = h.flags / 8 % 2 == 1
