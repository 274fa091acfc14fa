-- A delivery is moves of the machine at its receiver, byte by byte: what the twelfth byte of a
-- header does, and each byte of a payload.
pub mod DeliverMoves
pub mod DeliverTexts
pub mod DeliverBytes
pub mod DeliverHeads
pub mod DeliverFaults
pub mod DeliverStreams
pub mod DeliverResets
pub mod DeliverSyns
pub mod DeliverSession
pub mod DeliverPings
pub mod DeliverStep
