pub mod PacketTexts
pub mod PacketLoops
pub mod Recordings
pub mod ExportRefusals
pub mod Rereading
