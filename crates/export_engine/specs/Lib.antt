pub mod Packets
pub mod Exported
pub mod ExportRefused
pub mod Reread
