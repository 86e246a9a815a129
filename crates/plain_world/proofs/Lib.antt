mod AllowedTurns
mod ReportPieces
mod ReportSteps
mod RunLaws
mod SameReady
mod TimedProcesses
pub mod Answering
pub mod Counting
pub mod Deliveries
pub mod EndSteps
pub mod Falling
pub mod Finding
pub mod FirstWorld
pub mod LinkList
pub mod Linking
pub mod Members
pub mod NameList
pub mod Nearness
pub mod Places
pub mod ProcessList
pub mod Rising
pub mod Sending
pub mod Streaming
pub mod Timeouts
pub mod Turning
pub mod WantedTags
pub mod Watching
