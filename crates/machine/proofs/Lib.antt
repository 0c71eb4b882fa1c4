mod Tally
pub mod Entries
mod CallLaws
mod DoorLaws
pub mod CoreCalls
pub mod CoreLists
mod Least
mod Facts
pub mod Front
mod SetLoop
pub mod CommitLaws
pub mod CommitCalls
mod SoundLaws
pub mod BlankLaws
pub mod Refusals
mod Told
pub mod Case
pub mod CaseOf
pub mod Binds
pub mod Sound
pub mod Run
pub mod InsideLaws
pub mod Typed
