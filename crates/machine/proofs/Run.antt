mod Orderly
mod Births
mod Order
mod Strikes
mod Eldest
mod RoundsBound
mod Fates
mod Served
mod FirstNamed
pub mod ShortAttempts
pub mod CountedRounds
pub mod TightRun
mod InventedSetback
mod Attempts
mod Moments
mod Serially
mod View
mod Effects
pub mod Places
mod CoreAgrees
mod Agreement
mod VersionsLeft
mod AgreementCommit
mod Steps
mod ReadOnly
pub mod WholeRun
pub mod EveryList
