-- Computed tables, and theorems about chosen runs; no function's proof cites them.
mod Examples
mod StandingTable
mod Played
mod WordsTable
mod AfterRounds
mod TightRuns
mod BoundExact
