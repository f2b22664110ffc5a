pub mod RoundMeetings
pub mod WorkerRows
pub mod ReadyWorkers
pub mod RoundLines
pub mod RoundStates
pub mod PlayedRounds
pub mod RunStates
pub mod Openings
pub mod BroomCalls
pub mod BroomTurns
pub mod TallySums
pub mod BroomGrowth
pub mod EraseLists
pub mod DrainPrograms
pub mod BroomServices
pub mod OneLine
pub mod PlayedLines
mod AddedAnswers
