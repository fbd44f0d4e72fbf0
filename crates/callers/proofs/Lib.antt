mod Calls
mod LimitedCalls
mod RunCalls
mod Rounds
mod Parts
