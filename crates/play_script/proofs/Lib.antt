mod DashLemmas
mod DetailLemmas
mod LineLemmas
mod ActionLemmas
mod CaptureLemmas
mod FitLemmas
mod RunLemmas
mod AnswerLemmas
mod SettingLemmas
mod StillLemmas
mod PlayLemmas
mod TurnLemmas
pub mod Laws
