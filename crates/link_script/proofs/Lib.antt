mod RunLemmas
mod BootLemmas
mod ProgramLemmas
mod OptionLemmas
