mod Steps
mod Inserting
mod KeptLemmas
mod JoinLemmas
