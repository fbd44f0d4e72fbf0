pub mod Laws
mod WordLemmas
mod StreamLemmas
mod LineLemmas
mod PrintLemmas
mod ChunkLemmas
mod ServeLemmas
