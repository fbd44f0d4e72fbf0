mod ActLemmas
mod HostLemmas
mod LinkLemmas
mod PlayLemmas
mod RunLemmas
mod SeedLemmas
mod WireLemmas
