mod AddressLemmas
mod ByteLemmas
mod MarkLemmas
mod NumberLemmas
