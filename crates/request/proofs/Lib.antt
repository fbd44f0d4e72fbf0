mod AddressLemmas
mod KeywordLemmas
mod FormLemmas
mod CountLemmas
mod EventLemmas
