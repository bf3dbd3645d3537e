mod TextLemmas
mod ArrayLemmas
mod AddressLemmas
mod EventLemmas
mod KeyLemmas
mod DocumentLemmas
mod EachLemmas
