mod IdlenessLemmas
mod KeySetLemmas
mod StalledBidLemmas
