mod HostBitLemmas
