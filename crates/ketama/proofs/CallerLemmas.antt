-- What a crate above cites of the ring.

-- a usable host that owns a point among all hosts owns it among the usable ones
pub use Rattle.ketama.proofs.OwnerLemmas.{first_choice_stands}
