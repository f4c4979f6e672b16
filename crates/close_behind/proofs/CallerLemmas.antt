-- What a crate above cites of the requests behind which a connection is closed.

pub use Rattle.close_behind.proofs.ClosingLemmas.{closing_goes_on, none_closes-one, none_closes-append, up_to_closing-none, up_to_closing-first, none_named}
