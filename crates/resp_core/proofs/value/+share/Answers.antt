use Rattle.std.proofs.Common.{sym}
use Rattle.resp_core.proofs.value.+share.Goals as goal

pub Value::share-returns-in-NullList-clause-value : goal.Value::share-returns-in-NullList-clause-value
Value::share-returns-in-NullList-clause-value t c = sym c.in-NullList.is
