-- `rle::len` meets its contract. Assumes nothing.
use Rattle.meaning.proofs.Calls.{len-refused, len_is}
use Rattle.checked.proofs.Told.{was-fine, was-refused}
use Rattle.loftsplice.proofs.rle.len.Goals as goal

pub returns-in-Refused : goal.returns-in-Refused
returns-in-Refused c = len-refused _ _ (was-refused _ _ c.check-checked.ensures _ c.in-Refused.is)

pub returns-in-Fine : goal.returns-in-Fine
returns-in-Fine c = len_is _ (was-fine _ _ c.check-checked.ensures c.in-Fine.is) _ c.end_before.ensures
