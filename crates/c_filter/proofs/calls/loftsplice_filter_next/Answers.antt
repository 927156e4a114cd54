-- `calls::loftsplice_filter_next` meets its contract. Assumes nothing.

use Rattle.c_filter.proofs.calls.loftsplice_filter_next.Goals as goal

pub returns : goal.returns
returns c = c.call.ensures
