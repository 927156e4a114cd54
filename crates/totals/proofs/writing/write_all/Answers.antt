-- `writing::write_all` meets its contract: an output after the other. Assumes nothing.

use Rattle.totals.proofs.writing.write_all.Goals as goal

pub returns : goal.returns
returns c = record {
  leaves = c.put.ensures;
  leaves_2 = c.put_held.ensures;
  leaves_3 = c.put_held-2.ensures;
  leaves_4 = c.put_signed.ensures;
  leaves_5 = c.put-2.ensures;
}
