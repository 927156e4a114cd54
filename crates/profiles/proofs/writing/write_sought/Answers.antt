-- `writing::write_sought` meets its contract: the one list, or the other. Assumes nothing.

use Rattle.profiles.proofs.writing.write_sought.Goals as goal

pub write_elements-requires : goal.write_elements-requires
write_elements-requires c =
    record {
      fits = c.requires.fits;
      from_le_to = c.requires.from_le_to;
      out_len = rw c.if-here.true at c.requires.out_len;
    }

pub returns-then-here : goal.returns-then-here
returns-then-here c =
    rw c.if-here.true c.write_elements.ensures

pub write_others-requires : goal.write_others-requires
write_others-requires c =
    record {
      fits = c.requires.fits;
      from_le_to = c.requires.from_le_to;
      out_len = rw c.if-here.false at c.requires.out_len;
    }

pub returns : goal.returns
returns c =
    rw c.if-here.false c.write_others.ensures
