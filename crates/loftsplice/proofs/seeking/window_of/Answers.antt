-- `seeking::window_of` meets its contract. Assumes nothing.
use Rattle.std.proofs.Common.{refl, arith}
use Rattle.loftsplice.proofs.seeking.window_of.Goals as goal

pub returns-then-end-start : goal.returns-then-end-start
returns-then-end-start c = record {
  index_value = (refl, refl);
  lies = λ l. absurd (omega (arith, c.if-end-start.true));
}

pub returns : goal.returns
returns c = record {
  index_value = (refl, refl);
  lies = λ _. (c.place_in-place.ensures, c.run_of.ensures);
}
