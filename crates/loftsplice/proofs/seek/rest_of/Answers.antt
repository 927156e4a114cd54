-- `seek::rest_of` meets its contract. Assumes nothing.
use Rattle.std.proofs.Common.{sym, refl, ap, ◌∙◌, arith}
use Rattle.loftsplice.specs.Scan.{standing}
use Rattle.loftsplice.proofs.ScanCases.{stood-at}
use Rattle.loftsplice.proofs.seek.rest_of.Goals as goal

pub returns-in-Fresh : goal.returns-in-Fresh
returns-in-Fresh c =
    record {
      index_value_2 = (c.requires.index_value.0 ∙ ap (standing c.args.scan) (sym c.in-Fresh.is), c.requires.index_value.1);
      lies_2 = c.requires.lies;
    }

pub returns-in-At : goal.returns-in-At
returns-in-At c =
    let is = c.in-At.is in
    let p = stood-at c.args.ends.now _ _ is _ _ c.requires.stood in
    record {
      index_value_2 = (p.0 ∙ ap (standing c.args.scan) (sym is), refl);
      lies_2 = λ l. (p.1, rw c.requires.index_value.1 at (c.requires.lies (omega (arith, c.requires.index_value, p.0, c.requires.by_index _ is))).1);
    }

pub returns-in-Ended : goal.returns-in-Ended
returns-in-Ended c =
    record {
      index_value_2 = (ap (standing c.args.scan) (sym c.in-Ended.is), refl);
      lies_2 = λ l. absurd (omega arith);
    }
