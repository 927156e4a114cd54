-- `summing::spread` meets its contract: n times the middle. Assumes nothing.
use mathlib.Core.Path.{refl}
use native.Mathlib.Omega.{arith}
use Rattle.totals.proofs.Middle.{odd-le, low-le, high_le, part-lt, top-fits, top-exact}
use Rattle.totals.proofs.summing.spread.Goals as goal

pub overflow_mul-part : goal.overflow_mul-part
overflow_mul-part c = record { fits = omega (arith, low-le c.args.least c.args.size c.args.n c.requires.1 c.requires.2 c.requires.3 c.requires.0) }

pub overflow_mul-part-2 : goal.overflow_mul-part-2
overflow_mul-part-2 c = record { fits = omega (arith, odd-le c.args.least c.args.size c.args.n c.requires.1 c.requires.2 c.requires.3 c.requires.0) }

pub overflow_add-part : goal.overflow_add-part
overflow_add-part c = record { fits = part-lt c.args.least c.args.size c.args.n c.requires.1 c.requires.2 c.requires.3 c.requires.0 }

pub overflow_mul-top : goal.overflow_mul-top
overflow_mul-top c = record { fits = omega (arith, high_le c.args.least c.args.size c.args.n c.requires.1 c.requires.2 c.requires.3 c.requires.0) }

pub overflow_add-top : goal.overflow_add-top
overflow_add-top c = record { fits = top-fits c.args.least c.args.size c.args.n c.requires.1 c.requires.2 c.requires.3 c.requires.0 }

pub returns : goal.returns
returns c = let t = top-fits c.args.least c.args.size c.args.n c.requires.1 c.requires.2 c.requires.3 c.requires.0 in
    record {
      mass = omega (arith, top-exact c.args.least c.args.size c.args.n);
      within = record { top-le = omega arith; mid_le = omega arith; low-le = omega arith };
      least-is = refl;
      greatest-is = refl;
    }
