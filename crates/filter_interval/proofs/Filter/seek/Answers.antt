-- `Filter::seek` meets its contract. Assumes nothing.
use mathlib.Core.Path.{◌≡◌}
use mir.Syntax.{w64}
use mir.Val.{to_z, of_z}
use Rattle.meaning.specs.Column.{source_of}
use Rattle.filter_interval.proofs.FilterCases.{seek-call}
use borrow.Author.Rules.{rules}
use Rattle.filter_interval.proofs.Filter.seek.Goals as goal

pub returns : goal.returns
returns c =
    let e : to_z w64 (of_z w64 c.args.target) ≡ c.args.target = search rules in
    seek-call (source_of _) c.args.lower c.args.upper c.args.inputs c.args.self _ _ e _ c.sift.ensures
