-- `building::from_file` lends a part that is there. Assumes nothing.
use Rattle.std.proofs.Common.{pos, sym, ◌∙◌, length-take-le}
use lib.ListN.{length-replicate}
use Rattle.building.proofs.from_file.Goals as goal

pub slice_bounds-gathered-end : goal.slice_bounds-gathered-end
slice_bounds-gathered-end c = sym (length-replicate 524288 (pos 0))

pub slice_bounds-values-end : goal.slice_bounds-values-end
slice_bounds-values-end c = rw (c.gathered-n.auto.values ∙ length-replicate 524288 (pos 0)) c.if-n-le-MOST.true

pub slice_bounds-put-end : goal.slice_bounds-put-end
slice_bounds-put-end c = sym (length-take-le _ _ (rw (c.gathered-n.auto.values ∙ length-replicate 524288 (pos 0)) c.if-n-le-MOST.true))
