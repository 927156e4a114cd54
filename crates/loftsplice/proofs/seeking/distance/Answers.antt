-- `seeking::distance` meets its contract: the patterns' difference, which may wrap, is the distance. Assumes nothing.
use Rattle.std.proofs.Common.{◌≡◌, ◌+◌, ◌%◌, ap, ◌∙◌, to_z-of_z}
use Rattle.codec.specs.Bytes.{of_signed}
use Rattle.loftsplice.proofs.Distance.{distance_is}
use Rattle.loftsplice.proofs.seeking.distance.Goals as goal

pub returns : goal.returns
returns c =
    let to : c.unsigned64.result ≡ of_signed 8 c.args.target = c.unsigned64.ensures ∙ ap (of_signed 8) (to_z-of_z c.ranges.target) in
    let from : c.unsigned64-2.result ≡ of_signed 8 c.args.start = c.unsigned64-2.ensures ∙ ap (of_signed 8) (to_z-of_z c.ranges.start) in
    let w : (c.wrapping_sub_u64.result + c.unsigned64-2.result) % 18446744073709551616 ≡ c.unsigned64.result = c.wrapping_sub_u64.ensures.value in
    distance_is c.args.start c.args.target c.ranges.start.sfits c.ranges.target.sfits c.requires _ c.wrapping_sub_u64.type_inv (rw (from, to) at w)
