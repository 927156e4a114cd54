-- P1 to P12, and rows of our own: what the definitions give is what document 01 says. Computed. Assumes nothing.
use mathlib.Core.Path.{◌≡◌, refl}
use mathlib.Core.List.{map}
use Rattle.ranges.specs.Ranges.{all_for, first_for, every}
use Rattle.keys.specs.Widths.{fits_in}
use Rattle.meaning.specs.Refusals.{tried}
use Rattle.meaning.specs.Sequence.{rises, elements_for}
use Rattle.meaning.specs.Column.{end_before, run_of, element_at, shape_ok, end_ok, ends_ok, run_ok, reach_ok}
use Rattle.meaning.specs.Calls.{diff_step_of, check_of, place_of, get_of}
use Rattle.loftsplice.specs.Lead.{on_past, lead_from}
use Rattle.loftsplice.specs.Scan.{go_to, next_from, seek_from, bad_scan, new_of, next_of, seek_of, narrow_of, reset_of, current_of, pos_of, says_all, left_by}
use Rattle.bounds.specs.Bounds.{less, tighter, fold, meets_lower, meets_upper, readable, as_read}
use Rattle.filter_interval.specs.Filter.{settle, step_from, fit_of, call_of, filter_current_of}
use Rattle.loftsplice.specs.Listing.{windows, those, values_in, values_of, counts_of, list_of}
use Rattle.theorems.specs.Table.{Row, table, ends_from, sifts, times}
use Rattle.theorems.specs.Carried.{carried_table}
use Rattle.theorems.specs.Cuts.{cut_table}

pub examples : map (λ (r : Row). r.got) table ≡ map (λ (r : Row). r.want) table
unfolding all_for first_for every fits_in tried rises end_before run_of element_at shape_ok end_ok ends_ok run_ok reach_ok diff_step_of check_of place_of get_of
    go_to next_from seek_from bad_scan new_of next_of seek_of narrow_of reset_of current_of pos_of less tighter fold meets_upper readable as_read on_past lead_from settle step_from fit_of call_of filter_current_of
    elements_for meets_lower windows those values_in values_of counts_of list_of ends_from says_all left_by sifts times
examples = refl

-- document 02's request 8: a scan that carries its value, and scans that do not
pub carried-examples : map (λ (r : Row). r.got) carried_table ≡ map (λ (r : Row). r.want) carried_table
unfolding all_for first_for every fits_in tried rises end_before run_of element_at shape_ok end_ok ends_ok run_ok reach_ok
    go_to next_from seek_from bad_scan next_of seek_of narrow_of reset_of current_of pos_of readable as_read fold meets_upper on_past lead_from settle step_from call_of filter_current_of
    ends_from says_all left_by sifts
carried-examples = refl

-- document 02's request 13: where a cut and a chain of seeks hold, and where they end
pub cut-examples : map (λ (r : Row). r.got) cut_table ≡ map (λ (r : Row). r.want) cut_table
unfolding all_for first_for every fits_in tried rises end_before run_of element_at shape_ok end_ok ends_ok run_ok reach_ok
    go_to next_from seek_from bad_scan new_of seek_of pos_of less tighter fold meets_upper readable as_read on_past lead_from settle step_from fit_of call_of
    elements_for meets_lower windows those values_in values_of counts_of list_of ends_from says_all left_by sifts
cut-examples = refl
