-- `running::next_run` meets its contract. Assumes nothing.
use Rattle.std.proofs.Common.{refl, rules}
use Rattle.meaning.proofs.Judging.{passes-sound}
use Rattle.loftsplice.proofs.ScanCases.{scan-passed}
use Rattle.loftsplice.proofs.RunCases.{next-run-refused, next-run-given, run-refused, run-given}
use Rattle.loftsplice.proofs.running.next_run.Statement.{statement}
use Rattle.loftsplice.proofs.running.next_run.Tie as tie

check-scan-requires : tie.Need-check_scan-stand-requires
check-scan-requires c κs = search rules

enum-known-checked : tie.Need-enum_known-checked
enum-known-checked c = search rules

enum_told : tie.Need-enum_told-1
enum_told c = search rules

nexts-in-requires : tie.Need-nexts_in-requires
nexts-in-requires c κs =
    let at_told = c.before in
    let at-check-scan = at_told.before in
    let s = at-check-scan.before.before in
    let p = scan-passed _ s.args.scan _ at-check-scan.check_scan-stand.ensures.0 at_told.in-Fine.is in
    (passes-sound _ p.ok, p.good)

returns : tie.Need-returns-in-Refused
returns c =
    let at-checked = c in
    let at-check-scan = at-checked.before in
    let s = at-check-scan.before.before in
    run-refused s.args.scan _ _ _ _ (next-run-refused _ s.args.scan _ at-check-scan.check_scan-stand.ensures.0 _ _ at-checked.in-Refused.is)

same_length : tie.Need-shape_of-out
same_length c = search rules

returns-2 : tie.Need-returns-in-Fine
returns-2 c =
    let at_told = c.before.before.before in
    let at-check-scan = at_told.before in
    let s = at-check-scan.before.before in
    run-given s.args.scan _ _ _ _ _ _ (next-run-given _ s.args.scan _ at-check-scan.check_scan-stand.ensures.0 _ at_told.in-Fine.is) refl c.nexts_in.ensures

pub next_run_spec : {M : Type 1} → statement M
next_run_spec = tie.close (tie.spec check-scan-requires enum-known-checked enum_told nexts-in-requires returns same_length returns-2)
