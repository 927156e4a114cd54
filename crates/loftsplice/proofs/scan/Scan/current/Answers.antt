-- `Scan::current` meets its contract. Assumes nothing.
use Rattle.std.proofs.Common.{ℤ, ap, ◌∙◌, w64}
use mathlib.Core.Option.{some}
use Rattle.keys.proofs.Bits.{back}
use Rattle.meaning.specs.Refusals.{Gives}
use Rattle.loftsplice.proofs.ScanCases.{current-told}
use Rattle.loftsplice.proofs.scan.Scan.current.Goals as goal

pub returns-in-Fresh : goal.returns-in-Fresh
returns-in-Fresh c =
    current-told c.args.self _ _ c.in-Fresh.is c.in-Value.is

pub returns-in-At : goal.returns-in-At
returns-in-At c =
    let v = c.in-Value.held in
    ap (λ (x : ℤ). Gives (some x)) (back w64 v c.in-Value.known_told-1-own.given.0.1) ∙ current-told c.args.self _ _ c.in-At.is c.in-Value.is

pub returns-in-Ended : goal.returns-in-Ended
returns-in-Ended c =
    current-told c.args.self _ _ c.in-Ended.is c.in-Value.is

pub returns-in-Fresh-state : goal.returns-in-Fresh-state
returns-in-Fresh-state c =
    current-told c.args.self _ _ c.in-Fresh-state.is c.in-None.is

pub returns-in-At-state : goal.returns-in-At-state
returns-in-At-state c =
    current-told c.args.self _ _ c.in-At-state.is c.in-None.is

pub returns-in-Ended-state : goal.returns-in-Ended-state
returns-in-Ended-state c =
    current-told c.args.self _ _ c.in-Ended-state.is c.in-None.is
