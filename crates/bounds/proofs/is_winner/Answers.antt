-- `bounds::is_winner` meets its contract. Assumes nothing.
use Rattle.bounds.proofs.is_winner.Goals as goal

pub returns-in-InclusiveWins : goal.returns-in-InclusiveWins
returns-in-InclusiveWins c = rw c.in-InclusiveWins.is c.comes_before.ensures

pub returns-in-ExclusiveWins : goal.returns-in-ExclusiveWins
returns-in-ExclusiveWins c = rw c.in-ExclusiveWins.is c.is_tighter.ensures
