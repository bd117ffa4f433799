use Rattle.mx_boot.proofs.Booted.{boots_list, boots_own, boots_valid}
use Rattle.mx_boot.proofs.laws.boots_are_valid.Goals as goal

pub returns-clause-valid : goal.returns-clause-valid
returns-clause-valid c = boots_valid

pub returns-clause-lists : goal.returns-clause-lists
returns-clause-lists c = boots_list

pub returns-clause-heaps : goal.returns-clause-heaps
returns-clause-heaps c = boots_own
