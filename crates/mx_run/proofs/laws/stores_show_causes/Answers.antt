use Rattle.mx_run.proofs.Caused.{store_fault_rose, short_untold, no_file_absent, absent_no_file}
use Rattle.mx_run.proofs.RunLaw.{success_keeps}
use Rattle.mx_run.proofs.laws.stores_show_causes.Goals as goal

pub returns-clause-store_fault : goal.returns-clause-store_fault
returns-clause-store_fault g c = store_fault_rose g.S.Store.state g.S.Store.gives g.met.S.Store.tells

pub returns-clause-short_file : goal.returns-clause-short_file
returns-clause-short_file g c = short_untold g.S.Store.state g.S.Store.gives g.met.S.Store.tells

pub returns-clause-no_file : goal.returns-clause-no_file
returns-clause-no_file g c = no_file_absent g.S.Store.state g.S.Store.gives g.met.S.Store.tells

pub returns-clause-absent : goal.returns-clause-absent
returns-clause-absent g c = absent_no_file g.S.Store.state g.S.Store.gives g.met.S.Store.tells

pub returns-clause-kept : goal.returns-clause-kept
returns-clause-kept g c = success_keeps g.S.Store.state g.S.Store.gives g.met.S.Store.tells
