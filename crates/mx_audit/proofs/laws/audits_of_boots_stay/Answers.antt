use Rattle.mx_audit.proofs.StayLaws.{boots-audited, boots-keep, boots-live}
use Rattle.mx_audit.proofs.laws.audits_of_boots_stay.Goals as goal

pub returns-clause-audited : goal.returns-clause-audited
returns-clause-audited c = boots-audited

pub returns-clause-live : goal.returns-clause-live
returns-clause-live c = boots-live

pub returns-clause-words : goal.returns-clause-words
returns-clause-words c = boots-keep
