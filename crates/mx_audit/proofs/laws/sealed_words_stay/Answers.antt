use Rattle.mx_audit.proofs.laws.sealed_words_stay.Goals as goal
use Rattle.mx_audit.proofs.AuditRuns.{sealed-run, sealed-still, audited-still}

pub returns-clause-owner : goal.returns-clause-owner
returns-clause-owner c = λ p n s w a q. (sealed-run p n s w a q).owner

pub returns-clause-rights : goal.returns-clause-rights
returns-clause-rights c = λ p n s w a q d. (sealed-run p n s w a q).rights d

pub returns-clause-bytes : goal.returns-clause-bytes
returns-clause-bytes c = λ p n s w a q k l. (sealed-run p n s w a q).bytes k l

pub returns-clause-sealed : goal.returns-clause-sealed
returns-clause-sealed c = sealed-still

pub returns-clause-audited : goal.returns-clause-audited
returns-clause-audited c = audited-still
