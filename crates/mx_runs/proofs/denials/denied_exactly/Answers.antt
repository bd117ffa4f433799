use Rattle.mx_runs.proofs.denials.denied_exactly.Goals as goal
use Rattle.mx_runs.proofs.CallDenials.{exchange-exactly, write-exactly}
use Rattle.mx_runs.proofs.DenialLaws.{denied-test}
use Rattle.mx_runs.proofs.TrapLaws.{fetch-exactly, load-exactly, store-exactly}

pub returns-clause-test : goal.returns-clause-test
returns-clause-test c = denied-test

pub returns-clause-fetch : goal.returns-clause-fetch
returns-clause-fetch c = fetch-exactly

pub returns-clause-load : goal.returns-clause-load
returns-clause-load c = load-exactly

pub returns-clause-store : goal.returns-clause-store
returns-clause-store c = store-exactly

pub returns-clause-write : goal.returns-clause-write
returns-clause-write c = write-exactly

pub returns-clause-exchange : goal.returns-clause-exchange
returns-clause-exchange c = exchange-exactly
