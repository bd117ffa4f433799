use Rattle.mx_runs.proofs.gate_calls.gate_calls_return.Goals as goal
use Rattle.mx_runs.proofs.FrameKinds.{crossed-deeper}
use Rattle.mx_runs.proofs.FrameRuns.{call-gives_back, call-leaves, crosses-tell}

pub returns-clause-back : goal.returns-clause-back
returns-clause-back c = call-gives_back

pub returns-clause-leaves : goal.returns-clause-leaves
returns-clause-leaves c = call-leaves

pub returns-clause-crosses : goal.returns-clause-crosses
returns-clause-crosses c = crosses-tell

pub returns-clause-crossed : goal.returns-clause-crossed
returns-clause-crossed c = crossed-deeper
