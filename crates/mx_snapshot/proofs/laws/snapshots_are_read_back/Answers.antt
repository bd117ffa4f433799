use Rattle.mx_snapshot.proofs.laws.snapshots_are_read_back.Goals as goal
use Rattle.mx_snapshot.proofs.CodecLaws.{stored-read, stored-valid, stored-spelled, stored-whole}

pub returns-clause-read : goal.returns-clause-read
returns-clause-read c = stored-read

pub returns-clause-valid : goal.returns-clause-valid
returns-clause-valid c = stored-valid

pub returns-clause-spelled : goal.returns-clause-spelled
returns-clause-spelled c = stored-spelled

pub returns-clause-whole : goal.returns-clause-whole
returns-clause-whole c = stored-whole
