use Rattle.std.proofs.Common.{ap}
use Rattle.mx_model.specs.Turn.{Made}
use Rattle.mx_snapshot.proofs.laws.same_after_a_turn.Goals as goal
use Rattle.mx_snapshot.proofs.SameLaws.{made-same, turn-same, made-alike, turn-alike}

pub returns-clause-flat : goal.returns-clause-flat
returns-clause-flat c = turn-same

pub returns-clause-flat_kind : goal.returns-clause-flat_kind
returns-clause-flat_kind c = λ f g h p. ap (λ (m : Made). m.kind) (made-same f g h p)

pub returns-clause-flat_bytes : goal.returns-clause-flat_bytes
returns-clause-flat_bytes c = λ f g h p. ap (λ (m : Made). m.console) (made-same f g h p)

pub returns-clause-flat_note : goal.returns-clause-flat_note
returns-clause-flat_note c = λ f g h p. ap (λ (m : Made). m.note) (made-same f g h p)

pub returns-clause-state : goal.returns-clause-state
returns-clause-state c = turn-alike

pub returns-clause-kind : goal.returns-clause-kind
returns-clause-kind c = λ s t h p. ap (λ (m : Made). m.kind) (made-alike s t h p)

pub returns-clause-bytes : goal.returns-clause-bytes
returns-clause-bytes c = λ s t h p. ap (λ (m : Made). m.console) (made-alike s t h p)

pub returns-clause-note : goal.returns-clause-note
returns-clause-note c = λ s t h p. ap (λ (m : Made). m.note) (made-alike s t h p)
