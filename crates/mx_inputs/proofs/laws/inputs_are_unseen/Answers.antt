use Rattle.mx_inputs.proofs.Boots.{boots-agree, rights-same, runs-agree}
use Rattle.mx_inputs.proofs.laws.inputs_are_unseen.Goals as goal

pub returns-clause-boots : goal.returns-clause-boots
returns-clause-boots c p q images left right s t h b = boots-agree p q images left right s t b h

pub returns-clause-rights : goal.returns-clause-rights
returns-clause-rights c p q images left right s t d b = rights-same p q images left right s t b d

pub returns-clause-runs : goal.returns-clause-runs
returns-clause-runs c p q images left right s t h n schedule b are lefts rights =
    runs-agree p q images left right s t b are lefts rights schedule n h
