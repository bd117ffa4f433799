use Rattle.mx_turns.proofs.turns.end_turn.Goals as goal

pub all_halted-requires : goal.all_halted-requires
all_halted-requires g c = search
