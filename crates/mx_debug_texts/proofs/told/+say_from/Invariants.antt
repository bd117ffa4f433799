use Rattle.mx_debug_texts.proofs.told.+say_from.Given as goal

abbrev pub decreases-say_from : goal.decreases-say_from
decreases-say_from g l = l.most
