use Rattle.mx_debug.proofs.console.+show_from.Given as goal

abbrev pub decreases-show_from : goal.decreases-show_from
decreases-show_from g l = l.most
