use Rattle.mx_debug.proofs.texts.+put_more.Given as goal

abbrev pub decreases-put_more : goal.decreases-put_more
decreases-put_more l = l.harts
