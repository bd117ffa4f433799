use Rattle.mx_touched.proofs.rest.touched_words_decide.Goals as goal
use Rattle.mx_touched.proofs.Decide.{touched-decide}

pub returns : goal.returns
returns c = touched-decide
