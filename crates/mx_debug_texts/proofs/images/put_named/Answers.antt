use Rattle.mx_debug_texts.proofs.WindowLaws.{further_none}
use Rattle.mx_debug_texts.proofs.images.put_named.Goals as goal

pub returns-in-Some : goal.returns-in-Some
returns-in-Some c = rw c.in-Some.is (rw c.lowest_in.ensures at c.put_one.ensures)

pub returns-in_default : goal.returns-in_default
returns-in_default c = rw c.in_default.is (further_none c.args.window.now)
