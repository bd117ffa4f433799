use Rattle.mx_debug_texts.proofs.RightLaws.{is_other}
use Rattle.mx_debug_texts.proofs.WindowLaws.{further_none}
use Rattle.mx_debug_texts.proofs.who.put_gate.Goals as goal

pub returns-else-gate-word : goal.returns-else-gate-word
returns-else-gate-word c = rw (is_other c.args.gate.now.word c.args.word c.if-gate-word.false) (further_none c.args.window.now)
