use Rattle.mx_text_laws.proofs.Assembling.{text_faultless, text_program}
use Rattle.mx_text_laws.proofs.assembled.text_is_assembled.Goals as goal

pub returns-clause-faultless : goal.returns-clause-faultless
returns-clause-faultless c = text_faultless

pub returns-clause-word : goal.returns-clause-word
returns-clause-word c = text_program
