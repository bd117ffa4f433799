use Rattle.mx_text_laws.proofs.caches.reports_read_no_cache.Goals as goal
use Rattle.mx_text_laws.proofs.ReportTexts.{closing-alike, run-closing}

pub returns-clause-closing : goal.returns-clause-closing
returns-clause-closing c = closing-alike

pub returns-clause-run : goal.returns-clause-run
returns-clause-run c = run-closing
