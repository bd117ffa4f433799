-- What is asked leads to one outcome, over files and by answers.
use Rattle.std.proofs.Common.{List, [], Option, Some, None, refl, ◌≡◌}
use Rattle.mx_io.specs.Store.{FileMap}
use Rattle.mx_commands.specs.declared.status.Status.TheVariants.{Usage}
use Rattle.mx_run.specs.Words.{Request, Go, Asm, Audit, Twin, Mill}
use Rattle.mx_mill.specs.Mill.{mill_text}
use Rattle.mx_commands.specs.Next.{Outcome, refusal, reported}
use Rattle.mx_run.specs.Commands.{next}
use Rattle.mx_run.specs.Leads.{IsOutcome, Leads}
use Rattle.mx_io.specs.Answer.{Answer}
use Rattle.mx_commands.proofs.Outcomes.{HasOutcome, by_way, by_assembling, by_auditing, by_comparing}
use Rattle.mx_commands.proofs.Leads.{over_decided, by_decided}

by_request : (files : FileMap) (asked : Option Request) → HasOutcome files (next asked)
by_request files None = (refusal [] Usage, (0, refl))
by_request files (Some (Go o)) = by_way files o o.way
by_request files (Some (Asm source)) = by_assembling files source
by_request files (Some (Mill k)) = (reported (mill_text k), (0, refl))
by_request files (Some (Twin p)) = by_comparing files p
by_request files (Some (Audit name)) = by_auditing files name

pub some_outcome : (asked : Option Request) (files : FileMap) → (outcome : Outcome) × IsOutcome asked files outcome
some_outcome asked files = by_request files asked

pub one_outcome : (asked : Option Request) (files : FileMap) (a b : Outcome) → IsOutcome asked files a → IsOutcome asked files b → a ≡ b
one_outcome asked files a b l r = over_decided l.0 r.0 (next asked) files a b l.1 r.1

pub leads_decided : (asked : Option Request) (answers : List Answer) (a b : Outcome) → Leads asked answers a → Leads asked answers b → a ≡ b
leads_decided asked answers a b l r = by_decided l.0 r.0 (next asked) answers answers a b refl l.1 r.1
