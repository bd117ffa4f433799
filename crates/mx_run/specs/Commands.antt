-- What the program does next, by what the words ask.
-- The rules: docs/COMMANDS.md, "What is judged first".
use Rattle.std.specs.Prelude.{List, [], Option, Some, None}
use Rattle.mx_mill.specs.Mill.{mill_text}
use Rattle.mx_commands.specs.declared.status.Status.TheVariants.{Usage}
use Rattle.mx_commands.specs.Finding.{Finding}
use Rattle.mx_commands.specs.Next.{Next, End, refusal, reported}
use Rattle.mx_commands.specs.Commands.{assembling, auditing, comparing, going}
use Rattle.mx_run.specs.Words.{Request, Go, Asm, Audit, Twin, Mill}

-- what the program does next, by what the words ask and what was found of the files read so far, the first of them first
abbrev pub next : Option Request → List Finding → Next
next None found = End (refusal [] Usage)
next (Some (Go o)) found = going o o.way found
next (Some (Asm source)) found = assembling source found
next (Some (Mill k)) found = End (reported (mill_text k))
next (Some (Twin p)) found = comparing p found
next (Some (Audit name)) found = auditing name found
