-- From answers of a store, or from its files, to the outcome of a call.
-- The rules: docs/PROMISES.md, "The headline".
use Rattle.std.specs.Prelude.{◌≡◌, ℕ, List, Option}
use Rattle.mx_io.specs.Store.{FileMap}
use Rattle.mx_io.specs.Answer.{Answer}
use Rattle.mx_run.specs.Words.{Request}
use Rattle.mx_commands.specs.Next.{Outcome}
use Rattle.mx_run.specs.Commands.{next}
use Rattle.mx_commands.specs.Leads.{LeadsTo, LeadsOver}

-- the answers of a whole call lead to this outcome
abbrev pub Leads : Option Request → List Answer → Outcome → Type 0
Leads asked answers outcome = LeadsTo (next asked) answers outcome

-- what is asked leads to this outcome over the files
abbrev pub IsOutcome : Option Request → FileMap → Outcome → Type 0
IsOutcome asked files outcome = (n : ℕ) × LeadsOver n (next asked) files outcome

-- the same answers lead to one outcome
abbrev pub AnswersDecide : Type 0
AnswersDecide = (asked : Option Request) (answers : List Answer) (a b : Outcome) →
    Leads asked answers a → Leads asked answers b → a ≡ b

-- over every list of files what is asked leads to an outcome
abbrev pub FilesLead : Type 0
FilesLead = (asked : Option Request) (files : FileMap) →
    (outcome : Outcome) × IsOutcome asked files outcome

-- and to no second one
abbrev pub FilesDecide : Type 0
FilesDecide = (asked : Option Request) (files : FileMap) (a b : Outcome) →
    IsOutcome asked files a → IsOutcome asked files b → a ≡ b
