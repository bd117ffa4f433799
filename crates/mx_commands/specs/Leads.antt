-- From answers of a store, or from its files, to the outcome of a step; and what the answers say of the files that are read on the way.
-- The rules: docs/COMMANDS.md, "What is judged first".
use Rattle.std.specs.Prelude.{◌≡◌, ℕ, zero, suc, List, [], ◌∷◌, ◌++◌}
use Rattle.mx_io.specs.Store.{FileMap}
use Rattle.mx_io.specs.Answer.{Answer}
use Rattle.mx_commands.specs.Finding.{Finding, Finds, found_in}
use Rattle.mx_commands.specs.Next.{Outcome, Wanted, Next, Read, End}

-- what is done by what is found, where so many files are read: the first of the answers say what is found of the next one, and it
-- goes on by what was found; with the last answer the outcome stands
abbrev pub LeadsBy : ℕ → (List Finding → Next) → List Answer → Outcome → Type 0
LeadsBy zero step answers outcome = (step [] ≡ End outcome) × (answers ≡ [])
LeadsBy (suc n) step answers outcome =
    (file : Wanted) × (first : List Answer) × (rest : List Answer) × (found : Finding)
    × (step [] ≡ Read file) × (answers ≡ first ++ rest) × Finds file.most file.name first found
    × LeadsBy n (λ more. step (found ∷ more)) rest outcome

-- the answers lead to this outcome
abbrev pub LeadsTo : (List Finding → Next) → List Answer → Outcome → Type 0
LeadsTo step answers outcome = (n : ℕ) × LeadsBy n step answers outcome

-- the same where every file is found as it stands
abbrev pub LeadsOver : ℕ → (List Finding → Next) → FileMap → Outcome → Type 0
LeadsOver zero step files outcome = step [] ≡ End outcome
LeadsOver (suc n) step files outcome =
    (file : Wanted) × (step [] ≡ Read file)
    × LeadsOver n (λ more. step (found_in files file.most file.name ∷ more)) files outcome

-- what the answers say of the files that are read, one after another
abbrev pub FindsAll : (List Finding → Next) → List Answer → List Finding → Type 0
FindsAll step answers [] = answers ≡ []
FindsAll step answers (found ∷ more) =
    (file : Wanted) × (first : List Answer) × (rest : List Answer)
    × (step [] ≡ Read file) × (answers ≡ first ++ rest) × Finds file.most file.name first found
    × FindsAll (λ later. step (found ∷ later)) rest more

-- after others this file is read, and these answers follow
pub record Reaches (step : List Finding → Next) (answers : List Answer) (file : Wanted)
    (last : List Answer) : Type 0 where
  pub others : List Finding
  pub before : List Answer
  pub parts : answers ≡ before ++ last
  pub finds : FindsAll step before others
  pub read : step others ≡ Read file

-- the file that is read last, and what the last answers say of it
abbrev pub FindsLast : (List Finding → Next) → List Answer → Wanted → Finding → Type 0
FindsLast step answers file found = (last : List Answer) × Reaches step answers file last
    × Finds file.most file.name last found
