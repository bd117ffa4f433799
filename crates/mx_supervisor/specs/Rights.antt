-- Changes of rights by an array with one place for each domain.
use Rattle.std.specs.Prelude.{◌≡◌, ℕ, ◌==◌, ◌<◌, ◌≤◌, ◌⊎◌, if◌then◌else◌, Option, Some, None}
use Rattle.mx_words.specs.declared.perm.Perm.{Perm}
use Rattle.mx_words.specs.declared.perm.Perm.TheVariants as P
use Rattle.mx_table.specs.declared.change.Change.{Change}
use Rattle.mx_table.specs.Change.{given}

-- what a module gets by a change that says one thing for the caller, and takes the right of every other module
abbrev pub none_else : ℕ → Option Perm → ℕ → Option Perm
none_else caller own d = if d == caller then own else Some P.None

-- a change of a range names modules alone, and gives each what a function says
pub record Gives (c : Change) (begin words modules : ℕ) (given_to : ℕ → Option Perm) : Type 0 where
  pub first : c.first ≡ begin
  pub count : c.count ≡ words
  pub named : (d : ℕ) → (d ≡ 0) ⊎ (modules < d) → given c d ≡ None
  pub given : (d : ℕ) → 1 ≤ d → d ≤ modules → given c d ≡ given_to d
