-- Texts of the maximal runs of a list, each with its first place and the place after it.
-- The rules: docs/COMMANDS.md, "The report".
use Rattle.std.specs.Prelude.{ℕ, ◌+◌, List, [], ◌∷◌, ◌++◌}
use Rattle.mx_words.specs.Runs.{Run}

-- the texts of runs of which the first begins at `start`
abbrev pub run_texts : {A : Type 0} → (ℕ → ℕ → A → List ℕ) → ℕ → List (Run A) → List ℕ
run_texts text start [] = []
run_texts text start (r ∷ rs) =
    text start (start + r.count) r.value ++ run_texts text (start + r.count) rs
