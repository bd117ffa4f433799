-- The maximal runs of sealed words.
-- The rules: docs/MACHINE.md, "Live domains and sealed words".
use Rattle.std.specs.Prelude.{ℕ, zero, suc, ◌+◌, ◌≤◌, Bool, ◌==◌, List, [], ◌∷◌, if◌then◌else◌}
use Rattle.std.specs.List.{AllByRecursion, list_any}
use Rattle.mx_words.specs.Caches.{covers_word}
use Rattle.mx_words.specs.declared.perm.Perm.TheVariants as P
use Rattle.mx_words.specs.declared.perm.Span.{Span}
use Rattle.mx_words.specs.Ranges.{most_words}
use Rattle.mx_model.specs.Reads.{Reads}
use Rattle.mx_model.specs.State.{Core}
use Rattle.mx_audit.specs.Sealed.{is_sealed}

-- `count` words from `first` on, with no permission
abbrev pub words_from : ℕ → ℕ → Span
words_from first count = record { first = first; count = count; perm = P.None }

-- runs with one more word in front of them, which lengthens the first one where that begins behind it
abbrev pub with_word : ℕ → List Span → List Span
with_word word [] = words_from word 1 ∷ []
with_word word (s ∷ ss) =
    if s.first == word + 1 then words_from word (s.count + 1) ∷ ss
    else words_from word 1 ∷ s ∷ ss

-- the maximal runs of the words that pass a test, of `n` words from `first` on
abbrev pub runs_where : (ℕ → Bool) → ℕ → ℕ → List Span
runs_where test first zero = []
runs_where test first (suc n) =
    if test first then with_word first (runs_where test (first + 1) n)
    else runs_where test (first + 1) n

-- the maximal runs of RAM's sealed words, by address
abbrev pub sealed_runs : Reads → Core → List Span
sealed_runs r c = runs_where (is_sealed r c) 0 c.size

-- runs of words of the greatest RAM
abbrev pub AreInRam : List Span → Type 0
AreInRam runs = AllByRecursion (λ (s : Span). s.first + s.count ≤ most_words) runs

-- whether a word lies in one of several runs
abbrev pub lies_in : List Span → ℕ → Bool
lies_in runs word = list_any (λ s. covers_word s word) runs
