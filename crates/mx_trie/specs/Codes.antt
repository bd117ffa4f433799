-- The two numbers that a packed entry holds of the permissions of a line, word by word from its end.
use Rattle.std.specs.Prelude.{ℕ, ◌+◌, ◌*◌, List, [], ◌∷◌, if◌then◌else◌}
use Rattle.mx_words.specs.declared.perm.Perm.{Perm}
use Rattle.mx_words.specs.Rights.{number, same}

-- the permissions of the runs, two bits each, with one more word in front of words of which they are known
abbrev pub value_step : Perm → List Perm → ℕ → ℕ
value_step p [] code = number p
value_step p (q ∷ qs) code = if same p q then code else number p + 4 * code

-- the permissions of the runs, two bits each, the first run's in the lowest bits
unfoldable pub value_code : List Perm → ℕ
value_code [] = 0
value_code (p ∷ ps) = value_step p ps (value_code ps)

-- the starts of the runs but the first, four bits each, with one more word in front of words that begin at place i
abbrev pub start_step : Perm → List Perm → ℕ → ℕ → ℕ
start_step p [] i code = 0
start_step p (q ∷ qs) i code = if same p q then code else i + 16 * code

-- the starts of the runs but the first, four bits each, the second run's in the lowest bits; the first word
-- stands at place i
unfoldable pub start_code : ℕ → List Perm → ℕ
start_code i [] = 0
start_code i (p ∷ ps) = start_step p ps (i + 1) (start_code (i + 1) ps)
