-- Lists in which the newest entry for a word decides: grants of permissions, and gives of words to their owners.
-- The rules: docs/MACHINE.md, "Memory, domains, harts".
use Rattle.std.specs.Prelude.{ℕ, ◌+◌, List, [], ◌∷◌, if◌then◌else◌, fold}
use Rattle.std.specs.Prelude.{map as list_map}
use Rattle.std.specs.List.{range_with_len}
use Rattle.mx_words.specs.declared.perm.Perm.{Perm}
use Rattle.mx_words.specs.declared.perm.Perm.TheVariants as P
use Rattle.mx_words.specs.Ranges.{covers}

-- a value laid over the words first to first + count - 1
pub record Laid (A : Type 0) : Type 0 where
  pub first : ℕ
  pub count : ℕ
  pub value : A

-- a grant gives a permission, and a give an owner's number
abbrev pub Grant : Type 0
Grant = Laid Perm

abbrev pub Give : Type 0
Give = Laid ℕ

-- the value of the entry where it covers word i, else the older one
abbrev pub laid_at : {A : Type 0} → ℕ → A → Laid A → A
laid_at i older entry = if covers entry.first entry.count i then entry.value else older

-- the value of the last entry that covers word i, and the default where none does
abbrev pub newest : {A : Type 0} → A → List (Laid A) → ℕ → A
newest default entries i = fold (laid_at i) default entries

-- the permission that a domain's grants give it on word i
abbrev pub at : List Grant → ℕ → Perm
at grants i = newest P.None grants i

-- the owner of word i; the supervisor is domain 0
abbrev pub owner : List Give → ℕ → ℕ
owner gives i = newest 0 gives i

-- the permissions of a RAM of `words` words by a list of grants
abbrev pub map : List Grant → ℕ → List Perm
map grants words = list_map (at grants) (range_with_len 0 words)

-- the owners of these words by a list of gives
abbrev pub owners : List Give → ℕ → List ℕ
owners gives words = list_map (owner gives) (range_with_len 0 words)

-- a list of values, of which the first belongs to word i, with an entry laid over it
abbrev pub laid_from : {A : Type 0} → ℕ → Laid A → List A → List A
laid_from i entry [] = []
laid_from i entry (x ∷ xs) = laid_at i x entry ∷ laid_from (i + 1) entry xs

abbrev pub laid : {A : Type 0} → Laid A → List A → List A
laid entry xs = laid_from 0 entry xs
