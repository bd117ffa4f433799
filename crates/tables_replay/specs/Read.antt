-- What is read of a word.
use Rattle.std.specs.Prelude.{◌≡◌, ℕ, List}
use Rattle.mx_words.specs.declared.perm.Perm.{Perm}
use Rattle.mx_words.specs.declared.tables.Kind.{Kind}
use Rattle.mx_words.specs.Rights.{perm_at}
use Rattle.mx_words.specs.Reach.{span, stored}
use Rattle.mx_table.specs.Tables.{map_of, IsDomain}
use Rattle.tables_replay.specs.declared.sides.Reading.{Reading}

-- what tables of a kind answer of a domain's word
abbrev pub reading : Kind → List (List Perm) → ℕ → ℕ → Reading
reading kind maps d word =
    record {
      perm = perm_at (map_of maps d) word;
      span = span kind (map_of maps d) word;
      shown = stored kind (map_of maps d) word;
    }

-- a word of which both sides answer the same, in every domain of the first
abbrev pub IsSame : Kind → List (List Perm) → Kind → List (List Perm) → ℕ → Type 0
IsSame kind maps other plain word =
    (d : ℕ) → IsDomain maps d → reading kind maps d word ≡ reading other plain d word
