-- Words that are alike to those who may change them: the owners, as source 0, and the rights of each domain d, as source d.
use Rattle.std.specs.Prelude.{◌≡◌, ℕ, zero, suc, ◌-◌, ◌<◌, ◌≤◌, Bool, ◌&&◌, ◌||◌, nat_lt, List, [], ◌∷◌, length, if◌then◌else◌, slice_get}
use Rattle.std.specs.Prelude.{Some}
use Rattle.mx_words.specs.declared.perm.Perm.TheVariants as P
use Rattle.mx_words.specs.declared.perm.Span.{Span}
use Rattle.mx_words.specs.Rights.{same}
use Rattle.mx_model.specs.Reads.{flat_reads}
use Rattle.mx_model.specs.State.{Flat}
use Rattle.mx_audit.specs.declared.alike.AlikeWords.{AlikeWords}
use Rattle.mx_audit.specs.Marks.{is_marked}
use Rattle.mx_audit.specs.SealedRuns.{words_from}

-- whether a source exposes a word to change: the word's owner is marked, or the domain is and has read-write on it
abbrev pub exposes : Flat → List Bool → ℕ → ℕ → Bool
exposes f marks zero word = is_marked marks ((flat_reads f).owner word)
exposes f marks (suc d) word =
    is_marked marks (suc d) && same ((flat_reads f).perm (suc d) word) P.ReadWrite

-- whether one of the sources 0 to n does
abbrev pub some_exposes : Flat → List Bool → ℕ → ℕ → Bool
some_exposes f marks zero word = exposes f marks zero word
some_exposes f marks (suc n) word = some_exposes f marks n word || exposes f marks (suc n) word

-- whether one of all sources does
abbrev pub is_exposed : Flat → List Bool → ℕ → Bool
is_exposed f marks word = some_exposes f marks (length f.core.modules) word

-- alike words tell of those from `word` up to their end, which is in RAM, whether they pass a test
pub record Tells (f : Flat) (test : ℕ → Bool) (word : ℕ) (s : AlikeWords) : Type 0 where
  pub within : s.end ≤ f.core.size
  pub alike : (w : ℕ) → word ≤ w → w < s.end → test w ≡ s.exposed

-- each of a list of them tells what its source exposes
abbrev pub AllTell : Flat → List Bool → ℕ → List AlikeWords → Type 0
AllTell f marks word known =
    (source : ℕ) (s : AlikeWords) → slice_get known source ≡ Some s →
    Tells f (exposes f marks source) word s

-- the words from `first` up to `behind`, as a run where there are some
abbrev pub run_between : ℕ → ℕ → List Span
run_between first behind =
    if nat_lt first behind then words_from first (behind - first) ∷ [] else []
