-- The report of an audit, as docs/COMMANDS.md, "The audit", shows it.
use Rattle.std.specs.Prelude.{ℕ, ◌+◌, ◌-◌, Bool, List, [], ◌∷◌, length, slice_index_or, if◌then◌else◌, decimal, codes, flat_map}
use Rattle.std.specs.List.{concat, range_with_len, sum_by}
use Rattle.mx_words.specs.declared.perm.Span.{Span}
use Rattle.mx_model.specs.Reads.{flat_reads}
use Rattle.mx_model.specs.State.{Flat}
use Rattle.mx_report.specs.Lines.{word_text}
use Rattle.mx_audit.specs.declared.audited.Audit.{Audit}
use Rattle.mx_audit.specs.Live.{is_live}
use Rattle.mx_audit.specs.Marks.{is_marked}
use Rattle.mx_audit.specs.SealedRuns.{sealed_runs}

-- a live domain and its module's name
unfoldable pub live_line : ℕ → List ℕ → List ℕ
live_line d name =
    concat (codes "live " ∷ decimal d ∷ codes " " ∷ name ∷ codes "\n" ∷ [])

-- the line of a domain that is live; another has none
abbrev pub live_text : ℕ → List ℕ → Bool → List ℕ
live_text d name is_live = if is_live then live_line d name else []

-- the lines of the live ones of the domains, by number, with the names of the modules in order
unfoldable pub live_lines : List (List ℕ) → (ℕ → Bool) → List ℕ
live_lines names lives =
    flat_map (λ d. live_text d (slice_index_or names (d - 1) []) (lives d))
    (range_with_len 1 (length names))

-- a run of sealed words: the address of its first word, and the address after it
unfoldable pub sealed_line : Span → List ℕ
sealed_line s =
    concat (codes "sealed " ∷ word_text s.first ∷ codes " " ∷ word_text (s.first + s.count)
    ∷ codes "\n" ∷ [])

-- how many words runs have together
abbrev pub words_of : List Span → ℕ
words_of runs = sum_by (λ (s : Span). s.count) runs

-- how many words are sealed
unfoldable pub words_line : ℕ → List ℕ
words_line n = concat (codes "sealed words=" ∷ decimal n ∷ codes "\n" ∷ [])

-- the report, by a test of live domains and the runs of sealed words
unfoldable pub report : List (List ℕ) → (ℕ → Bool) → List Span → List ℕ
report names lives runs =
    concat (live_lines names lives ∷ flat_map sealed_line runs ∷ words_line (words_of runs) ∷ [])

-- the report of what an audit found
abbrev pub found_text : List (List ℕ) → Audit → List ℕ
found_text names a = report names (is_marked a.live) a.sealed

-- the report of the audit of a flat state, with the names of its modules in order
abbrev pub audit_text : List (List ℕ) → Flat → List ℕ
audit_text names f = report names (is_live f.core) (sealed_runs (flat_reads f) f.core)
