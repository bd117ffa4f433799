-- The four lines of `mill`, as docs/COMMANDS.md, "The mill", shows them.
use Rattle.std.specs.Prelude.{ℕ, List, [], ◌∷◌, length, decimal, codes, sum_by}
use Rattle.std.specs.List.{concat, range_with_len}
use Rattle.mx_words.specs.declared.tables.Need.{Need}
use Rattle.mx_words.specs.Caches.{Cache}
use Rattle.mx_words.specs.Need.{need}
use Rattle.mx_model.specs.State.{Core, Flat, cache_at}
use Rattle.mx_report.specs.declared.lines.EndState.{EndState}
use Rattle.mx_report.specs.Lines.{end_name}
use Rattle.mx_turns.specs.declared.counting.Tally.{Tally}
use Rattle.mx_turns.specs.Runs.{end_of}

-- how many turns were made for which k, and why no more
unfoldable pub mill_line : ℕ → ℕ → EndState → List ℕ
mill_line k steps state =
    concat (codes "mill k=" ∷ decimal k ∷ codes " steps=" ∷ decimal steps ∷ codes " state="
    ∷ end_name state ∷ codes "\n" ∷ [])

-- how many console bytes, faults and exits there were
unfoldable pub tally_line : Tally → List ℕ
tally_line t =
    concat (codes "console=" ∷ decimal t.bytes ∷ codes " faults=" ∷ decimal t.faults
    ∷ codes " exits=" ∷ decimal t.exits ∷ codes "\n" ∷ [])

-- how many checks places answered, how many lookaside buffers, and how many the tables
abbrev pub count_text : List ℕ → ℕ → List ℕ
count_text name count = concat (name ∷ decimal count ∷ [])

unfoldable pub sums_line : ℕ → ℕ → ℕ → List ℕ
sums_line sidecar lookaside walks =
    concat (count_text (codes "counts sidecar=") sidecar ∷ count_text (codes " lookaside=") lookaside
    ∷ count_text (codes " walks=") walks ∷ codes "\n" ∷ [])

-- what the packed tables take
unfoldable pub used_line : Need → List ℕ
used_line used =
    concat (codes "tables kind=packed upper=" ∷ decimal used.upper ∷ codes " leaf="
    ∷ decimal used.leaf ∷ codes " spill=" ∷ decimal used.spill ∷ codes "\n" ∷ [])

-- a count of all harts together
abbrev pub total : (Cache → ℕ) → Core → ℕ
total count c = sum_by (λ h. count (cache_at c h)) (range_with_len 0 (length c.harts))

abbrev pub totals_line : Core → List ℕ
totals_line c =
    sums_line (total (λ x. x.sidecar) c) (total (λ x. x.lookaside) c) (total (λ x. x.walks) c)

-- the lines of a run that was to make so many turns and ended in a flat state
unfoldable pub mill_lines : ℕ → ℕ → Tally → Flat → List ℕ
mill_lines k steps tally f =
    concat (mill_line k f.core.turns (end_of steps f.core) ∷ tally_line tally
    ∷ totals_line f.core ∷ used_line (need f.core.kind f.maps) ∷ [])
