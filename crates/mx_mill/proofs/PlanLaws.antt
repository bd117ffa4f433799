-- What the manifest of a mill says.
use Rattle.std.proofs.Common.{◌≡◌, ℕ, List, [], ◌∷◌, map, refl, ap, ◌∙◌}
use Rattle.std.specs.Fmt.{digits}
use Rattle.std.specs.List.{range_with_len}
use Rattle.toml.specs.Data.{table}
use Rattle.mx_manifest.specs.declared.parts.ModulePlan.{ModulePlan}
use Rattle.mx_manifest.specs.Plan.{plan_of, word_list}
use Rattle.mx_mill.specs.Draws.{draws}
use Rattle.mx_mill.specs.Plan.{mill_plan, module_of, plan_with}
use Rattle.mx_mill.specs.Table.{list, mill_table, number, table_with}
use Rattle.mx_mill.specs.Words.{module_count, words_by}
use Rattle.mx_mill.proofs.WordLaws.{program_words, words_read}

-- for any words
plan_reads : (f : ℕ → List ℕ) → plan_of (table (table_with f)) ≡ plan_with (λ i. word_list (list (map number (f i))))
unfolding digits
plan_reads f = refl

modules_agree : (f g : ℕ → List ℕ) → ((i : ℕ) → f i ≡ g i) → (is : List ℕ)
    → map (λ i. module_of i (f i)) is ≡ map (λ i. module_of i (g i)) is
modules_agree f g same [] = refl
modules_agree f g same (i ∷ is) = rw (same i, modules_agree f g same is) refl

plans_agree : (f g : ℕ → List ℕ) → ((i : ℕ) → f i ≡ g i) → plan_with f ≡ plan_with g
plans_agree f g same = ap (λ (ms : List ModulePlan). record (plan_with g) { modules = ms })
    (modules_agree f g same (range_with_len 1 module_count))

pub plan_is : (k : ℕ) → plan_of (table (mill_table k)) ≡ mill_plan k
unfolding mill_table mill_plan
plan_is k =
    let f = words_by (draws k) in
    plan_reads f ∙ plans_agree (λ i. word_list (list (map number (f i)))) f (λ i. words_read (f i) (program_words i (draws k i)))
