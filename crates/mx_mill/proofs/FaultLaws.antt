-- The manifest of a mill has no fault.
use Rattle.std.proofs.Common.{◌≡◌, ℕ, ◌+◌, pos, Bool, true, ◌&&◌, List, [], ◌∷◌, length, map, codes, Option, Some, None, Ok, refl, ap, ◌∙◌}
use Rattle.std.specs.Fmt.{digits}
use Rattle.std.specs.List.{enumerate_from, list_all, range_with_len}
use Rattle.std.proofs.lemmas.Bool.{and_parts}
use Rattle.toml.specs.Data.{Data, string, table, member, no_members}
use Rattle.mx_manifest.specs.declared.fault.BootFault.{BootFault}
use Rattle.mx_manifest.specs.declared.fault.Part.TheVariants as part
use Rattle.mx_manifest.specs.Faults.{each_fault, first_fault, first_of, module_fault, module_names, names_fault, numbered_fault}
use Rattle.mx_manifest.specs.Faults.{table_fault, tables_fault, version_of}
use Rattle.mx_manifest.specs.Forms.{is_aligned, is_entry, is_integer, is_name_byte, is_within}
use Rattle.mx_plan.specs.Manifest.{judged_document, planned}
use Rattle.mx_mill.specs.Draws.{draws}
use Rattle.mx_mill.specs.Plan.{mill_plan}
use Rattle.mx_mill.specs.Table.{call_gate, list, mill_table, module_table, name, number, return_gate, table_with}
use Rattle.mx_mill.specs.Words.{base, module_before, module_count, words_by}
use Rattle.mx_mill.proofs.PlanLaws.{plan_is}
use Rattle.mx_mill.proofs.WordLaws.{IsProgram, is_program}

-- a module's table over what stands in it
abbrev module_with : List ℕ → List ℕ → ℕ → ℕ → ℕ → ℕ → List ℕ → Data
module_with named from at entry heap back words = table
    (member (codes "at") (number at)
    (member (codes "gates") (list (table (member (codes "entry") (number entry)
    (member (codes "from") (list (string from ∷ [])) no_members)) ∷ []))
    (member (codes "heap") (number heap)
    (member (codes "heap_words") (number 1024)
    (member (codes "name") (string named)
    (member (codes "perm") (string (codes "rx"))
    (member (codes "returns") (list (number back ∷ []))
    (member (codes "words") (list (map number words))
    no_members))))))))

abbrev is_place : ℕ → Bool
is_place at = is_integer 0 4294967295 (pos at) && is_aligned (pos at)

abbrev is_named : List ℕ → Bool
is_named text = is_within 1 32 (length text) && list_all is_name_byte text

module_clear : (named from : List ℕ) (at entry heap back : ℕ) (words : List ℕ) → is_named named ≡ true → is_place at ≡ true
    → is_place heap ≡ true → is_entry (number entry) ≡ true → is_entry (number back) ≡ true
    → IsProgram words → module_fault (version_of (table no_members)) (module_with named from at entry heap back words) ≡ None
unfolding module_fault table_fault
module_clear named from at entry heap back words n a h e r p = rw (n, a, h, e, r, p.typed, p.few, p.ranged) refl

-- what of a module depends on its number
abbrev fits : ℕ → Bool
fits i = is_named (name i) && (is_place (base i) && (is_place (base i + 0x2000)
    && (is_entry (number (call_gate i)) && is_entry (number (return_gate i)))))

all_fit : list_all fits (range_with_len 1 module_count) ≡ true
unfolding digits
all_fit = refl

module_clear-at : (i : ℕ) (words : List ℕ) → IsProgram words → fits i ≡ true
    → module_fault (version_of (table no_members)) (module_table i words) ≡ None
module_clear-at i words p fit =
    let a = and_parts (is_named (name i)) _ fit in
    let b = and_parts (is_place (base i)) _ a.1 in
    let c = and_parts (is_place (base i + 0x2000)) _ b.1 in
    let d = and_parts (is_entry (number (call_gate i))) (is_entry (number (return_gate i))) c.1 in
    module_clear (name i) (name (module_before i)) (base i) (call_gate i) (base i + 0x2000) (return_gate i) words a.0 b.0 c.0 d.0 d.1 p

modules_clear : (f : ℕ → List ℕ) → ((i : ℕ) → IsProgram (f i)) → (n : ℕ) (is : List ℕ) → list_all fits is ≡ true
    → first_of (map (numbered_fault part.Module (λ j. module_fault (version_of (table no_members))))
    (enumerate_from n (map (λ i. module_table i (f i)) is))) ≡ None
modules_clear f each n [] all = refl
modules_clear f each n (i ∷ is) all =
    let parts = and_parts (fits i) (list_all fits is) all in
    rw (module_clear-at i (f i) (each i) parts.0, modules_clear f each (n + 1) is parts.1) refl

two_none : (a b : Option BootFault) → a ≡ None → b ≡ None → first_of (a ∷ b ∷ []) ≡ None
two_none a b p q = rw (p, q) refl

three_none : (a b c : Option BootFault) → a ≡ None → b ≡ None → c ≡ None → first_of (a ∷ b ∷ c ∷ []) ≡ None
three_none a b c p q r = rw (p, q, r) refl

tables_clear : (f : ℕ → List ℕ) → ((i : ℕ) → IsProgram (f i))
    → tables_fault (version_of (table (table_with f))) (table (table_with f)) ≡ None
unfolding each_fault table_fault
tables_clear f each = three_none _ _ _ refl (modules_clear f each 1 (range_with_len 1 module_count) all_fit) refl

names_clear : (f : ℕ → List ℕ) → names_fault (module_names (table (table_with f))) (table (table_with f)) ≡ None
unfolding each_fault digits
names_clear f = refl

pub manifest_clear : (k : ℕ) → first_fault (table (mill_table k)) ≡ None
unfolding mill_table
manifest_clear k =
    let f = words_by (draws k) in
    two_none _ _ (tables_clear f (λ i. is_program i (draws k i))) (names_clear f)

-- so it is judged to be its plan
pub mill_judged : (k : ℕ) → judged_document (Some (mill_table k)) ≡ Ok (mill_plan k)
mill_judged k = ap (planned (table (mill_table k))) (manifest_clear k) ∙ ap Ok (plan_is k)
