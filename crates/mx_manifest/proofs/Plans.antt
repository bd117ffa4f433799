-- A plan without a fault lies in all ranges.
use Rattle.std.proofs.Common.{◌≡◌, ℕ, ◌+◌, ◌-◌, ◌%◌, ◌<◌, ◌≤◌, ◌⊎◌, inl, inr, List, [], ◌∷◌, length, map, take, true, false, slice_get}
use Rattle.std.proofs.Common.{Option, Some, None, IfSome, unwrap_or, refl, ap, sym, ◌∙◌, subst, arith}
use Rattle.std.proofs.lemmas.Bool.{false≢true}
use Rattle.std.proofs.lemmas.List.{length-map}
use Rattle.std.specs.List.{list_any}
use Rattle.std.specs.Str.{bytes_eq}
use Rattle.toml.specs.Data.{Data}
use Rattle.mx_manifest.specs.declared.fault.Key.TheVariants as key
use Rattle.mx_manifest.specs.declared.fault.Part.TheVariants as part
use Rattle.mx_manifest.specs.declared.parts.ModulePlan.{ModulePlan}
use Rattle.mx_manifest.specs.declared.row.Asked.TheVariants.{Always, Never}
use Rattle.mx_manifest.specs.declared.row.Version.{Version}
use Rattle.mx_manifest.specs.declared.row.Version.TheVariants.{One, Two}
use Rattle.mx_manifest.specs.Reads.{number_at}
use Rattle.mx_manifest.specs.InRange.{Each, IsBetween, IsModule, IsHart, IsInRange, HasNamesApart}
use Rattle.mx_manifest.specs.Plan.{module_plan, hart_plan, version_number, plan_of}
use Rattle.mx_manifest.specs.Rows.{most, top_rows, hart_rows}
use Rattle.mx_manifest.specs.Faults.{row_fault, table_fault, module_fault, modules, harts, module_name, module_names, version_of}
use Rattle.mx_manifest.specs.Faults.{each_fault, repeat_fault, from_fault, hart_fault, tables_fault, names_fault, first_of, first_fault}
use Rattle.mx_words.proofs.OptionLaws.{neither, unmapped}
use Rattle.mx_manifest.proofs.Clear.{clear_at, table_clear, most_at_most, any_row, few_modules, few_harts}
use Rattle.mx_manifest.proofs.Inputs.{no_input}
use Rattle.mx_manifest.proofs.Lists.{numbered_mapped, each_clear, fails, found_before, from_mapped}
use Rattle.mx_manifest.proofs.Modules.{module_clear, module_in_range, hart_in_range}
use Rattle.mx_manifest.proofs.Ranges.{integer_key, aligned_key, choice_key, or_default, if_weaker}

version_in_range : (version : Version) → IsBetween 1 2 (version_number version)
version_in_range One = (omega arith, omega arith)
version_in_range Two = (omega arith, omega arith)

-- a limit of the top table, with its default
limit_in_range : (version : Version) (one two default : ℕ) (o : Option ℕ) → one ≤ two → default ≤ two
    → IfSome o (IsBetween 0 (most version one two)) → unwrap_or o default ≤ two
limit_in_range version one two default o order small h =
    or_default (λ n. n ≤ two) o default (if_weaker (IsBetween 0 (most version one two)) (λ n. n ≤ two) o (λ n b.
    omega (arith, b.1, most_at_most version one two order)) h) small

-- the tests of all tables by themselves
record ClearTables (top : Data) : Type 0 where
  top_table : table_fault (top_rows (version_of top)) top ≡ None
  module_tables : each_fault part.Module (λ n. module_fault (version_of top)) (modules top) ≡ None
  hart_tables : each_fault part.Hart (λ n. table_fault hart_rows) (harts top) ≡ None
  repeats : each_fault part.Module (repeat_fault (module_names top)) (modules top) ≡ None
  froms : each_fault part.Module (from_fault (module_names top)) (modules top) ≡ None
  homes : each_fault part.Hart (λ n. hart_fault (module_names top)) (harts top) ≡ None

tables_clear : (top : Data) → first_fault top ≡ None → ClearTables top
tables_clear top h =
    let steps = neither (tables_fault (version_of top) top) (first_of (names_fault (module_names top) top ∷ [])) h in
    let a = neither _ _ steps.0 in
    let b = neither _ _ a.1 in
    let c = neither _ _ b.1 in
    let d = neither _ _ (neither _ _ steps.1).0 in
    let e = neither _ _ d.1 in
    let f = neither _ _ e.1 in
    record { top_table = unmapped _ _ a.0; module_tables = b.0; hart_tables = c.0; repeats = d.0; froms = e.0; homes = f.0 }

-- no module has an earlier one's name
earlier_name : (all : List Data) (i j : ℕ) (a b : Data) → each_fault part.Module (repeat_fault (map module_name all)) all ≡ None
    → slice_get all i ≡ Some a → slice_get all j ≡ Some b
    → module_name a ≡ module_name b → i < j → ⊥
earlier_name all i j a b h at_i at_j same below =
    let none : list_any (bytes_eq (module_name b)) (take (j + 1 - 1) (map module_name all)) ≡ false =
    fails _ _ (each_clear part.Module (repeat_fault (map module_name all)) all h j b at_j) in
    let found : list_any (bytes_eq (module_name b)) (take (j + 1 - 1) (map module_name all)) ≡ true =
    ap (λ n. list_any (bytes_eq (module_name b)) (take n (map module_name all))) (omega arith)
    ∙ found_before all (module_name b) i j a at_i below same in
    false≢true (sym none ∙ found)

-- a manifest of version 1 has no inputs
first_version : (version : Version) → version_number version ≡ 1 → version ≡ One
first_version One h = refl
first_version Two h = absurd (omega arith)

no_inputs : (version : Version) (names : List (List ℕ)) (all : List Data) → each_fault part.Module (λ n. module_fault version) all ≡ None
    → version_number version ≡ 1
    → Each (λ (m : ModulePlan). m.input ≡ None) (map (module_plan names) all)
no_inputs version names all h one =
    let clear : each_fault part.Module (λ n. module_fault One) all ≡ None =
    subst (λ v. each_fault part.Module (λ n. module_fault v) all ≡ None) (first_version version one) h in
    numbered_mapped (module_plan names) (λ n (m : ModulePlan). m.input ≡ None) all
    (λ i m at. no_input m (module_clear One m (each_clear part.Module (λ n. module_fault One) all clear i m at)).listed)

same_place : (i j : ℕ) → (i < j → ⊥) → (j < i → ⊥) → i ≡ j
same_place i j f g = omega arith

names_apart : (names : List (List ℕ)) (all : List Data) → each_fault part.Module (repeat_fault (map module_name all)) all ≡ None
    → HasNamesApart (map (module_plan names) all)
names_apart names all h = λ i j a b at_i at_j same.
    let m = from_mapped (module_plan names) all i a at_i in
    let n = from_mapped (module_plan names) all j b at_j in
    let named : module_name m.0 ≡ module_name n.0 = ap (λ p. p.name) m.2 ∙ same ∙ sym (ap (λ p. p.name) n.2) in
    same_place i j (earlier_name all i j m.0 n.0 h m.1 n.1 named) (earlier_name all j i n.0 m.0 h n.1 m.1 (sym named))

pub in_range : (top : Data) → first_fault top ≡ None → IsInRange (plan_of top)
in_range top h =
    let version = version_of top in
    let names = module_names top in
    let clear = tables_clear top h in
    let top_clear = clear.top_table in
    let rows = λ (i : ℕ) (below : i < length (top_rows version)).
    clear_at (row_fault top) (top_rows version) i any_row (table_clear (top_rows version) top top_clear) below in
    let ram = aligned_key top key.RamKib Always 64 (most version 16384 65536)
    (omega (arith, most_at_most version 16384 65536 (omega arith))) (rows 1 (omega arith)) in
    let ram_fits = or_default (λ n. IsBetween 64 65536 n × (n % 4 ≡ 0)) (number_at key.RamKib top) 64
    (if_weaker (λ n. IsBetween 64 (most version 16384 65536) n × (n % 4 ≡ 0)) (λ n. IsBetween 64 65536 n × (n % 4 ≡ 0))
    (number_at key.RamKib top)
    (λ n b. ((b.0.0, omega (arith, b.0.1, most_at_most version 16384 65536 (omega arith))), b.1)) ram.value)
    ((omega arith, omega arith), refl) in
    let upper = integer_key top key.Upper Never 0 (most version 1024 4096) (omega (arith, most_at_most version 1024 4096 (omega arith)))
    (rows 3 (omega arith)) in
    let leaf = integer_key top key.Leaf Never 0 (most version 65536 262144) (omega (arith, most_at_most version 65536 262144 (omega arith)))
    (rows 4 (omega arith)) in
    let spill = integer_key top key.Spill Never 0 (most version 262144 1048576)
    (omega (arith, most_at_most version 262144 1048576 (omega arith))) (rows 5 (omega arith)) in
    let lookaside = choice_key top key.Lookaside Never (rows 6 (omega arith)) in
    let quantum = integer_key top key.Quantum Never 1 1000000 (omega arith) (rows 7 (omega arith)) in
    let module_count = length-map (modules top) (module_plan names) in
    let hart_count = length-map (harts top) (hart_plan names) in
    let count : length names ≡ length (map (module_plan names) (modules top)) = length-map (modules top) module_name ∙ sym module_count in
    let few = few_modules version top top_clear in
    let few_too = few_harts version top top_clear in
    record {
      version = version_in_range version;
      ram_kib = ram_fits.0;
      ram_multiple = ram_fits.1;
      upper = limit_in_range version 1024 4096 128 (number_at key.Upper top) (omega arith) (omega arith) upper.value;
      leaf = limit_in_range version 65536 262144 4096 (number_at key.Leaf top) (omega arith) (omega arith) leaf.value;
      spill = limit_in_range version 262144 1048576 4096 (number_at key.Spill top) (omega arith) (omega arith) spill.value;
      lookaside = or_default (λ n. (n ≡ 8) ⊎ (n ≡ 32) ⊎ (n ≡ 64)) (number_at key.Lookaside top) 32 lookaside.value (inr (inl refl));
      quantum = or_default (IsBetween 1 1000000) (number_at key.Quantum top) 1 quantum.value (omega arith, omega arith);
      module_count = (omega (arith, few.0, module_count), omega (arith, few.1, module_count));
      hart_count = (omega (arith, few_too.0, hart_count), omega (arith, few_too.1, hart_count));
      modules = numbered_mapped (module_plan names) (IsModule (length (map (module_plan names) (modules top)))) (modules top)
          (λ i m at. subst (λ n. IsModule n (i + 1) (module_plan names m)) count
          (module_in_range version names (i + 1) m (each_clear part.Module (λ n. module_fault version) (modules top) clear.module_tables i m
          at)
          (each_clear part.Module (from_fault names) (modules top) clear.froms i m at)));
      names_apart = names_apart names (modules top) clear.repeats;
      inputs_of_two = no_inputs version names (modules top) clear.module_tables;
      harts = numbered_mapped (hart_plan names) (λ n. IsHart (length (map (module_plan names) (modules top)))) (harts top)
          (λ i hart at. subst (λ n. IsHart n (hart_plan names hart)) count
          (hart_in_range names hart (each_clear part.Hart (λ n. table_fault hart_rows) (harts top) clear.hart_tables i hart at)
          (each_clear part.Hart (λ n. hart_fault names) (harts top) clear.homes i hart at)));
    }
