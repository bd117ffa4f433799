-- The first fault, test by test.
use Rattle.std.proofs.Common.{◌≡◌, ℕ, suc, ◌≤◌, List, [], ◌∷◌, length, map, Option, Some, None, refl, ap, sym, ◌∙◌, arith}
use Rattle.toml.specs.Data.{Data}
use Rattle.toml.specs.declared.value.Value.{Value}
use Rattle.toml.specs.View.{view}
use Rattle.mx_manifest.specs.declared.fault.BootFault.{BootFault}
use Rattle.mx_manifest.specs.declared.fault.Part.TheVariants as part
use Rattle.mx_manifest.specs.declared.reading.ManifestFault.{ManifestFault}
use Rattle.mx_manifest.specs.declared.reading.ManifestFault.TheVariants.{Fault, NoMemory}
use Rattle.mx_manifest.specs.declared.row.Version.{Version}
use Rattle.mx_manifest.specs.Faults.{each_fault, modules, harts, module_name, module_names, version_of, tables_fault, repeat_fault}
use Rattle.mx_manifest.specs.Faults.{from_fault, hart_fault, names_fault, first_fault, first_of}
use Rattle.mx_manifest.specs.Judged.{Tells}
use Rattle.mx_words.proofs.OptionLaws.{neither, unmapped}
use Rattle.mx_manifest.proofs.Clear.{few_modules, few_harts}
use Rattle.mx_manifest.proofs.Values.{length-data}

-- a list is no longer than its data
pub at_most : (values : List Value) (all : List Data) (most : ℕ) → map view values ≡ all → length all ≤ most → length values ≤ most
at_most values all most same few = omega (arith, ap length same, length-data values)

length-names : (all : List Data) → length (map module_name all) ≡ length all
length-names [] = refl
length-names (d ∷ all) = ap suc (length-names all)

pub names_at_most : (names : List (List ℕ)) (all : List Data) → names ≡ map module_name all → length all ≤ 63 → length names ≤ 63
names_at_most names all same few = omega (arith, ap length same, length-names all)

-- steps 2 and 3, test by test
pub repeats_in : Data → Option BootFault
repeats_in top = each_fault part.Module (repeat_fault (module_names top)) (modules top)

pub repeats_are : (top : Data) (all : List Data) (found : Option BootFault) → all ≡ modules top
    → each_fault part.Module (repeat_fault (map module_name all)) all ≡ found → repeats_in top ≡ found
unfolding repeats_in
repeats_are top all found same h = ap (λ xs. each_fault part.Module (repeat_fault (map module_name xs)) xs) (sym same) ∙ h

pub froms_in : Data → Option BootFault
froms_in top = each_fault part.Module (from_fault (module_names top)) (modules top)

pub froms_are : (top : Data) (all : List Data) (names : List (List ℕ)) (found : Option BootFault) → all ≡ modules top
    → names ≡ module_names top
    → found ≡ each_fault part.Module (from_fault names) all → froms_in top ≡ found
unfolding froms_in
froms_are top all names found same named h =
    ap (λ xs. each_fault part.Module (from_fault (module_names top)) xs) (sym same)
    ∙ ap (λ ns. each_fault part.Module (from_fault ns) all) (sym named) ∙ sym h

pub homes_in : Data → Option BootFault
homes_in top = each_fault part.Hart (λ n. hart_fault (module_names top)) (harts top)

pub homes_are : (top : Data) (all : List Data) (names : List (List ℕ)) (found : Option BootFault) → all ≡ harts top
    → names ≡ module_names top
    → found ≡ each_fault part.Hart (λ n. hart_fault names) all → homes_in top ≡ found
unfolding homes_in
homes_are top all names found same named h =
    ap (λ xs. each_fault part.Hart (λ n. hart_fault (module_names top)) xs) (sym same)
    ∙ ap (λ ns. each_fault part.Hart (λ n. hart_fault ns) all) (sym named) ∙ sym h

names_first : (top : Data) → names_fault (module_names top) top ≡ first_of (repeats_in top ∷ froms_in top ∷ homes_in top ∷ [])
unfolding repeats_in froms_in homes_in
names_first top = refl

pub names_told : (top : Data) (r f h : Option BootFault) → repeats_in top ≡ r → froms_in top ≡ f → homes_in top ≡ h
    → names_fault (module_names top) top ≡ first_of (r ∷ f ∷ h ∷ [])
names_told top r f h a b c = names_first top ∙ rw (a, b, c) refl

-- all steps
pub tables_of : (top : Data) (version : Version) (found : Option BootFault) → version ≡ version_of top → found ≡ tables_fault version top
    → tables_fault (version_of top) top ≡ found
tables_of top version found same h = ap (λ v. tables_fault v top) (sym same) ∙ sym h

pub first_tables : (top : Data) (fault : BootFault) → tables_fault (version_of top) top ≡ Some fault → first_fault top ≡ Some fault
first_tables top fault h = rw h refl

pub tells_names : (top : Data) (fault : ManifestFault) → tables_fault (version_of top) top ≡ None
    → Tells (names_fault (module_names top) top) fault → Tells (first_fault top) fault
tells_names top (Fault fault) a h = rw (a, h) refl
tells_names top NoMemory a h = tt

pub first_none : (top : Data) → tables_fault (version_of top) top ≡ None → names_fault (module_names top) top ≡ None
    → first_fault top ≡ None
first_none top a b = rw (a, b) refl

-- how many modules and harts there are then
pub modules_at_most : (top : Data) → tables_fault (version_of top) top ≡ None → length (modules top) ≤ 63
modules_at_most top h = (few_modules (version_of top) top (unmapped _ _ (neither _ _ h).0)).1

pub harts_at_most : (top : Data) → tables_fault (version_of top) top ≡ None → length (harts top) ≤ 4
harts_at_most top h = (few_harts (version_of top) top (unmapped _ _ (neither _ _ h).0)).1
