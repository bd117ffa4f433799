-- The first fault of a manifest, by the order of the tests.
-- The rules: docs/COMMANDS.md, "The manifest".
use Rattle.std.specs.Prelude.{ℕ, suc, ◌-◌, Bool, true, false, not, ◌&&◌, ◌||◌, ◌==◌, if◌then◌else◌, List, [], ◌∷◌, ◌++◌, map, take}
use Rattle.std.specs.Prelude.{position, Option, Some, None, option_map, unwrap_or}
use Rattle.std.specs.List.{list_all, list_any, enumerate_from}
use Rattle.std.specs.Option.{option_or, option_map_or}
use Rattle.std.specs.Str.{bytes_eq}
use Rattle.toml.specs.Data.{Data, get}
use Rattle.mx_manifest.specs.declared.fault.BootFault.{BootFault}
use Rattle.mx_manifest.specs.declared.fault.Part.{Part}
use Rattle.mx_manifest.specs.declared.fault.Part.TheVariants as part
use Rattle.mx_manifest.specs.declared.fault.Key.{Key}
use Rattle.mx_manifest.specs.declared.fault.Key.TheVariants as key
use Rattle.mx_manifest.specs.declared.row.Row.{Row}
use Rattle.mx_manifest.specs.declared.row.Name.TheVariants.{From}
use Rattle.mx_manifest.specs.declared.row.Asked.{Asked}
use Rattle.mx_manifest.specs.declared.row.Asked.TheVariants.{Always, Never, With, Without, WithAny, WithoutAny}
use Rattle.mx_manifest.specs.declared.row.Version.{Version}
use Rattle.mx_manifest.specs.declared.row.Version.TheVariants.{One, Two}
use Rattle.mx_manifest.specs.declared.tables.KeyFault.{KeyFault}
use Rattle.mx_manifest.specs.Keys.{name_text, name_key}
use Rattle.mx_manifest.specs.Reads.{has, names_in, elements, elements_at, number_at, text_at, text_of}
use Rattle.mx_manifest.specs.Forms.{is_typed, is_ranged}
use Rattle.mx_manifest.specs.Rows.{top_rows, early_rows, late_rows, gate_rows, hart_rows}

-- the fault of the first test that finds one
abbrev pub first_of : {F : Type 0} → List (Option F) → Option F
first_of [] = None
first_of (test ∷ tests) = option_or test (first_of tests)

-- a fault at a key, where a test holds
abbrev pub fault_where : Bool → ℕ → Key → Option KeyFault
fault_where test number key = if test then Some (record { number = number; key = key }) else None

-- whether a key is required in a table
abbrev pub is_asked : Asked → Data → Bool
is_asked Always t = true
is_asked Never t = false
is_asked (With key) t = has key t
is_asked (Without key) t = not (has key t)
is_asked (WithAny a b c) t = has a t || has b t || has c t
is_asked (WithoutAny a b c) t = not (has a t || has b t || has c t)

-- fault 3 of a key that is missing, faults 4 and 5 of one that is there
abbrev pub value_fault : Row → Data → Option Data → Option ℕ
value_fault row t None = if is_asked row.asked t then Some 3 else None
value_fault row t (Some value) =
    if not (is_typed row.form value) then Some 4
    else if not (is_ranged row.form value) then Some 5 else None

-- the fault of the key of a row
abbrev pub row_fault : Data → Row → Option KeyFault
row_fault t row =
    option_map (λ number. record { number = number; key = name_key row.name })
    (value_fault row t (get (name_text row.name) t))

-- the first fault of the keys of some rows
abbrev pub rows_fault : List Row → Data → Option KeyFault
rows_fault rows t = first_of (map (row_fault t) rows)

-- fault 2: a key that no row lists
abbrev pub is_listed : List Row → List ℕ → Bool
is_listed rows name = list_any (λ row. bytes_eq (name_text row.name) name) rows

abbrev pub unlisted_fault : List Row → Data → Option KeyFault
unlisted_fault rows t = fault_where (not (list_all (is_listed rows) (names_in t))) 2 key.NoKey

-- the first fault of a table
unfoldable pub table_fault : List Row → Data → Option KeyFault
table_fault rows t = first_of (unlisted_fault rows t ∷ rows_fault rows t ∷ [])

-- the first fault inside a module's gates, gate by gate
abbrev pub gate_fault : Version → Data → Option KeyFault
gate_fault version gate =
    option_map (λ fault. record { number = fault.number; key = key.Gates })
    (table_fault (gate_rows version) gate)

abbrev pub gates_fault : Version → Data → Option KeyFault
gates_fault version m = first_of (map (gate_fault version) (elements_at key.Gates m))

-- fault 6: `image` beside `at`, `perm` or `words`, or `wx` without `image`
abbrev pub is_image_twice : Data → Bool
is_image_twice m = has key.Image m && (has key.At m || has key.Perm m || has key.Words m)

abbrev pub image_fault : Data → Option KeyFault
image_fault m = first_of
    (fault_where (is_image_twice m) 6 key.Image
    ∷ fault_where (has key.Wx m && not (has key.Image m)) 6 key.Wx
    ∷ [])

-- the first fault of a module's table: fault 2, then its keys in listed order, then fault 6
unfoldable pub module_fault : Version → Data → Option KeyFault
module_fault version m = first_of
    (unlisted_fault (early_rows version ++ late_rows version) m
    ∷ rows_fault (early_rows version) m
    ∷ gates_fault version m
    ∷ rows_fault (late_rows version) m
    ∷ image_fault m
    ∷ [])

-- a fault with its place
abbrev pub placed : Part → ℕ → Option KeyFault → Option BootFault
placed sort index fault = option_map
    (λ f. record {
      number = f.number;
      place = record { part = sort; index = index; key = f.key };
      detail = 0;
    })
    fault

-- the first fault that a test finds in tables of one sort, which are numbered from 1
abbrev pub numbered_fault : Part → (ℕ → Data → Option KeyFault) → ℕ × Data → Option BootFault
numbered_fault sort test t = placed sort t.0 (test t.0 t.1)

unfoldable pub each_fault : Part → (ℕ → Data → Option KeyFault) → List Data → Option BootFault
each_fault sort test tables = first_of (map (numbered_fault sort test) (enumerate_from 1 tables))

-- the modules' tables and the harts' tables
abbrev pub modules : Data → List Data
modules top = elements_at key.Module top

abbrev pub harts : Data → List Data
harts top = elements_at key.Hart top

-- the version; version 1 where the key says none
abbrev pub version_numbered : Option ℕ → Version
version_numbered None = One
version_numbered (Some n) = if n == 2 then Two else One

abbrev pub version_of : Data → Version
version_of top = version_numbered (number_at key.Version top)

-- step 1: the top table, then the modules, then the harts
abbrev pub tables_fault : Version → Data → Option BootFault
tables_fault version top = first_of
    (placed part.Manifest 0 (table_fault (top_rows version) top)
    ∷ each_fault part.Module (λ n. module_fault version) (modules top)
    ∷ each_fault part.Hart (λ n. table_fault hart_rows) (harts top)
    ∷ [])

-- the names of the modules in order
abbrev pub module_name : Data → List ℕ
module_name m = unwrap_or (text_at key.Name m) []

abbrev pub module_names : Data → List (List ℕ)
module_names top = map module_name (modules top)

-- the number of the module with this name, from 1; 0 where there is none
abbrev pub domain_of : List (List ℕ) → List ℕ → ℕ
domain_of names name = option_map_or suc (position (bytes_eq name) names) 0

-- step 2, fault 7: module n has an earlier module's name
abbrev pub repeat_fault : List (List ℕ) → ℕ → Data → Option KeyFault
repeat_fault names n m =
    fault_where (list_any (bytes_eq (module_name m)) (take (n - 1) names)) 7 key.Name

-- step 3, fault 8 of module n: a name in `from` is no other module's
abbrev pub from_texts : Data → List (List ℕ)
from_texts gate = map text_of (option_map_or elements (get (name_text From) gate) [])

abbrev pub is_other : List (List ℕ) → ℕ → List ℕ → Bool
is_other names n name = not (domain_of names name == 0) && not (domain_of names name == n)

abbrev pub is_from_others : List (List ℕ) → ℕ → Data → Bool
is_from_others names n gate = list_all (is_other names n) (from_texts gate)

abbrev pub from_fault : List (List ℕ) → ℕ → Data → Option KeyFault
from_fault names n m =
    fault_where (not (list_all (is_from_others names n) (elements_at key.Gates m))) 8 key.Gates

-- step 3, fault 8 of a hart: its `module` is no module's name
abbrev pub hart_domain : List (List ℕ) → Data → ℕ
hart_domain names hart = domain_of names (unwrap_or (text_at key.Module hart) [])

abbrev pub hart_fault : List (List ℕ) → Data → Option KeyFault
hart_fault names hart = fault_where (hart_domain names hart == 0) 8 key.Module

-- the first fault of all, from 2 to 8
abbrev pub names_fault : List (List ℕ) → Data → Option BootFault
names_fault names top = first_of
    (each_fault part.Module (repeat_fault names) (modules top)
    ∷ each_fault part.Module (from_fault names) (modules top)
    ∷ each_fault part.Hart (λ n. hart_fault names) (harts top)
    ∷ [])

abbrev pub first_fault : Data → Option BootFault
first_fault top =
    first_of (tables_fault (version_of top) top ∷ names_fault (module_names top) top ∷ [])
