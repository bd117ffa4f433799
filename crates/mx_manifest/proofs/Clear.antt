-- What a table keeps that has no fault.
use Rattle.std.proofs.Common.{◌≡◌, ℕ, ◌<◌, ◌≤◌, suc, zero, Bool, true, false, not, nat_le, List, [], ◌∷◌, length, get_or, map, Option, Some}
use Rattle.std.proofs.Common.{None, refl, ap, arith, if◌then◌else◌}
use Rattle.std.proofs.lemmas.Bool.{and_parts}
use Rattle.std.proofs.lemmas.Bool.Decides.{nat_tests}
use Rattle.std.specs.Option.{option_map_or}
use Rattle.toml.specs.Data.{Data, get}
use Rattle.mx_words.proofs.OptionLaws.{neither, unmapped}
use Rattle.mx_manifest.specs.declared.fault.Key.{Key}
use Rattle.mx_manifest.specs.declared.fault.Key.TheVariants as key
use Rattle.mx_manifest.specs.declared.row.Row.{Row}
use Rattle.mx_manifest.specs.declared.row.Asked.TheVariants.{Always}
use Rattle.mx_manifest.specs.declared.row.Form.TheVariants.{Array, Boolean}
use Rattle.mx_manifest.specs.declared.row.ItemForm.{ItemForm}
use Rattle.mx_manifest.specs.declared.row.ItemForm.TheVariants as each
use Rattle.mx_manifest.specs.declared.row.Version.{Version}
use Rattle.mx_manifest.specs.declared.row.Version.TheVariants.{One, Two}
use Rattle.mx_manifest.specs.Keys.{name_text}
use Rattle.mx_manifest.specs.Reads.{elements, elements_at}
use Rattle.mx_manifest.specs.Forms.{is_within, is_typed, is_ranged}
use Rattle.mx_manifest.specs.Rows.{most, row, top_rows}
use Rattle.mx_manifest.specs.Faults.{first_of, is_asked, value_fault, row_fault, rows_fault, table_fault}

-- each test of a list finds nothing where the first of them all finds nothing
pub clear_at : {A F : Type 0} (test : A → Option F) (xs : List A) (i : ℕ) (d : A) → first_of (map test xs) ≡ None → i < length xs
    → test (get_or xs i d) ≡ None
clear_at test [] i d h below = absurd (omega arith)
clear_at test (x ∷ xs) zero d h below = (neither _ _ h).0
clear_at test (x ∷ xs) (suc i) d h below = clear_at test xs i d (neither _ _ h).1 (omega arith)

two_tests : (a b : Bool) → ◌≡◌ {A = Option ℕ} (if not a then Some 4 else if not b then Some 5 else None) None → (a ≡ true) × (b ≡ true)
two_tests true true h = (refl, refl)
two_tests true false h = cc
two_tests false b h = cc

-- a value that is there has its type and lies in its range
pub value_fits : (t : Data) (r : Row) (value : Data) → row_fault t r ≡ None → get (name_text r.name) t ≡ Some value
    → (is_typed r.form value ≡ true) × (is_ranged r.form value ≡ true)
value_fits t r value h at =
    let clear : value_fault r t (get (name_text r.name) t) ≡ None = unmapped _ _ h in
    two_tests (is_typed r.form value) (is_ranged r.form value) (rw at at clear)

asked_there : (t : Data) (r : Row) (value : Option Data) → value_fault r t value ≡ None → is_asked r.asked t ≡ true
    → (v : Data) × (value ≡ Some v)
asked_there t r None h asked = absurd (let e : ◌≡◌ {A = Option ℕ} (if true then Some 3 else None) None = rw asked at h in cc)
asked_there t r (Some v) h asked = (v, refl)

-- a key that is required is there
pub key_there : (t : Data) (r : Row) → row_fault t r ≡ None → is_asked r.asked t ≡ true → (v : Data) × (get (name_text r.name) t ≡ Some v)
key_there t r h asked = asked_there t r _ (unmapped _ _ h) asked

pub within_parts : (low high n : ℕ) → is_within low high n ≡ true → (low ≤ n) × (n ≤ high)
within_parts low high n h =
    let (a, b) = and_parts (nat_le low n) (nat_le n high) h in
    (grind (arith, nat_tests), grind (arith, nat_tests))

-- the length of an array that must be there
pub array_length : (t : Data) (key : Key) (low high : ℕ) (item : ItemForm) → row_fault t (row key Always (Array low high item)) ≡ None
    → (low ≤ length (elements_at key t)) × (length (elements_at key t) ≤ high)
array_length t key low high item h =
    let there = key_there t (row key Always (Array low high item)) h refl in
    let fits = value_fits t (row key Always (Array low high item)) there.0 h there.1 in
    let parts = and_parts (is_within low high (length (elements there.0))) _ fits.1 in
    let at : elements_at key t ≡ elements there.0 = ap (λ v. option_map_or elements v []) there.1 in
    rw at (within_parts low high (length (elements there.0)) parts.0)

pub table_clear : (rows : List Row) (t : Data) → table_fault rows t ≡ None → rows_fault rows t ≡ None
unfolding table_fault
table_clear rows t h = (neither _ _ (neither _ _ h).1).0

pub most_at_most : (version : Version) (one two : ℕ) → one ≤ two → most version one two ≤ two
most_at_most One one two h = h
most_at_most Two one two h = omega arith

pub any_row : Row
any_row = row key.Version Always Boolean

pub few_modules : (version : Version) (t : Data) → table_fault (top_rows version) t ≡ None
    → (1 ≤ length (elements_at key.Module t)) × (length (elements_at key.Module t) ≤ 63)
few_modules version t h =
    let parts = array_length t key.Module 1 (most version 15 63) each.Table
    (clear_at (row_fault t) (top_rows version) 8 any_row (table_clear _ t h) (omega arith)) in
    (parts.0, omega (arith, parts.1, most_at_most version 15 63 (omega arith)))

pub few_harts : (version : Version) (t : Data) → table_fault (top_rows version) t ≡ None
    → (1 ≤ length (elements_at key.Hart t)) × (length (elements_at key.Hart t) ≤ 4)
few_harts version t h =
    array_length t key.Hart 1 4 each.Table (clear_at (row_fault t) (top_rows version) 9 any_row (table_clear _ t h) (omega arith))
