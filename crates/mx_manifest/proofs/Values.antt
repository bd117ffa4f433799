-- Values of the code beside the data that they stand for.
use Rattle.std.proofs.Common.{◌≡◌, ℕ, suc, Bool, true, ◌||◌, ◌&&◌, List, [], ◌∷◌, ◌++◌, length, map, String, Global, string_bytes, refl, ap}
use Rattle.std.proofs.Common.{◌∙◌, sym}
use Rattle.std.specs.List.{list_all}
use Rattle.std.specs.Map.{keys_of}
use Rattle.std.proofs.lemmas.List.Folds.{list_all-map, list_any-append}
use Rattle.std.specs.Option.{is_some}
use Rattle.std.proofs.lemmas.Simd.{map-map}
use Rattle.toml.specs.Data.{Data, as_array}
use Rattle.toml.specs.declared.value.Value.{Value}
use Rattle.toml.specs.View.{view, items_view, members_view}
use Rattle.mx_manifest.specs.declared.row.Row.{Row}
use Rattle.mx_manifest.specs.declared.row.Form.{Form}
use Rattle.mx_manifest.specs.declared.row.Form.TheVariants.{Array}
use Rattle.mx_manifest.specs.declared.row.ItemForm.{ItemForm}
use Rattle.mx_manifest.specs.Forms.{is_within, is_item, is_item_typed, is_typed, is_ranged}
use Rattle.mx_manifest.specs.Reads.{listed, elements, member_names}
use Rattle.mx_manifest.specs.Faults.{is_listed}

-- the elements of an array are the data of its values
pub listed_view : (values : List Value) → map view values ≡ listed (items_view values)
listed_view [] = refl
listed_view (v ∷ values) = ap (λ rest. view v ∷ rest) (listed_view values)

-- a test of all elements, on the values and on their data
pub all_data : (test : Data → Bool) (values : List Value) → list_all (λ v. test (view v)) values ≡ list_all test (map view values)
all_data test values = sym (list_all-map test view values)

-- a key is listed by one of two lists of rows
pub is_listed_append : (rows more : List Row) (name : List ℕ) → (is_listed rows name || is_listed more name) ≡ is_listed (rows ++ more) name
is_listed_append rows more name = sym (list_any-append _ rows more)

-- a test of all keys, on the map's keys and on the members' names
pub all_names : (test : List ℕ → Bool) (entries : List (String Global × Value))
    → list_all (λ k. test (string_bytes k)) (keys_of entries) ≡ list_all test (member_names (members_view entries))
all_names test [] = refl
all_names test (e ∷ entries) = ap (λ rest. test (string_bytes e.0) && rest) (all_names test entries)

-- a function of all elements, on the values and on their data
pub map_data : {B : Type 0} (f : Data → B) (values : List Value) → map (λ v. f (view v)) values ≡ map f (map view values)
map_data f values = sym (map-map f view values)

pub length-data : (values : List Value) → length (map view values) ≡ length values
length-data [] = refl
length-data (v ∷ values) = ap suc (length-data values)

-- the type and the range of an array, on its values
pub array_typed : (form : Form) (low high : ℕ) (item : ItemForm) (values : List Value) (d : Data) (r : Bool)
    → r ≡ list_all (λ v. is_item_typed item (view v)) values
    → map view values ≡ elements d → true ≡ is_some (as_array d) → form ≡ Array low high item → r ≡ is_typed form d
array_typed form low high item values d r is same array what =
    is ∙ all_data (is_item_typed item) values
    ∙ ap (list_all (is_item_typed item)) same
    ∙ ap (λ b. b && list_all (is_item_typed item) (elements d)) array
    ∙ ap (λ f. is_typed f d) (sym what)

pub array_ranged : (form : Form) (low high : ℕ) (item : ItemForm) (values : List Value) (d : Data) (r : Bool)
    → r ≡ (is_within low high (length values) && list_all (λ v. is_item item (view v)) values)
    → map view values ≡ elements d → form ≡ Array low high item → r ≡ is_ranged form d
array_ranged form low high item values d r is same what =
    is ∙ ap (λ b. is_within low high (length values) && b) (all_data (is_item item) values)
    ∙ ap (λ n. is_within low high n && list_all (is_item item) (map view values)) (sym (length-data values))
    ∙ ap (λ xs. is_within low high (length xs) && list_all (is_item item) xs) same
    ∙ ap (λ f. is_ranged f d) (sym what)
