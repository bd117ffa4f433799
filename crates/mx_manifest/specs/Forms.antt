-- The TOML types and the ranges of values.
-- The rules: docs/COMMANDS.md, "The manifest".
use Rattle.std.specs.Prelude.{ℕ, ◌%◌, ℤ, pos, negsuc, Bool, true, false, not, ◌&&◌, ◌||◌, ◌==◌, nat_le, List, [], ◌∷◌, length, codes}
use Rattle.std.specs.Char.{is_ascii_digit, is_ascii_lowercase}
use Rattle.std.specs.List.{list_all, list_any, starts_with}
use Rattle.std.specs.Option.{is_some, option_map_or}
use Rattle.std.specs.Prelude.{nat_eq, Option}
use Rattle.std.specs.Str.{bytes_eq}
use Rattle.mx_words.specs.Limits.{most_module_name, most_name}
use Rattle.toml.specs.Data.{Data, as_str, as_integer, as_bool, as_array, as_table}
use Rattle.mx_manifest.specs.declared.row.Form.{Form}
use Rattle.mx_manifest.specs.declared.row.Form.TheVariants.{Integer, Aligned, Choice, Text, Boolean, Entry, Array}
use Rattle.mx_manifest.specs.declared.row.TextForm.{TextForm}
use Rattle.mx_manifest.specs.declared.row.TextForm.TheVariants.{Any, Tables, ModuleName, FileName, Permission, ImagePermission, OnFault}
use Rattle.mx_manifest.specs.declared.row.TextForm.TheVariants.{InputPermission}
use Rattle.mx_manifest.specs.declared.row.ItemForm.{ItemForm}
use Rattle.mx_manifest.specs.declared.row.ItemForm.TheVariants as each
use Rattle.mx_manifest.specs.Reads.{elements}

-- a number from low to high
abbrev pub is_within : ℕ → ℕ → ℕ → Bool
is_within low high n = nat_le low n && nat_le n high

-- an integer from low to high
abbrev pub is_integer : ℕ → ℕ → ℤ → Bool
is_integer low high (pos n) = is_within low high n
is_integer low high (negsuc n) = false

-- an integer that is a multiple of 4
abbrev pub is_aligned : ℤ → Bool
is_aligned (pos n) = n % 4 == 0
is_aligned (negsuc n) = false

-- one of three numbers
abbrev pub is_choice : ℕ → ℕ → ℕ → ℤ → Bool
is_choice a b c (pos n) = n == a || n == b || n == c
is_choice a b c (negsuc n) = false

-- an address, and any word
abbrev pub is_address : ℤ → Bool
is_address = is_integer 0 4294967295

-- a to z, 0 to 9 and _
abbrev pub is_name_byte : ℕ → Bool
is_name_byte byte = is_ascii_lowercase byte || is_ascii_digit byte || byte == 95

-- one of some texts
abbrev pub is_among : List (List ℕ) → List ℕ → Bool
is_among texts text = list_any (λ t. bytes_eq text t) texts

-- the range of a text
abbrev pub is_text : TextForm → List ℕ → Bool
is_text Any text = true
is_text Tables text = is_among (codes "segments" ∷ codes "multilevel" ∷ codes "packed" ∷ []) text
is_text ModuleName text = is_within 1 most_module_name (length text) && list_all is_name_byte text
is_text FileName text = is_within 1 most_name (length text) && not (starts_with nat_eq text (codes "-"))
is_text Permission text = is_among (codes "r" ∷ codes "rw" ∷ codes "rx" ∷ []) text
is_text ImagePermission text = is_among (codes "rw" ∷ codes "rx" ∷ []) text
is_text OnFault text = is_among (codes "return" ∷ codes "kill" ∷ []) text
is_text InputPermission text = is_among (codes "r" ∷ codes "rw" ∷ []) text

-- the value, where it is there, passes a test
abbrev pub passes : {T : Type 0} → (T → Bool) → Option T → Bool
passes test value = option_map_or test value false

-- the type of an entry, and its range: a text of 1 to 255 bytes or an address
abbrev pub is_entry_typed : Data → Bool
is_entry_typed value = is_some (as_str value) || is_some (as_integer value)

abbrev pub is_entry : Data → Bool
is_entry value =
    passes (λ text. is_within 1 most_name (length text)) (as_str value)
    || passes is_address (as_integer value)

-- the type of an element
abbrev pub is_item_typed : ItemForm → Data → Bool
is_item_typed each.Table value = is_some (as_table value)
is_item_typed each.Word value = is_some (as_integer value)
is_item_typed each.Text value = is_some (as_str value)
is_item_typed each.Entry value = is_entry_typed value

-- the range of an element
abbrev pub is_item : ItemForm → Data → Bool
is_item each.Table value = true
is_item each.Word value = passes is_address (as_integer value)
is_item each.Text value = true
is_item each.Entry value = is_entry value

-- the TOML type of a value, of an array's elements too
abbrev pub is_typed : Form → Data → Bool
is_typed (Integer low high) value = is_some (as_integer value)
is_typed (Aligned low high) value = is_some (as_integer value)
is_typed (Choice a b c) value = is_some (as_integer value)
is_typed (Text text) value = is_some (as_str value)
is_typed Boolean value = is_some (as_bool value)
is_typed Entry value = is_entry_typed value
is_typed (Array low high item) value =
    is_some (as_array value) && list_all (is_item_typed item) (elements value)

-- the range of a value, of an array's length and elements too
abbrev pub is_ranged : Form → Data → Bool
is_ranged (Integer low high) value = passes (is_integer low high) (as_integer value)
is_ranged (Aligned low high) value =
    passes (λ n. is_integer low high n && is_aligned n) (as_integer value)
is_ranged (Choice a b c) value = passes (is_choice a b c) (as_integer value)
is_ranged (Text text) value = passes (is_text text) (as_str value)
is_ranged Boolean value = true
is_ranged Entry value = is_entry value
is_ranged (Array low high item) value =
    is_within low high (length (elements value)) && list_all (is_item item) (elements value)
