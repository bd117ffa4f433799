-- What stands in a table, an array or a value of the manifest, as TOML has it.
-- The rules: docs/COMMANDS.md, "The manifest".
use Rattle.std.specs.Prelude.{ℕ, ℤ, pos, negsuc, Bool, nat_le, if◌then◌else◌, List, [], ◌∷◌, Option, Some, None, option_and_then, unwrap_or}
use Rattle.std.specs.Option.{is_some, option_map_or}
use Rattle.toml.specs.Data.{Data, Items, no_items, item, Members, no_members, member, get, as_str, as_integer, as_array, as_table}
use Rattle.mx_manifest.specs.declared.fault.Key.{Key}
use Rattle.mx_manifest.specs.Keys.{key_text}

-- the value at a key of a table
abbrev pub value_at : Key → Data → Option Data
value_at key t = get (key_text key) t

-- whether a table has a key
abbrev pub has : Key → Data → Bool
has key t = is_some (value_at key t)

-- the names of all keys of a table
abbrev pub member_names : Members → List (List ℕ)
member_names no_members = []
member_names (member name value rest) = name ∷ member_names rest

abbrev pub names_in : Data → List (List ℕ)
names_in t = option_map_or member_names (as_table t) []

-- the elements of an array; none of any other value
abbrev pub listed : Items → List Data
listed no_items = []
listed (item value rest) = value ∷ listed rest

abbrev pub elements : Data → List Data
elements value = option_map_or listed (as_array value) []

-- the elements of the array at a key
abbrev pub elements_at : Key → Data → List Data
elements_at key t = option_map_or elements (value_at key t) []

-- a number of 32 bits
abbrev pub word : ℤ → Option ℕ
word (pos n) = if nat_le n 4294967295 then Some n else None
word (negsuc n) = None

abbrev pub number_of : Data → Option ℕ
number_of value = option_and_then word (as_integer value)

-- the number at a key
abbrev pub number_at : Key → Data → Option ℕ
number_at key t = option_and_then number_of (value_at key t)

-- the text at a key
abbrev pub text_at : Key → Data → Option (List ℕ)
text_at key t = option_and_then as_str (value_at key t)

-- the text that a value is; empty for any other value
abbrev pub text_of : Data → List ℕ
text_of value = unwrap_or (as_str value) []
