-- Symbols that are looked up together.
use Rattle.std.specs.Prelude.{◌≡◌, ℕ, ◌≤◌, true, if◌then◌else◌, List, length, map, Option, Some, None, is_some}
use Rattle.std.specs.Borrow.{Bor}
use Rattle.std.specs.HashMap.{HashMap, get_by}
use Rattle.std.specs.Map.{lookup}
use Rattle.std.specs.Str.{bytes_eq}
use Rattle.std.specs.declared.hash.FoldHasher.{FoldHasher}
use Rattle.std.specs.declared.hash.BuildHasherDefault.{BuildHasherDefault}
use Rattle.mx_elf.specs.Header.{st_value}
use Rattle.mx_elf.specs.Symbol.{is_defined, symbol_of}

-- names, and of each which value the symbol of that name has, if there is one
abbrev pub Told : Type 0
Told = List (List ℕ × Option ℕ)

-- what is told of a name: nothing, or the value
abbrev pub told_of : Told → List ℕ → Option (Option ℕ)
told_of told name = lookup (bytes_eq name) told

-- all that is told holds in a file
abbrev pub HoldsIn : List ℕ → Told → Type 0
HoldsIn bytes told =
    (name : List ℕ) (value : Option ℕ) → told_of told name ≡ Some value →
    value ≡ symbol_of bytes name

-- a map from names to values, and what it tells
abbrev pub Values : Type 0
Values = HashMap (Bor (List ℕ)) (Option ℕ) (BuildHasherDefault FoldHasher)

abbrev pub told_by : Values → Told
told_by values = map (λ e. (e.0.now, e.1)) values.entries

abbrev pub known_in : Values → List ℕ → Option (Option ℕ)
known_in values name = get_by (λ key. bytes_eq name key.now) values

-- each name has at most so many bytes
abbrev pub AreShort : ℕ → Values → Type 0
AreShort longest values =
    (name : List ℕ) → is_some (known_in values name) ≡ true → length name ≤ longest

-- the value of the symbol at a place, if it is defined and has this name
abbrev pub value_here : List ℕ → List ℕ → List ℕ → ℕ → Option ℕ
value_here symbols strings name at =
    if is_defined symbols strings name at then Some (st_value symbols at) else None
