-- Areas that lie apart in RAM, and bytes that lie there.
-- The rules: docs/MACHINE.md, "Memory, domains, harts".
use Rattle.std.specs.Prelude.{◌≡◌, ◌⊎◌, ℕ, ◌+◌, ◌-◌, ◌<◌, ◌≤◌, true, false, nat_lt, nat_le, if◌then◌else◌, List, ◌++◌, length, fold, Option}
use Rattle.std.specs.Prelude.{Some, None}
use Rattle.std.specs.List.{AllByRecursion, flat_map}
use Rattle.mx_words.specs.Ranges.{ram_base}
use Rattle.mx_boot.specs.declared.area.Area.{Area}
use Rattle.mx_boot.specs.Areas.{Home, Content, pieces, heaps, stacks, input_areas, word_bytes}
use Rattle.mx_boot.specs.Boot.{owned_pieces}
use Rattle.mx_boot.specs.Entries.{word_at}
use Rattle.mx_boot.specs.Faults.{is_in_ram, shares_word}

-- the areas on which a module has rights, and those that it owns
abbrev pub granted_areas : ℕ → Home → List Area
granted_areas harts h = pieces h ++ stacks harts h ++ input_areas h

abbrev pub owned_areas : ℕ → Home → List Area
owned_areas harts h = owned_pieces h ++ heaps h ++ stacks harts h ++ input_areas h

-- an area of some words, in a RAM of so many words
pub record IsPlaced (words : ℕ) (a : Area) : Type 0 where
  pub inside : is_in_ram words a ≡ true
  pub some : 0 < a.count

-- an area shares no word with others of these
abbrev pub IsApart : List Area → Area → Type 0
IsApart areas a = AllByRecursion (λ b. (shares_word b a ≡ false) ⊎ (b ≡ a)) areas

-- areas in RAM that share no word
pub record ArePlaced (words : ℕ) (areas : List Area) : Type 0 where
  pub each : AllByRecursion (IsPlaced words) areas
  pub apart : AllByRecursion (IsApart areas) areas

-- of the area found so far and another one, that which begins first at a word or after it
abbrev pub nearer : ℕ → Option Area → Area → Option Area
nearer word None a = if nat_lt (word_at a.address) word then None else Some a
nearer word (Some found) a =
    if nat_lt (word_at a.address) word then Some found
    else if nat_le (word_at found.address) (word_at a.address) then Some found
    else Some a

-- of the areas that begin at a word or after it, the one that begins first
abbrev pub next_area : ℕ → List Area → Option Area
next_area word areas = fold (nearer word) None areas

-- bytes that lie in a RAM of so many bytes
pub record HasRoom (size : ℕ) (c : Content) : Type 0 where
  pub from : ram_base ≤ c.address
  pub to : c.address - ram_base + length c.bytes ≤ size

-- the bytes of words, from an address on
abbrev pub words_content : ℕ → List ℕ → Content
words_content address words = record { address = address; bytes = flat_map word_bytes words }
