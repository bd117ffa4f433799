-- A state whose flat state is a given one.
use Rattle.std.specs.Prelude.{ℕ, List, []}
use Rattle.std.specs.Prelude.{map as list_map}
use Rattle.std.specs.List.{enumerate_from}
use Rattle.mx_words.specs.Newest.{Laid}
use Rattle.mx_model.specs.State.{Flat, State}

-- for each value of a list an entry of one word, from word 0 on
abbrev pub word_entry : {A : Type 0} → ℕ × A → Laid A
word_entry p = record { first = p.0; count = 1; value = p.1 }

abbrev pub by_words : {A : Type 0} → List A → List (Laid A)
by_words values = list_map word_entry (enumerate_from 0 values)

-- a grant for each word of each map, a give for each word, and no console bytes and no notes
abbrev pub state_of : Flat → State
state_of f = record {
  core = f.core;
  grants = list_map by_words f.maps;
  gives = by_words f.owners;
  console = [];
  notes = [];
}
