-- The section headers lead to the symbols and their names.
use Rattle.std.proofs.Common.{◌≡◌, ℕ, ◌+◌, ◌-◌, ◌*◌, ◌^◌, ◌<◌, ◌≤◌, true, List, ◌++◌, length, take, drop, refl, ap, ◌∙◌, arith}
use Rattle.std.proofs.Common.{append_assoc, nat_le}
use Rattle.std.specs.Prelude.{Some, replicate}
use Rattle.std.proofs.lemmas.List.{length-append}
use Rattle.std.proofs.lemmas.Bool.Decides.{nat_tests}
use Rattle.mx_words.specs.Bytes.{number_at}
use Rattle.mx_elf.specs.Field.{half_at, word_at}
use Rattle.mx_elf.specs.Symbol.{symbol_table_of, section_place, section_bytes, value_of, symbol_of}
use Rattle.mx_image.specs.Program.{Label}
use Rattle.mx_image.specs.Image.{rounded, padded, symbol_table, strings, null_section, symbol_section, string_section}
use Rattle.mx_image.proofs.Sizes.{padded_length, symbol_table_length}
use Rattle.mx_image.proofs.Fields.{word-behind, four-bytes}
use Rattle.mx_image.proofs.Splits.{piece, cut-4, cut-5, cut-6, cut-7}
use Rattle.mx_image.proofs.Reading.{IsHeader}

-- the fields of the three section headers
null-type : (rest : List ℕ) → word_at (null_section ++ rest) 4 ≡ 0
unfolding word_at number_at
null-type rest = refl

record IsSection (bytes : List ℕ) (place type at size link : ℕ) : Type 0 where
  type_is : word_at bytes (place + 4) ≡ type
  offset_is : word_at bytes (place + 16) ≡ at
  size_is : word_at bytes (place + 20) ≡ size
  link_is : word_at bytes (place + 24) ≡ link

symbol-section-fields : (at count : ℕ) (rest : List ℕ) → at < 2 ^ 32 → 16 * count < 2 ^ 32
    → IsSection (symbol_section at count ++ rest) 0 2 at (16 * count) 2
unfolding word_at number_at
symbol-section-fields at count rest a c = record {
  type_is = refl;
  offset_is = four-bytes at a;
  size_is = four-bytes (16 * count) c;
  link_is = refl;
}

string-section-fields : (at size : ℕ) → at < 2 ^ 32 → size < 2 ^ 32 → IsSection (string_section at size) 0 3 at size 0
unfolding word_at number_at
string-section-fields at size a c = record { type_is = refl; offset_is = four-bytes at a; size_is = four-bytes size c; link_is = refl }

-- after a part
section-behind : (bytes part rest : List ℕ) (place type at size link : ℕ) → bytes ≡ part ++ rest → place ≡ length part
    → IsSection rest 0 type at size link → IsSection bytes place type at size link
section-behind bytes part rest place type at size link is start r = record {
  type_is = word-behind bytes part rest place 4 is start ∙ r.type_is;
  offset_is = word-behind bytes part rest place 16 is start ∙ r.offset_is;
  size_is = word-behind bytes part rest place 20 is start ∙ r.size_is;
  link_is = word-behind bytes part rest place 24 is start ∙ r.link_is;
}

-- a file with these sections
record IsTabled (bytes symbols names : List ℕ) (sections symbols_place names_place : ℕ) : Type 0 where
  place_is : word_at bytes 32 ≡ sections
  size_is : half_at bytes 46 ≡ 40
  count_is : half_at bytes 48 ≡ 3
  headers : 52 ≤ sections
  inside : sections + 120 ≤ length bytes
  null : word_at bytes (sections + 4) ≡ 0
  table : IsSection bytes (sections + 40) 2 symbols_place (length symbols) 2
  string : IsSection bytes (sections + 80) 3 names_place (length names) 0
  symbols_inside : symbols_place + length symbols ≤ length bytes
  symbols_are : take (length symbols) (drop symbols_place bytes) ≡ symbols
  names_inside : names_place + length names ≤ length bytes
  names_are : take (length names) (drop names_place bytes) ≡ names

sections-there : (bytes symbols names : List ℕ) (sections symbols_place names_place : ℕ)
    → IsTabled bytes symbols names sections symbols_place names_place
    → symbol_table_of bytes ≡ Some (sections + 40)
unfolding symbol_table_of
sections-there bytes symbols names sections symbols_place names_place t =
    let place = t.place_is in
    let size = t.size_is in
    let count = t.count_is in
    let null = t.null in
    let type = t.table.type_is in
    let head : nat_le 52 (length bytes) ≡ true = grind (arith, nat_tests, t.inside, t.headers) in
    let whole : nat_le (sections + 120) (length bytes) ≡ true = grind (arith, nat_tests, t.inside) in
    rw (place, size, count, head, whole, null, type) refl

section-there : (bytes x : List ℕ) (place type at link : ℕ) → IsSection bytes place type at (length x) link → at + length x ≤ length bytes
    → take (length x) (drop at bytes) ≡ x → section_bytes bytes place ≡ Some x
unfolding section_bytes
section-there bytes x place type at link s inside is =
    let offset = s.offset_is in
    let size = s.size_is in
    let whole : nat_le (at + length x) (length bytes) ≡ true = grind (arith, nat_tests) in
    rw (offset, size, whole, is) refl

names-place : (bytes : List ℕ) (sections : ℕ) → word_at bytes 32 ≡ sections → half_at bytes 48 ≡ 3
    → section_place bytes 2 ≡ Some (sections + 80)
unfolding section_place
names-place bytes sections place count = rw (place, count) refl

-- a symbol is looked for in these symbols and names
symbol-there : (bytes symbols names wanted : List ℕ) (sections symbols_place names_place : ℕ)
    → IsTabled bytes symbols names sections symbols_place names_place
    → symbol_of bytes wanted ≡ value_of symbols names wanted
unfolding symbol_of
symbol-there bytes symbols names wanted sections symbols_place names_place t =
    let link = t.table.link_is in
    rw (
      sections-there bytes symbols names sections symbols_place names_place t,
      section-there bytes symbols (sections + 40) 2 symbols_place 2 t.table t.symbols_inside t.symbols_are,
      link,
      names-place bytes sections t.place_is t.count_is,
      section-there bytes names (sections + 80) 3 names_place 0 t.string t.names_inside t.names_are,
    ) refl

-- the parts of an image lead there
pub symbol-in-image : (bytes a b c wanted : List ℕ) (labels : List Label) (entry count at : ℕ)
    → bytes ≡ a ++ b ++ c ++ symbol_table labels ++ padded (strings labels) ++ null_section
    ++ symbol_section at (length labels + 1) ++ string_section (at + 16 * (length labels + 1)) (length (strings labels))
    → at ≡ length (a ++ b ++ c) → 52 ≤ at → at + 16 * (length labels + 1) + rounded (length (strings labels)) < 2 ^ 32
    → IsHeader bytes entry (at + 16 * (length labels + 1) + rounded (length (strings labels))) count
    → symbol_of bytes wanted ≡ value_of (symbol_table labels) (strings labels) wanted
symbol-in-image bytes a b c wanted labels entry count at is start low high h =
    let d = symbol_table labels in
    let e = padded (strings labels) in
    let f = null_section in
    let names_at = at + 16 * (length labels + 1) in
    let g = symbol_section at (length labels + 1) in
    let i = string_section names_at (length (strings labels)) in
    let sections = names_at + rounded (length (strings labels)) in
    let table : length d ≡ 16 * (length labels + 1) = symbol_table_length labels in
    let places : length e ≡ rounded (length (strings labels)) = padded_length (strings labels) in
    let names_start : names_at ≡ length (a ++ b ++ c ++ d) = omega (arith, start, table, length-append (a ++ b ++ c) d) in
    let sections_start : sections ≡ length (a ++ b ++ c ++ d ++ e) =
    omega (arith, names_start, places, length-append (a ++ b ++ c ++ d) e) in
    let table_start : sections + 40 ≡ length (a ++ b ++ c ++ d ++ e ++ f) =
    omega (arith, sections_start, length-append (a ++ b ++ c ++ d ++ e) f) in
    let string_start : sections + 80 ≡ length (a ++ b ++ c ++ d ++ e ++ f ++ g) =
    omega (arith, table_start, length-append (a ++ b ++ c ++ d ++ e ++ f) g) in
    let whole : length bytes ≡ sections + 120 = omega (arith, ap length is, string_start, length-append (a ++ b ++ c ++ d ++ e ++ f ++ g) i)
    in
    let zeros : List ℕ = replicate (rounded (length (strings labels)) - length (strings labels)) 0 in
    let cut-names : bytes ≡ (a ++ b ++ c ++ d) ++ (strings labels ++ (zeros ++ (f ++ (g ++ i)))) =
    is ∙ cut-5 a b c d e f g i ∙ ap (λ (xs : List ℕ). (a ++ b ++ c ++ d) ++ xs) (append_assoc (strings labels) zeros (f ++ (g ++ i))) in
    symbol-there bytes d (strings labels) wanted sections at names_at record {
      place_is = h.sections_is;
      size_is = h.section_size;
      count_is = h.section_count;
      headers = omega (arith, low);
      inside = omega (arith, whole);
      null = word-behind bytes (a ++ b ++ c ++ d ++ e) (f ++ (g ++ i)) sections 4 (is ∙ cut-6 a b c d e f g i) sections_start
          ∙ null-type (g ++ i);
      table = rw table (section-behind bytes (a ++ b ++ c ++ d ++ e ++ f) (g ++ i) (sections + 40) 2 at (16 * (length labels + 1)) 2 (is
          ∙ cut-7 a b c d e f g i) table_start
          (symbol-section-fields at (length labels + 1) i (omega (arith, high)) (omega (arith, high))));
      string = section-behind bytes (a ++ b ++ c ++ d ++ e ++ f ++ g) i (sections + 80) 3 names_at (length (strings labels)) 0 is
          string_start
          (string-section-fields names_at (length (strings labels)) (omega (arith, high)) (omega (arith, high)));
      symbols_inside = omega (arith, table, whole);
      symbols_are = piece bytes (a ++ b ++ c) d (e ++ (f ++ (g ++ i))) at (length d) (is ∙ cut-4 a b c d e f g i) start refl;
      names_inside = omega (arith, whole);
      names_are = piece bytes (a ++ b ++ c ++ d) (strings labels) (zeros ++ (f ++ (g ++ i))) names_at (length (strings labels)) cut-names
          names_start refl;
    }
