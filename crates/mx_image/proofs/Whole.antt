-- The whole image, from its parts one after the other.
use Rattle.std.proofs.Common.{◌≡◌, ℕ, ◌+◌, List, [], ◌++◌, length, refl}
use Rattle.mx_image.specs.declared.segment.Segment.{Segment}
use Rattle.mx_image.specs.Program.{Label}
use Rattle.mx_image.specs.Image.{file_header, program_headers, contents, symbol_table, padded, strings, section_headers, contents_at}
use Rattle.mx_image.specs.Image.{symbols_at, strings_at, sections_at, image_with}

-- a layout, and what was written after each part
pub record IsWritten (entry : ℕ) (segments : List Segment) (labels : List Label)
    (count start symbols symbols_place size strings_place sections : ℕ)
    (a b c d e f : List ℕ) : Type 0 where
  pub count_is : count ≡ length segments
  pub start_is : start ≡ contents_at (length segments)
  pub symbols_is : symbols ≡ length labels + 1
  pub symbols_place_is : symbols_place ≡ symbols_at segments
  pub size_is : size ≡ length (strings labels)
  pub strings_place_is : strings_place ≡ strings_at segments labels
  pub sections_is : sections ≡ sections_at segments labels
  pub none : a ≡ []
  pub header : b ≡ a ++ file_header entry sections count
  pub headers : c ≡ b ++ program_headers start segments
  pub bytes : d ≡ c ++ contents segments
  pub table : e ≡ d ++ symbol_table labels
  pub names : f ≡ e ++ padded (strings labels)

pub whole : (entry : ℕ) (segments : List Segment) (labels : List Label) (count start symbols symbols_place size strings_place sections : ℕ)
    (a b c d e f g : List ℕ)
    → IsWritten entry segments labels count start symbols symbols_place size strings_place sections a b c d e f
    → g ≡ f ++ section_headers symbols_place symbols strings_place size
    → g ≡ image_with entry segments labels
unfolding image_with
whole entry segments labels count start symbols symbols_place size strings_place sections a b c d e f g w is =
    rw (
      is,
      w.names,
      w.table,
      w.bytes,
      w.headers,
      w.header,
      w.none,
      w.count_is,
      w.start_is,
      w.symbols_is,
      w.symbols_place_is,
      w.size_is,
      w.strings_place_is,
      w.sections_is,
    ) refl
