-- The image is read without fault.
use Rattle.std.proofs.Common.{◌≡◌, ℕ, ◌+◌, ◌*◌, ◌^◌, ◌<◌, ◌≤◌, Bool, true, false, List, ◌++◌, length, refl, ◌∙◌, arith, ◌==◌, nat_lt}
use Rattle.std.specs.Prelude.{Ok, None, not, nat_eq, ◌&&◌}
use Rattle.std.specs.List.{AllByRecursion, starts_with}
use Rattle.std.proofs.lemmas.Bool.Decides.{nat_tests}
use Rattle.mx_words.specs.Bytes.{number_at}
use Rattle.mx_elf.specs.Field.{byte_at, half_at, word_at}
use Rattle.mx_elf.specs.Image.{magic, header_rows, rows_from, rows_of, segments_of, first_fault}
use Rattle.mx_elf.specs.Image.{image_of as image_read}
use Rattle.mx_words.proofs.FirstRowLaws.{first_row-append}
use Rattle.mx_image.specs.declared.segment.Segment.{Segment}
use Rattle.mx_image.specs.Image.{file_header, program_headers, contents, contents_at}
use Rattle.mx_image.specs.Lawful.{placed}
use Rattle.mx_image.proofs.Fields.{four-bytes, two-bytes}
use Rattle.mx_image.proofs.Loads.{IsLoadable, segments-read, segments-sound}

-- the fields of a file header
pub record IsHeader (bytes : List ℕ) (entry sections count : ℕ) : Type 0 where
  pub begins : starts_with nat_eq bytes magic ≡ true
  pub class : byte_at bytes 4 ≡ 1
  pub encoding : byte_at bytes 5 ≡ 1
  pub type : half_at bytes 16 ≡ 2
  pub machine : half_at bytes 18 ≡ 243
  pub entry_is : word_at bytes 24 ≡ entry
  pub headers : word_at bytes 28 ≡ 52
  pub sections_is : word_at bytes 32 ≡ sections
  pub header_size : half_at bytes 42 ≡ 32
  pub count_is : half_at bytes 44 ≡ count
  pub section_size : half_at bytes 46 ≡ 40
  pub section_count : half_at bytes 48 ≡ 3

header-fields : (entry sections count : ℕ) (rest : List ℕ) → entry < 2 ^ 32 → sections < 2 ^ 32 → count < 2 ^ 16
    → IsHeader (file_header entry sections count ++ rest) entry sections count
unfolding word_at half_at number_at
header-fields entry sections count rest e s c = record {
  begins = refl;
  class = refl;
  encoding = refl;
  type = refl;
  machine = refl;
  entry_is = four-bytes entry e;
  headers = refl;
  sections_is = four-bytes sections s;
  header_size = refl;
  count_is = two-bytes count c;
  section_size = refl;
  section_count = refl;
}

pub header-read : (bytes : List ℕ) (entry sections count : ℕ) (rest : List ℕ) → bytes ≡ file_header entry sections count ++ rest
    → entry < 2 ^ 32 → sections < 2 ^ 32 → count < 2 ^ 16 → IsHeader bytes entry sections count
header-read bytes entry sections count rest is e s c = rw is (header-fields entry sections count rest e s c)

-- it has none of the faults 1 to 6
header-sound : (bytes : List ℕ) (entry sections count : ℕ) → IsHeader bytes entry sections count → 52 + 32 * count ≤ length bytes
    → first_fault (header_rows bytes) ≡ None
header-sound bytes entry sections count h long =
    let begins = h.begins in
    let class = h.class in
    let encoding = h.encoding in
    let type = h.type in
    let machine = h.machine in
    let headers = h.headers in
    let size = h.header_size in
    let number = h.count_is in
    let one : nat_lt (length bytes) 52 ≡ false = grind (arith, nat_tests) in
    let six : nat_lt (length bytes) (52 + 32 * count) ≡ false = grind (arith, nat_tests) in
    let apart : (b : Bool) → (b && false) ≡ false = λ b. elim b as (λ v. (v && false) ≡ false) [ true ↦ refl | false ↦ refl ] in
    rw (one, begins, class, encoding, type, machine, size, headers, number, six, apart (not (count == 0))) refl

-- what is read
pub read : (bytes : List ℕ) (entry sections : ℕ) (segments : List Segment) (rest : List ℕ)
    → bytes ≡ file_header entry sections (length segments) ++ (program_headers (contents_at (length segments)) segments ++ rest)
    → entry < 2 ^ 32 → sections < 2 ^ 32 → length segments ≤ 16
    → contents_at (length segments) + length (contents segments) ≤ length bytes → length (contents segments) < 2 ^ 31
    → AllByRecursion IsLoadable segments
    → image_read bytes ≡ Ok (record { entry = entry; segments = placed (contents_at (length segments)) segments })
unfolding image_read
read bytes entry sections segments rest is e s few long small all =
    let at = contents_at (length segments) in
    let fields : IsHeader bytes entry sections (length segments) =
    header-read bytes entry sections (length segments) (program_headers at segments ++ rest) is e s (omega (arith, few)) in
    let entry_is = fields.entry_is in
    let headers = fields.headers in
    let number = fields.count_is in
    let loaded : segments_of bytes ≡ placed at segments =
    rw (headers, number) (segments-read bytes (file_header entry sections (length segments)) rest 52 at segments is refl
    (omega (arith, few, small)) all) in
    let sound : first_fault (rows_of bytes) ≡ None =
    first_row-append (header_rows bytes) (rows_from (length bytes) 0 (segments_of bytes))
    ∙ rw (header-sound bytes entry sections (length segments) fields (omega (arith, long)), loaded)
    (segments-sound (length bytes) 0 at segments (omega (arith, few)) long all) in
    rw (sound, entry_is, loaded) refl
