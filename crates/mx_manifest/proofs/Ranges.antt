-- What the ranges of the table of keys say of numbers and texts.
use Rattle.std.proofs.Common.{◌≡◌, ℕ, ◌%◌, ◌≤◌, ℤ, pos, negsuc, Bool, true, not, ◌&&◌, ◌||◌, ◌==◌, ◌⊎◌, nat_eq, codes, List, length, Option}
use Rattle.std.proofs.Common.{Some, None, IfSome, option_map, option_and_then, unwrap_or, refl, ap, ◌∙◌, arith}
use Rattle.std.proofs.lemmas.Bool.{and_parts, le-leb, not-true}
use Rattle.std.proofs.lemmas.Bool.Decides.{nat_tests}
use Rattle.std.specs.List.{starts_with}
use Rattle.std.specs.Option.{is_some}
use Rattle.toml.specs.Data.{Data, as_str, as_integer}
use Rattle.mx_manifest.specs.declared.fault.Key.{Key}
use Rattle.mx_manifest.specs.declared.row.Asked.{Asked}
use Rattle.mx_manifest.specs.declared.row.Form.{Form}
use Rattle.mx_manifest.specs.declared.row.Form.TheVariants.{Integer, Aligned, Choice, Text}
use Rattle.mx_manifest.specs.declared.row.TextForm.{TextForm}
use Rattle.mx_manifest.specs.declared.row.TextForm.TheVariants.{FileName}
use Rattle.mx_manifest.specs.Reads.{value_at, has, word, number_of, number_at, text_at}
use Rattle.mx_manifest.specs.Forms.{is_within, is_integer, is_aligned, is_choice, is_text, is_ranged, passes}
use Rattle.mx_manifest.specs.InRange.{IsBetween, IsAligned, IsFileName}
use Rattle.mx_manifest.specs.Rows.{row}
use Rattle.mx_manifest.specs.Faults.{is_asked, row_fault}
use Rattle.mx_manifest.proofs.Clear.{value_fits, key_there, within_parts}

-- a test that passes has a value
pub passed : {T : Type 0} (test : T → Bool) (o : Option T) → passes test o ≡ true → (x : T) × (o ≡ Some x) × (test x ≡ true)
passed test None h = cc
passed test (Some x) h = (x, refl, h)

word_small : (n : ℕ) → n ≤ 4294967295 → word (pos n) ≡ Some n
word_small n h = rw (le-leb n 4294967295 h) refl

word_within : (low high : ℕ) (z : ℤ) → high ≤ 4294967295 → is_integer low high z ≡ true
    → (n : ℕ) × (z ≡ pos n) × (word z ≡ Some n) × IsBetween low high n
word_within low high (pos n) top h =
    let parts = within_parts low high n h in
    (n, refl, word_small n (omega (arith, parts.1)), parts)
word_within low high (negsuc n) top h = cc

pub number_ranged : (low high : ℕ) (value : Data) → high ≤ 4294967295 → is_ranged (Integer low high) value ≡ true
    → (n : ℕ) × (number_of value ≡ Some n) × IsBetween low high n
number_ranged low high value top h =
    let here = passed (is_integer low high) (as_integer value) h in
    let found = word_within low high here.0 top here.2 in
    (found.0, ap (option_and_then word) here.1 ∙ found.2, found.3)

aligned_pos : (z : ℤ) (n : ℕ) → z ≡ pos n → is_aligned z ≡ true → n % 4 ≡ 0
aligned_pos z n is h = let test : (n % 4 == 0) ≡ true = rw is at h in grind (arith, nat_tests)

pub aligned_ranged : (low high : ℕ) (value : Data) → high ≤ 4294967295 → is_ranged (Aligned low high) value ≡ true
    → (n : ℕ) × (number_of value ≡ Some n) × IsBetween low high n × (n % 4 ≡ 0)
aligned_ranged low high value top h =
    let here = passed (λ z. is_integer low high z && is_aligned z) (as_integer value) h in
    let parts = and_parts (is_integer low high here.0) (is_aligned here.0) here.2 in
    let found = word_within low high here.0 top parts.0 in
    (found.0, ap (option_and_then word) here.1 ∙ found.2, found.3, aligned_pos here.0 found.0 found.1 parts.1)

one_of_three : (n a b c : ℕ) → (n == a || n == b || n == c) ≡ true → (n ≡ a) ⊎ (n ≡ b) ⊎ (n ≡ c)
one_of_three n a b c h = grind (arith, nat_tests)

word_chosen : (z : ℤ) → is_choice 8 32 64 z ≡ true → (n : ℕ) × (word z ≡ Some n) × ((n ≡ 8) ⊎ (n ≡ 32) ⊎ (n ≡ 64))
word_chosen (pos n) h =
    let chosen = one_of_three n 8 32 64 h in
    (n, word_small n (omega arith), chosen)
word_chosen (negsuc n) h = cc

pub choice_ranged : (value : Data) → is_ranged (Choice 8 32 64) value ≡ true
    → (n : ℕ) × (number_of value ≡ Some n) × ((n ≡ 8) ⊎ (n ≡ 32) ⊎ (n ≡ 64))
choice_ranged value h =
    let here = passed (is_choice 8 32 64) (as_integer value) h in
    let found = word_chosen here.0 here.2 in
    (found.0, ap (option_and_then word) here.1 ∙ found.1, found.2)

-- a key's value has what each value of its form has
pub record Reads {T : Type 0} (P : T → Type 0) (read : Option T) (there : Bool) : Type 0 where
  pub value : IfSome read P
  pub found : is_some read ≡ there

read_from : {T : Type 0} (P : T → Type 0) (read : Data → Option T) (o : Option Data)
    → ((value : Data) → o ≡ Some value → (x : T) × (read value ≡ Some x) × P x)
    → Reads P (option_and_then read o) (is_some o)
read_from P read None each = record { value = tt; found = refl }
read_from P read (Some d) each = let x = each d refl in record { value = rw x.1 x.2; found = rw x.1 refl }

pub read_key : {T : Type 0} (P : T → Type 0) (read : Data → Option T) (t : Data) (key : Key) (asked : Asked) (form : Form)
    → row_fault t (row key asked form) ≡ None
    → ((value : Data) → is_ranged form value ≡ true → (x : T) × (read value ≡ Some x) × P x)
    → Reads P (option_and_then read (value_at key t)) (has key t)
read_key P read t key asked form h each = read_from P read (value_at key t) (λ value at.
    each value (value_fits t (row key asked form) value h at).1)

pub integer_key : (t : Data) (key : Key) (asked : Asked) (low high : ℕ) → high ≤ 4294967295
    → row_fault t (row key asked (Integer low high)) ≡ None
    → Reads (IsBetween low high) (number_at key t) (has key t)
integer_key t key asked low high top h = read_key (IsBetween low high) number_of t key asked (Integer low high) h (λ value ranged.
    number_ranged low high value top ranged)

pub aligned_key : (t : Data) (key : Key) (asked : Asked) (low high : ℕ) → high ≤ 4294967295
    → row_fault t (row key asked (Aligned low high)) ≡ None
    → Reads (λ n. IsBetween low high n × (n % 4 ≡ 0)) (number_at key t) (has key t)
aligned_key t key asked low high top h =
    read_key (λ n. IsBetween low high n × (n % 4 ≡ 0)) number_of t key asked (Aligned low high) h
    (λ value ranged. let found = aligned_ranged low high value top ranged in (found.0, found.1, (found.2, found.3)))

pub choice_key : (t : Data) (key : Key) (asked : Asked) → row_fault t (row key asked (Choice 8 32 64)) ≡ None
    → Reads (λ n. (n ≡ 8) ⊎ (n ≡ 32) ⊎ (n ≡ 64)) (number_at key t) (has key t)
choice_key t key asked h = read_key (λ n. (n ≡ 8) ⊎ (n ≡ 32) ⊎ (n ≡ 64)) number_of t key asked (Choice 8 32 64) h choice_ranged

pub text_key : (t : Data) (key : Key) (asked : Asked) (form : TextForm) → row_fault t (row key asked (Text form)) ≡ None
    → Reads (λ text. is_text form text ≡ true) (text_at key t) (has key t)
text_key t key asked form h = read_key (λ text. is_text form text ≡ true) as_str t key asked (Text form) h (λ value ranged.
    passed (is_text form) (as_str value) ranged)

-- a value with a default
pub or_default : {T : Type 0} (P : T → Type 0) (o : Option T) (default : T) → IfSome o P → P default → P (unwrap_or o default)
or_default P None default h d = d
or_default P (Some x) default h d = h

-- a value that must be there
pub or_any : {T : Type 0} (P : T → Type 0) (o : Option T) (default : T) → IfSome o P → is_some o ≡ true → P (unwrap_or o default)
or_any P None default h there = cc
or_any P (Some x) default h there = h

pub if_weaker : {T : Type 0} (P Q : T → Type 0) (o : Option T) → ((x : T) → P x → Q x) → IfSome o P → IfSome o Q
if_weaker P Q None f h = tt
if_weaker P Q (Some x) f h = f x h

pub if_mapped : {A B : Type 0} (f : A → B) (P : A → Type 0) (Q : B → Type 0) (o : Option A) → ((x : A) → P x → Q (f x)) → IfSome o P
    → IfSome (option_map f o) Q
if_mapped f P Q None g h = tt
if_mapped f P Q (Some x) g h = g x h

-- a key that is required is there
pub has_asked : (t : Data) (key : Key) (asked : Asked) (form : Form) → row_fault t (row key asked form) ≡ None → is_asked asked t ≡ true
    → has key t ≡ true
has_asked t key asked form h asks = ap is_some (key_there t (row key asked form) h asks).1

-- the name of a file, and an aligned address
pub file_in_range : (text : List ℕ) → is_text FileName text ≡ true → IsFileName text
file_in_range text h =
    let parts = and_parts (is_within 1 255 (length text)) (not (starts_with nat_eq text (codes "-"))) h in
    (within_parts 1 255 (length text) parts.0, not-true _ parts.1)

pub aligned_in_range : (o : Option ℕ) → IfSome o (λ n. IsBetween 0 4294967295 n × (n % 4 ≡ 0)) → IfSome o IsAligned
aligned_in_range o h = if_weaker (λ n. IsBetween 0 4294967295 n × (n % 4 ≡ 0)) IsAligned o (λ n facts. (facts.1, facts.0.1)) h
