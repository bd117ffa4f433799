-- What the tests say of a module's input.
use Rattle.std.proofs.Common.{◌≡◌, ℕ, ◌%◌, ◌<◌, Bool, true, false, ◌||◌, ◌⊎◌, inl, inr, Ordering, Less, Equal, Greater, nat_cmp, codes}
use Rattle.std.proofs.Common.{List, ◌++◌, Option, Some, None, IfSome, option_map, option_and_then, get_or, refl, ap, sym, ◌∙◌, arith}
use Rattle.std.proofs.lemmas.Bool.{and_parts}
use Rattle.std.proofs.lemmas.Slice.Eq.{bytes_eq-Decides}
use Rattle.std.proofs.lemmas.Map.Lookups.{exact_bytes}
use Rattle.std.specs.Cmp.Lexicographic.{slice_cmp}
use Rattle.std.specs.List.{list_all}
use Rattle.std.specs.Option.{is_some}
use Rattle.std.specs.Str.{bytes_eq}
use Rattle.toml.specs.Data.{Data, string, integer, float, boolean, datetime, array, table, Members, no_members, member, get, get_member}
use Rattle.toml.specs.Data.{as_str}
use Rattle.mx_words.specs.declared.perm.Perm.TheVariants as perms
use Rattle.mx_manifest.specs.declared.fault.Key.TheVariants as key
use Rattle.mx_manifest.specs.declared.row.Asked.TheVariants.{Never, WithAny}
use Rattle.mx_manifest.specs.declared.row.Form.TheVariants.{Integer, Aligned}
use Rattle.mx_manifest.specs.declared.row.TextForm.TheVariants.{FileName, InputPermission}
use Rattle.mx_manifest.specs.declared.row.Version.{Version}
use Rattle.mx_manifest.specs.declared.row.Version.TheVariants.{One, Two}
use Rattle.mx_manifest.specs.Reads.{value_at, has, names_in, member_names, number_at, text_at}
use Rattle.mx_manifest.specs.Forms.{is_text}
use Rattle.mx_manifest.specs.InRange.{IsBetween, IsAligned, IsInput}
use Rattle.mx_manifest.specs.Plan.{perm_named, input_of, input_plan}
use Rattle.mx_manifest.specs.Rows.{early_rows, late_rows}
use Rattle.mx_manifest.specs.Faults.{row_fault, rows_fault, is_listed, unlisted_fault}
use Rattle.mx_manifest.proofs.Clear.{clear_at, any_row}
use Rattle.mx_manifest.proofs.Lists.{holds_not}
use Rattle.mx_manifest.proofs.Ranges.{Reads, integer_key, aligned_key, text_key, has_asked, or_any, or_default, if_mapped, file_in_range}
use Rattle.mx_manifest.proofs.Ranges.{aligned_in_range}

-- a key of a table passes each test that all of its names pass
cases_ordering : (o : Ordering) → (o ≡ Less) ⊎ ((o ≡ Equal) ⊎ (o ≡ Greater))
cases_ordering Less = inl refl
cases_ordering Equal = inr (inl refl)
cases_ordering Greater = inr (inr refl)

member_passes : (test : List ℕ → Bool) (name : List ℕ) (ms : Members) (value : Data) → list_all test (member_names ms) ≡ true
    → get_member name ms ≡ Some value → test name ≡ true
member_passes test name no_members value all at = cc
member_passes test name (member l d ms) value all at =
    let parts = and_parts (test l) (list_all test (member_names ms)) all in
    elim (cases_ordering (slice_cmp nat_cmp name l)) [
      | inl less ↦ member_passes test name ms value parts.1 (rw less at at)
      | inr other ↦ elim other [
        | inl tie ↦ (ap test (exact_bytes name l tie) ∙ parts.0)
        | inr more ↦ member_passes test name ms value parts.1 (rw more at at)
      ]
    ]

key_passes : (test : List ℕ → Bool) (name : List ℕ) (t : Data) (value : Data) → list_all test (names_in t) ≡ true → get name t ≡ Some value
    → test name ≡ true
key_passes test name (table ms) value all at = member_passes test name ms value all at
key_passes test name (string s) value all at = cc
key_passes test name (integer z) value all at = cc
key_passes test name (float x) value all at = cc
key_passes test name (boolean b) value all at = cc
key_passes test name (datetime d) value all at = cc
key_passes test name (array ds) value all at = cc

-- version 1 lists no input
no_value : (o : Option Data) → ((value : Data) → o ≡ Some value → ⊥) → o ≡ None
no_value None none = refl
no_value (Some value) none = absurd (none value refl)

input_absent : (m : Data) → unlisted_fault (early_rows One ++ late_rows One) m ≡ None → value_at key.Input m ≡ None
input_absent m listed =
    no_value (value_at key.Input m) (λ value at.
    let all : list_all (is_listed (early_rows One ++ late_rows One)) (names_in m) ≡ true = holds_not _ _ listed in
    let passes : is_listed (early_rows One ++ late_rows One) (codes "input") ≡ true =
    key_passes (is_listed (early_rows One ++ late_rows One)) (codes "input") m value all at in
    cc)

pub no_input : (m : Data) → unlisted_fault (early_rows One ++ late_rows One) m ≡ None → input_plan m ≡ None
no_input m listed =
    let none : text_at key.Input m ≡ None = ap (option_and_then as_str) (input_absent m listed) in
    rw none refl

-- "r" or "rw" is named
perm_by : (text : List ℕ) (reads writes : Bool) → bytes_eq text (codes "r") ≡ reads → bytes_eq text (codes "rw") ≡ writes
    → (reads || (writes || false)) ≡ true
    → (perm_named text ≡ perms.Read) ⊎ (perm_named text ≡ perms.ReadWrite)
perm_by text true writes is other h = let same : text ≡ codes "r" = (bytes_eq-Decides text (codes "r")).0 is in inl (ap perm_named same)
perm_by text false true is other h = inr (rw other refl)
perm_by text false false is other h = cc

perm_of_input : (text : List ℕ) → is_text InputPermission text ≡ true → (perm_named text ≡ perms.Read) ⊎ (perm_named text ≡ perms.ReadWrite)
perm_of_input text h = perm_by text (bytes_eq text (codes "r")) (bytes_eq text (codes "rw")) refl refl h

-- the keys of an input that is there
module _ (m : Data) (late : rows_fault (late_rows Two) m ≡ None) where
  rows : (i : ℕ) → i < 7 → row_fault m (get_or (late_rows Two) i any_row) ≡ None
  rows i below = clear_at (row_fault m) (late_rows Two) i any_row late below

  file_key : Reads (λ text. is_text FileName text ≡ true) (text_at key.Input m) (has key.Input m)
  file_key = text_key m key.Input (WithAny key.InputAt key.InputWords key.InputPerm) FileName (rows 3 (omega arith))

  at_key : Reads (λ n. IsBetween 0 4294967295 n × (n % 4 ≡ 0)) (number_at key.InputAt m) (has key.InputAt m)
  at_key = aligned_key m key.InputAt (WithAny key.Input key.InputWords key.InputPerm) 0 4294967295 (omega arith) (rows 4 (omega arith))

  words_key : Reads (IsBetween 1 16777216) (number_at key.InputWords m) (has key.InputWords m)
  words_key = integer_key m key.InputWords (WithAny key.Input key.InputAt key.InputPerm) 1 16777216 (omega arith) (rows 5 (omega arith))

  perm_key : Reads (λ text. is_text InputPermission text ≡ true) (text_at key.InputPerm m) (has key.InputPerm m)
  perm_key = text_key m key.InputPerm Never InputPermission (rows 6 (omega arith))

  in_range_by : (o : Option (List ℕ)) → IfSome o (λ text. is_text FileName text ≡ true) → is_some o ≡ has key.Input m
      → IfSome (option_map (input_of m) o) IsInput
  in_range_by None fits found = tt
  in_range_by (Some file) fits found =
      let there : has key.Input m ≡ true = sym found in
      let at_there : has key.InputAt m ≡ true = has_asked m key.InputAt (WithAny key.Input key.InputWords key.InputPerm)
      (Aligned 0 4294967295) (rows 4 (omega arith)) (rw there refl) in
      let words_there : has key.InputWords m ≡ true = has_asked m key.InputWords (WithAny key.Input key.InputAt key.InputPerm)
      (Integer 1 16777216) (rows 5 (omega arith)) (rw there refl) in
      record {
        file = file_in_range file fits;
        address = or_any IsAligned (number_at key.InputAt m) 0 (aligned_in_range (number_at key.InputAt m) at_key.value) (at_key.found
            ∙ at_there);
        words = or_any (IsBetween 1 16777216) (number_at key.InputWords m) 0 words_key.value (words_key.found ∙ words_there);
        perm = or_default (λ p. (p ≡ perms.Read) ⊎ (p ≡ perms.ReadWrite)) (option_map perm_named (text_at key.InputPerm m)) perms.Read
            (if_mapped perm_named (λ text. is_text InputPermission text ≡ true) (λ p. (p ≡ perms.Read) ⊎ (p ≡ perms.ReadWrite))
            (text_at key.InputPerm m) perm_of_input perm_key.value) (inl refl);
      }

pub input_in_range : (version : Version) (m : Data) → unlisted_fault (early_rows version ++ late_rows version) m ≡ None
    → rows_fault (late_rows version) m ≡ None → IfSome (input_plan m) IsInput
input_in_range One m listed late = rw (no_input m listed) tt
input_in_range Two m listed late = in_range_by m late (text_at key.Input m) (file_key m late).value (file_key m late).found
