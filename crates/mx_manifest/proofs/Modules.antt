-- What the tests say of the plans of modules, gates and harts.
use Rattle.std.proofs.Common.{◌≡◌, ◌≢◌, ℕ, ◌<◌, ◌≤◌, Bool, true, false, not, ◌&&◌, ◌||◌, ◌⊎◌, inl, inr, codes, if◌then◌else◌, List, []}
use Rattle.std.proofs.Common.{◌++◌, length, map, Option, Some, None, IfSome, option_map, unwrap_or, refl, ap, sym, ◌∙◌, subst, arith}
use Rattle.std.proofs.lemmas.Bool.{and_parts}
use Rattle.std.proofs.lemmas.List.{length-map}
use Rattle.std.specs.List.{list_all}
use Rattle.std.specs.Str.{bytes_eq}
use Rattle.mx_words.specs.declared.perm.Perm.TheVariants as perms
use Rattle.std.specs.Option.{option_map_or}
use Rattle.std.proofs.lemmas.Bool.Decides.{same_from_decides}
use Rattle.toml.specs.Data.{Data}
use Rattle.mx_manifest.specs.declared.fault.Key.{Key}
use Rattle.mx_manifest.specs.declared.fault.Key.TheVariants as key
use Rattle.mx_manifest.specs.declared.parts.EntryPlan.TheVariants.{Address}
use Rattle.mx_manifest.specs.declared.row.Row.{Row}
use Rattle.mx_manifest.specs.declared.row.Name.TheVariants.{From}
use Rattle.mx_manifest.specs.declared.row.Asked.{Asked}
use Rattle.mx_manifest.specs.declared.row.Asked.TheVariants.{Always, Never, With, Without, WithoutAny}
use Rattle.mx_manifest.specs.declared.row.Form.{Form}
use Rattle.mx_manifest.specs.declared.row.Form.TheVariants.{Integer, Aligned, Text, Entry, Array}
use Rattle.mx_manifest.specs.declared.row.TextForm.TheVariants.{ModuleName, FileName, Permission, ImagePermission}
use Rattle.mx_manifest.specs.declared.row.ItemForm.{ItemForm}
use Rattle.mx_manifest.specs.declared.row.ItemForm.TheVariants as each
use Rattle.mx_manifest.specs.declared.row.Version.{Version}
use Rattle.mx_manifest.specs.declared.row.Version.TheVariants.{One, Two}
use Rattle.mx_manifest.specs.Reads.{value_at, has, elements, elements_at, number_at, text_at, text_of}
use Rattle.mx_manifest.specs.Forms.{is_within, is_name_byte, is_text, is_entry, is_item}
use Rattle.mx_manifest.specs.InRange.{IsBetween, IsName, IsFileName, IsEntry, IsGate, IsModule, IsHart}
use Rattle.mx_manifest.specs.Plan.{perm_named, entry_plan, gate_plan, word_list, module_plan, hart_plan}
use Rattle.mx_manifest.specs.Rows.{most, row, early_rows, late_rows, gate_rows, hart_rows}
use Rattle.mx_manifest.specs.Faults.{row_fault, rows_fault, unlisted_fault, table_fault, gate_fault, gates_fault, image_fault, module_fault}
use Rattle.mx_manifest.specs.Faults.{domain_of, from_texts, is_other, is_from_others, from_fault, hart_fault}
use Rattle.mx_words.proofs.OptionLaws.{neither, unmapped, is_some-map}
use Rattle.mx_manifest.proofs.Clear.{clear_at, value_fits, key_there, within_parts, table_clear, most_at_most, any_row}
use Rattle.mx_manifest.proofs.Inputs.{input_in_range}
use Rattle.mx_manifest.proofs.Lists.{each_mapped, numbered_mapped, first_clear, all_at, holds_not, fails, entry_in_range, other_in_range}
use Rattle.mx_manifest.proofs.Lists.{home_in_range}
use Rattle.mx_manifest.proofs.Ranges.{integer_key, aligned_key, text_key, has_asked, or_any, if_weaker, if_mapped, file_in_range}
use Rattle.mx_manifest.proofs.Ranges.{aligned_in_range}

-- an array that may be there
array_most_of : (low high : ℕ) (o : Option Data) → ((v : Data) → o ≡ Some v → length (elements v) ≤ high)
    → length (option_map_or elements o []) ≤ high
array_most_of low high None each = omega arith
array_most_of low high (Some v) each = each v refl

pub array_most : (t : Data) (key : Key) (asked : Asked) (low high : ℕ) (item : ItemForm)
    → row_fault t (row key asked (Array low high item)) ≡ None → length (elements_at key t) ≤ high
array_most t key asked low high item h =
    array_most_of low high (value_at key t)
    (λ v at. (within_parts low high (length (elements v)) (and_parts _ _
    (value_fits t (row key asked (Array low high item)) v h at).1).0).1)

array_items_of : (item : ItemForm) (o : Option Data) → ((v : Data) → o ≡ Some v → list_all (is_item item) (elements v) ≡ true)
    → list_all (is_item item) (option_map_or elements o []) ≡ true
array_items_of item None each = refl
array_items_of item (Some v) each = each v refl

pub array_items : (t : Data) (key : Key) (asked : Asked) (low high : ℕ) (item : ItemForm)
    → row_fault t (row key asked (Array low high item)) ≡ None → list_all (is_item item) (elements_at key t) ≡ true
array_items t key asked low high item h =
    array_items_of item (value_at key t) (λ v at. (and_parts _ _ (value_fits t (row key asked (Array low high item)) v h at).1).1)

-- an entry that may be there
entry_of : (o : Option Data) → ((v : Data) → o ≡ Some v → is_entry v ≡ true) → IfSome (option_map entry_plan o) IsEntry
entry_of None each = tt
entry_of (Some v) each = entry_in_range v (each v refl)

-- a gate
from_row : Version → Row
from_row version = record { name = From; asked = Always; form = Array 1 (most version 15 63) each.Text }

pub gate_in_range : (version : Version) (names : List (List ℕ)) (own : ℕ) (gate : Data) → table_fault (gate_rows version) gate ≡ None
    → is_from_others names own gate ≡ true
    → IsGate (length names) own (gate_plan names gate)
unfolding from_row
gate_in_range version names own gate h others =
    let rows = table_clear (gate_rows version) gate h in
    let entry_clear : row_fault gate (row key.Entry Always Entry) ≡ None =
    clear_at (row_fault gate) (gate_rows version) 0 any_row rows (omega arith) in
    let entry = key_there gate (row key.Entry Always Entry) entry_clear refl in
    let entry_fits = value_fits gate (row key.Entry Always Entry) entry.0 entry_clear entry.1 in
    let from_clear : row_fault gate (from_row version) ≡ None =
    clear_at (row_fault gate) (gate_rows version) 1 any_row rows (omega arith) in
    let from = key_there gate (from_row version) from_clear refl in
    let from_fits = value_fits gate (from_row version) from.0 from_clear from.1 in
    let within = within_parts 1 (most version 15 63) (length (elements from.0)) (and_parts _ _ from_fits.1).0 in
    let texts : from_texts gate ≡ map text_of (elements from.0) = ap (λ o. map text_of (option_map_or elements o [])) from.1 in
    let count : length (map (domain_of names) (from_texts gate)) ≡ length (elements from.0) =
    length-map (from_texts gate) (domain_of names) ∙ ap length texts ∙ length-map (elements from.0) text_of in
    record {
      entry = subst (λ o. IsEntry (option_map_or entry_plan o (Address 0))) (sym entry.1) (entry_in_range entry.0 entry_fits.1);
      from_count = (omega (arith, count, within.0), omega (arith, count, within.1, most_at_most version 15 63 (omega arith)));
      from = each_mapped (is_other names own) (domain_of names) (λ d. IsBetween 1 (length names) d × (d ≢ own)) (from_texts gate) others
          (other_in_range names own);
    }

-- the tests of a module by themselves
pub record ClearModule (version : Version) (m : Data) : Type 0 where
  pub listed : unlisted_fault (early_rows version ++ late_rows version) m ≡ None
  pub early : rows_fault (early_rows version) m ≡ None
  pub gates : gates_fault version m ≡ None
  pub late : rows_fault (late_rows version) m ≡ None
  pub image : image_fault m ≡ None

pub module_clear : (version : Version) (m : Data) → module_fault version m ≡ None → ClearModule version m
unfolding module_fault
module_clear version m h =
    let a = neither _ _ h in
    let b = neither _ _ a.1 in
    let c = neither _ _ b.1 in
    let d = neither _ _ c.1 in
    let e = neither _ _ d.1 in
    record { listed = a.0; early = b.0; gates = c.0; late = d.0; image = e.0 }

returns_clear : (version : Version) (m : Data) → rows_fault (late_rows version) m ≡ None
    → row_fault m (row key.Returns Never (Array 0 256 each.Entry)) ≡ None
returns_clear One m h = (neither _ _ h).0
returns_clear Two m h = (neither _ _ h).0

-- exactly one of two
one_of : (image this : Bool) → (not image ≡ true → this ≡ true) → (image && this) ≡ false → this ≡ not image
one_of true this asks apart = apart
one_of false this asks apart = asks refl

none_beside : (image at perm words : Bool) → (image && (at || perm || words)) ≡ false
    → ((image && at) ≡ false) × ((image && perm) ≡ false) × ((image && words) ≡ false)
none_beside false at perm words h = (refl, refl, refl)
none_beside true false false false h = (refl, refl, refl)
none_beside true true perm words h = cc
none_beside true false true words h = cc
none_beside true false false true h = cc

-- both or neither
both_ways : (a b : Bool) → (b ≡ true → a ≡ true) → (a ≡ true → b ≡ true) → a ≡ b
both_ways a b f g = same_from_decides {P = b ≡ true} a b (g, f) (λ e. e, λ e. e)

words_of : (o : Option Data) → ((v : Data) → o ≡ Some v → is_within 1 65536 (length (elements v)) ≡ true)
    → IfSome (option_map word_list o) (λ words. IsBetween 1 65536 (length words))
words_of None each = tt
words_of (Some v) each = rw (length-map (elements v) _) (within_parts 1 65536 (length (elements v)) (each v refl))

inline_key : (m : Data) (this : Key) (form : Form) → row_fault m (row this (Without key.Image) form) ≡ None
    → (has key.Image m && has this m) ≡ false → has this m ≡ not (has key.Image m)
inline_key m this form h apart = one_of (has key.Image m) (has this m) (has_asked m this (Without key.Image) form h) apart

name_in_range : (text : List ℕ) → is_text ModuleName text ≡ true → IsName text
name_in_range text h =
    let parts = and_parts (is_within 1 32 (length text)) (list_all is_name_byte text) h in
    (within_parts 1 32 (length text) parts.0, parts.1)

-- a permission by its name
perm_there : (a b : Bool) → (if a then perms.ReadWrite else if b then perms.ExecuteRead else perms.Read) ≢ perms.None
perm_there true b h = cc
perm_there false true h = cc
perm_there false false h = cc

image_perm : (a b : Bool) → (a || (b || false)) ≡ true
    → ((if a then perms.ReadWrite else if b then perms.ExecuteRead else perms.Read) ≡ perms.ReadWrite)
    ⊎ ((if a then perms.ReadWrite else if b then perms.ExecuteRead else perms.Read) ≡ perms.ExecuteRead)
image_perm true b h = inl refl
image_perm false true h = inr refl
image_perm false false h = cc

with_image : (wx image : Bool) → (wx && not image) ≡ false → wx ≡ true → image ≡ true
with_image true true h w = refl
with_image true false h w = cc
with_image false image h w = cc

pub module_in_range : (version : Version) (names : List (List ℕ)) (own : ℕ) (m : Data) → module_fault version m ≡ None
    → from_fault names own m ≡ None
    → IsModule (length names) own (module_plan names m)
module_in_range version names own m h from =
    let clear = module_clear version m h in
    let rows = λ (i : ℕ) (below : i < length (early_rows version)).
    clear_at (row_fault m) (early_rows version) i any_row clear.early below in
    let name = text_key m key.Name Always ModuleName (rows 0 (omega arith)) in
    let image = text_key m key.Image (WithoutAny key.At key.Perm key.Words) FileName (rows 1 (omega arith)) in
    let at = aligned_key m key.At (Without key.Image) 0 4294967295 (omega arith) (rows 2 (omega arith)) in
    let perm = text_key m key.Perm (Without key.Image) Permission (rows 3 (omega arith)) in
    let words_clear : row_fault m (row key.Words (Without key.Image) (Array 1 65536 each.Word)) ≡ None = rows 4 (omega arith) in
    let wx = text_key m key.Wx Never ImagePermission (rows 5 (omega arith)) in
    let heap = aligned_key m key.Heap (With key.HeapWords) 0 4294967295 (omega arith) (rows 6 (omega arith)) in
    let heap_most = most_at_most version 4194304 16777216 (omega arith) in
    let heap_words = integer_key m key.HeapWords (With key.Heap) 1 (most version 4194304 16777216) (omega arith) (rows 7 (omega arith)) in
    let stack = aligned_key m key.Stack (With key.StackWords) 0 4294967295 (omega arith) (rows 8 (omega arith)) in
    let stack_words = integer_key m key.StackWords (With key.Stack) 1 1048576 (omega arith) (rows 9 (omega arith)) in
    let gates_row : row_fault m (row key.Gates Never (Array 0 256 each.Table)) ≡ None = rows 10 (omega arith) in
    let returns_row = returns_clear version m clear.late in
    let beside = none_beside (has key.Image m) (has key.At m) (has key.Perm m) (has key.Words m) (fails _ _ (neither _ _ clear.image).0) in
    let all_others = holds_not (list_all (is_from_others names own) (elements_at key.Gates m)) _ from in
    record {
      name = or_any IsName (text_at key.Name m) []
          (if_weaker (λ text. is_text ModuleName text ≡ true) IsName (text_at key.Name m) name_in_range name.value)
          (name.found ∙ has_asked m key.Name Always (Text ModuleName) (rows 0 (omega arith)) refl);
      image = if_weaker (λ text. is_text FileName text ≡ true) IsFileName (text_at key.Image m) file_in_range image.value;
      perm = if_mapped perm_named (λ text. is_text Permission text ≡ true) (λ p. p ≢ perms.None) (text_at key.Perm m) (λ text t.
          perm_there (bytes_eq text (codes "rw")) (bytes_eq text (codes "rx"))) perm.value;
      wx = if_mapped perm_named (λ text. is_text ImagePermission text ≡ true) (λ p. (p ≡ perms.ReadWrite) ⊎ (p ≡ perms.ExecuteRead))
          (text_at key.Wx m)
          (λ text t. image_perm (bytes_eq text (codes "rw")) (bytes_eq text (codes "rx")) t) wx.value;
      wx_of_image = λ there. image.found
          ∙ with_image (has key.Wx m) (has key.Image m) (fails _ _ (neither _ _ (neither _ _ clear.image).1).0) (sym wx.found
          ∙ sym (is_some-map perm_named (text_at key.Wx m)) ∙ there);
      at_or_image = at.found ∙ inline_key m key.At (Aligned 0 4294967295) (rows 2 (omega arith)) beside.0 ∙ ap not (sym image.found);
      perm_or_image = is_some-map perm_named (text_at key.Perm m) ∙ perm.found
          ∙ inline_key m key.Perm (Text Permission) (rows 3 (omega arith)) beside.1 ∙ ap not (sym image.found);
      words_or_image = is_some-map word_list (value_at key.Words m) ∙ inline_key m key.Words (Array 1 65536 each.Word) words_clear beside.2
          ∙ ap not (sym image.found);
      at = aligned_in_range (number_at key.At m) at.value;
      words = words_of (value_at key.Words m) (λ v here. (and_parts _ _
          (value_fits m (row key.Words (Without key.Image) (Array 1 65536 each.Word)) v words_clear here).1).0);
      heap = aligned_in_range (number_at key.Heap m) heap.value;
      heap_words = if_weaker (IsBetween 1 (most version 4194304 16777216)) (IsBetween 1 16777216) (number_at key.HeapWords m) (λ n b.
          (b.0, omega (arith, b.1, heap_most))) heap_words.value;
      heap_whole = heap.found
          ∙ both_ways (has key.Heap m) (has key.HeapWords m) (has_asked m key.Heap (With key.HeapWords) (Aligned 0 4294967295)
          (rows 6 (omega arith))) (has_asked m key.HeapWords (With key.Heap) (Integer 1 (most version 4194304 16777216))
          (rows 7 (omega arith)))
          ∙ sym heap_words.found;
      stack = aligned_in_range (number_at key.Stack m) stack.value;
      stack_words = stack_words.value;
      stack_whole = stack.found
          ∙ both_ways (has key.Stack m) (has key.StackWords m)
          (has_asked m key.Stack (With key.StackWords) (Aligned 0 4294967295) (rows 8 (omega arith)))
          (has_asked m key.StackWords (With key.Stack) (Integer 1 1048576) (rows 9 (omega arith)))
          ∙ sym stack_words.found;
      gate_count = omega (
        arith,
        length-map (elements_at key.Gates m) (gate_plan names),
        array_most m key.Gates Never 0 256 each.Table
            gates_row,
      );
      gates = numbered_mapped (gate_plan names) (λ n gate. IsGate (length names) own gate) (elements_at key.Gates m)
          (λ i gate here. gate_in_range version names own gate
          (unmapped _ _ (first_clear (gate_fault version) (elements_at key.Gates m) clear.gates i gate here))
          (all_at (is_from_others names own) (elements_at key.Gates m) all_others i gate here));
      return_count = omega (
        arith,
        length-map (elements_at key.Returns m) entry_plan,
        array_most m key.Returns Never 0 256 each.Entry
            returns_row,
      );
      returns = each_mapped is_entry entry_plan IsEntry (elements_at key.Returns m)
          (array_items m key.Returns Never 0 256 each.Entry returns_row) entry_in_range;
      input = input_in_range version m clear.listed clear.late;
    }

-- a hart
pub hart_in_range : (names : List (List ℕ)) (hart : Data) → table_fault hart_rows hart ≡ None → hart_fault names hart ≡ None
    → IsHart (length names) (hart_plan names hart)
hart_in_range names hart h found =
    let entry_clear : row_fault hart (row key.Entry Never Entry) ≡ None =
    clear_at (row_fault hart) hart_rows 1 any_row (table_clear hart_rows hart h) (omega arith) in
    record {
      domain = home_in_range names (unwrap_or (text_at key.Module hart) []) (fails _ _ found);
      entry = entry_of (value_at key.Entry hart) (λ v here. (value_fits hart (row key.Entry Never Entry) v entry_clear here).1);
    }
