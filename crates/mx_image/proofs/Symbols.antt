-- The symbols of an image are found by their names.
use Rattle.std.proofs.Common.{◌≡◌, ◌≢◌, ℕ, suc, ◌+◌, ◌/◌, ◌^◌, ◌<◌, Bool, true, false, cond, List, [], ◌∷◌, ◌++◌, length, drop, refl, sym}
use Rattle.std.proofs.Common.{ap, ◌∙◌, arith, append_assoc, ◌==◌}
use Rattle.std.specs.Prelude.{Option, Some, None, find, option_map}
use Rattle.std.specs.Str.{bytes_eq}
use Rattle.std.specs.List.{AllByRecursion}
use Rattle.std.proofs.lemmas.List.{length-append, append-nil}
use Rattle.std.proofs.lemmas.Bool.Decides.{nat_tests}
use Rattle.std.proofs.lemmas.Slice.Eq.{bytes_eq-Decides}
use Rattle.std.proofs.Math.Seq.{drop-append_seam}
use Rattle.mx_words.specs.Bytes.{number_at}
use Rattle.mx_elf.specs.Field.{half_at, word_at, places}
use Rattle.mx_elf.specs.Header.{st_value}
use Rattle.mx_elf.specs.Symbol.{name_of, begins_with_name, is_defined, value_of}
use Rattle.mx_image.specs.Program.{Label}
use Rattle.mx_image.specs.Image.{symbol, symbols_from, symbol_table, null_symbol, names, strings}
use Rattle.mx_image.specs.Lawful.{HasNoZero, IsLabel, AreDistinct}
use Rattle.mx_image.proofs.Sizes.{symbol_table_length, length-names-cons}
use Rattle.mx_image.proofs.Fields.{word-behind, word-begins, half-behind, four-bytes}

-- the address of the first label with a name
abbrev pub address_of : List Label → List ℕ → Option ℕ
address_of labels name = option_map (λ l. l.address) (find (λ l. bytes_eq l.name name) labels)

-- a name without a zero byte, before one
name-whole : (name rest : List ℕ) → HasNoZero name → name_of (name ++ 0 ∷ rest) ≡ Some name
name-whole [] rest all = refl
name-whole (b ∷ name) rest all =
    let other : (b == 0) ≡ false = grind (arith, nat_tests, all.0) in
    rw (other, name-whole name rest all.1) refl

begins : (name rest wanted : List ℕ) → HasNoZero name → begins_with_name (name ++ 0 ∷ rest) wanted ≡ bytes_eq name wanted
begins name rest wanted all = rw (name-whole name rest all) refl

-- the fields of a symbol
record IsSymbol (symbols : List ℕ) (place at : ℕ) (l : Label) : Type 0 where
  name_is : word_at symbols place ≡ at
  value_is : word_at symbols (place + 4) ≡ l.address
  section_is : half_at symbols (place + 14) ≡ 0xFFF1

symbol-fields : (at : ℕ) (l : Label) (rest : List ℕ) → at < 2 ^ 32 → l.address < 2 ^ 32 → IsSymbol (symbol at l ++ rest) 0 at l
unfolding word_at half_at number_at
symbol-fields at l rest a v = record { name_is = four-bytes at a; value_is = four-bytes l.address v; section_is = refl }

symbol-read : (symbols part rest : List ℕ) (place at : ℕ) (l : Label) → symbols ≡ part ++ (symbol at l ++ rest) → place ≡ length part
    → at < 2 ^ 32 → l.address < 2 ^ 32 → IsSymbol symbols place at l
symbol-read symbols part rest place at l is start a v =
    let r = symbol-fields at l rest a v in
    record {
      name_is = word-begins symbols part (symbol at l ++ rest) place is start ∙ r.name_is;
      value_is = word-behind symbols part (symbol at l ++ rest) place 4 is start ∙ r.value_is;
      section_is = half-behind symbols part (symbol at l ++ rest) place 14 is start ∙ r.section_is;
    }

-- whether a symbol has a name
defined : (symbols strings before rest : List ℕ) (place at : ℕ) (l : Label) (wanted : List ℕ) → IsSymbol symbols place at l
    → strings ≡ before ++ (l.name ++ 0 ∷ rest) → at ≡ length before → HasNoZero l.name
    → is_defined symbols strings wanted place ≡ bytes_eq l.name wanted
defined symbols strings before rest place at l wanted r is start all =
    let name_is = r.name_is in
    let section_is = r.section_is in
    let here : drop at strings ≡ l.name ++ 0 ∷ rest = rw (is, start) (drop-append_seam before (l.name ++ 0 ∷ rest)) in
    rw (name_is, section_is, here, begins l.name rest wanted all) refl

-- the first of two, or the rest
chosen : (b : Bool) (f : ℕ → ℕ) (g : Label → ℕ) (place : ℕ) (l : Label) (places : Option ℕ) (labels : Option Label) → f place ≡ g l
    → option_map f places ≡ option_map g labels → option_map f (cond b (Some place) places) ≡ option_map g (cond b (Some l) labels)
chosen true f g place l places labels here left = ap (λ n. Some n) here
chosen false f g place l places labels here left = left

-- the symbols from one on
values : (symbols part more strings before rest : List ℕ) (place at : ℕ) (labels : List Label) (wanted : List ℕ)
    → symbols ≡ part ++ (symbols_from at labels ++ more) → place ≡ length part
    → strings ≡ before ++ (names labels ++ rest) → at ≡ length before → at + length (names labels) < 2 ^ 32
    → AllByRecursion IsLabel labels
    → option_map (st_value symbols) (find (is_defined symbols strings wanted) (places place 16 (length labels))) ≡ address_of labels wanted
values symbols part more strings before rest place at [] wanted is start named begun small all = refl
values symbols part more strings before rest place at (l ∷ labels) wanted is start named begun small all =
    let next = at + length l.name + 1 in
    let tail = symbols_from next labels ++ more in
    let end = names labels ++ rest in
    let size = length-names-cons l labels in
    let here : symbols ≡ part ++ (symbol at l ++ tail) = is ∙ ap (λ (xs : List ℕ). part ++ xs)
    (append_assoc (symbol at l) (symbols_from next labels) more) in
    let further : symbols ≡ (part ++ symbol at l) ++ tail = here ∙ sym (append_assoc part (symbol at l) tail) in
    let longer : place + 16 ≡ length (part ++ symbol at l) = omega (arith, start, length-append part (symbol at l)) in
    let one : strings ≡ before ++ ((l.name ++ 0 ∷ []) ++ end) = named
    ∙ ap (λ (xs : List ℕ). before ++ xs) (append_assoc (l.name ++ 0 ∷ []) (names labels) rest) in
    let first : strings ≡ before ++ (l.name ++ 0 ∷ end) = one ∙ ap (λ (xs : List ℕ). before ++ xs) (append_assoc l.name (0 ∷ []) end) in
    let behind : strings ≡ (before ++ (l.name ++ 0 ∷ [])) ++ end = one ∙ sym (append_assoc before (l.name ++ 0 ∷ []) end) in
    let gone : next ≡ length (before ++ (l.name ++ 0 ∷ [])) =
    omega (arith, begun, length-append before (l.name ++ 0 ∷ []), length-append l.name (0 ∷ [])) in
    let r = symbol-read symbols part tail place at l here start (omega (arith, small)) all.0.address in
    let test = defined symbols strings before end place at l wanted r first begun all.0.name in
    let left = values symbols (part ++ symbol at l) more strings (before ++ (l.name ++ 0 ∷ [])) rest (place + 16) next labels wanted further
    longer behind gone (omega (arith, small, size)) all.1 in
    rw test (chosen (bytes_eq l.name wanted) (st_value symbols) (λ m. m.address) place l
    (find (is_defined symbols strings wanted) (places (place + 16) 16 (length labels))) (find (λ m. bytes_eq m.name wanted) labels)
    r.value_is left)

-- the null symbol has no name
null-undefined : (rest strings wanted : List ℕ) → is_defined (null_symbol ++ rest) strings wanted 0 ≡ false
unfolding half_at number_at
null-undefined rest strings wanted = refl

-- the value of a symbol is the address of the first label with its name
pub value-found : (labels : List Label) (wanted : List ℕ) → length (names labels) < 2 ^ 31 → AllByRecursion IsLabel labels
    → value_of (symbol_table labels) (strings labels) wanted ≡ address_of labels wanted
unfolding value_of
value-found labels wanted small all =
    let count : length (symbol_table labels) / 16 ≡ suc (length labels) = omega (arith, symbol_table_length labels) in
    let symbols_end : symbol_table labels ≡ null_symbol ++ (symbols_from 1 labels ++ []) =
    ap (λ (xs : List ℕ). null_symbol ++ xs) (sym (append-nil (symbols_from 1 labels))) in
    let names_end : strings labels ≡ (0 ∷ []) ++ (names labels ++ []) = ap (λ (xs : List ℕ). 0 ∷ xs) (sym (append-nil (names labels))) in
    rw (count, null-undefined (symbols_from 1 labels) (strings labels) wanted)
    (values (symbol_table labels) null_symbol [] (strings labels) (0 ∷ []) [] 16 1 labels wanted symbols_end refl names_end refl
    (omega (arith, small)) all)

go : {P : Type 0} (b : Bool) → (b ≡ true → P) → (P → ⊥) → b ≡ false
go true tells apart = absurd (apart (tells refl))
go false tells apart = refl

-- each of different labels is the first with its name
differ : (xs ys : List ℕ) → xs ≢ ys → bytes_eq xs ys ≡ false
differ xs ys apart = go (bytes_eq xs ys) (bytes_eq-Decides xs ys).0 apart

further : (x : Label) (xs ys : List Label) → AllByRecursion (λ m. x.name ≢ m.name) ys
    → AllByRecursion (λ m. address_of xs m.name ≡ Some m.address) ys
    → AllByRecursion (λ m. address_of (x ∷ xs) m.name ≡ Some m.address) ys
further x xs [] apart all = tt
further x xs (y ∷ ys) apart all = (rw (differ x.name y.name apart.0) all.0, further x xs ys apart.1 all.1)

pub each-found : (labels : List Label) → AreDistinct labels → AllByRecursion (λ l. address_of labels l.name ≡ Some l.address) labels
each-found [] distinct = tt
each-found (x ∷ xs) distinct =
    let same : bytes_eq x.name x.name ≡ true = (bytes_eq-Decides x.name x.name).1 refl in
    (rw same refl, further x xs xs distinct.0 (each-found xs distinct.1))

-- a name that no label has is not found
pub none-found : (labels : List Label) (name : List ℕ) → AllByRecursion (λ l. l.name ≢ name) labels → address_of labels name ≡ None
none-found [] name apart = refl
none-found (x ∷ xs) name apart = rw (differ x.name name apart.0) (none-found xs name apart.1)
