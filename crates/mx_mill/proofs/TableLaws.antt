-- Tables and arrays that are built value by value, and the manifest of a mill as a text.
use Rattle.std.proofs.Common.{◌≡◌, ℕ, zero, suc, ◌+◌, ◌<◌, ◌≤◌, true, List, [], ◌∷◌, ◌++◌, map, length, get_or, take, String, Global}
use Rattle.std.proofs.Common.{Ordering, Less, Equal, Greater, string_bytes, refl, sym, ap, ◌∙◌, arith}
use Rattle.std.proofs.lemmas.List.{take_more}
use Rattle.std.specs.BTreeMap.{insert_entry}
use Rattle.std.specs.List.{range_with_len}
use Rattle.std.specs.Ordering.{match_ordering}
use Rattle.std.specs.String.{string_cmp}
use Rattle.toml.specs.Data.{Data, item, no_items, members_depth, members_have_valid_dates, push_item}
use Rattle.toml.specs.View.{items_of, items_view, members_view, view}
use Rattle.toml.specs.declared.value.Value.{Value}
use Rattle.mx_mill.specs.Building.{with_member}
use Rattle.mx_mill.specs.Table.{mill_table}

abbrev Entry : Type 0
Entry = String Global × Value

match_members : (o : Ordering) (a b c : List Entry) → members_view (match_ordering o a b c)
    ≡ match_ordering o (members_view a) (members_view b) (members_view c)
match_members Less a b c = refl
match_members Equal a b c = refl
match_members Greater a b c = refl

-- a value at a key of the map of a table
pub members_with : (es : List Entry) (k : String Global) (v : Value)
    → members_view (insert_entry string_cmp es k v) ≡ with_member (string_bytes k) (view v) (members_view es)
members_with [] k v = refl
members_with (e ∷ es) k v = match_members (string_cmp k e.0) _ _ _ ∙ rw (members_with es k v)

-- a value at the end of an array
pub items_pushed : (vs : List Value) (v : Value) → items_view (vs ++ v ∷ []) ≡ push_item (items_view vs) (view v)
items_pushed [] v = refl
items_pushed (w ∷ vs) v = ap (item (view w)) (items_pushed vs v)

-- one more item
pub items_more : {A : Type 0} (f : A → Data) (xs : List A) (x : A) → push_item (items_of (map f xs)) (f x) ≡ items_of (map f (xs ++ x ∷ []))
items_more f [] x = refl
items_more f (y ∷ ys) x = ap (item (f y)) (items_more f ys x)

pub items_taken : {A : Type 0} (f : A → Data) (xs : List A) (i : ℕ) (d : A) → i < length xs
    → push_item (items_of (map f (take i xs))) (f (get_or xs i d)) ≡ items_of (map f (take (i + 1) xs))
items_taken f xs i d below = items_more f (take i xs) (get_or xs i d) ∙ ap (λ ys. items_of (map f ys)) (sym (take_more xs i d below))

-- one more of a range of numbers
pub items_counted : (f : ℕ → Data) (a n m : ℕ) → m ≡ a + n → push_item (items_of (map f (range_with_len a n))) (f m)
    ≡ items_of (map f (range_with_len a (n + 1)))
items_counted f a zero m is = let e : m ≡ a = omega (arith, is) in let one : 0 + 1 ≡ suc 0 = refl in ap (λ k. item (f k) no_items) e
items_counted f a (suc n) m is =
    let more : suc n + 1 ≡ suc (n + 1) = omega arith in
    ap (item (f a)) (items_counted f (a + 1) n m (omega (arith, is))) ∙ ap (λ k. items_of (map f (range_with_len a k))) (sym more)

-- what printing asks of the manifest
pub dates_valid : (k : ℕ) → members_have_valid_dates (mill_table k) ≡ true
unfolding mill_table
dates_valid k = refl

depth_is : (k : ℕ) → members_depth (mill_table k) ≡ 5
unfolding mill_table
depth_is k = refl

pub not_deep : (k : ℕ) → members_depth (mill_table k) ≤ 80
not_deep k = omega (arith, depth_is k)
