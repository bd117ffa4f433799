-- A part of a text that goes on.
use Rattle.std.proofs.Common.{◌≡◌, ◌⊎◌, ℕ, zero, suc, ◌+◌, ◌-◌, ◌<◌, ◌≤◌, Bool, true, false, ◌||◌, nat_lt, List, [], ◌∷◌, ◌++◌, length, min}
use Rattle.std.proofs.Common.{take, drop, get_or, flat_map, Some, None, inl, inr, refl, ap, sym, ◌∙◌, arith, append_assoc, drop-cons}
use Rattle.std.proofs.Common.{length-append}
use Rattle.std.specs.List.{range_with_len}
use Rattle.std.proofs.Math.Seq.{drop-append-add}
use Rattle.std.proofs.lemmas.List.{append-nil, drop-append-le, length-take, take_all}
use Rattle.std.specs.List.{slice_get}
use Rattle.std.proofs.lemmas.Option.{get_or_from_slice_get, slice_get_cases, slice_get_within}
use Rattle.std.proofs.lemmas.Grind.{flat_map-append, take_at_read}
use Rattle.mx_debug_texts.specs.Window.{Part, further, part_from, with_held}

none_of : (n : ℕ) → drop {A = ℕ} n [] ≡ []
none_of zero = refl
none_of (suc n) = refl

drop_all : (n : ℕ) (xs : List ℕ) → length xs ≤ n → drop n xs ≡ []
drop_all n [] all = none_of n
drop_all zero (x ∷ xs) all = absurd (omega arith)
drop_all (suc n) (x ∷ xs) all = drop_all n xs (omega arith)

in_or_past : (n m : ℕ) → (n ≤ m) ⊎ (m ≤ n)
in_or_past n m = grind arith

drop_by : (n : ℕ) (xs ys : List ℕ) → (n ≤ length xs) ⊎ (length xs ≤ n) → drop n (xs ++ ys) ≡ drop n xs ++ drop (n - length xs) ys
drop_by n xs ys (inl few) =
    let none : n - length xs ≡ 0 = omega arith in
    drop-append-le n xs ys few ∙ ap (λ k. drop n xs ++ drop k ys) (sym none)
drop_by n xs ys (inr all) =
    let k = n - length xs in
    let parts : n ≡ length xs + k = omega (arith, all) in
    ap (λ (m : ℕ). drop m (xs ++ ys)) parts ∙ drop-append-add xs ys k ∙ sym (ap (λ (zs : List ℕ). zs ++ drop k ys) (drop_all n xs all))

pub drop_append : (n : ℕ) (xs ys : List ℕ) → drop n (xs ++ ys) ≡ drop n xs ++ drop (n - length xs) ys
drop_append n xs ys = drop_by n xs ys (in_or_past n (length xs))

take_none : (n : ℕ) → take {A = ℕ} n [] ≡ []
take_none zero = refl
take_none (suc n) = refl

pub take_append : (n : ℕ) (xs ys : List ℕ) → take n (xs ++ ys) ≡ take n xs ++ take (n - length xs) ys
take_append n [] ys = (let e : n ≡ n - 0 = omega arith in ap (λ (zs : List ℕ). zs ++ take n ys) (sym (take_none n))
    ∙ ap (λ k. take n [] ++ take k ys) e)
take_append zero (x ∷ xs) ys = let e : 0 - length (x ∷ xs) ≡ 0 = omega arith in ap (λ k. take k ys) (sym e)
take_append (suc n) (x ∷ xs) ys =
    let e : n - length xs ≡ suc n - length (x ∷ xs) = omega arith in
    ap (λ (zs : List ℕ). x ∷ zs) (take_append n xs ys) ∙ ap (λ k. x ∷ (take n xs ++ take k ys)) e

over_more : (o : Bool) (k m x y z : ℕ) → m ≡ k - x → z ≡ x + y → ((o || nat_lt k x) || nat_lt m y) ≡ (o || nat_lt k z)
over_more true k m x y z e f = refl
over_more false k m x y z e f = grind arith

part_is : (p : Part) (s t : ℕ) (a b : List ℕ) (o q : Bool) → s ≡ t → a ≡ b → o ≡ q →
    (record p { skip = s; held = a; over = o }) ≡ (record p { skip = t; held = b; over = q })
part_is p s t a b o q e f g = cc

pub further_more : (p : Part) (a b : List ℕ) → further (further p a) b ≡ further p (a ++ b)
unfolding further with_held
further_more p a b =
    let k = p.most - length p.held in
    let ra = drop p.skip a in
    let rb = drop (p.skip - length a) b in
    let all : ra ++ rb ≡ drop p.skip (a ++ b) = sym (drop_append p.skip a b) in
    let long : length (a ++ b) ≡ length a + length b = length-append a b in
    let taken : length (take k ra) ≡ min k (length ra) = length-take k ra in
    let one : length (p.held ++ take k ra) ≡ length p.held + length (take k ra) = length-append p.held (take k ra) in
    let room : p.most - length (p.held ++ take k ra) ≡ k - length ra = omega (arith, one, taken) in
    let both : length (drop p.skip (a ++ b)) ≡ length ra + length rb = ap length (sym all) ∙ length-append ra rb in
    let held : (p.held ++ take k ra) ++ take (p.most - length (p.held ++ take k ra)) rb ≡ p.held ++ take k (drop p.skip (a ++ b)) =
    append_assoc p.held (take k ra) (take (p.most - length (p.held ++ take k ra)) rb)
    ∙ ap (λ n. p.held ++ (take k ra ++ take n rb)) room
    ∙ ap (λ (zs : List ℕ). p.held ++ zs) (sym (take_append k ra rb) ∙ ap (take k) all) in
    part_is p (p.skip - length a - length b) (p.skip - length (a ++ b))
    ((p.held ++ take k ra) ++ take (p.most - length (p.held ++ take k ra)) rb) (p.held ++ take k (drop p.skip (a ++ b)))
    ((p.over || nat_lt k (length ra)) || nat_lt (p.most - length (p.held ++ take k ra)) (length rb))
    (p.over || nat_lt k (length (drop p.skip (a ++ b))))
    (omega (arith, long)) held
    (over_more p.over k (p.most - length (p.held ++ take k ra)) (length ra) (length rb) (length (drop p.skip (a ++ b))) room both)

not_over : (o : Bool) (n : ℕ) → (o || nat_lt n 0) ≡ o
not_over true n = refl
not_over false n = grind arith

-- no text leaves it as it is
pub further_none : (p : Part) → p ≡ further p []
unfolding further with_held
further_none p =
    let k = p.most - length p.held in
    let rest : drop {A = ℕ} p.skip [] ≡ [] = none_of p.skip in
    let held : p.held ++ take k (drop {A = ℕ} p.skip []) ≡ p.held = ap (λ (zs : List ℕ). p.held ++ take k zs) rest
    ∙ ap (λ (zs : List ℕ). p.held ++ zs) (take_none k) ∙ append-nil p.held in
    let over : (p.over || nat_lt k (length (drop {A = ℕ} p.skip []))) ≡ p.over = ap (λ (zs : List ℕ). p.over || nat_lt k (length zs)) rest
    ∙ not_over p.over k in
    part_is p p.skip (p.skip - 0) p.held (p.held ++ take k (drop {A = ℕ} p.skip [])) p.over
    (p.over || nat_lt k (length (drop {A = ℕ} p.skip [])))
    (omega arith) (sym held) (sym over)

-- a text after another
pub puts_more : (p q r : Part) (a b whole : List ℕ) → q ≡ further p a → r ≡ further q b → whole ≡ a ++ b → r ≡ further p whole
puts_more p q r a b whole one two all = two ∙ ap (λ (x : Part). further x b) one ∙ further_more p a b ∙ ap (further p) (sym all)

-- nothing after another
pub puts_none : (p q : Part) (a : List ℕ) → q ≡ further p a → q ≡ further p (a ++ [])
puts_none p q a is = is ∙ ap (further p) (sym (append-nil a))

-- texts of items, and of numbers, that are put one after another
pub puts_item : {X : Type 0} (f : X → List ℕ) (p q r : Part) (xs : List X) (i : ℕ) (d : X) → i < length xs →
    q ≡ further p (flat_map f (take i xs)) → r ≡ further q (f (get_or xs i d)) → r ≡ further p (flat_map f (take (i + 1) xs))
puts_item f p q r xs i d few is next =
    let b = get_or xs i d in
    puts_more p q r (flat_map f (take i xs)) (f b) (flat_map f (take (i + 1) xs)) is next
    (ap (flat_map f) (take_at_read xs i d few).1 ∙ flat_map-append f (take i xs) (b ∷ [])
    ∙ ap (λ (zs : List ℕ). flat_map f (take i xs) ++ zs) (append-nil (f b)))

next_place : (i : ℕ) → suc i ≡ i + 1
next_place i = omega arith

pub drop_got : {X : Type 0} (xs : List X) (i : ℕ) (x : X) → slice_get xs i ≡ Some x → drop i xs ≡ x ∷ drop (i + 1) xs
drop_got xs i x got =
    let few : i < length xs = slice_get_within xs i x got in
    drop-cons xs i x few ∙ ap (λ y. y ∷ drop (suc i) xs) (get_or_from_slice_get xs i x x got) ∙ ap (λ k. x ∷ drop k xs) (next_place i)

pub puts_got : {X : Type 0} (f : X → List ℕ) (p q r : Part) (xs : List X) (i : ℕ) (x : X) → slice_get xs i ≡ Some x →
    q ≡ further p (flat_map f (take i xs)) → r ≡ further q (f x) → r ≡ further p (flat_map f (take (i + 1) xs))
puts_got f p q r xs i x got is next =
    puts_item f p q r xs i x (slice_get_within xs i x got) is (next ∙ ap (λ y. further q (f y)) (sym (get_or_from_slice_get xs i x x got)))

past_by : {X : Type 0} (xs : List X) (i : ℕ) → ((x : X) × (i < length xs) × (slice_get xs i ≡ Some x) × (get_or xs i x ≡ x))
    ⊎ ((length xs ≤ i) × (slice_get xs i ≡ None)) → slice_get xs i ≡ None → take i xs ≡ xs
past_by xs i (inl there) none = cc (there.2, none)
past_by xs i (inr past) none = take_all i xs past.0

-- all of a list, up to where nothing is any more
pub take_past : {X : Type 0} (xs : List X) (i : ℕ) → slice_get xs i ≡ None → take i xs ≡ xs
take_past xs i none = past_by xs i (slice_get_cases xs i).1 none

pub numbers_more : (f : ℕ → List ℕ) (a n : ℕ) → flat_map f (range_with_len a (n + 1)) ≡ flat_map f (range_with_len a n) ++ f (a + n)
numbers_more f a zero = let e : a ≡ a + 0 = omega arith in append-nil (f a) ∙ ap f e
numbers_more f a (suc n) =
    let one : suc n + 1 ≡ suc (n + 1) = omega arith in
    let last : a + 1 + n ≡ a + suc n = omega arith in
    ap (λ k. flat_map f (range_with_len a k)) one ∙ ap (λ (zs : List ℕ). f a ++ zs) (numbers_more f (a + 1) n)
    ∙ sym (append_assoc (f a) (flat_map f (range_with_len (a + 1) n)) (f (a + 1 + n)))
    ∙ ap (λ k. (f a ++ flat_map f (range_with_len (a + 1) n)) ++ f k) last

pub puts_number : (f : ℕ → List ℕ) (p q r : Part) (a n j : ℕ) → a + n ≡ j →
    q ≡ further p (flat_map f (range_with_len a n)) → r ≡ further q (f j) → r ≡ further p (flat_map f (range_with_len a (n + 1)))
puts_number f p q r a n j place is next =
    puts_more p q r (flat_map f (range_with_len a n)) (f j) (flat_map f (range_with_len a (n + 1))) is next
    (numbers_more f a n ∙ ap (λ k. flat_map f (range_with_len a n) ++ f k) place)

-- what a part of a whole text holds, and whether more of it follows
pub held_of : (at most : ℕ) (text : List ℕ) → (further (part_from at most) text).held ≡ take most (drop at text)
unfolding further with_held
held_of at most text = let e : most - 0 ≡ most = omega arith in ap (λ k. take k (drop at text)) e

pub over_of : (at most : ℕ) (text : List ℕ) → (further (part_from at most) text).over ≡ nat_lt most (length (drop at text))
unfolding further with_held
over_of at most text = let e : most - 0 ≡ most = omega arith in ap (λ k. nat_lt k (length (drop at text))) e
