-- Each give adds at most two runs of owners: a run begins only where one begins or ends.
use Rattle.std.proofs.Common.{◌≡◌, ℕ, zero, suc, ◌+◌, ◌-◌, ◌*◌, ◌<◌, ◌≤◌, Bool, true, false, not, cond, ◌==◌, ◌||◌, List, [], ◌∷◌, length}
use Rattle.std.proofs.Common.{get_or, refl, ap, ◌∙◌, sym, arith}
use Rattle.std.specs.List.{flat_map, list_any}
use Rattle.std.proofs.lemmas.Bool.{eq-eqb, ne_eqb, or_from, or_parts, or_right}
use Rattle.std.proofs.lemmas.Bool.Decides.{nat_tests}
use Rattle.mx_words.specs.Counting.{bit, count_below}
use Rattle.mx_words.specs.Newest.{Give, laid_at, newest, owner, owners}
use Rattle.mx_words.specs.Ranges.{covers}
use Rattle.mx_words.specs.Runs.{owner_runs}
use Rattle.mx_words.specs.Starts.{is_owner_start}
use Rattle.mx_words.proofs.BrokenLaws.{count_one_more}
use Rattle.mx_words.proofs.CountingLaws.{count_below_none}
use Rattle.mx_words.proofs.OverlayLaws.{length-owners, owners-at}
use Rattle.mx_words.proofs.RunLaws.{owner_runs-count}
use Rattle.mx_model.proofs.EachLaws.{length-flat_at_most, all_each}

-- counting
bit-le-bit : (a b : Bool) → (a ≡ true → b ≡ true) → bit a ≤ bit b
bit-le-bit x b f = grind arith

count-mono : (n : ℕ) (p q : ℕ → Bool) → ((i : ℕ) → i < n → p i ≡ true → q i ≡ true) → count_below n p ≤ count_below n q
unfolding count_below
count-mono zero p q f = omega arith
count-mono (suc n) p q f =
    let rest = count-mono n p q (λ i lt. f i (omega arith)) in
    let here = bit-le-bit (p n) (q n) (f n (omega arith)) in
    omega (arith, rest, here)

-- one number more than pass another test
count-more : (n b : ℕ) (p : ℕ → Bool) → count_below n (λ i. (b == i) || p i) ≤ count_below n p + 1
count-more n b p = count_one_more n b p (λ i. (b == i) || p i) (λ i lt ne none. or_from (b == i) (p i) (ne_eqb b i (λ e. ne (sym e))) none)

count-any : (n : ℕ) (bs : List ℕ) → count_below n (λ i. list_any (λ b. b == i) bs) ≤ length bs
count-any n [] = let none : count_below n (λ i. false) ≡ 0 = count_below_none n (λ i. false) (λ i lt. refl) in omega (arith, none)
count-any n (b ∷ bs) =
    let more = count-more n b (λ i. list_any (λ c. c == i) bs) in
    let rest = count-any n bs in
    omega (arith, more, rest)

-- where a give begins or ends
abbrev bounds : Give → List ℕ
bounds g = g.first ∷ (g.first + g.count) ∷ []

covers-next : (first count j : ℕ) → (first == suc j) ≡ false → (first + count == suc j) ≡ false
    → covers first count j ≡ covers first count (suc j)
covers-next first count j a b = grind (arith, nat_tests)

-- no give of these begins or ends at a word, so they give it and the word before to the same owner
newest-next : (d e : ℕ) (gives : List Give) (j : ℕ) → d ≡ e → list_any (λ b. b == suc j) (flat_map bounds gives) ≡ false
    → newest d gives j ≡ newest e gives (suc j)
newest-next d e [] j same none = same
newest-next d e (g ∷ gives) j same none =
    let first = or_parts (g.first == suc j) ((g.first + g.count == suc j) || list_any (λ b. b == suc j) (flat_map bounds gives)) none in
    let second = or_parts (g.first + g.count == suc j) (list_any (λ b. b == suc j) (flat_map bounds gives)) first.1 in
    let over = covers-next g.first g.count j first.0 second.0 in
    let here : laid_at j d g ≡ laid_at (suc j) e g = ap (λ t. cond t g.value d) over
    ∙ ap (λ x. cond (covers g.first g.count (suc j)) g.value x) same in
    newest-next (laid_at j d g) (laid_at (suc j) e g) gives j here second.1

-- whether a run may begin at a word
abbrev may-begin : List Give → ℕ → Bool
may-begin gives i = (0 == i) || list_any (λ b. b == i) (flat_map bounds gives)

starts : (gives : List Give) (words i : ℕ) → i < words → is_owner_start (owners gives words) i ≡ true → may-begin gives i ≡ true
starts gives words zero lt h = refl
starts gives words (suc j) lt h =
    elim (list_any (λ b. b == suc j) (flat_map bounds gives)) as (λ t. list_any (λ b. b == suc j) (flat_map bounds gives) ≡ t
    → ((0 == suc j) || t) ≡ true) [
      | true ↦ λ e. or_right (0 == suc j) true refl
      | false ↦ λ e.
          let before : get_or (owners gives words) j 0 ≡ owner gives j = owners-at gives words j 0 (omega arith) in
          let here : get_or (owners gives words) (suc j) 0 ≡ owner gives (suc j) = owners-at gives words (suc j) 0 lt in
          let same : get_or (owners gives words) j 0 ≡ get_or (owners gives words) (suc j) 0 = before ∙ newest-next 0 0 gives j refl e
          ∙ sym here in
          absurd (differs j (owners gives words) same h)
    ] refl
  where
    differs : (j : ℕ) (os : List ℕ) → get_or os j 0 ≡ get_or os (suc j) 0 → is_owner_start os (suc j) ≡ true → ⊥
    differs j os same h =
        let one : suc j - 1 ≡ j = omega arith in
        let at : (get_or os (suc j - 1) 0 == get_or os (suc j) 0) ≡ true = eq-eqb _ _ (ap (λ k. get_or os k 0) one ∙ same) in
        let later : (suc j == 0) ≡ false = grind (arith, nat_tests) in
        let not_here : is_owner_start os (suc j) ≡ false = ap (λ t. t || not (get_or os (suc j - 1) 0 == get_or os (suc j) 0)) later
        ∙ ap not at in
        cc

pub runs-at-most : (gives : List Give) (words : ℕ) → owner_runs (owners gives words) ≤ 1 + 2 * length gives
runs-at-most gives words =
    let counted = owner_runs-count (owners gives words) in
    let long = length-owners gives words in
    let at_most : count_below words (is_owner_start (owners gives words)) ≤ count_below words (may-begin gives) =
    count-mono words (is_owner_start (owners gives words)) (may-begin gives) (starts gives words) in
    let more : count_below words (may-begin gives) ≤ count_below words (λ i. list_any (λ b. b == i) (flat_map bounds gives)) + 1 =
    count-more words 0 (λ i. list_any (λ b. b == i) (flat_map bounds gives)) in
    let rest = count-any words (flat_map bounds gives) in
    let few = length-flat_at_most bounds 2 gives (all_each (λ g. length (bounds g) ≤ 2) gives (λ g. omega arith)) in
    let same : count_below (length (owners gives words)) (is_owner_start (owners gives words))
    ≡ count_below words (is_owner_start (owners gives words)) = ap (λ n. count_below n (is_owner_start (owners gives words))) long in
    omega (arith, counted, same, at_most, more, rest, few)
