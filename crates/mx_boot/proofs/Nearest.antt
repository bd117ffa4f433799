-- The area that begins first at a word or after it.
use Rattle.std.proofs.Common.{◌≡◌, ℕ, ◌<◌, ◌≤◌, true, false, cond, nat_lt, nat_le, List, [], ◌∷◌, fold, Option, Some, None, IfSome, refl}
use Rattle.std.proofs.Common.{subst, sym, arith}
use Rattle.std.specs.List.{AllByRecursion}
use Rattle.std.proofs.lemmas.Bool.{leb-true, ltb-false, ltb-true, leb-false}
use Rattle.mx_boot.specs.declared.area.Area.{Area}
use Rattle.mx_boot.specs.Entries.{word_at}
use Rattle.mx_boot.specs.Placed.{nearer, next_area}

-- what holds of each area, and of the one found so far, holds of the one found
kept : (P : Area → Type 0) (word : ℕ) (found : Option Area) (a : Area) → IfSome found P → (word ≤ word_at a.address → P a)
    → IfSome (nearer word found a) P
kept P word None a h p = elim (nat_lt (word_at a.address) word) as (λ t. nat_lt (word_at a.address) word ≡ t
    → IfSome (cond t None (Some a)) P) [
      | true ↦ λ e. tt
      | false ↦ λ e. p (ltb-false (word_at a.address) word e)
    ] refl
kept P word (Some b) a h p =
    elim (nat_lt (word_at a.address) word) as (λ t. nat_lt (word_at a.address) word ≡ t
    → IfSome (cond t (Some b) (cond (nat_le (word_at b.address) (word_at a.address)) (Some b) (Some a))) P) [
      | true ↦ λ e. h
      | false ↦ λ e. elim (nat_le (word_at b.address) (word_at a.address)) as (λ t. IfSome (cond t (Some b) (Some a)) P) [
        | true ↦
            h
        | false ↦ p (ltb-false (word_at a.address) word e)
      ]
    ] refl

held : (P : Area → Type 0) (word : ℕ) (found : Option Area) (areas : List Area) (a : Area) → IfSome found P
    → AllByRecursion (λ b. word ≤ word_at b.address → P b) areas
    → fold (nearer word) found areas ≡ Some a → P a
held P word found [] a h all e = subst (λ o. IfSome o P) e h
held P word found (b ∷ rest) a h all e = held P word (nearer word found b) rest a (kept P word found b h all.0) all.1 e

-- it is one of the areas
pub next-is : (P : Area → Type 0) (word : ℕ) (areas : List Area) (a : Area) → AllByRecursion P areas → next_area word areas ≡ Some a → P a
next-is P word areas a all e = held P word None areas a tt (each areas all) e
  where
    each : (xs : List Area) → AllByRecursion P xs → AllByRecursion (λ b. word ≤ word_at b.address → P b) xs
    each [] h = tt
    each (x ∷ xs) h = (λ ge. h.0, each xs h.1)

-- it doesn't begin before the word
pub next-from : (word : ℕ) (areas : List Area) (a : Area) → next_area word areas ≡ Some a → word ≤ word_at a.address
next-from word areas a e = held (λ b. word ≤ word_at b.address) word None areas a tt (each areas) e
  where
    each : (xs : List Area) → AllByRecursion (λ b. word ≤ word_at b.address → word ≤ word_at b.address) xs
    each [] = tt
    each (x ∷ xs) = (λ ge. ge, each xs)

-- no other begins between
abbrev IsBefore : ℕ → Area → Area → Type 0
IsBefore word a b = word ≤ word_at b.address → word_at a.address ≤ word_at b.address

before : (word : ℕ) (found : Option Area) (a b : Area) → IfSome (nearer word found b) (λ c. word_at a.address ≤ word_at c.address)
    → IsBefore word a b × IfSome found (λ c. word_at a.address ≤ word_at c.address)
before word None a b h = (
  elim (nat_lt (word_at b.address) word) as (λ t. nat_lt (word_at b.address) word ≡ t
      → IfSome (cond t None (Some b)) (λ (c : Area). word_at a.address ≤ word_at c.address) → IsBefore word a b) [
        | true ↦ λ e k ge. absurd (let lt = ltb-true (word_at b.address) word e in let q : ⊥ = omega (arith, lt, ge) in q)
        | false ↦ λ e k ge. k
      ] refl h,
  tt,
)
before word (Some c) a b h =
    elim (nat_lt (word_at b.address) word) as (λ t. nat_lt (word_at b.address) word ≡ t
    → IfSome (cond t (Some c) (cond (nat_le (word_at c.address) (word_at b.address)) (Some c) (Some b))) (λ (x : Area).
    word_at a.address ≤ word_at x.address)
    → IsBefore word a b × (word_at a.address ≤ word_at c.address)) [
      | true ↦ λ e k. (λ ge. absurd (let lt = ltb-true (word_at b.address) word e in let q : ⊥ = omega (arith, lt, ge) in q), k)
      | false ↦ λ e. elim (nat_le (word_at c.address) (word_at b.address)) as (λ t. nat_le (word_at c.address) (word_at b.address) ≡ t
          → IfSome (cond t (Some c) (Some b)) (λ (x : Area). word_at a.address ≤ word_at x.address)
          → IsBefore word a b × (word_at a.address ≤ word_at c.address)) [
            | true ↦ λ f k. (λ ge. let le = leb-true (word_at c.address) (word_at b.address) f in omega (arith, le, k), k)
            | false ↦ λ f k. (λ ge. k, let le = leb-false (word_at c.address) (word_at b.address) f in omega (arith, le, k))
          ] refl
    ] refl h

least : (word : ℕ) (found : Option Area) (areas : List Area) (a : Area) → fold (nearer word) found areas ≡ Some a
    → AllByRecursion (IsBefore word a) areas × IfSome found (λ c. word_at a.address ≤ word_at c.address)
least word found [] a e = (
  tt,
  subst (λ o. IfSome o (λ (c : Area). word_at a.address ≤ word_at c.address)) (sym e)
      (let le : word_at a.address ≤ word_at a.address = omega arith in le),
)
least word found (b ∷ rest) a e =
    let later = least word (nearer word found b) rest a e in
    let here = before word found a b later.1 in
    ((here.0, later.0), here.1)

pub next-least : (word : ℕ) (areas : List Area) (a : Area) → next_area word areas ≡ Some a
    → AllByRecursion (λ b. word ≤ word_at b.address → word_at a.address ≤ word_at b.address) areas
next-least word areas a e = (least word None areas a e).0

-- where there is none, all begin before the word
nowhere : (word : ℕ) (found : Option Area) (areas : List Area) → fold (nearer word) found areas ≡ None
    → (found ≡ None) × AllByRecursion (λ b. word_at b.address < word) areas
nowhere word found [] e = (e, tt)
nowhere word None (b ∷ rest) e =
    let later = nowhere word (nearer word None b) rest e in (
      refl,
      (
        elim (nat_lt (word_at b.address) word) as (λ t. nat_lt (word_at b.address) word ≡ t → cond t None (Some b) ≡ None
            → word_at b.address < word) [
              | true ↦ λ f k. ltb-true (word_at b.address) word f
              | false ↦ λ f k. absurd (let q : ⊥ = cc in q)
            ] refl later.0,
        later.1,
      ),
    )
nowhere word (Some c) (b ∷ rest) e =
    let later = nowhere word (nearer word (Some c) b) rest e in
    absurd (elim (nat_lt (word_at b.address) word) as (λ t. cond t (Some c)
    (cond (nat_le (word_at c.address) (word_at b.address)) (Some c) (Some b)) ≡ None → ⊥) [
      | true ↦ λ k. (let q : ⊥ = cc in q)
      | false ↦ elim (nat_le (word_at c.address) (word_at b.address)) as (λ t. cond t (Some c) (Some b) ≡ None
          → ⊥) [ true ↦ λ k. (let q : ⊥ = cc in q) | false ↦ λ k. (let q : ⊥ = cc in q) ]
    ] later.0)

pub next-none : (word : ℕ) (areas : List Area) → next_area word areas ≡ None → AllByRecursion (λ b. word_at b.address < word) areas
next-none word areas e = (nowhere word None areas e).1
