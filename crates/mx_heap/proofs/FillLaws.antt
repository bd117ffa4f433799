-- Laws of parts that fill a range of words: cut in two, joined, and the blocks among them.
use Rattle.std.proofs.Common.{ℕ, ◌≡◌, ◌+◌, ◌*◌, ◌≤◌, ⊎_elim, Bool, true, false, List, [], ◌∷◌, ◌++◌, length, refl, ◌∙◌, arith}
use Rattle.std.proofs.lemmas.Bool.{cases_Bool}
use Rattle.mx_words.specs.FirstFit.{Area}
use Rattle.mx_heap.specs.declared.parts.Part.{Part}
use Rattle.mx_words.specs.FirstFit.{AreApart}
use Rattle.mx_heap.specs.Places.{Fill, blocks_of}

-- the word after the last part
abbrev pub end_of : ℕ → List Part → ℕ
end_of low [] = low
end_of low (p ∷ ps) = end_of (low + p.count) ps

-- whether the last part is live, and `before` where there is none
abbrev pub last_live : Bool → List Part → Bool
last_live before [] = before
last_live before (p ∷ ps) = last_live p.live ps

abbrev pub block_of : Part → Area
block_of p = record { first = p.first; count = p.count }

pub Fill-append : (low high : ℕ) (l : Bool) (xs ys : List Part) →
    Fill low (end_of low xs) l xs → Fill (end_of low xs) high (last_live l xs) ys → Fill low high l (xs ++ ys)
Fill-append low high l [] ys a b = b
Fill-append low high l (p ∷ xs) ys a b = (a.0, a.1, a.2, Fill-append (low + p.count) high p.live xs ys a.3 b)

pub Fill-left : (low high : ℕ) (l : Bool) (xs ys : List Part) → Fill low high l (xs ++ ys) → Fill low (end_of low xs) l xs
Fill-left low high l [] ys h = refl
Fill-left low high l (p ∷ xs) ys h = (h.0, h.1, h.2, Fill-left (low + p.count) high p.live xs ys h.3)

pub Fill-right : (low high : ℕ) (l : Bool) (xs ys : List Part) → Fill low high l (xs ++ ys) → Fill (end_of low xs) high (last_live l xs) ys
Fill-right low high l [] ys h = h
Fill-right low high l (p ∷ xs) ys h = Fill-right (low + p.count) high p.live xs ys h.3

pub Fill-le : (low high : ℕ) (l : Bool) (ps : List Part) → Fill low high l ps → low ≤ high
Fill-le low high l [] h = omega (arith, h)
Fill-le low high l (p ∷ ps) h = let rest : low + p.count ≤ high = Fill-le (low + p.count) high p.live ps h.3 in omega arith

pub blocks-live : (p : Part) (ps : List Part) → p.live ≡ true → blocks_of (p ∷ ps) ≡ block_of p ∷ blocks_of ps
blocks-live p ps e = rw e refl

pub blocks-hole : (p : Part) (ps : List Part) → p.live ≡ false → blocks_of (p ∷ ps) ≡ blocks_of ps
blocks-hole p ps e = rw e refl

pub blocks-append : (xs ys : List Part) → blocks_of (xs ++ ys) ≡ blocks_of xs ++ blocks_of ys
blocks-append [] ys = refl
blocks-append (p ∷ xs) ys = ⊎_elim
    (λ e. blocks-live p (xs ++ ys) e ∙ (rw (blocks-append xs ys, blocks-live p xs e) refl))
    (λ e. blocks-hole p (xs ++ ys) e ∙ (rw (blocks-append xs ys, blocks-hole p xs e) refl))
    (cases_Bool p.live)

-- blocks that lie apart from one word on lie apart from each lower one on
pub apart_lower : (low lower high : ℕ) (bs : List Area) → lower ≤ low → AreApart low high bs → AreApart lower high bs
apart_lower low lower high [] le h = omega (arith, h)
apart_lower low lower high (b ∷ bs) le h = (omega (arith, h.0), h.1, h.2)

-- the blocks among parts lie apart
pub Fill-apart : (low high : ℕ) (l : Bool) (ps : List Part) → Fill low high l ps → AreApart low high (blocks_of ps)
Fill-apart low high l [] h = omega (arith, h)
Fill-apart low high l (p ∷ ps) h =
    let rest : AreApart (low + p.count) high (blocks_of ps) = Fill-apart (low + p.count) high p.live ps h.3 in
    ⊎_elim
    (λ e. rw (blocks-live p ps e) (omega (arith, h.0), h.1, rw h.0 rest))
    (λ e. rw (blocks-hole p ps e) (apart_lower (low + p.count) low high (blocks_of ps) (omega arith) rest))
    (cases_Bool p.live)

abbrev pub one_if : Bool → ℕ
one_if true = 1
one_if false = 0

-- there are at most as many holes as blocks, and one more
pub length-parts : (low high : ℕ) (l : Bool) (ps : List Part) → Fill low high l ps → length ps ≤ 2 * length (blocks_of ps) + one_if l
length-parts low high l [] h = omega arith
length-parts low high l (p ∷ ps) h =
    let rest : length ps ≤ 2 * length (blocks_of ps) + one_if p.live = length-parts (low + p.count) high p.live ps h.3 in
    ⊎_elim
    (λ (e : p.live ≡ true). let one : one_if p.live ≡ 1 = rw e refl in rw (blocks-live p ps e) (omega (arith, one, rest)))
    (λ (e : p.live ≡ false). let none : one_if p.live ≡ 0 = rw e refl in
    let before : one_if l ≡ 1 = after_hole l p.live e h.2 in
    rw (blocks-hole p ps e) (omega (arith, none, before, rest)))
    (cases_Bool p.live)
  where
    after_hole : (l live : Bool) → live ≡ false → (l ≡ false → live ≡ true) → one_if l ≡ 1
    after_hole true live e f = refl
    after_hole false live e f = let t : live ≡ true = f refl in cc
