-- The list of live blocks as blocks come and go.
use Rattle.std.proofs.Common.{ℕ, zero, suc, ◌≡◌, ◌≢◌, ◌+◌, ◌<◌, ◌≤◌, ⊎_elim, true, false, not, cond, List, [], ◌∷◌, length, refl, sym, ◌∙◌}
use Rattle.std.proofs.Common.{ap, subst, arith, nat_lt, map}
use Rattle.std.specs.List.{position_or_len, insert, remove}
use Rattle.std.proofs.lemmas.Bool.{cases_Bool, cases_lt, ne_eqb, eq-eqb, ltb-true, ltb-false}
use Rattle.std.proofs.lemmas.List.Sums.{fails_before_first, passes_at_first}
use Rattle.mx_words.specs.FirstFit.{Area, AreApart, with_block, without_block}
use Rattle.mx_heap.specs.declared.block.Block.{Block}
use Rattle.mx_heap.specs.HeapState.{area_of}
use Rattle.mx_heap.specs.declared.parts.Part.{Part}
use Rattle.mx_heap.specs.Places.{listed_at, no_block, AreRising, AreStored}
use Rattle.mx_heap.proofs.FillLaws.{Fill-apart}

-- a block is put before the first that begins after it
pub put_listed : (b : Block) (bs : List Block) → map area_of (insert bs (position_or_len (λ (x : Block). nat_lt b.first x.first) bs) b)
    ≡ with_block (area_of b) (map area_of bs)
put_listed b [] = refl
put_listed b (x ∷ bs) =
    let later : ℕ = position_or_len (λ (y : Block). nat_lt b.first y.first) bs in
    ⊎_elim
    (λ (t : nat_lt b.first x.first ≡ true).
    ap (λ u. map area_of (insert (x ∷ bs) (cond (not u) (1 + later) 0) b)) t
    ∙ sym (ap (λ u. cond u (area_of b ∷ area_of x ∷ map area_of bs) (area_of x ∷ with_block (area_of b) (map area_of bs))) t))
    (λ (f : nat_lt b.first x.first ≡ false).
    ap (λ u. map area_of (insert (x ∷ bs) (cond (not u) (1 + later) 0) b)) f
    ∙ ap (λ n. map area_of (insert (x ∷ bs) n b)) (let e : 1 + later ≡ suc later = omega arith in e)
    ∙ ap (λ (areas : List Area). area_of x ∷ areas) (put_listed b bs)
    ∙ sym (ap (λ u. cond u (area_of b ∷ area_of x ∷ map area_of bs) (area_of x ∷ with_block (area_of b) (map area_of bs))) f))
    (cases_Bool (nat_lt b.first x.first))

-- no block begins at a word, so none is taken out
pub none_listed : (word : ℕ) (bs : List Block) → ((k : ℕ) → k < length bs → (listed_at bs k).first ≢ word)
    → without_block word (map area_of bs) ≡ map area_of bs
none_listed word [] h = refl
none_listed word (x ∷ bs) h = rw (ne_eqb x.first word (h 0 (omega arith)))
    (ap (λ (areas : List Area). area_of x ∷ areas) (none_listed word bs (λ k lt. h (suc k) (omega arith))))

-- the block that begins at a word is taken out
pub take_listed : (word : ℕ) (bs : List Block) (i : ℕ) → AreRising bs → i < length bs → (listed_at bs i).first ≡ word →
    map area_of (remove bs i) ≡ without_block word (map area_of bs)
take_listed word [] i up lt is = absurd (omega arith)
take_listed word (x ∷ bs) zero up lt is =
    rw (eq-eqb x.first word is) (sym (none_listed word bs (λ k l e. let less = up 0 (suc k) (omega arith) (omega arith) in
    omega (arith, less, e, is))))
take_listed word (x ∷ bs) (suc i) up lt is =
    let less = up 0 (suc i) (omega arith) lt in
    rw (ne_eqb x.first word (λ e. omega (arith, less, e, is)))
    (ap (λ (areas : List Area). area_of x ∷ areas) (take_listed word bs i (λ j k l w. up (suc j) (suc k) (omega arith) (omega arith))
    (omega arith) is))

-- blocks that lie apart rise
apart_low : (low high : ℕ) (bs : List Block) (k : ℕ) → AreApart low high (map area_of bs) → k < length bs → low ≤ (listed_at bs k).first
apart_low low high [] k h lt = absurd (omega arith)
apart_low low high (x ∷ bs) zero h lt = h.0
apart_low low high (x ∷ bs) (suc k) h lt = omega (arith, h.0, apart_low (x.first + x.count) high bs k h.2 (omega arith))

pub apart_rising : (low high : ℕ) (bs : List Block) → AreApart low high (map area_of bs) → AreRising bs
apart_rising low high [] h i j lt within = absurd (omega arith)
apart_rising low high (x ∷ bs) h zero zero lt within = absurd (omega arith)
apart_rising low high (x ∷ bs) h zero (suc j) lt within = omega (arith, h.1, apart_low (x.first + x.count) high bs j h.2 (omega arith))
apart_rising low high (x ∷ bs) h (suc i) zero lt within = absurd (omega arith)
apart_rising low high (x ∷ bs) h (suc i) (suc j) lt within = apart_rising (x.first + x.count) high bs h.2 i j (omega arith) (omega arith)

-- how many blocks begin at a word or before it
abbrev pub blocks_to : ℕ → List Block → ℕ
blocks_to word bs = position_or_len (λ (b : Block). nat_lt word b.first) bs

pub listed_before : (word : ℕ) (bs : List Block) (k : ℕ) → k < blocks_to word bs → (listed_at bs k).first ≤ word
listed_before word bs k lt = ltb-false word (listed_at bs k).first
    (fails_before_first (λ (b : Block). nat_lt word b.first) bs k no_block lt)

pub listed_behind : (word : ℕ) (bs : List Block) → AreRising bs → (k : ℕ) → blocks_to word bs ≤ k → k < length bs
    → word < (listed_at bs k).first
listed_behind word bs up k le lt =
    let n : ℕ = blocks_to word bs in
    let first : word < (listed_at bs n).first = ltb-true word (listed_at bs n).first
    (passes_at_first (λ (b : Block). nat_lt word b.first) bs no_block (omega arith)) in
    ⊎_elim
    (λ (more : n < k). let less = up n k more lt in omega (arith, first, less))
    (λ (same : k ≤ n). let e : k ≡ n = omega arith in rw e first)
    (cases_lt n k)

-- the blocks of a heap rise
pub stored_rising : (first count : ℕ) (ps : List Part) (live capacity : ℕ) (bs : List Block) (room : ℕ)
    → AreStored first count ps live capacity bs room →
    AreRising bs
stored_rising first count ps live capacity bs room h =
    apart_rising first (first + count) bs (subst (λ (areas : List Area). AreApart first (first + count) areas) (sym h.listed)
    (Fill-apart first (first + count) true ps h.are.fill))
