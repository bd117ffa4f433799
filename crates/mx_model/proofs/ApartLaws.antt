-- Blocks that lie apart, and gates of which one at most stands for a domain at a word, under the edits that a turn makes.
use Rattle.std.proofs.Common.{◌≡◌, ℕ, ◌+◌, ◌<◌, ◌≤◌, Bool, true, false, not, cond, nat_lt, ◌==◌, List, [], ◌∷◌, ◌++◌, length, get_or, refl}
use Rattle.std.proofs.Common.{arith, ◌⊎◌, ⊎_elim}
use Rattle.std.specs.Prelude.{filter}
use Rattle.std.specs.List.{AllByRecursion, list_any}
use Rattle.std.proofs.lemmas.Bool.{ltb-true, ltb-false, lt-ltb, ne_eqb, or_parts, eq-eqb}
use Rattle.std.proofs.lemmas.Bool.Decides.{eqb_tells}
use Rattle.mx_words.specs.FirstFit.{AreApart, Area, with_block, without_block}
use Rattle.mx_words.specs.Ranges.{overlaps}
use Rattle.mx_model.specs.declared.values.Gate.{Gate}
use Rattle.mx_model.specs.Gates.{AreSingle, is_at, without_gate}
use Rattle.std.proofs.lemmas.List.Kept.{AllPairs-filter}
use Rattle.std.proofs.lemmas.List.Quantifiers.{all_pairs_push}
use Rattle.mx_model.proofs.ListLaws.{all-in}

-- blocks apart
pub apart-lower : (low low' high : ℕ) (bs : List Area) → low' ≤ low → AreApart low high bs → AreApart low' high bs
apart-lower low low' high [] e p = omega (arith, e, p)
apart-lower low low' high (b ∷ bs) e p = let q = p.0 in (omega (arith, e, q), p.1, p.2)

pub apart-without : (first low high : ℕ) (bs : List Area) → AreApart low high bs → AreApart low high (without_block first bs)
apart-without first low high [] p = p
apart-without first low high (b ∷ bs) p =
    elim (not (b.first == first)) as (λ t. AreApart low high (cond t (b ∷ without_block first bs) (without_block first bs))) [
      | true ↦ (p.0, p.1, apart-without first (b.first + b.count) high bs p.2)
      | false ↦ apart-lower (b.first + b.count) low high (without_block first bs) (let r = p.0 in omega (arith, r))
          (apart-without first (b.first + b.count) high bs p.2)
    ]

-- ranges of words that don't meet
apart-ranges : (a n b m : ℕ) → 0 < n → 0 < m → overlaps a n b m ≡ false → (a + n ≤ b) ⊎ (b + m ≤ a)
apart-ranges a n b m p q e = search (arith, ltb-true, lt-ltb, ltb-false)

-- a block that meets none of the others
pub apart-with : (c : Area) (low high : ℕ) (bs : List Area) → low ≤ c.first → c.first + c.count ≤ high → 0 < c.count →
    list_any (λ (b : Area). overlaps b.first b.count c.first c.count) bs ≡ false → AreApart low high bs
    → AreApart low high (with_block c bs)
apart-with c low high [] l u s e p = (l, s, u)
apart-with c low high (b ∷ bs) l u s e p =
    let f = or_parts (overlaps b.first b.count c.first c.count) (list_any (λ (x : Area). overlaps x.first x.count c.first c.count) bs) e in
    let r = apart-ranges b.first b.count c.first c.count p.1 s f.0 in
    elim (nat_lt c.first b.first) as (λ t. nat_lt c.first b.first ≡ t → AreApart low high (cond t (c ∷ b ∷ bs) (b ∷ with_block c bs))) [
      | true ↦ λ t. let v = ltb-true c.first b.first t in
          let k : c.first + c.count ≤ b.first = ⊎_elim (λ x. let y : c.first + c.count ≤ b.first = omega (arith, x, v) in y) (λ x. x) r in
          (l, s, (k, p.1, p.2))
      | false ↦ λ t. let v = ltb-false c.first b.first t in
          let w = p.1 in
          let k : b.first + b.count ≤ c.first = ⊎_elim (λ x. x) (λ x. let y : b.first + b.count ≤ c.first = omega (arith, x, v, s, w) in y)
          r in
          (p.0, p.1, apart-with c (b.first + b.count) high bs k u s f.1 p.2)
    ] refl

-- gates, at most one for each domain and word
pub single-filter : (test : Gate → Bool) (gs : List Gate) → AreSingle gs → AreSingle (filter test gs)
single-filter test gs p = AllPairs-filter (λ (g h : Gate). is_at g.domain g.word h ≡ false) test gs p

pub single-push : (g : Gate) (gs : List Gate) → AreSingle gs →
    ((k : ℕ) (d : Gate) → k < length gs → is_at (get_or gs k d).domain (get_or gs k d).word g ≡ false) →
    AreSingle (gs ++ g ∷ [])
single-push g gs p q = all_pairs_push (λ (g h : Gate). is_at g.domain g.word h ≡ false) gs g p q

pub single-append : (g : Gate) (gs : List Gate) → AllByRecursion (λ h. is_at h.domain h.word g ≡ false) gs → AreSingle gs
    → AreSingle (gs ++ g ∷ [])
single-append g gs q p = single-push g gs p (λ k d l. all-in (λ (h : Gate). is_at h.domain h.word g ≡ false) gs d q k l)

-- no gate of those without a domain and word is for these
pub at-flipped : (g h : Gate) → is_at g.domain g.word h ≡ false → is_at h.domain h.word g ≡ false
at-flipped g h e = search (arith, h.domain, g.domain, h.word, g.word, eq-eqb, ne_eqb, eqb_tells)

pub single-others : (g : Gate) (gs : List Gate) → AllByRecursion (λ h. is_at h.domain h.word g ≡ false) (without_gate g.domain g.word gs)
single-others g [] = tt
single-others g (h ∷ hs) = elim (is_at g.domain g.word h) as (λ b. is_at g.domain g.word h ≡ b →
    AllByRecursion (λ x. is_at x.domain x.word g ≡ false) (cond (not b) (h ∷ without_gate g.domain g.word hs)
    (without_gate g.domain g.word hs))) [
      | true ↦ λ e. single-others g hs
      | false ↦ λ e. (at-flipped g h e, single-others g hs)
    ] refl
