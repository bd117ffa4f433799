-- The index of the gates, as gates come and go.
use Rattle.std.proofs.Common.{◌≡◌, ℕ, ◌+◌, ◌-◌, ◌<◌, ◌≤◌, Bool, true, not, cond, ◌==◌, ◌&&◌, List, [], ◌∷◌, ◌++◌, length, get_or, set}
use Rattle.std.proofs.Common.{replicate, None, Some, inl, inr, refl, sym, ap, subst, ◌∙◌, arith, length-set, get_or-set_same}
use Rattle.std.proofs.Common.{get_or-set_other, ⊎_elim}
use Rattle.std.specs.Option.{is_some}
use Rattle.std.specs.List.{position_or_len, remove, insert}
use Rattle.std.proofs.lemmas.Bool.{cases_Bool, cases_eq, cases_lt, and_parts, eqb-true, eq-eqb, ne_eqb, false≢true}
use Rattle.std.proofs.lemmas.List.{get_or-replicate, length-replicate, length-append}
use Rattle.std.proofs.lemmas.List.Edits.{length-insert, length-remove, insert_end, get_or-insert_below, get_or-insert_at}
use Rattle.std.proofs.lemmas.List.Edits.{get_or-insert_above}
use Rattle.std.proofs.lemmas.List.Quantifiers.{all_pairs_remove}
use Rattle.std.proofs.lemmas.List.Sums.{sum_by-append, sum_by-remove, sum_by-cons, passes_at_first, prefix_len-le-length}
use Rattle.mx_model.specs.declared.values.Gate.{Gate}
use Rattle.mx_model.specs.Gates.{is_at, gate_at, has_gate, without_gate}
use Rattle.mx_model.specs.Gates.{AreSingle}
use Rattle.mx_gates.specs.Index.{bucket, lying, is_before, AreRising, no_gate, place_of, Indexes}
use Rattle.mx_gates.proofs.Lists.{list_any-find, find_none-at}
use Rattle.mx_gates.proofs.Apart.{place_in, removed, found-without, found-insert}
use Rattle.mx_gates.proofs.Order.{before_place, behind_place, before-total, before-apart}

abbrev one_if : Bool → ℕ
one_if t = cond t 1 0

-- a gate that stands there lies in the bucket
bucket_at : (domain word : ℕ) (g : Gate) → is_at domain word g ≡ true → bucket g.domain g.word ≡ bucket domain word
bucket_at domain word g here =
    let parts = and_parts _ _ here in
    ap (λ x. bucket x g.word) (eqb-true g.domain domain parts.0) ∙ ap (λ x. bucket domain x) (eqb-true g.word word parts.1)

-- sorted gates are apart
pub AreRising-apart : (sorted : List Gate) → AreRising sorted → AreSingle sorted
AreRising-apart sorted up i j d lt within = before-apart (get_or sorted i d) (get_or sorted j d) (up i j d lt within)

place-le : (domain word : ℕ) (sorted : List Gate) → place_of domain word sorted ≤ length sorted
place-le domain word sorted = prefix_len-le-length (λ g. not (not (is_before domain word g))) sorted

pub Indexes-none : Indexes [] [] (replicate {A = ℕ} 2048 0)
Indexes-none = record {
  rising = λ i j d low high. absurd (omega arith);
  many = refl;
  same = λ domain word. refl;
  buckets = length-replicate {A = ℕ} 2048 0;
  counted = λ b low. get_or-replicate {A = ℕ} 2048 b 0 0 low;
}

-- a bucket in which no gate lies has none there
pub lying-none : (gates : List Gate) (domain word : ℕ) → lying (bucket domain word) gates ≡ 0 → gate_at gates domain word ≡ None
lying-none [] domain word none = refl
lying-none (g ∷ gates) domain word none =
    let b = bucket domain word in
    let all : lying b (g ∷ gates) ≡ cond (bucket g.domain g.word == b) 1 0 + lying b gates =
    sum_by-cons (λ (x : Gate). cond (bucket x.domain x.word == b) 1 0) g gates in
    let rest : lying b gates ≡ 0 = omega (arith, all, none) in
    elim (cases_Bool (is_at domain word g)) [
      | inl here ↦
          let same : (bucket g.domain g.word == b) ≡ true = eq-eqb (bucket g.domain g.word) b (bucket_at domain word g here) in
          let one : cond (bucket g.domain g.word == b) 1 0 ≡ 1 = ap one_if same in
          absurd (omega (arith, all, none, one))
      | inr there ↦ ap (λ t. cond t (Some g) (gate_at gates domain word)) there ∙ lying-none gates domain word rest
    ]

-- a gate that stands there lies in its bucket
pub lying-some : (gates : List Gate) (domain word : ℕ) → has_gate gates domain word ≡ true → 0 < lying (bucket domain word) gates
lying-some gates domain word has = ⊎_elim (λ (some : 0 < lying (bucket domain word) gates). some)
    (λ (none : lying (bucket domain word) gates ≤ 0).
    let zero_is : lying (bucket domain word) gates ≡ 0 = omega arith in
    absurd (false≢true (sym (ap is_some (lying-none gates domain word zero_is)) ∙ sym (list_any-find (is_at domain word) gates) ∙ has)))
    (cases_lt 0 (lying (bucket domain word) gates))

module _ (gates sorted : List Gate) (counts : List ℕ) (x : Indexes gates sorted counts) (domain word : ℕ) where
  -- the sorted gates have one there where the list has one
  pub Indexes-has : has_gate gates domain word ≡ true → has_gate sorted domain word ≡ true
  Indexes-has has = list_any-find (is_at domain word) sorted ∙ ap is_some (x.same domain word)
      ∙ sym (list_any-find (is_at domain word) gates) ∙ has

  -- without the gate that stands there
  pub Indexes-without : AreSingle gates → has_gate gates domain word ≡ true
      → Indexes (without_gate domain word gates) (remove sorted (position_or_len (is_at domain word) sorted))
      (set counts (bucket domain word) (get_or counts (bucket domain word) 0 - 1))
  Indexes-without apart has =
      let b = bucket domain word in
      let has_sorted = Indexes-has has in
      let k = position_or_len (is_at domain word) gates in
      let within = place_in domain word gates has in
      let within_sorted = place_in domain word sorted has_sorted in
      let gone = removed domain word gates apart has in
      let gone_sorted = removed domain word sorted (AreRising-apart sorted x.rising) has_sorted in
      let fewer : length (without_gate domain word gates) + 1 ≡ length gates = ap (λ xs. length xs + 1) (sym gone)
      ∙ length-remove gates k within in
      let fewer_sorted = length-remove sorted (position_or_len (is_at domain word) sorted) within_sorted in
      let there : is_at domain word (get_or gates k no_gate) ≡ true = passes_at_first (is_at domain word) gates no_gate within in
      let bucket_is : bucket (get_or gates k no_gate).domain (get_or gates k no_gate).word ≡ b =
      bucket_at domain word (get_or gates k no_gate) there in
      let low : b < 2048 = omega arith in
      let lie : (c : ℕ) → lying c (without_gate domain word gates) + cond (b == c) 1 0 ≡ lying c gates =
      λ c. subst (λ xs. lying c xs + cond (b == c) 1 0 ≡ lying c gates) gone
      (subst (λ e. lying c (remove gates k) + cond (e == c) 1 0 ≡ lying c gates) bucket_is
      (sum_by-remove (λ (g : Gate). cond (bucket g.domain g.word == c) 1 0) gates k no_gate within)) in
      record {
        rising = all_pairs_remove (λ (g h : Gate). is_before h.domain h.word g ≡ true) sorted (position_or_len (is_at domain word) sorted)
            within_sorted x.rising;
        many = omega (arith, fewer, fewer_sorted, x.many);
        same = λ d w. ap (λ xs. gate_at xs d w) gone_sorted ∙ found-without domain word sorted d w
            ∙ ap (λ o. cond ((d == domain) && (w == word)) None o) (x.same d w) ∙ sym (found-without domain word gates d w);
        buckets = length-set counts b (get_or counts b 0 - 1) ∙ x.buckets;
        counted = λ c less. elim (cases_eq c b) [
          | inl same ↦
              let one : cond (b == c) 1 0 ≡ 1 = ap one_if (eq-eqb b c (sym same)) in
              let now : get_or (set counts b (get_or counts b 0 - 1)) c 0 ≡ get_or counts b 0 - 1 =
              ap (λ k. get_or (set counts b (get_or counts b 0 - 1)) k 0) same
              ∙ get_or-set_same counts b (get_or counts b 0 - 1) 0 (omega (arith, x.buckets)) in
              let was : get_or counts b 0 ≡ lying c gates = x.counted b low ∙ ap (λ e. lying e gates) (sym same) in
              omega (arith, now, was, lie c, one)
          | inr other ↦
              let zero_is : cond (b == c) 1 0 ≡ 0 = ap one_if (ne_eqb b c (λ e. other (sym e))) in
              let now : get_or (set counts b (get_or counts b 0 - 1)) c 0 ≡ get_or counts c 0 =
              get_or-set_other counts b c (get_or counts b 0 - 1) 0 other in
              omega (arith, now, x.counted c less, lie c, zero_is)
        ];
      }

-- the gate put at its place among the others, where none stood
module _ (gates sorted : List Gate) (counts : List ℕ) (x : Indexes gates sorted counts) (g : Gate)
    (none : gate_at gates g.domain g.word ≡ None) where
  rising-insert : AreRising (insert sorted (place_of g.domain g.word sorted) g)
  rising-insert i j d lt within =
      let p = place_of g.domain g.word sorted in
      let fits : p ≤ length sorted = place-le g.domain g.word sorted in
      let long = length-insert sorted p g fits in
      let none_sorted : gate_at sorted g.domain g.word ≡ None = x.same g.domain g.word ∙ none in
      let front : (k : ℕ) → k < p → is_before g.domain g.word (get_or sorted k d) ≡ true = λ k l.
      before_place g.domain g.word sorted x.rising d k l in
      let back : (k : ℕ) → p ≤ k → k < length sorted → is_before (get_or sorted k d).domain (get_or sorted k d).word g ≡ true =
      λ k ge l. before-total g (get_or sorted k d) (behind_place g.domain g.word sorted x.rising d k ge l)
      (find_none-at (is_at g.domain g.word) sorted k d none_sorted l) in
      ⊎_elim
      (λ (jp : j < p). rw (get_or-insert_below sorted p g d i (omega arith) fits, get_or-insert_below sorted p g d j jp fits)
      (x.rising i j d lt (omega arith)))
      (λ (pj : p ≤ j). ⊎_elim
      (λ (after : p < j).
      let e : j ≡ (j - 1) + 1 = omega arith in
      let read : get_or (insert sorted p g) j d ≡ get_or sorted (j - 1) d = ap (λ k. get_or (insert sorted p g) k d) e
      ∙ get_or-insert_above sorted p g d (j - 1) (omega arith) fits in
      ⊎_elim
      (λ (ip : i < p). rw (read, get_or-insert_below sorted p g d i ip fits)
      (x.rising i (j - 1) d (omega arith) (omega (arith, long, within))))
      (λ (pi : p ≤ i). ⊎_elim
      (λ (more : p < i).
      let e' : i ≡ (i - 1) + 1 = omega arith in
      let read' : get_or (insert sorted p g) i d ≡ get_or sorted (i - 1) d = ap (λ k. get_or (insert sorted p g) k d) e'
      ∙ get_or-insert_above sorted p g d (i - 1) (omega arith) fits in
      rw (read, read') (x.rising (i - 1) (j - 1) d (omega arith) (omega (arith, long, within))))
      (λ (same : i ≤ p).
      let e' : i ≡ p = omega arith in
      let read' : get_or (insert sorted p g) i d ≡ g = ap (λ k. get_or (insert sorted p g) k d) e' ∙ get_or-insert_at sorted p g d fits in
      rw (read, read') (back (j - 1) (omega arith) (omega (arith, long, within))))
      (cases_lt p i))
      (cases_lt i p))
      (λ (same : j ≤ p).
      let e : j ≡ p = omega arith in
      let read : get_or (insert sorted p g) j d ≡ g = ap (λ k. get_or (insert sorted p g) k d) e ∙ get_or-insert_at sorted p g d fits in
      rw (read, get_or-insert_below sorted p g d i (omega arith) fits) (front i (omega arith)))
      (cases_lt p j))
      (cases_lt j p)

  pub Indexes-with : Indexes (gates ++ g ∷ []) (insert sorted (place_of g.domain g.word sorted) g)
      (set counts (bucket g.domain g.word) (get_or counts (bucket g.domain g.word) 0 + 1))
  Indexes-with =
      let b = bucket g.domain g.word in
      let p = place_of g.domain g.word sorted in
      let low : b < 2048 = omega arith in
      let last : insert gates (length gates) g ≡ gates ++ g ∷ [] = insert_end gates g in
      let lie : (c : ℕ) → lying c (gates ++ g ∷ []) ≡ lying c gates + cond (b == c) 1 0 =
      λ c. sum_by-append (λ (h : Gate). cond (bucket h.domain h.word == c) 1 0) gates (g ∷ [])
      ∙ ap (λ n. lying c gates + n) (omega (arith, sum_by-cons (λ (h : Gate). cond (bucket h.domain h.word == c) 1 0) g [])) in
      record {
        rising = rising-insert;
        many = omega (arith, length-insert sorted p g (place-le g.domain g.word sorted), length-append gates (g ∷ []), x.many);
        same = λ d w. found-insert sorted p g (x.same g.domain g.word ∙ none) d w
            ∙ ap (λ o. cond (is_at d w g) (Some g) o) (x.same d w)
            ∙ sym (found-insert gates (length gates) g none d w) ∙ ap (λ xs. gate_at xs d w) last;
        buckets = length-set counts b (get_or counts b 0 + 1) ∙ x.buckets;
        counted = λ c less. elim (cases_eq c b) [
          | inl same ↦
              let one : cond (b == c) 1 0 ≡ 1 = ap one_if (eq-eqb b c (sym same)) in
              let now : get_or (set counts b (get_or counts b 0 + 1)) c 0 ≡ get_or counts b 0 + 1 =
              ap (λ k. get_or (set counts b (get_or counts b 0 + 1)) k 0) same
              ∙ get_or-set_same counts b (get_or counts b 0 + 1) 0 (omega (arith, x.buckets)) in
              let was : get_or counts b 0 ≡ lying c gates = x.counted b low ∙ ap (λ e. lying e gates) (sym same) in
              omega (arith, now, was, lie c, one)
          | inr other ↦
              let zero_is : cond (b == c) 1 0 ≡ 0 = ap one_if (ne_eqb b c (λ e. other (sym e))) in
              let now : get_or (set counts b (get_or counts b 0 + 1)) c 0 ≡ get_or counts c 0 =
              get_or-set_other counts b c (get_or counts b 0 + 1) 0 other in
              omega (arith, now, x.counted c less, lie c, zero_is)
        ];
      }
