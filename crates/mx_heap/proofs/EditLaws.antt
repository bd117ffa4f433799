-- A hole split by a block, and a block's end that joins the holes around it.
use Rattle.std.proofs.Common.{ℕ, zero, suc, ◌≡◌, ◌+◌, ◌-◌, ◌<◌, ◌≤◌, ◌⊎◌, inl, inr, ⊎_elim, Bool, true, false, List, [], ◌∷◌, ◌++◌, length}
use Rattle.std.proofs.Common.{take, drop, refl, sym, ◌∙◌, ap, subst, arith, length-append}
use Rattle.std.specs.Prelude.{nat_lt, if◌then◌else◌}
use Rattle.std.specs.List.{insert}
use Rattle.std.proofs.lemmas.Bool.{lt-ltb, le-ltb, true_from_ne_false}
use Rattle.std.proofs.lemmas.List.{append_assoc, get_or_at, set_at, take_at, drop_at, length_push, length-take-le}
use Rattle.mx_words.specs.FirstFit.{Area, with_block}
use Rattle.mx_heap.specs.declared.parts.Part.{Part}
use Rattle.mx_words.specs.FirstFit.{AreApart}
use Rattle.mx_heap.specs.Places.{Fill, blocks_of, part_at, wall, hole, live_part, with_hole, split}
use Rattle.mx_heap.proofs.FillLaws.{end_of, last_live, Fill-append, Fill-left, Fill-right, Fill-apart, apart_lower, blocks-hole}
use Rattle.mx_heap.proofs.FillLaws.{blocks-append}
use Rattle.mx_heap.proofs.RoomLaws.{cut_at}
use Rattle.mx_heap.proofs.BlockLaws.{with_block_between}

-- a hole in front of parts, where it has a word
abbrev pub hole_before : ℕ → ℕ → List Part → List Part
hole_before from n ps = if nat_lt 0 n then hole from n ∷ ps else ps

Fill-any : (low high : ℕ) (l : Bool) (ps : List Part) → Fill low high l ps → Fill low high true ps
Fill-any low high l [] h = h
Fill-any low high l (p ∷ ps) h = (h.0, h.1, λ e. let no : true ≡ false = e in cc, h.3)

Fill-hole_before : (from n high : ℕ) (ps : List Part) → Fill (from + n) high false ps → Fill from high true (hole_before from n ps)
Fill-hole_before from n high ps h = ⊎_elim
    (λ (some : 0 < n). rw (lt-ltb 0 n some) (refl, some, λ e. let no : true ≡ false = e in cc, h))
    (λ (none : n ≤ 0). let same : from + n ≡ from = omega arith in
    let here : Fill from high true ps = subst (λ z. Fill z high true ps) same (Fill-any (from + n) high false ps h) in
    rw (le-ltb 0 n none) here)
    (cases_none n)
  where
    cases_none : (n : ℕ) → (0 < n) ⊎ (n ≤ 0)
    cases_none zero = inr (omega arith)
    cases_none (suc n) = inl (omega arith)

blocks-hole_before : (from n : ℕ) (ps : List Part) → blocks_of (hole_before from n ps) ≡ blocks_of ps
blocks-hole_before from n ps = elim (nat_lt 0 n) as (λ b. blocks_of (if b then hole from n ∷ ps else ps) ≡ blocks_of ps) [
  | true ↦
      refl
  | false ↦ refl
]

with_hole-at : (xs ys : List Part) (i from n : ℕ) → length xs ≡ i → with_hole (xs ++ ys) i from n ≡ xs ++ hole_before from n ys
with_hole-at xs ys i from n e =
    let put : insert (xs ++ ys) i (hole from n) ≡ xs ++ hole from n ∷ ys = rw (take_at xs ys i e, drop_at xs ys i e) refl in
    rw put (elim (nat_lt 0 n) as (λ b. ◌≡◌ {A = List Part} (if b then xs ++ hole from n ∷ ys else xs ++ ys)
    (xs ++ (if b then hole from n ∷ ys else ys))) [ true ↦ refl | false ↦ refl ])

-- one part further on
step : (xs : List Part) (p : Part) (ys : List Part) → (xs ++ p ∷ []) ++ ys ≡ xs ++ p ∷ ys
step xs p ys = append_assoc xs (p ∷ []) ys

with_hole-next : (xs : List Part) (p : Part) (ys : List Part) (i from n : ℕ) → length xs ≡ i
    → with_hole (xs ++ p ∷ ys) (i + 1) from n ≡ xs ++ p ∷ hole_before from n ys
with_hole-next xs p ys i from n e =
    let len : length (xs ++ p ∷ []) ≡ i + 1 = length_push xs p ∙ ap (λ z. z + 1) e in
    ap (λ (ps : List Part). with_hole ps (i + 1) from n) (sym (step xs p ys)) ∙ with_hole-at (xs ++ p ∷ []) ys (i + 1) from n len
    ∙ step xs p (hole_before from n ys)

pub split-at : (xs : List Part) (h : Part) (ys : List Part) (i first count : ℕ) → length xs ≡ i →
    split (xs ++ h ∷ ys) i first count ≡ xs ++ hole_before h.first (first - h.first)
    (live_part first count ∷ hole_before (first + count) (h.first + h.count - (first + count)) ys)
split-at xs h ys i first count e =
    rw (
      get_or_at xs h ys wall i e,
      set_at xs h ys (live_part first count) i e,
      with_hole-next xs (live_part first count) ys i (first + count) (h.first + h.count - (first + count)) e,
    )
    (with_hole-at xs (live_part first count ∷ hole_before (first + count) (h.first + h.count - (first + count)) ys) i h.first
    (first - h.first) e)

-- what a list of parts that fill an area is around one of them
pub record Around (low high : ℕ) (l : Bool) (ps : List Part) (i : ℕ) : Type 0 where
  pub cut : ps ≡ take i ps ++ part_at ps i ∷ drop (i + 1) ps
  pub len : length (take i ps) ≡ i
  pub left : Fill low (end_of low (take i ps)) l (take i ps)
  pub first : (part_at ps i).first ≡ end_of low (take i ps)
  pub some : 0 < (part_at ps i).count
  pub merged : last_live l (take i ps) ≡ false → (part_at ps i).live ≡ true
  pub right : Fill (end_of low (take i ps) + (part_at ps i).count) high (part_at ps i).live (drop (i + 1) ps)

pub around : (low high : ℕ) (l : Bool) (ps : List Part) (i : ℕ) → Fill low high l ps → i < length ps → Around low high l ps i
around low high l ps i fill lt =
    let cut : ps ≡ take i ps ++ part_at ps i ∷ drop (i + 1) ps = cut_at ps i lt in
    let here : Fill low high l (take i ps ++ part_at ps i ∷ drop (i + 1) ps) = subst (λ (qs : List Part). Fill low high l qs) cut fill in
    let right : Fill (end_of low (take i ps)) high (last_live l (take i ps)) (part_at ps i ∷ drop (i + 1) ps) =
    Fill-right low high l (take i ps) (part_at ps i ∷ drop (i + 1) ps) here in
    record {
      cut = cut;
      len = length-take-le i ps (omega arith);
      left = Fill-left low high l (take i ps) (part_at ps i ∷ drop (i + 1) ps) here;
      first = right.0;
      some = right.1;
      merged = right.2;
      right = right.3;
    }

-- the parts after a block was put into a hole
pub record AfterSplit (low high : ℕ) (l : Bool) (ps : List Part) (i first count : ℕ) : Type 0 where
  pub fill : Fill low high l (split ps i first count)
  pub blocks : blocks_of (split ps i first count) ≡ with_block (record { first = first; count = count }) (blocks_of ps)
  pub more : length (blocks_of (split ps i first count)) ≡ length (blocks_of ps) + 1

pub after_split : (low high : ℕ) (l : Bool) (ps : List Part) (i first count : ℕ) → Fill low high l ps → i < length ps
    → (part_at ps i).live ≡ false →
    0 < count → (part_at ps i).first ≤ first → first + count ≤ (part_at ps i).first + (part_at ps i).count
    → AfterSplit low high l ps i first count
after_split low high l ps i first count fill lt free some begins ends =
    let a : Around low high l ps i = around low high l ps i fill lt in
    let h : Part = part_at ps i in
    let xs : List Part = take i ps in
    let ys : List Part = drop (i + 1) ps in
    let tail : List Part = hole_before (first + count) (h.first + h.count - (first + count)) ys in
    let is : split ps i first count ≡ xs ++ hole_before h.first (first - h.first) (live_part first count ∷ tail) =
    ap (λ (qs : List Part). split qs i first count) a.cut ∙ split-at xs h ys i first count a.len in
    let right : Fill (end_of low xs + h.count) high false ys = rw free at a.right in
    let to_end : end_of low xs + h.count ≡ first + count + (h.first + h.count - (first + count)) = omega (arith, a.first) in
    let behind : Fill (first + count) high true tail =
    Fill-hole_before (first + count) (h.first + h.count - (first + count)) high ys (subst (λ z. Fill z high false ys) to_end right) in
    let begin : first ≡ h.first + (first - h.first) = omega arith in
    let block : Fill (h.first + (first - h.first)) high false (live_part first count ∷ tail) =
    (begin, some, (λ _. refl), subst (λ z. Fill (z + count) high true tail) begin behind) in
    let whole : Fill h.first high true (hole_before h.first (first - h.first) (live_part first count ∷ tail)) =
    Fill-hole_before h.first (first - h.first) high (live_part first count ∷ tail) block in
    let live : last_live l xs ≡ true = true_from_ne_false (last_live l xs) (λ e. let t : h.live ≡ true = a.merged e in
    let f : h.live ≡ false = free in cc) in
    let from : Fill (end_of low xs) high (last_live l xs) (hole_before h.first (first - h.first) (live_part first count ∷ tail)) =
    rw live (subst (λ z. Fill z high true (hole_before h.first (first - h.first) (live_part first count ∷ tail))) a.first whole) in
    let new : blocks_of (split ps i first count) ≡ blocks_of xs ++ (record { first = first; count = count }) ∷ blocks_of ys =
    ap (λ (qs : List Part). blocks_of qs) is
    ∙ blocks-append xs (hole_before h.first (first - h.first) (live_part first count ∷ tail))
    ∙ ap (λ (bs : List Area). blocks_of xs ++ bs) (blocks-hole_before h.first (first - h.first) (live_part first count ∷ tail)
    ∙ ap (λ (bs : List Area). record { first = first; count = count } ∷ bs)
    (blocks-hole_before (first + count) (h.first + h.count - (first + count)) ys)) in
    let old : blocks_of ps ≡ blocks_of xs ++ blocks_of ys =
    ap (λ (qs : List Part). blocks_of qs) a.cut ∙ blocks-append xs (h ∷ ys)
    ∙ ap (λ (bs : List Area). blocks_of xs ++ bs) (blocks-hole h ys free) in
    let low_le : end_of low xs ≤ first = omega (arith, a.first) in
    let apart : AreApart (first + count) high (blocks_of ys) =
    apart_lower (end_of low xs + h.count) (first + count) high (blocks_of ys) (omega (arith, a.first))
    (Fill-apart (end_of low xs + h.count) high false ys right) in
    record {
      fill = rw is (Fill-append low high l xs (hole_before h.first (first - h.first) (live_part first count ∷ tail)) a.left from);
      blocks = new ∙ sym (rw old (with_block_between low (end_of low xs) high (record { first = first; count = count }) (blocks_of xs)
          (blocks_of ys)
          (Fill-apart low (end_of low xs) l xs a.left) low_le some apart));
      more = rw (new, old) (omega (
        arith,
        length-append (blocks_of xs) (blocks_of ys),
        length-append (blocks_of xs)
            (record { first = first; count = count } ∷ blocks_of ys),
      ));
    }
