-- Where a block has room among parts that fill an area, and that the first hole with room is the lowest place.
use Rattle.std.proofs.Common.{ℕ, zero, suc, ◌≡◌, ◌+◌, ◌-◌, ◌<◌, ◌≤◌, ⊎_elim, Bool, true, false, not, ◌&&◌, ◌||◌, List, [], ◌∷◌, ◌++◌}
use Rattle.std.proofs.Common.{length, take, drop, Some, None, refl, sym, ◌∙◌, ap, subst, arith}
use Rattle.std.specs.Prelude.{nat_le, nat_lt, if◌then◌else◌}
use Rattle.std.specs.List.{list_any, find, range_with_len, position, position_or_len}
use Rattle.std.proofs.lemmas.Bool.{cases_Bool, cases_lt, and_cases, and_from, and_left, and_right, or_left, or_right, or_from, lt-ltb}
use Rattle.std.proofs.lemmas.Bool.{le-ltb, le-leb, lt-leb, leb-true, leb-false, not_from_true, not_from_false, not-false, not-true}
use Rattle.std.proofs.lemmas.Bool.{false_from_ne_true, and_parts}
use Rattle.std.proofs.lemmas.List.{take-append-drop, drop_more}
use Rattle.std.proofs.lemmas.List.Quantifiers.{position-Some}
use Rattle.std.proofs.lemmas.List.Sums.{fails_before_first}
use Rattle.mx_words.specs.FirstFit.{Area, has_room, place}
use Rattle.mx_words.proofs.AreaLaws.{apart_ordered}
use Rattle.mx_words.specs.Ranges.{overlaps}
use Rattle.mx_heap.specs.declared.parts.Part.{Part}
use Rattle.mx_words.specs.FirstFit.{AreApart}
use Rattle.mx_heap.specs.Places.{Fill, blocks_of, part_at, is_hole_for, is_hole_around, wall}
use Rattle.mx_heap.proofs.FillLaws.{end_of, last_live, Fill-left, Fill-right, Fill-le, Fill-apart, blocks-live, blocks-hole, blocks-append}

-- two ranges, the first below, after and across the second
pub overlap_below : (f c a n : ℕ) → 0 < c → f + c ≤ a → overlaps f c a n ≡ false
overlap_below f c a n some le =
    let lt : f < a = omega arith in
    let far : c ≤ a - f = omega arith in
    and_right (nat_lt 0 c && nat_lt 0 n) (if nat_lt f a then nat_lt (a - f) c else nat_lt (f - a) n)
    (rw (lt-ltb f a lt) (le-ltb (a - f) c far))

pub overlap_behind : (f c a n : ℕ) → a + n ≤ f → overlaps f c a n ≡ false
overlap_behind f c a n le =
    let no : a ≤ f = omega arith in
    let far : n ≤ f - a = omega arith in
    and_right (nat_lt 0 c && nat_lt 0 n) (if nat_lt f a then nat_lt (a - f) c else nat_lt (f - a) n)
    (rw (le-ltb f a no) (le-ltb (f - a) n far))

pub overlap_across : (f c a n : ℕ) → 0 < c → 0 < n → f < a + n → a < f + c → overlaps f c a n ≡ true
overlap_across f c a n sc sn h k =
    and_from (nat_lt 0 c && nat_lt 0 n) (if nat_lt f a then nat_lt (a - f) c else nat_lt (f - a) n)
    (and_from (nat_lt 0 c) (nat_lt 0 n) (lt-ltb 0 c sc) (lt-ltb 0 n sn))
    (⊎_elim (λ lt. let near : a - f < c = omega arith in rw (lt-ltb f a lt) (lt-ltb (a - f) c near))
    (λ le. let near : f - a < n = omega arith in rw (le-ltb f a le) (lt-ltb (f - a) n near)) (cases_lt f a))

-- whether some block meets n words from word a on
abbrev pub met : ℕ → ℕ → List Area → Bool
met a n blocks = list_any (λ (b : Area). overlaps b.first b.count a n) blocks

pub met_below : (low high a n : ℕ) (bs : List Area) → AreApart low high bs → high ≤ a → met a n bs ≡ false
met_below low high a n [] h le = refl
met_below low high a n (b ∷ bs) h le =
    let end : b.first + b.count ≤ high = apart_ordered (b.first + b.count) high bs h.2 in
    or_from (overlaps b.first b.count a n) (met a n bs) (overlap_below b.first b.count a n h.1 (omega arith))
    (met_below (b.first + b.count) high a n bs h.2 le)

pub met_behind : (low high a n : ℕ) (bs : List Area) → AreApart low high bs → a + n ≤ low → met a n bs ≡ false
met_behind low high a n [] h le = refl
met_behind low high a n (b ∷ bs) h le =
    or_from (overlaps b.first b.count a n) (met a n bs) (overlap_behind b.first b.count a n (omega (arith, h.0)))
    (met_behind (b.first + b.count) high a n bs h.2 (omega (arith, h.0)))

pub met-append : (a n : ℕ) (bs cs : List Area) → met a n bs ≡ false → met a n cs ≡ false → met a n (bs ++ cs) ≡ false
met-append a n [] cs h k = k
met-append a n (b ∷ bs) cs h k = ⊎_elim
    (λ (t : overlaps b.first b.count a n ≡ true). let no : (overlaps b.first b.count a n || met a n bs) ≡ true =
    or_left (overlaps b.first b.count a n) (met a n bs) t in cc)
    (λ (f : overlaps b.first b.count a n ≡ false). let rest : met a n bs ≡ false = rw f at h in
    or_from (overlaps b.first b.count a n) (met a n (bs ++ cs)) f (met-append a n bs cs rest k))
    (cases_Bool (overlaps b.first b.count a n))

-- within a hole no block is met
pub met_in_hole : (low high : ℕ) (l : Bool) (xs : List Part) (h : Part) (ys : List Part) (a n : ℕ) → Fill low high l (xs ++ h ∷ ys) →
    h.live ≡ false → h.first ≤ a → a + n ≤ h.first + h.count → met a n (blocks_of (xs ++ h ∷ ys)) ≡ false
met_in_hole low high l xs h ys a n fill free begins ends =
    let left : Fill low (end_of low xs) l xs = Fill-left low high l xs (h ∷ ys) fill in
    let right : Fill (end_of low xs) high (last_live l xs) (h ∷ ys) = Fill-right low high l xs (h ∷ ys) fill in
    rw (blocks-append xs (h ∷ ys), blocks-hole h ys free)
    (met-append a n (blocks_of xs) (blocks_of ys)
    (met_below low (end_of low xs) a n (blocks_of xs) (Fill-apart low (end_of low xs) l xs left) (omega (arith, right.0)))
    (met_behind (end_of low xs + h.count) high a n (blocks_of ys) (Fill-apart (end_of low xs + h.count) high h.live ys right.3)
    (omega (arith, right.0))))

-- the parts around place i
pub cut_at : (ps : List Part) (i : ℕ) → i < length ps → ps ≡ take i ps ++ part_at ps i ∷ drop (i + 1) ps
cut_at ps i h = sym (take-append-drop i ps) ∙ ap (λ (qs : List Part). take i ps ++ qs) (drop_more ps i wall h)

-- a part's place in the area
pub part_bounds : (low high : ℕ) (l : Bool) (ps : List Part) (k : ℕ) → Fill low high l ps → k < length ps →
    (low ≤ (part_at ps k).first) × (0 < (part_at ps k).count) × ((part_at ps k).first + (part_at ps k).count ≤ high)
part_bounds low high l [] k h lt = absurd (omega arith)
part_bounds low high l (p ∷ ps) zero h lt =
    let end : low + p.count ≤ high = Fill-le (low + p.count) high p.live ps h.3 in (omega (arith, h.0), h.1, omega (arith, h.0))
part_bounds low high l (p ∷ ps) (suc k) h lt =
    let rest : (low + p.count ≤ (part_at ps k).first) × (0 < (part_at ps k).count) × ((part_at ps k).first + (part_at ps k).count ≤ high) =
    part_bounds (low + p.count) high p.live ps k h.3 (omega arith) in
    (omega (arith, rest.0), rest.1, rest.2)

pub part_order : (low high : ℕ) (l : Bool) (ps : List Part) (i k : ℕ) → Fill low high l ps → i ≤ k → k < length ps
    → (part_at ps i).first ≤ (part_at ps k).first
part_order low high l [] i k h le lt = absurd (omega arith)
part_order low high l (p ∷ ps) zero k h le lt = omega (arith, h.0, (part_bounds low high l (p ∷ ps) k h lt).0)
part_order low high l (p ∷ ps) (suc i) zero h le lt = absurd (omega arith)
part_order low high l (p ∷ ps) (suc i) (suc k) h le lt = part_order (low + p.count) high p.live ps i k h.3 (omega arith) (omega arith)

-- a hole from word x or below that doesn't hold n words from x on ends before they do
pub not_around : (p : Part) (x n : ℕ) → p.live ≡ false → p.first ≤ x → is_hole_around x n p ≡ false → p.first + p.count < x + n
not_around p x n free le e = ⊎_elim
    (λ f. let live : p.live ≡ true = not-false p.live f in let no : p.live ≡ false = free in cc)
    (λ f. ⊎_elim (λ g. let lt : x < p.first = leb-false p.first x g in absurd (omega arith)) (λ g. leb-false (x + n) (p.first + p.count) g)
    (and_cases (nat_le p.first x) (nat_le (x + n) (p.first + p.count)) f))
    (and_cases (not p.live) (nat_le p.first x && nat_le (x + n) (p.first + p.count)) e)

-- after a hole that ends too early stands a block, or nothing
pub next_met : (mid high : ℕ) (ps : List Part) (x n : ℕ) → Fill mid high false ps → 0 < n → x < mid → mid < x + n → x + n ≤ high
    → met x n (blocks_of ps) ≡ true
next_met mid high [] x n h some lt over le = absurd (omega (arith, h))
next_met mid high (q ∷ qs) x n h some lt over le =
    rw (blocks-live q qs (h.2 refl))
    (or_left (overlaps q.first q.count x n) (met x n (blocks_of qs))
    (overlap_across q.first q.count x n h.1 some (omega (arith, h.0)) (omega (arith, h.0))))

-- where no hole holds n words from word x on, they meet a block or leave the area
pub crossing : (low high : ℕ) (l : Bool) (ps : List Part) (x n : ℕ) → Fill low high l ps → 0 < n → low ≤ x → x + n ≤ high →
    ((k : ℕ) → k < length ps → is_hole_around x n (part_at ps k) ≡ false) → met x n (blocks_of ps) ≡ true
crossing low high l [] x n h some begins ends none = absurd (omega (arith, h))
crossing low high l (p ∷ ps) x n h some begins ends none = ⊎_elim
    (λ (within : x < low + p.count). ⊎_elim
    (λ (e : p.live ≡ true). rw (blocks-live p ps e)
    (or_left (overlaps p.first p.count x n) (met x n (blocks_of ps))
    (overlap_across p.first p.count x n h.1 some (omega (arith, h.0)) (omega (arith, h.0)))))
    (λ (e : p.live ≡ false). let over : p.first + p.count < x + n = not_around p x n e (omega (arith, h.0)) (none 0 (omega arith)) in
    let rest : Fill (low + p.count) high false ps = rw e at h.3 in
    rw (blocks-hole p ps e) (next_met (low + p.count) high ps x n rest some within (omega (arith, h.0)) ends))
    (cases_Bool p.live))
    (λ (beyond : low + p.count ≤ x).
    let rest : met x n (blocks_of ps) ≡ true = crossing (low + p.count) high p.live ps x n h.3 some beyond ends (λ k lt.
    none (suc k) (omega arith)) in
    ⊎_elim
    (λ e. rw (blocks-live p ps e) (or_right (overlaps p.first p.count x n) (met x n (blocks_of ps)) rest))
    (λ e. rw (blocks-hole p ps e) rest)
    (cases_Bool p.live))
    (cases_lt x (low + p.count))

-- what a search over a range of numbers finds
pub find_none : (p : ℕ → Bool) (s c : ℕ) → ((x : ℕ) → s ≤ x → x < s + c → p x ≡ false) → find p (range_with_len s c) ≡ None
find_none p s zero h = refl
find_none p s (suc c) h = rw (h s (omega arith) (omega arith)) (find_none p (s + 1) c (λ x le lt. h x (omega arith) (omega arith)))

pub find_first : (p : ℕ → Bool) (s c a : ℕ) → s ≤ a → a < s + c → p a ≡ true → ((x : ℕ) → s ≤ x → x < a → p x ≡ false)
    → find p (range_with_len s c) ≡ Some a
find_first p s zero a le lt e h = absurd (omega arith)
find_first p s (suc c) a le lt e h = ⊎_elim
    (λ below. rw (h s (omega arith) below) (find_first p (s + 1) c a (omega arith) (omega arith) e (λ x ge lx. h x (omega arith) lx)))
    (λ above. let same : s ≡ a = omega arith in rw (same, e) refl)
    (cases_lt s a)

pub position_none : (p : Part → Bool) (ps : List Part) → position p ps ≡ None → (k : ℕ) → k < length ps → p (part_at ps k) ≡ false
position_none p ps e k lt = ⊎_elim
    (λ found. let some : position p ps ≡ Some (position_or_len p ps) = rw (lt-ltb (position_or_len p ps) (length ps) found) refl in cc)
    (λ past. fails_before_first p ps k wall (omega arith))
    (cases_lt (position_or_len p ps) (length ps))

module _ (area : Area) (ps : List Part) (fill : Fill area.first (area.first + area.count) true ps) where
  -- a hole that holds n words from word a on gives room for them
  pub room_in_hole : (i a n : ℕ) → i < length ps → is_hole_around a n (part_at ps i) ≡ true → has_room area (blocks_of ps) n a ≡ true
  room_in_hole i a n lt around =
      let parts : (not (part_at ps i).live ≡ true) × ((nat_le (part_at ps i).first a
      && nat_le (a + n) ((part_at ps i).first + (part_at ps i).count)) ≡ true) =
      and_parts (not (part_at ps i).live) (nat_le (part_at ps i).first a && nat_le (a + n) ((part_at ps i).first + (part_at ps i).count))
      around in
      let ends : (nat_le (part_at ps i).first a ≡ true) × (nat_le (a + n) ((part_at ps i).first + (part_at ps i).count) ≡ true) =
      and_parts (nat_le (part_at ps i).first a) (nat_le (a + n) ((part_at ps i).first + (part_at ps i).count)) parts.1 in
      let first : (part_at ps i).first ≤ a = leb-true (part_at ps i).first a ends.0 in
      let last : a + n ≤ (part_at ps i).first + (part_at ps i).count =
      leb-true (a + n) ((part_at ps i).first + (part_at ps i).count) ends.1 in
      let bounds : (area.first ≤ (part_at ps i).first) × (0 < (part_at ps i).count)
      × ((part_at ps i).first + (part_at ps i).count ≤ area.first + area.count) =
      part_bounds area.first (area.first + area.count) true ps i fill lt in
      let here : Fill area.first (area.first + area.count) true (take i ps ++ part_at ps i ∷ drop (i + 1) ps) =
      subst (λ (qs : List Part). Fill area.first (area.first + area.count) true qs) (cut_at ps i lt) fill in
      let clear : met a n (blocks_of (take i ps ++ part_at ps i ∷ drop (i + 1) ps)) ≡ false =
      met_in_hole area.first (area.first + area.count) true (take i ps) (part_at ps i) (drop (i + 1) ps) a n here
      (not-true (part_at ps i).live parts.0) first last in
      let unmet : met a n (blocks_of ps) ≡ false = ap (λ (qs : List Part). met a n (blocks_of qs)) (cut_at ps i lt) ∙ clear in
      and_from (nat_le area.first a && nat_le (a + n) (area.first + area.count)) (not (met a n (blocks_of ps)))
      (and_from (nat_le area.first a) (nat_le (a + n) (area.first + area.count))
      (le-leb area.first a (omega (arith, bounds.0))) (le-leb (a + n) (area.first + area.count) (omega (arith, bounds.2))))
      (not_from_false (met a n (blocks_of ps)) unmet)

  -- without such a hole there is no room
  pub no_room_without : (a n : ℕ) → 0 < n → ((k : ℕ) → k < length ps → is_hole_around a n (part_at ps k) ≡ false)
      → has_room area (blocks_of ps) n a ≡ false
  no_room_without a n some none = ⊎_elim
      (λ low. and_left (nat_le area.first a && nat_le (a + n) (area.first + area.count)) (not (met a n (blocks_of ps)))
      (and_left (nat_le area.first a) (nat_le (a + n) (area.first + area.count)) (lt-leb area.first a low)))
      (λ ge. ⊎_elim
      (λ high. and_left (nat_le area.first a && nat_le (a + n) (area.first + area.count)) (not (met a n (blocks_of ps)))
      (and_right (nat_le area.first a) (nat_le (a + n) (area.first + area.count)) (lt-leb (a + n) (area.first + area.count) high)))
      (λ le. and_right (nat_le area.first a && nat_le (a + n) (area.first + area.count)) (not (met a n (blocks_of ps)))
      (not_from_true (met a n (blocks_of ps)) (crossing area.first (area.first + area.count) true ps a n fill some ge le none)))
      (cases_lt (area.first + area.count) (a + n)))
      (cases_lt a area.first)

  -- a part that is no hole for n words holds them nowhere
  not_for : (p : Part) (a n : ℕ) → is_hole_for n p ≡ false → is_hole_around a n p ≡ false
  not_for p a n short = false_from_ne_true (is_hole_around a n p) (λ around.
      let parts : (not p.live ≡ true) × ((nat_le p.first a && nat_le (a + n) (p.first + p.count)) ≡ true) =
      and_parts (not p.live) (nat_le p.first a && nat_le (a + n) (p.first + p.count)) around in
      let ends : (nat_le p.first a ≡ true) × (nat_le (a + n) (p.first + p.count) ≡ true) =
      and_parts (nat_le p.first a) (nat_le (a + n) (p.first + p.count)) parts.1 in
      let first : p.first ≤ a = leb-true p.first a ends.0 in
      let last : a + n ≤ p.first + p.count = leb-true (a + n) (p.first + p.count) ends.1 in
      let yes : is_hole_for n p ≡ true = and_from (not p.live) (nat_le n p.count) parts.0 (le-leb n p.count (omega arith)) in
      let clash : true ≡ false = sym yes ∙ short in cc)

  -- the first hole for n words begins at the lowest place for them
  pub place_found : (i n : ℕ) → 0 < n → position (is_hole_for n) ps ≡ Some i → place area (blocks_of ps) n ≡ Some (part_at ps i).first
  place_found i n some e =
      let at : (i < length ps) × (is_hole_for n (part_at ps i) ≡ true) × ((k : ℕ) → k < i → is_hole_for n (part_at ps k) ≡ false) =
      position-Some (is_hole_for n) ps i wall e in
      let free : (not (part_at ps i).live ≡ true) × (nat_le n (part_at ps i).count ≡ true) =
      and_parts (not (part_at ps i).live) (nat_le n (part_at ps i).count) at.1 in
      let long : n ≤ (part_at ps i).count = leb-true n (part_at ps i).count free.1 in
      let bounds : (area.first ≤ (part_at ps i).first) × (0 < (part_at ps i).count)
      × ((part_at ps i).first + (part_at ps i).count ≤ area.first + area.count) =
      part_bounds area.first (area.first + area.count) true ps i fill at.0 in
      let around : is_hole_around (part_at ps i).first n (part_at ps i) ≡ true =
      and_from (not (part_at ps i).live) (nat_le (part_at ps i).first (part_at ps i).first
      && nat_le ((part_at ps i).first + n) ((part_at ps i).first + (part_at ps i).count)) free.0
      (and_from (nat_le (part_at ps i).first (part_at ps i).first)
      (nat_le ((part_at ps i).first + n) ((part_at ps i).first + (part_at ps i).count))
      (le-leb (part_at ps i).first (part_at ps i).first (omega arith))
      (le-leb ((part_at ps i).first + n) ((part_at ps i).first + (part_at ps i).count) (omega arith))) in
      find_first (has_room area (blocks_of ps) n) area.first area.count (part_at ps i).first bounds.0 (omega (arith, bounds.1, bounds.2))
      (room_in_hole i (part_at ps i).first n at.0 around)
      (λ x ge lx. no_room_without x n some (λ k lk. ⊎_elim
      (λ before. not_for (part_at ps k) x n (at.2 k before))
      (λ behind.
      let order : (part_at ps i).first ≤ (part_at ps k).first =
      part_order area.first (area.first + area.count) true ps i k fill behind lk in
      and_right (not (part_at ps k).live) (nat_le (part_at ps k).first x && nat_le (x + n) ((part_at ps k).first + (part_at ps k).count))
      (and_left (nat_le (part_at ps k).first x) (nat_le (x + n) ((part_at ps k).first + (part_at ps k).count))
      (lt-leb (part_at ps k).first x (omega arith))))
      (cases_lt k i)))

  pub place_none : (n : ℕ) → 0 < n → position (is_hole_for n) ps ≡ None → place area (blocks_of ps) n ≡ None
  place_none n some e = find_none (has_room area (blocks_of ps) n) area.first area.count
      (λ x ge lt. no_room_without x n some (λ k lk. not_for (part_at ps k) x n (position_none (is_hole_for n) ps e k lk)))
