-- The end of a live block: found by its first word, and joined with the holes around it.
use Rattle.std.proofs.Common.{ℕ, suc, ◌≡◌, ◌+◌, ◌-◌, ◌<◌, ◌≤◌, ⊎_elim, Bool, true, false, List, [], ◌∷◌, ◌++◌, length, set, take, drop}
use Rattle.std.proofs.Common.{Some, None, refl, sym, ◌∙◌, ap, subst, arith, length-append}
use Rattle.std.specs.Prelude.{◌==◌, if◌then◌else◌}
use Rattle.std.specs.List.{remove, position}
use Rattle.std.proofs.lemmas.Bool.{cases_Bool, lt-ltb, eqb-true, and_parts, true_from_ne_false}
use Rattle.std.proofs.lemmas.List.{append_assoc, get_or_at, set_at, length_push, get_or-append_right, append-nil}
use Rattle.std.proofs.lemmas.List.Edits.{remove-append_right}
use Rattle.std.proofs.lemmas.List.Quantifiers.{position-Some}
use Rattle.mx_words.specs.FirstFit.{Area, without_block, block_words}
use Rattle.mx_heap.specs.declared.parts.Part.{Part}
use Rattle.mx_words.specs.FirstFit.{AreApart}
use Rattle.mx_heap.specs.Places.{Fill, blocks_of, part_at, wall, hole, hole_words, without_hole, joined, is_block_at}
use Rattle.mx_heap.proofs.FillLaws.{end_of, last_live, block_of, Fill-append, Fill-left, Fill-right, Fill-le, Fill-apart, blocks-live}
use Rattle.mx_heap.proofs.FillLaws.{blocks-hole, blocks-append}
use Rattle.mx_heap.proofs.RoomLaws.{part_bounds, position_none}
use Rattle.mx_heap.proofs.BlockLaws.{block_at_between, without_block_between}
use Rattle.mx_heap.proofs.EditLaws.{Around, around}

-- the words of the hole that parts begin with, and the parts without it
abbrev pub first_hole : List Part → ℕ
first_hole [] = 0
first_hole (q ∷ qs) = if q.live then 0 else q.count

abbrev pub behind_hole : List Part → List Part
behind_hole [] = []
behind_hole (q ∷ qs) = if q.live then q ∷ qs else qs

Fill-behind_hole : (low high : ℕ) (ps : List Part) → Fill low high true ps → Fill (low + first_hole ps) high false (behind_hole ps)
Fill-behind_hole low high [] h = omega (arith, h)
Fill-behind_hole low high (q ∷ qs) h = ⊎_elim
    (λ (e : q.live ≡ true). let same : low ≡ low + 0 = omega arith in
    let here : Fill low high false (q ∷ qs) = (h.0, h.1, (λ _. e), h.3) in
    let none : first_hole (q ∷ qs) ≡ 0 = rw e refl in
    let all : behind_hole (q ∷ qs) ≡ q ∷ qs = rw e refl in
    rw (none, all) (subst (λ z. Fill z high false (q ∷ qs)) same here))
    (λ (e : q.live ≡ false). let rest : Fill (low + q.count) high false qs = rw e at h.3 in
    let words : first_hole (q ∷ qs) ≡ q.count = rw e refl in
    let all : behind_hole (q ∷ qs) ≡ qs = rw e refl in
    rw (words, all) rest)
    (cases_Bool q.live)

blocks-behind_hole : (ps : List Part) → blocks_of (behind_hole ps) ≡ blocks_of ps
blocks-behind_hole [] = refl
blocks-behind_hole (q ∷ qs) = ⊎_elim
    (λ (e : q.live ≡ true). let all : behind_hole (q ∷ qs) ≡ q ∷ qs = rw e refl in ap (λ (ps : List Part). blocks_of ps) all)
    (λ (e : q.live ≡ false). let all : behind_hole (q ∷ qs) ≡ qs = rw e refl in ap (λ (ps : List Part). blocks_of ps) all
    ∙ sym (blocks-hole q qs e))
    (cases_Bool q.live)

-- a part taken out from between others
remove-at : (xs : List Part) (q : Part) (ys : List Part) (i : ℕ) → length xs ≡ i → remove (xs ++ q ∷ ys) i ≡ xs ++ ys
remove-at xs q ys i e = let here : i - i ≡ 0 = omega arith in
    remove-append_right xs (q ∷ ys) i i e (omega arith) ∙ (rw here refl)

-- the first hole of the parts from place i on taken out
without-first : (low high : ℕ) (l : Bool) (xs ys : List Part) (i : ℕ) → length xs ≡ i → Fill low high l ys →
    without_hole (xs ++ ys) i (first_hole ys) ≡ xs ++ behind_hole ys
without-first low high l xs [] i e h = refl
without-first low high l xs (q ∷ qs) i e h = ⊎_elim
    (λ (t : q.live ≡ true). let none : first_hole (q ∷ qs) ≡ 0 = rw t refl in let all : behind_hole (q ∷ qs) ≡ q ∷ qs = rw t refl in
    rw (none, all) refl)
    (λ (f : q.live ≡ false). let words : first_hole (q ∷ qs) ≡ q.count = rw f refl in let all : behind_hole (q ∷ qs) ≡ qs = rw f refl in
    rw (words, all, lt-ltb 0 q.count h.1) (remove-at xs q qs i e))
    (cases_Bool q.live)

hole_words-next : (xs : List Part) (b : Part) (ys : List Part) (i : ℕ) → length xs ≡ i → hole_words (xs ++ b ∷ ys) (i + 1) ≡ first_hole ys
hole_words-next xs b ys i e =
    let one : i + 1 - i ≡ 1 = omega arith in
    let at : part_at (xs ++ b ∷ ys) (i + 1) ≡ part_at ys 0 = get_or-append_right xs (b ∷ ys) i (i + 1) wall e (omega arith)
    ∙ (rw one refl) in
    rw at (at_start ys)
  where
    at_start : (ys : List Part) → (if (part_at ys 0).live then 0 else (part_at ys 0).count) ≡ first_hole ys
    at_start [] = refl
    at_start (q ∷ qs) = refl

-- a list of parts, seen from its end
record FromEnd (ps : List Part) : Type 0 where
  front : List Part
  last : Part
  is : ps ≡ front ++ last ∷ []

from_end : (p : Part) (ps : List Part) → FromEnd (p ∷ ps)
from_end p [] = record { front = []; last = p; is = refl }
from_end p (q ∷ qs) = let rest : FromEnd (q ∷ qs) = from_end q qs in
    record { front = p ∷ rest.front; last = rest.last; is = ap (λ (ps : List Part). p ∷ ps) rest.is }

end_of-append : (low : ℕ) (xs ys : List Part) → end_of low (xs ++ ys) ≡ end_of (end_of low xs) ys
end_of-append low [] ys = refl
end_of-append low (x ∷ xs) ys = end_of-append (low + x.count) xs ys

-- what stands before a live block b, once the hole right before it is gone
record Front (low : ℕ) (l : Bool) (xs : List Part) (i : ℕ) (b : Part) (ys : List Part) : Type 0 where
  front : List Part
  words : ℕ
  seen : hole_words (xs ++ b ∷ ys) (i - 1) ≡ words
  gone : (h : Part) (zs : List Part) → without_hole (xs ++ h ∷ zs) (i - 1) words ≡ front ++ h ∷ zs
  fill : Fill low (end_of low front) l front
  live : last_live l front ≡ true
  reach : end_of low front + words ≡ end_of low xs
  blocks : blocks_of front ≡ blocks_of xs

last_live-push : (l : Bool) (xs : List Part) (p : Part) → last_live l (xs ++ p ∷ []) ≡ p.live
last_live-push l [] p = refl
last_live-push l (x ∷ xs) p = last_live-push x.live xs p

front_of : (low : ℕ) (xs : List Part) (i : ℕ) (b : Part) (ys : List Part) → length xs ≡ i → b.live ≡ true → Fill low (end_of low xs) true xs
    → Front low true xs i b ys
front_of low [] i b ys e live h =
    let start : i - 1 ≡ 0 = omega (arith, e) in
    record {
      front = [];
      words = 0;
      seen = rw (start, live) refl;
      gone = λ h' zs. refl;
      fill = refl;
      live = refl;
      reach = omega arith;
      blocks = refl;
    }
front_of low (x ∷ xs) i b ys e live h =
    let v : FromEnd (x ∷ xs) = from_end x xs in
    let len : length v.front + 1 ≡ i = sym (length_push v.front v.last) ∙ ap (λ (ps : List Part). length ps) (sym v.is) ∙ e in
    let before : length v.front ≡ i - 1 = omega arith in
    let cut : (zs : List Part) → (x ∷ xs) ++ zs ≡ v.front ++ v.last ∷ zs =
    λ zs. ap (λ (ps : List Part). ps ++ zs) v.is ∙ append_assoc v.front (v.last ∷ []) zs in
    let at : part_at ((x ∷ xs) ++ b ∷ ys) (i - 1) ≡ v.last =
    ap (λ (ps : List Part). part_at ps (i - 1)) (cut (b ∷ ys)) ∙ get_or_at v.front v.last (b ∷ ys) wall (i - 1) before in
    let here : Fill low (end_of low (x ∷ xs)) true (v.front ++ v.last ∷ []) =
    subst (λ (ps : List Part). Fill low (end_of low (x ∷ xs)) true ps) v.is h in
    let left : Fill low (end_of low v.front) true v.front = Fill-left low (end_of low (x ∷ xs)) true v.front (v.last ∷ []) here in
    let right : Fill (end_of low v.front) (end_of low (x ∷ xs)) (last_live true v.front) (v.last ∷ []) =
    Fill-right low (end_of low (x ∷ xs)) true v.front (v.last ∷ []) here in
    let ends : end_of low (x ∷ xs) ≡ end_of low v.front + v.last.count = ap (λ (ps : List Part). end_of low ps) v.is
    ∙ end_of-append low v.front (v.last ∷ []) in
    ⊎_elim
    (λ (t : v.last.live ≡ true).
    let none : hole_words ((x ∷ xs) ++ b ∷ ys) (i - 1) ≡ 0 = rw (at, t) refl in
    record {
      front = x ∷ xs;
      words = 0;
      seen = none;
      gone = λ h' zs. refl;
      fill = h;
      live = ap (λ (ps : List Part). last_live true ps) v.is ∙ last_live-push true v.front v.last ∙ t;
      reach = omega arith;
      blocks = refl;
    })
    (λ (f : v.last.live ≡ false).
    let some : hole_words ((x ∷ xs) ++ b ∷ ys) (i - 1) ≡ v.last.count = rw (at, f) refl in
    record {
      front = v.front;
      words = v.last.count;
      seen = some;
      gone = λ h' zs. rw (lt-ltb 0 v.last.count right.1)
          (ap (λ (ps : List Part). remove ps (i - 1)) (cut (h' ∷ zs)) ∙ remove-at v.front v.last (h' ∷ zs) (i - 1) before);
      fill = left;
      live = true_from_ne_false (last_live true v.front) (λ q. let t : v.last.live ≡ true = right.2 q in let g : v.last.live ≡ false = f in
          cc);
      reach = sym ends;
      blocks = sym (ap (λ (ps : List Part). blocks_of ps) v.is ∙ blocks-append v.front (v.last ∷ [])
          ∙ ap (λ (bs : List Area). blocks_of v.front ++ bs) (blocks-hole v.last [] f) ∙ append-nil (blocks_of v.front));
    })
    (cases_Bool v.last.live)

-- the parts after a live block ended
pub record AfterJoin (low high : ℕ) (ps : List Part) (i : ℕ) : Type 0 where
  pub fill : Fill low high true (joined ps i)
  pub blocks : blocks_of (joined ps i) ≡ without_block (part_at ps i).first (blocks_of ps)
  pub fewer : length (blocks_of (joined ps i)) + 1 ≡ length (blocks_of ps)
  pub before : hole_words ps (i - 1) ≤ (part_at ps i).first
  pub words : hole_words ps (i - 1) + (part_at ps i).count + hole_words ps (i + 1) ≤ high
  pub found : block_words (blocks_of ps) (part_at ps i).first ≡ Some (part_at ps i).count

pub after_join : (low high : ℕ) (ps : List Part) (i : ℕ) → Fill low high true ps → i < length ps → (part_at ps i).live ≡ true
    → AfterJoin low high ps i
after_join low high ps i fill lt live =
    let a : Around low high true ps i = around low high true ps i fill lt in
    let b : Part = part_at ps i in
    let xs : List Part = take i ps in
    let ys : List Part = drop (i + 1) ps in
    let f : Front low true xs i b ys = front_of low xs i b ys a.len live a.left in
    let behind : hole_words ps (i + 1) ≡ first_hole ys = ap (λ (qs : List Part). hole_words qs (i + 1)) a.cut
    ∙ hole_words-next xs b ys i a.len in
    let before : hole_words ps (i - 1) ≡ f.words = ap (λ (qs : List Part). hole_words qs (i - 1)) a.cut ∙ f.seen in
    let h : Part = hole (b.first - f.words) (f.words + b.count + first_hole ys) in
    let right : Fill (end_of low xs + b.count) high true ys = rw live at a.right in
    let back : Fill (end_of low xs + b.count + first_hole ys) high false (behind_hole ys) =
    Fill-behind_hole (end_of low xs + b.count) high ys right in
    let put : set ps i h ≡ xs ++ h ∷ ys = ap (λ (qs : List Part). set qs i h) a.cut ∙ set_at xs b ys h i a.len in
    let len : length (xs ++ h ∷ []) ≡ i + 1 = length_push xs h ∙ ap (λ z. z + 1) a.len in
    let cut_behind : without_hole (xs ++ h ∷ ys) (i + 1) (first_hole ys) ≡ xs ++ h ∷ behind_hole ys =
    ap (λ (qs : List Part). without_hole qs (i + 1) (first_hole ys)) (sym (append_assoc xs (h ∷ []) ys))
    ∙ without-first (end_of low xs + b.count) high true (xs ++ h ∷ []) ys (i + 1) len right
    ∙ append_assoc xs (h ∷ []) (behind_hole ys) in
    let is : joined ps i ≡ f.front ++ h ∷ behind_hole ys =
    rw (before, behind) (ap (λ (qs : List Part). without_hole (without_hole qs (i + 1) (first_hole ys)) (i - 1) f.words) put
    ∙ ap (λ (qs : List Part). without_hole qs (i - 1) f.words) cut_behind ∙ f.gone h (behind_hole ys)) in
    let begin : b.first - f.words ≡ end_of low f.front = omega (arith, a.first, f.reach) in
    let to_end : end_of low xs + b.count + first_hole ys ≡ end_of low f.front + (f.words + b.count + first_hole ys) =
    omega (arith, f.reach) in
    let from : Fill (end_of low f.front) high (last_live true f.front) (h ∷ behind_hole ys) = (
      begin,
      omega (arith, a.some),
      (λ q. let t : last_live true f.front ≡ true = f.live in cc),
      subst (λ z.
          Fill z high false (behind_hole ys)) to_end back,
    ) in
    let new : blocks_of (joined ps i) ≡ blocks_of xs ++ blocks_of ys =
    ap (λ (qs : List Part). blocks_of qs) is ∙ blocks-append f.front (h ∷ behind_hole ys)
    ∙ ap (λ (bs : List Area). bs ++ blocks_of (behind_hole ys)) f.blocks
    ∙ ap (λ (bs : List Area). blocks_of xs ++ bs) (blocks-behind_hole ys) in
    let old : blocks_of ps ≡ blocks_of xs ++ block_of b ∷ blocks_of ys =
    ap (λ (qs : List Part). blocks_of qs) a.cut ∙ blocks-append xs (b ∷ ys)
    ∙ ap (λ (bs : List Area). blocks_of xs ++ bs) (blocks-live b ys live) in
    let above : end_of low xs ≤ b.first = omega (arith, a.first) in
    let below : AreApart low (end_of low xs) (blocks_of xs) = Fill-apart low (end_of low xs) true xs a.left in
    let beyond : AreApart (b.first + b.count) high (blocks_of ys) =
    subst (λ z. AreApart (z + b.count) high (blocks_of ys)) (sym a.first) (Fill-apart (end_of low xs + b.count) high true ys right) in
    let high_end : end_of low f.front + (f.words + b.count + first_hole ys) ≤ high =
    Fill-le (end_of low f.front + (f.words + b.count + first_hole ys)) high false (behind_hole ys) from.3 in
    record {
      fill = rw is (Fill-append low high true f.front (h ∷ behind_hole ys) f.fill from);
      blocks = new ∙ sym (rw old (without_block_between low (end_of low xs) high (block_of b) (blocks_of xs) (blocks_of ys) below above
          a.some beyond));
      fewer = rw (new, old) (omega (
        arith,
        length-append (blocks_of xs) (blocks_of ys),
        length-append (blocks_of xs)
            (block_of b ∷ blocks_of ys),
      ));
      before = omega (arith, before, a.first, f.reach);
      words = omega (arith, before, behind, high_end);
      found = rw old (block_at_between low (end_of low xs) (block_of b) (blocks_of xs) (blocks_of ys) below above);
    }

-- the live block that a search by its first word finds
pub record Standing (low high : ℕ) (ps : List Part) (first i : ℕ) : Type 0 where
  pub within : i < length ps
  pub live : (part_at ps i).live ≡ true
  pub begins : (part_at ps i).first ≡ first
  pub some : 0 < (part_at ps i).count
  pub low_le : low ≤ (part_at ps i).first
  pub high_le : (part_at ps i).first + (part_at ps i).count ≤ high

pub standing : (low high : ℕ) (ps : List Part) (first i : ℕ) → Fill low high true ps → position (is_block_at first) ps ≡ Some i
    → Standing low high ps first i
standing low high ps first i fill e =
    let at : (i < length ps) × (is_block_at first (part_at ps i) ≡ true) × ((k : ℕ) → k < i → is_block_at first (part_at ps k) ≡ false) =
    position-Some (is_block_at first) ps i wall e in
    let is : ((part_at ps i).live ≡ true) × (((part_at ps i).first == first) ≡ true) =
    and_parts (part_at ps i).live ((part_at ps i).first == first) at.1 in
    let bounds : (low ≤ (part_at ps i).first) × (0 < (part_at ps i).count) × ((part_at ps i).first + (part_at ps i).count ≤ high) =
    part_bounds low high true ps i fill at.0 in
    record {
      within = at.0;
      live = is.0;
      begins = eqb-true (part_at ps i).first first is.1;
      some = bounds.1;
      low_le = bounds.0;
      high_le =
          bounds.2;
    }

-- where no live part begins at a word, no block does
absent : (ps : List Part) (first : ℕ) → ((k : ℕ) → k < length ps → is_block_at first (part_at ps k) ≡ false) →
    (block_words (blocks_of ps) first ≡ None) × (without_block first (blocks_of ps) ≡ blocks_of ps)
absent [] first h = (refl, refl)
absent (p ∷ ps) first h =
    let rest : (block_words (blocks_of ps) first ≡ None) × (without_block first (blocks_of ps) ≡ blocks_of ps) =
    absent ps first (λ k lt. h (suc k) (omega arith)) in
    ⊎_elim
    (λ (t : p.live ≡ true).
    let here : is_block_at first p ≡ false = h 0 (omega arith) in
    let other : (p.first == first) ≡ false = rw t at here in
    (rw (blocks-live p ps t, other) rest.0, rw (blocks-live p ps t, other) (ap (λ (bs : List Area). block_of p ∷ bs) rest.1)))
    (λ (f : p.live ≡ false). (rw (blocks-hole p ps f) rest.0, rw (blocks-hole p ps f) rest.1))
    (cases_Bool p.live)

pub no_block : (ps : List Part) (first : ℕ) → position (is_block_at first) ps ≡ None →
    (block_words (blocks_of ps) first ≡ None) × (without_block first (blocks_of ps) ≡ blocks_of ps)
no_block ps first e = absent ps first (position_none (is_block_at first) ps e)
