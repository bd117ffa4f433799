-- Words that are moved piece by piece.
use Rattle.std.proofs.Common.{◌≡◌, ◌≢◌, ℕ, ◌+◌, ◌-◌, ◌*◌, ◌/◌, ◌%◌, ◌<◌, ◌≤◌, inl, inr, List, sym, ap, ◌∙◌, arith}
use Rattle.std.proofs.lemmas.Bool.{cases_lt, cases_eq}
use Rattle.mx_pool.specs.Frames.{Frames, word_at, frame_at}
use Rattle.mx_segments.specs.Store.{frames_in, frame_in, word_in, IsStore, IsPieceCopied}
use Rattle.mx_segments.proofs.StoreLaws.{word_still, place_within}

-- a piece of a frame is copied into a frame
module _ (fs fs' : Frames) (ls : List (List ℕ)) (st : IsStore fs ls) (row from to count : ℕ)
    (from_room : from + count ≤ 64 * frames_in ls row) (to_room : to + count ≤ 64 * frames_in ls row)
    (one_source : from % 64 + count ≤ 64) (one_target : to % 64 + count ≤ 64) (some : 0 < count)
    (copied : (k : ℕ) → k < count → word_at fs' (frame_in ls row (to / 64)) (to % 64 + k)
    ≡ word_at fs (frame_in ls row (from / 64)) (from % 64 + k))
    (below : (k : ℕ) → k < to % 64 → word_at fs' (frame_in ls row (to / 64)) k ≡ word_at fs (frame_in ls row (to / 64)) k)
    (behind : (k : ℕ) → to % 64 + count ≤ k → k < 64 → word_at fs' (frame_in ls row (to / 64)) k ≡ word_at fs (frame_in ls row (to / 64)) k)
    (elsewhere : (g : ℕ) → g ≢ frame_in ls row (to / 64) → frame_at fs' g ≡ frame_at fs g) where
  piece-copied : (k : ℕ) → k < count → word_in fs' ls row (to + k) ≡ word_in fs ls row (from + k)
  piece-copied k lt =
      let to_frame : (to + k) / 64 ≡ to / 64 = omega arith in
      let to_place : (to + k) % 64 ≡ to % 64 + k = omega arith in
      let from_frame : from / 64 ≡ (from + k) / 64 = omega arith in
      let from_place : from % 64 + k ≡ (from + k) % 64 = omega arith in
      ap (λ n. word_at fs' (frame_in ls row n) ((to + k) % 64)) to_frame
      ∙ ap (word_at fs' (frame_in ls row (to / 64))) to_place
      ∙ copied k lt
      ∙ ap (word_at fs (frame_in ls row (from / 64))) from_place
      ∙ ap (λ n. word_at fs (frame_in ls row n) ((from + k) % 64)) from_frame

  other-frame : (j : ℕ) → j < 64 * frames_in ls row → j / 64 ≢ to / 64 → word_in fs' ls row j ≡ word_in fs ls row j
  other-frame j lt ne =
      word_still fs fs' (frame_in ls row (to / 64)) elsewhere (frame_in ls row (j / 64)) (j % 64)
      (λ e. ne (st.apart row (j / 64) row (to / 64) (place_within (frames_in ls row) j lt)
      (place_within (frames_in ls row) to (omega arith)) e).1)

  same-frame : (j : ℕ) → j / 64 ≡ to / 64 → word_at fs' (frame_in ls row (to / 64)) (j % 64)
      ≡ word_at fs (frame_in ls row (to / 64)) (j % 64) →
      word_in fs' ls row j ≡ word_in fs ls row j
  same-frame j e same =
      ap (λ n. word_at fs' (frame_in ls row n) (j % 64)) e ∙ same ∙ ap (λ n. word_at fs (frame_in ls row n) (j % 64)) (sym e)

  piece-below : (j : ℕ) → j < to → j < 64 * frames_in ls row → word_in fs' ls row j ≡ word_in fs ls row j
  piece-below j lt inside = elim (cases_eq (j / 64) (to / 64)) [
    | inl e ↦ same-frame j e (below (j % 64) (omega arith))
    | inr ne ↦ other-frame j inside ne
  ]

  piece-behind : (j : ℕ) → to + count ≤ j → j < 64 * frames_in ls row → word_in fs' ls row j ≡ word_in fs ls row j
  piece-behind j le inside = elim (cases_eq (j / 64) (to / 64)) [
    | inl e ↦ same-frame j e (behind (j % 64) (omega arith) (omega arith))
    | inr ne ↦ other-frame j inside ne
  ]

  pub piece-is : IsPieceCopied (word_in fs ls row) (word_in fs' ls row) from to count (64 * frames_in ls row)
  piece-is = record { copied = piece-copied; below = piece-below; behind = piece-behind }

-- the words from a place on are moved up, the words before it not yet
pub record IsMovedUp (base cur : ℕ → ℕ) (from to by end size : ℕ) : Type 0 where
  pub from_end : from ≤ end
  pub to_end : end ≤ to
  pub moved : (j : ℕ) → end ≤ j → j < to → cur (j + by) ≡ base j
  pub below : (j : ℕ) → j < end + by → cur j ≡ base j
  pub behind : (j : ℕ) → to + by ≤ j → j < size → cur j ≡ base j

pub up-more : (base cur new : ℕ → ℕ) (from to by end begin size : ℕ) → to + by ≤ size → from ≤ begin → begin < end
    → IsMovedUp base cur from to by end size →
    IsPieceCopied cur new begin (begin + by) (end - begin) size → IsMovedUp base new from to by begin size
up-more base cur new from to by end begin size room least less m p =
    let most = m.to_end in
    record {
      from_end = least;
      to_end = omega arith;
      moved = λ j ge lt. elim (cases_lt j end) [
        | inl h ↦ (let there : j + by ≡ begin + by + (j - begin) = omega arith in
            let here : begin + (j - begin) ≡ j = omega arith in
            ap new there ∙ p.copied (j - begin) (omega arith) ∙ ap cur here ∙ m.below j (omega arith))
        | inr h ↦ (p.behind (j + by) (omega arith) (omega arith) ∙ m.moved j h lt)
      ];
      below = λ j lt. p.below j lt (omega arith) ∙ m.below j (omega arith);
      behind = λ j ge lt. p.behind j (omega arith) lt ∙ m.behind j ge lt;
    }

-- the words up to a place are moved down, the words from it on not yet
pub record IsMovedDown (base cur : ℕ → ℕ) (from to by begin size : ℕ) : Type 0 where
  pub from_begin : from ≤ begin
  pub to_begin : begin ≤ to
  pub moved : (j : ℕ) → from ≤ j → j < begin → cur (j - by) ≡ base j
  pub below : (j : ℕ) → j < from - by → cur j ≡ base j
  pub behind : (j : ℕ) → begin - by ≤ j → j < size → cur j ≡ base j

pub down-more : (base cur new : ℕ → ℕ) (from to by begin end size : ℕ) → to ≤ size → by ≤ from → begin < end → end ≤ to
    → IsMovedDown base cur from to by begin size →
    IsPieceCopied cur new begin (begin - by) (end - begin) size → IsMovedDown base new from to by end size
down-more base cur new from to by begin end size room far more most m p =
    let least = m.from_begin in
    record {
      from_begin = omega arith;
      to_begin = most;
      moved = λ j ge lt. elim (cases_lt j begin) [
        | inl h ↦ (p.below (j - by) (omega arith) (omega arith) ∙ m.moved j ge h)
        | inr h ↦ (let there : j - by ≡ begin - by + (j - begin) = omega arith in
            let here : begin + (j - begin) ≡ j = omega arith in
            ap new there ∙ p.copied (j - begin) (omega arith) ∙ ap cur here ∙ m.behind j (omega arith) (omega arith))
      ];
      below = λ j lt. p.below j (omega arith) (omega arith) ∙ m.below j lt;
      behind = λ j ge lt. p.behind j (omega arith) lt ∙ m.behind j (omega arith) lt;
    }
