-- Lists cut into parts.
use Rattle.std.proofs.Common.{◌≡◌, ℕ, ◌+◌, ◌-◌, List, [], ◌∷◌, ◌++◌, length, take, drop, refl, sym, ap, ◌∙◌, append_assoc}
use Rattle.std.specs.Prelude.{map, replicate}
use Rattle.std.proofs.lemmas.List.{length-append}
use Rattle.std.proofs.Math.Seq.{drop-append_seam, take-append_seam}
use Rattle.mx_image.specs.declared.segment.Segment.{Segment}
use Rattle.mx_image.specs.Image.{rounded, padded, contents}
use Rattle.mx_image.specs.Lawful.{placed}
use Rattle.mx_image.proofs.Sizes.{padded_length}

-- a piece of a list
pub piece : (bytes part x rest : List ℕ) (at n : ℕ) → bytes ≡ part ++ (x ++ rest) → at ≡ length part → n ≡ length x
    → take n (drop at bytes) ≡ x
piece bytes part x rest at n is start size =
    rw (is, start, size) (ap (λ (xs : List ℕ). take (length x) xs) (drop-append_seam part (x ++ rest)) ∙ take-append_seam x rest)

-- eight parts, cut before the second, the third and so on
pub cut-2 : (a b c d e f g h : List ℕ) → a ++ b ++ c ++ d ++ e ++ f ++ g ++ h ≡ a ++ (b ++ (c ++ (d ++ (e ++ (f ++ (g ++ h))))))
cut-2 a b c d e f g h = simp append_assoc

pub cut-3 : (a b c d e f g h : List ℕ) → a ++ b ++ c ++ d ++ e ++ f ++ g ++ h ≡ (a ++ b) ++ (c ++ (d ++ (e ++ (f ++ (g ++ h)))))
cut-3 a b c d e f g h = simp append_assoc

pub cut-4 : (a b c d e f g h : List ℕ) → a ++ b ++ c ++ d ++ e ++ f ++ g ++ h ≡ (a ++ b ++ c) ++ (d ++ (e ++ (f ++ (g ++ h))))
cut-4 a b c d e f g h = simp append_assoc

pub cut-5 : (a b c d e f g h : List ℕ) → a ++ b ++ c ++ d ++ e ++ f ++ g ++ h ≡ (a ++ b ++ c ++ d) ++ (e ++ (f ++ (g ++ h)))
cut-5 a b c d e f g h = simp append_assoc

pub cut-6 : (a b c d e f g h : List ℕ) → a ++ b ++ c ++ d ++ e ++ f ++ g ++ h ≡ (a ++ b ++ c ++ d ++ e) ++ (f ++ (g ++ h))
cut-6 a b c d e f g h = simp append_assoc

pub cut-7 : (a b c d e f g h : List ℕ) → a ++ b ++ c ++ d ++ e ++ f ++ g ++ h ≡ (a ++ b ++ c ++ d ++ e ++ f) ++ (g ++ h)
cut-7 a b c d e f g h = simp append_assoc

-- six parts, of which the last one has three
pub eight : (a b c d e f g h : List ℕ) → a ++ b ++ c ++ d ++ e ++ (f ++ g ++ h) ≡ a ++ b ++ c ++ d ++ e ++ f ++ g ++ h
eight a b c d e f g h = simp append_assoc

-- the bytes of segments where the program headers say that they stand
pub bytes-there : (bytes part rest : List ℕ) (at : ℕ) (segments : List Segment) → bytes ≡ part ++ (contents segments ++ rest)
    → at ≡ length part
    → map (λ s. take s.file (drop s.offset bytes)) (placed at segments) ≡ map (λ s. s.bytes) segments
bytes-there bytes part rest at [] is start = refl
bytes-there bytes part rest at (s ∷ segments) is start =
    let zeros = replicate (rounded (length s.bytes) - length s.bytes) 0 in
    let tail = contents segments ++ rest in
    let whole : bytes ≡ part ++ (padded s.bytes ++ tail) = is
    ∙ ap (λ (xs : List ℕ). part ++ xs) (append_assoc (padded s.bytes) (contents segments) rest) in
    let further : bytes ≡ (part ++ padded s.bytes) ++ tail = whole ∙ sym (append_assoc part (padded s.bytes) tail) in
    let longer : at + rounded (length s.bytes) ≡ length (part ++ padded s.bytes) =
    ap (λ (n : ℕ). n + rounded (length s.bytes)) start ∙ ap (λ (n : ℕ). length part + n) (sym (padded_length s.bytes))
    ∙ sym (length-append part (padded s.bytes)) in
    let here : take (length s.bytes) (drop at bytes) ≡ s.bytes =
    piece bytes part s.bytes (zeros ++ tail) at (length s.bytes) (whole
    ∙ ap (λ (xs : List ℕ). part ++ xs) (append_assoc s.bytes zeros tail)) start refl in
    let left = bytes-there bytes (part ++ padded s.bytes) rest (at + rounded (length s.bytes)) segments further longer in
    rw (here, left) refl
