-- How long the parts of an image are.
use Rattle.std.proofs.Common.{◌≡◌, ℕ, ◌+◌, ◌-◌, ◌*◌, ◌≤◌, List, [], ◌∷◌, ◌++◌, length, refl, ap, ◌∙◌, arith}
use Rattle.std.specs.Prelude.{replicate}
use Rattle.std.specs.List.{AllByRecursion}
use Rattle.std.proofs.lemmas.List.{length-append, length-replicate}
use Rattle.std.proofs.lemmas.List.Sums.{sum_by-cons}
use Rattle.std.proofs.lemmas.Bool.{cond_both}
use Rattle.mx_image.specs.declared.segment.Segment.{Segment}
use Rattle.mx_image.specs.Program.{Label, Program, has_bytes, filled, byte_count}
use Rattle.mx_image.specs.Image.{halves, words, rounded, padded, program_headers, contents, symbols_from, symbol_table, names}
use Rattle.mx_image.specs.Lawful.{IsName, IsSized}

-- numbers of 2 and of 4 bytes
pub length-halves : (ns : List ℕ) → length (halves ns) ≡ 2 * length ns
length-halves [] = refl
length-halves (n ∷ ns) = omega (arith, length-halves ns)

pub length-words : (ns : List ℕ) → length (words ns) ≡ 4 * length ns
length-words [] = refl
length-words (n ∷ ns) = omega (arith, length-words ns)

-- bytes up to a multiple of 4
pub padded_length : (bytes : List ℕ) → length (padded bytes) ≡ rounded (length bytes)
padded_length bytes =
    omega (
      arith,
      length-append bytes (replicate (rounded (length bytes) - length bytes) 0),
      length-replicate {A = ℕ}
          (rounded (length bytes) - length bytes) 0,
    )

-- the headers of segments
pub program_headers_length : (at : ℕ) (segments : List Segment) → length (program_headers at segments) ≡ 32 * length segments
program_headers_length at [] = refl
program_headers_length at (s ∷ segments) = omega (arith, program_headers_length (at + rounded (length s.bytes)) segments)

-- the contents of a segment and of others
pub length-contents-cons : (s : Segment) (segments : List Segment)
    → length (contents (s ∷ segments)) ≡ rounded (length s.bytes) + length (contents segments)
length-contents-cons s segments = length-append (padded s.bytes) (contents segments)
    ∙ ap (λ (n : ℕ). n + length (contents segments)) (padded_length s.bytes)

-- at most 3 zero bytes for each segment that has bytes
pub contents-most : (segments : List Segment) → length (contents (filled segments)) ≤ byte_count segments + 3 * length (filled segments)
contents-most [] = omega arith
contents-most (s ∷ segments) =
    let bytes : byte_count (s ∷ segments) ≡ length s.bytes + byte_count segments = sum_by-cons (λ x. length x.bytes) s segments in
    cond_both (has_bytes s) (s ∷ filled segments) (filled segments)
    (λ left. length (contents left) ≤ byte_count (s ∷ segments) + 3 * length left)
    (λ _. omega (arith, bytes, length-contents-cons s (filled segments), contents-most segments)) (λ _.
    omega (arith, bytes, contents-most segments))

-- the symbols of labels
pub length-symbols_from : (at : ℕ) (labels : List Label) → length (symbols_from at labels) ≡ 16 * length labels
length-symbols_from at [] = refl
length-symbols_from at (l ∷ labels) = omega (arith, length-symbols_from (at + length l.name + 1) labels)

pub symbol_table_length : (labels : List Label) → length (symbol_table labels) ≡ 16 * (length labels + 1)
symbol_table_length labels = omega (arith, length-symbols_from 1 labels)

-- names with their zero bytes
pub length-names-cons : (l : Label) (labels : List Label) → length (names (l ∷ labels)) ≡ length l.name + 1 + length (names labels)
length-names-cons l labels = length-append (l.name ++ 0 ∷ []) (names labels)
    ∙ ap (λ (n : ℕ). n + length (names labels)) (length-append l.name (0 ∷ []))

pub names-most : (labels : List Label) → AllByRecursion (λ l. IsName l.name) labels → length (names labels) ≤ 65 * length labels
names-most [] all = omega arith
names-most (l ∷ labels) all = omega (arith, length-names-cons l labels, names-most labels all.1, all.0.most)

-- what is known of the sizes of a program
pub record IsSmall (p : Program) : Type 0 where
  pub segments : length (filled p.segments) ≤ 16
  pub contents : length (contents (filled p.segments)) ≤ 4194352
  pub labels : length p.labels ≤ 1048576
  pub names : length (names p.labels) ≤ 68157440

pub small : (p : Program) → IsSized p → IsSmall p
small p h = record {
  segments = h.segments;
  contents = omega (arith, contents-most p.segments, h.segments, h.bytes);
  labels = omega (arith, h.labels);
  names = omega (arith, names-most p.labels h.names, h.labels);
}

-- a list after a part was put at its end
pub put_length : (new old part : List ℕ) (n : ℕ) → new ≡ old ++ part → length part ≡ n → length new ≡ length old + n
put_length new old part n is size = ap length is ∙ length-append old part ∙ ap (λ (k : ℕ). length old + k) size
