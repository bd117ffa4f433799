-- The span and the item that a walk's end gives are those of the map.
use Rattle.std.proofs.Common.{◌≡◌, ℕ, ◌+◌, ◌-◌, ◌*◌, ◌/◌, ◌<◌, ◌≤◌, inl, inr, ◌==◌, true, false, min, List, length, if◌then◌else◌, refl}
use Rattle.std.proofs.Common.{arith}
use Rattle.std.proofs.Math.Nat.{mul_comm}
use Rattle.std.proofs.lemmas.List.FromFn.{get_or-map-range_with_len}
use Rattle.mx_words.specs.declared.perm.Perm.{Perm}
use Rattle.mx_words.specs.declared.perm.Perm.TheVariants as P
use Rattle.mx_words.specs.declared.perm.Span.{Span}
use Rattle.mx_words.specs.declared.tables.Kind.{Kind}
use Rattle.mx_words.specs.declared.tables.Level.TheVariants as L
use Rattle.mx_words.specs.Rights.{number, perm_at}
use Rattle.mx_words.specs.Runs.{line_words}
use Rattle.mx_words.specs.Reach.{level, span, span_within, line_at, first_in, left_reach, right_reach, reached, packed, eighths}
use Rattle.mx_words.proofs.NumberLaws.{shift-first}
use Rattle.mx_words.proofs.ReachLaws.{left_reach-most, right_reach-most}
use Rattle.mx_trie.specs.Digits.{digit}
use Rattle.mx_trie.specs.Leaf.{IsTrieKind, line_run, placed, lengthened, left_of_run, right_of_run, entry_run, cut_at}
use Rattle.mx_trie.specs.Found.{IsVector, IsLeaf}
use Rattle.mx_trie.proofs.Digits.{digit-packed}
use Rattle.mx_trie.proofs.PlainRuns.{left_of_run-none, right_of_run-none, lengthened-none}
use Rattle.mx_trie.proofs.RunBounds.{span_within-is}
use Rattle.mx_trie.proofs.LeafSpans.{Run, run_of, length-line, line-at, line_span-is}

-- a vector's digit is the permission of its part
pub vector-digit : (size part : ℕ) (m : List Perm) (i e k entry : ℕ) → size / 8 ≡ part →
    IsVector size part m i entry → e < 8 → k < part → i ≡ first_in size i + part * e + k →
    digit (entry / 4) e ≡ number (perm_at m i)
vector-digit size part m i e k entry is v below inside at =
    let f : ℕ = first_in size i in
    let got = get_or-map-range_with_len (λ j. perm_at m (f + size / 8 * j)) 0 8 e e P.None below (omega arith) in
    let here : f + e * part + k ≡ i = omega (arith, mul_comm e part) in
    let quotient : (1 + 4 * packed (eighths size m f)) / 4 ≡ packed (eighths size m f) = omega arith in
    cc (v.entry_is, quotient, here, mul_comm e part, is, digit-packed (eighths size m f) e, got, (v.even.parts e below).alike k inside)

-- cut spans of lines
module _ (m : List Perm) (b k i : ℕ) (below : k < line_words) (at : b * line_words + k ≡ i) (inside : i < length m)
  where
    line-run : Run (line_at m (b * line_words)) 0 line_words k
    line-run = run_of (line_at m (b * line_words)) 0 line_words k (omega arith) below (omega (arith, length-line m b))

    line_run-parts : line_run (line_at m (b * line_words)) k ≡ record {
      first = line-run.first;
      count = line-run.last - line-run.first;
      perm = perm_at (line_at m (b * line_words)) k;
    }
    line_run-parts =
        span_within-is (line_at m (b * line_words)) 0 line_words k line-run.first line-run.last line-run.run

    -- without reaches
    plain-cut : cut_at (length m)
        (placed (b * line_words) (line_run (line_at m (b * line_words)) k)) ≡ span_within m (b * line_words)
        (b * line_words + line_words) i
    plain-cut =
        search (arith, line_run-parts, line-at m b k below, at, line_span-is m b k line-run.first line-run.last (omega arith) line-run.run)

-- how long a run is that its reaches lengthen, cut at RAM's end
module _ (line f l size lr rr : ℕ) (some : f < l) (short : l ≤ 16) (inside : line + f < size) (left_in : lr ≤ line)
    (right_in : rr ≤ size - (line + 16)) where
  count-parts : min ((if f == 0 then lr else 0) + (l - f) + (if f + (l - f) == 16 then rr else 0))
      (size - (line + f - (if f == 0 then lr else 0)))
      ≡ (if f == 0 then lr else 0) + (min (line + l) size - (line + f))
      + (if line + f + (min (line + l) size - (line + f)) == line + 16 then rr else 0)
  count-parts = grind arith

reached-cut : (m : List Perm) (b k : ℕ) → k < line_words → b * line_words + k < length m →
    let l : ℕ = b * line_words in let s : Span = line_run (line_at m l) k in
    cut_at (length m)
    (lengthened (left_of_run false s (left_reach m l)) (right_of_run false s (right_reach m l)) (placed l s))
    ≡ reached m l (span_within m l (l + line_words) (l + k))
reached-cut m b k below inside =
    let l : ℕ = b * line_words in let r : Run (line_at m l) 0 line_words k = line-run m b k (l + k) below refl inside in
    let c = count-parts l r.first r.last (length m) (left_reach m l) (right_reach m l) (omega (arith, r.run)) r.run.up_to
    (omega (arith, r.run)) (left_reach-most m l) (right_reach-most m l) in
    cc (
      line_run-parts m b k (l + k) below refl inside,
      c,
      line-at m b k below,
      shift-first l r.first,
      line_span-is m b k r.first r.last
          inside r.run,
    )

-- the span of a leaf entry
module _ (m : List Perm) (i entry spilled : ℕ) (inside : i < length m) where
  -- the span of the map
  pub found-leaf : (kind : Kind) → IsTrieKind kind → level kind m i ≡ L.Leaf →
      (leaf : IsLeaf kind false m i entry spilled) →
      cut_at (length m) (entry_run kind (line_at m (i / 16 * 16)) leaf.left leaf.right (i / 16 * 16) i) ≡ span kind m i
  found-leaf kind (inl e) at leaf =
      let s : Span = line_run (line_at m (i / 16 * 16)) (i - i / 16 * 16) in
      let p = plain-cut m (i / 16) (i - i / 16 * 16) i (omega arith) (omega arith) inside in
      cc (
        e,
        at,
        rw e at leaf.left_is,
        rw e at leaf.right_is,
        p,
        left_of_run-none false s,
        right_of_run-none false s,
        lengthened-none
            (placed (i / 16 * 16) s),
      )
  found-leaf kind (inr e) at leaf = let at_i : i / 16 * 16 + (i - i / 16 * 16) ≡ i = omega arith in
      search (
        arith,
        e,
        at,
        rw e at leaf.left_is,
        rw e at leaf.right_is,
        leaf.crowded_is,
        rw at_i at
            (reached-cut m (i / 16) (i - i / 16 * 16) (omega arith) (omega arith)),
      )

  pub found-spill : (kind : Kind) → IsTrieKind kind → level kind m i ≡ L.Spill →
      (leaf : IsLeaf kind true m i entry spilled) →
      cut_at (length m) (entry_run kind (line_at m (i / 16 * 16)) leaf.left leaf.right (i / 16 * 16) i) ≡ span kind m i
  found-spill kind k at leaf =
      search (arith, at, lengthened-none, plain-cut m (i / 16) (i - i / 16 * 16) i (omega arith) (omega arith) inside, leaf.crowded_is)
