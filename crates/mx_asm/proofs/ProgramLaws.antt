-- Laws of programs with more bytes.
use Rattle.std.proofs.Common.{◌≡◌, ℕ, ◌+◌, ◌<◌, List, [], ◌∷◌, ◌++◌, length, refl, ap, sym, ◌∙◌, arith, replicate}
use Rattle.std.proofs.lemmas.List.{length-append, replicate-append-replicate}
use Rattle.mx_image.proofs.Building.{length-with_last_byte, byte_count-with_last_byte}
use Rattle.mx_image.specs.Program.{Program, with_byte, with_bytes, byte_count}
use Rattle.mx_image.specs.Image.{words}
use Rattle.mx_asm.specs.Ready.{IsGrown}

pub grown : (bytes : List ℕ) (p : Program) → 0 < length p.segments → IsGrown p (length bytes) (with_bytes bytes p)
grown [] p more = record { segments = refl; bytes = omega arith }
grown (b ∷ bytes) p more =
    let segments = length-with_last_byte b p.segments in
    let count = byte_count-with_last_byte b p.segments more in
    let rest = grown bytes (with_byte b p) (omega arith) in
    record { segments = omega (arith, rest.segments); bytes = omega (arith, rest.bytes) }

-- bytes after bytes
pub with_bytes-append : (xs ys : List ℕ) (p : Program) → with_bytes (xs ++ ys) p ≡ with_bytes ys (with_bytes xs p)
with_bytes-append [] ys p = refl
with_bytes-append (x ∷ xs) ys p = with_bytes-append xs ys (with_byte x p)

-- a program that lacks the bytes that are left to be as the first with all of them
pub record IsLeft (start : Program) (all : List ℕ) (p : Program) (left : List ℕ) : Type 0 where
  pub same : with_bytes left p ≡ with_bytes all start
  pub begun : 0 < length p.segments
  pub bytes : byte_count p.segments + length left ≡ byte_count start.segments + length all

module _ (start : Program) (all : List ℕ) (p : Program) (left : List ℕ) (is : IsLeft start all p left) where
  -- after one of them
  pub left_byte : (b : ℕ) (rest : List ℕ) (q : Program) → left ≡ b ∷ rest → q ≡ with_byte b p → IsLeft start all q rest
  left_byte b rest q e added =
      record {
        same = rw added (rw e at is.same);
        begun = rw added (omega (arith, is.begun, length-with_last_byte b p.segments));
        bytes = rw added (omega (arith, is.bytes, ap length e, byte_count-with_last_byte b p.segments is.begun));
      }

  -- after several
  pub left_bytes : (xs rest : List ℕ) (q : Program) → left ≡ xs ++ rest → q ≡ with_bytes xs p → IsLeft start all q rest
  left_bytes xs rest q e added =
      let g = grown xs p is.begun in
      record {
        same = rw added (sym (with_bytes-append xs rest p) ∙ rw e at is.same);
        begun = rw added (omega (arith, is.begun, g.segments));
        bytes = rw added (omega (arith, is.bytes, ap length e, length-append xs rest, g.bytes));
      }

-- zeros in two pieces
pub zeros_split : (n k m : ℕ) → k + m ≡ n → replicate {A = ℕ} n 0 ≡ replicate k 0 ++ replicate m 0
zeros_split n k m e = ap (λ i. replicate {A = ℕ} i 0) (sym e) ∙ sym (replicate-append-replicate k m 0)

-- words one by one
pub words-cons : (v : ℕ) (vs : List ℕ) → words (v ∷ vs) ≡ words (v ∷ []) ++ words vs
words-cons v vs = refl
