-- More bytes in the last segment.
use Rattle.std.proofs.Common.{◌≡◌, ℕ, zero, suc, ◌+◌, ◌<◌, List, [], ◌∷◌, ◌++◌, length, get_or, set, fold, refl, sym, ap, ◌∙◌, append_assoc}
use Rattle.std.proofs.Common.{arith}
use Rattle.std.proofs.lemmas.List.{append-nil}
use Rattle.mx_image.specs.declared.segment.Segment.{Segment}
use Rattle.mx_image.specs.Program.{Program, with_last_byte, with_bytes}
use Rattle.mx_image.proofs.Building.{length-with_last_byte}

-- segments with more bytes, one after the other, at the end of the last one
abbrev pub with_last_bytes : List ℕ → List Segment → List Segment
with_last_bytes bytes segments = fold (λ left b. with_last_byte b left) segments bytes

-- a program's segments are all that changes
pub with_bytes-segments : (bytes : List ℕ) (p : Program) → with_bytes bytes p ≡ record p { segments = with_last_bytes bytes p.segments }
with_bytes-segments [] p = refl
with_bytes-segments (b ∷ bytes) p = with_bytes-segments bytes (record p { segments = with_last_byte b p.segments })

-- where there is one
last_bytes-one : (bytes : List ℕ) (s : Segment) → with_last_bytes bytes (s ∷ []) ≡ record s { bytes = s.bytes ++ bytes } ∷ []
last_bytes-one [] s = ap (λ (all : List ℕ). record s { bytes = all } ∷ []) (sym (append-nil s.bytes))
last_bytes-one (b ∷ bytes) s =
    last_bytes-one bytes (record s { bytes = s.bytes ++ b ∷ [] })
    ∙ ap (λ (all : List ℕ). record s { bytes = all } ∷ []) (append_assoc s.bytes (b ∷ []) bytes)

-- after another
last_bytes-behind : (bytes : List ℕ) (x : Segment) (segments : List Segment) → 0 < length segments
    → with_last_bytes bytes (x ∷ segments) ≡ x ∷ with_last_bytes bytes segments
last_bytes-behind [] x segments some = refl
last_bytes-behind (b ∷ bytes) x [] some = absurd (omega arith)
last_bytes-behind (b ∷ bytes) x (y ∷ segments) some =
    last_bytes-behind bytes x (with_last_byte b (y ∷ segments)) (omega (arith, length-with_last_byte b (y ∷ segments)))

-- the last segment in the code's terms
pub set-last : (segments : List Segment) (n : ℕ) (d s : Segment) (all bytes : List ℕ) → n + 1 ≡ length segments
    → s ≡ get_or segments n d → all ≡ s.bytes ++ bytes
    → set segments n (record { address = s.address; flags = s.flags; bytes = all }) ≡ with_last_bytes bytes segments
set-last [] n d s all bytes e is more = absurd (omega arith)
set-last (x ∷ []) zero d s all bytes e is more = rw (more, is) (sym (last_bytes-one bytes x))
set-last (x ∷ []) (suc n) d s all bytes e is more = absurd (omega arith)
set-last (x ∷ y ∷ segments) zero d s all bytes e is more = absurd (omega arith)
set-last (x ∷ y ∷ segments) (suc n) d s all bytes e is more =
    ap (λ (rest : List Segment). x ∷ rest) (set-last (y ∷ segments) n d s all bytes (omega arith) is more)
    ∙ sym (last_bytes-behind bytes x (y ∷ segments) (omega arith))
