-- One step of the walk through a text in quotes.
use Rattle.std.proofs.Common.{◌≡◌, ◌≢◌, ◌==◌, eq-eqb, ℕ, ◌+◌, ◌<◌, Bool, true, false, cond, List, [], ◌∷◌, length, drop, get_or, refl}
use Rattle.std.proofs.Common.{Option, None, Some, IsSome, unwrap_or}
use Rattle.std.proofs.lemmas.List.{at_drop_more}
use Rattle.std.proofs.lemmas.Bool.{ne_eqb}
use Rattle.mx_image.specs.Program.{Program, with_byte}
use Rattle.mx_asm.proofs.ProgramLaws.{IsLeft, left_byte}
use Rattle.mx_source.specs.Options.{◌>>=◌}
use Rattle.mx_source.specs.Characters.{is_printed}
use Rattle.mx_source.specs.Operands.{escape_byte, prepend, quoted_bytes}

-- a byte, and others after it
pub record IsBefore (whole : Option (List ℕ)) (byte : ℕ) (rest : Option (List ℕ)) : Type 0 where
  pub some : IsSome rest
  pub bytes : unwrap_or whole [] ≡ byte ∷ unwrap_or rest []

both_some : (byte : Option ℕ) (rest : Option (List ℕ)) → IsSome (byte >>= λ b. prepend b rest)
    → IsBefore (byte >>= λ b. prepend b rest) (unwrap_or byte 0) rest
both_some None rest h = cc
both_some (Some b) None h = cc
both_some (Some b) (Some bs) h = record { some = refl; bytes = refl }

printed_some : (printed : Bool) (c : ℕ) (rest : Option (List ℕ)) → IsSome (cond printed (prepend c rest) None)
    → IsBefore (cond printed (prepend c rest) None) c rest
printed_some false c rest h = cc
printed_some true c None h = cc
printed_some true c (Some bs) h = record { some = refl; bytes = refl }

module _ (text : List ℕ) (i : ℕ) (lt : i < length text) where
  -- a character after a `\`
  pub quoted_escape : IsSome (quoted_bytes true (drop i text))
      → IsBefore (quoted_bytes true (drop i text)) (unwrap_or (escape_byte (get_or text i 0)) 0) (quoted_bytes false (drop (i + 1) text))
  quoted_escape h = rw (at_drop_more (quoted_bytes true) text i 0 lt)
      (both_some (escape_byte (get_or text i 0)) (quoted_bytes false (drop (i + 1) text))
      (rw (at_drop_more (quoted_bytes true) text i 0 lt) at h))

  -- a `\`
  pub quoted_mark : (get_or text i 0 == 34) ≡ false → (get_or text i 0 == 92) ≡ true
      → quoted_bytes false (drop i text) ≡ quoted_bytes true (drop (i + 1) text)
  quoted_mark a b = rw (at_drop_more (quoted_bytes false) text i 0 lt, a, b) refl

  -- another character
  pub quoted_plain : (get_or text i 0 == 34) ≡ false → (get_or text i 0 == 92) ≡ false → IsSome (quoted_bytes false (drop i text))
      → IsBefore (quoted_bytes false (drop i text)) (get_or text i 0) (quoted_bytes false (drop (i + 1) text))
  quoted_plain a b h =
      let e = at_drop_more (quoted_bytes false) text i 0 lt in
      rw (e, a, b) (printed_some (is_printed (get_or text i 0)) (get_or text i 0) (quoted_bytes false (drop (i + 1) text))
      (rw (e, a, b) at h))

-- the text that is left is one, and its bytes are those that the program lacks
abbrev pub IsLeftOf : Program → List ℕ → Program → List ℕ → Bool → ℕ → Type 0
IsLeftOf start all p text escape i =
    IsSome (quoted_bytes escape (drop i text)) × IsLeft start all p (unwrap_or (quoted_bytes escape (drop i text)) [])

module _ (start : Program) (all : List ℕ) (p : Program) (text : List ℕ) (escape : Bool) (i : ℕ) (lt : i < length text)
    (is : IsLeftOf start all p text escape i) where
  pub step_escape : escape ≡ true → (q : Program) → q ≡ with_byte (unwrap_or (escape_byte (get_or text i 0)) 0) p
      → IsLeftOf start all q text false (i + 1)
  step_escape e q added =
      let b = quoted_escape text i lt (rw e at is.0) in (
        b.some,
        left_byte start all p (unwrap_or (quoted_bytes true (drop i text)) []) (rw e at is.1)
            (unwrap_or (escape_byte (get_or text i 0)) 0) (unwrap_or (quoted_bytes false (drop (i + 1) text)) []) q b.bytes added,
      )

  pub step_mark : escape ≡ false → get_or text i 0 ≢ 34 → get_or text i 0 ≡ 92 → IsLeftOf start all p text true (i + 1)
  step_mark e a b =
      let m = quoted_mark text i lt (ne_eqb (get_or text i 0) 34 a) (eq-eqb (get_or text i 0) 92 b) in
      rw (← m) (rw e at is)

  pub step_plain : escape ≡ false → get_or text i 0 ≢ 34 → get_or text i 0 ≢ 92 → (q : Program) → q ≡ with_byte (get_or text i 0) p
      → IsLeftOf start all q text false (i + 1)
  step_plain e a b q added =
      let s = quoted_plain text i lt (ne_eqb (get_or text i 0) 34 a) (ne_eqb (get_or text i 0) 92 b) (rw e at is.0) in (
        s.some,
        left_byte start all p (unwrap_or (quoted_bytes false (drop i text)) []) (rw e at is.1) (get_or text i 0)
            (unwrap_or (quoted_bytes false (drop (i + 1) text)) []) q s.bytes added,
      )
