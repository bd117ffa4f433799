-- Registers in decimal are read back.
use Rattle.std.proofs.Common.{◌≡◌, ◌==◌, ℕ, ◌<◌, Bool, true, false, ◌&&◌, List, ◌∷◌, length, refl, nat_lt, Option, Some, None, decimal}
use Rattle.std.specs.Fmt.{digits}
use Rattle.std.specs.List.{list_all}
use Rattle.std.specs.Option.{option_map_or}
use Rattle.std.proofs.lemmas.Bool.{ltb-true, and_parts, eqb-true}
use Rattle.mx_source.specs.Operands.{register_of, is_name}
use Rattle.mx_text_laws.proofs.Solid.{is_solid, is_free, IsPart}
use Rattle.mx_words.specs.Counting.{all_below}
use Rattle.mx_words.proofs.CountingLaws.{all_below-at}

-- a register's text
abbrev pub register : ℕ → List ℕ
register r = 120 ∷ decimal r

abbrev is_read : ℕ → Bool
is_read r = option_map_or (λ k. k == r) (register_of (register r)) false && is_name (register r) && list_all is_free (register r)
    && nat_lt 0 (length (register r)) && list_all is_solid (register r)

all_read : all_below 32 is_read ≡ true
unfolding register_of is_name digits all_below
all_read = refl

read_some : (o : Option ℕ) (r : ℕ) → option_map_or (λ k. k == r) o false ≡ true → o ≡ Some r
read_some None r h = cc
read_some (Some k) r h = rw (eqb-true k r h) refl

pub record IsRegister (r : ℕ) : Type 0 where
  pub read : register_of (register r) ≡ Some r
  pub name : is_name (register r) ≡ true
  pub free : list_all is_free (register r) ≡ true
  pub part : IsPart (register r)

pub register-read : (r : ℕ) → r < 32 → IsRegister r
register-read r lt =
    let h = all_below-at 32 r is_read all_read lt in
    let x = option_map_or (λ k. k == r) (register_of (register r)) false in
    let a = and_parts (x && is_name (register r) && list_all is_free (register r) && nat_lt 0 (length (register r)))
    (list_all is_solid (register r)) h in
    let b = and_parts (x && is_name (register r) && list_all is_free (register r)) (nat_lt 0 (length (register r))) a.0 in
    let e = and_parts (x && is_name (register r)) (list_all is_free (register r)) b.0 in
    let d = and_parts x (is_name (register r)) e.0 in
    record {
      read = read_some (register_of (register r)) r d.0;
      name = d.1;
      free = e.1;
      part =
          record { some = ltb-true 0 (length (register r)) b.1; all = a.1 };
    }
