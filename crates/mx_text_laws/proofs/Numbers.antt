-- Numbers in decimal are read back.
use Rattle.std.proofs.Common.{◌≡◌, ℕ, suc, ◌+◌, ◌-◌, ◌/◌, ◌%◌, ◌^◌, ◌<◌, ◌≤◌, Bool, true, false, ◌&&◌, List, [], ◌∷◌, ◌++◌, length, fold}
use Rattle.std.proofs.Common.{refl, ap, ◌∙◌, arith, nat_eq, nat_le, Some, decimal, codes}
use Rattle.std.specs.Char.{is_ascii_digit}
use Rattle.std.specs.List.{list_all, starts_with}
use Rattle.std.proofs.lemmas.Bool.{leb-true, lt-ltb, le-leb, le-ltb, and_parts, and_from, ne_eqb, lt-leb}
use Rattle.std.proofs.lemmas.Fmt.{decimal_by_steps}
use Rattle.std.proofs.lemmas.List.{length-append}
use Rattle.std.proofs.lemmas.List.Folds.{list_all-append}
use Rattle.mx_source.specs.declared.number.Number.{Number}
use Rattle.mx_source.specs.Characters.{begins_name, is_in_name}
use Rattle.mx_source.specs.Operands.{is_name}
use Rattle.mx_source.specs.Numbers.{cap, decimal_step, decimal_of, number_of, plain_number, negative_number}
use Rattle.mx_trace.specs.Text.{signed_text}
use Rattle.mx_text_laws.proofs.Solid.{is_solid, is_free, IsPart}

-- digits that say a number
record IsDecimal (n : ℕ) (ds : List ℕ) : Type 0 where
  some : 0 < length ds
  digits : list_all is_ascii_digit ds ≡ true
  value : fold decimal_step 0 ds ≡ cap n

is_digit : (d : ℕ) → d < 10 → is_ascii_digit (48 + d) ≡ true
is_digit d lt = and_from (nat_le 48 (48 + d)) (nat_le (48 + d) 57) (le-leb 48 (48 + d) (omega arith)) (le-leb (48 + d) 57 (omega arith))

fold_push : (xs : List ℕ) (a y : ℕ) → fold decimal_step a (xs ++ y ∷ []) ≡ decimal_step (fold decimal_step a xs) y
fold_push [] a y = refl
fold_push (x ∷ xs) a y = fold_push xs (decimal_step a x) y

one_digit : (n : ℕ) → n < 10 → IsDecimal n ((48 + n) ∷ [])
one_digit n lt = record { some = omega arith; digits = and_from (is_ascii_digit (48 + n)) true (is_digit n lt) refl; value = omega arith }

more_digits : (n : ℕ) (ds : List ℕ) → 10 ≤ n → IsDecimal (n / 10) ds → IsDecimal n (ds ++ (48 + n % 10) ∷ [])
more_digits n ds le h =
    record {
      some = omega (arith, h.some, length-append ds ((48 + n % 10) ∷ []));
      digits = rw list_all-append (and_from (list_all is_ascii_digit ds) (list_all is_ascii_digit ((48 + n % 10) ∷ [])) h.digits
          (and_from (is_ascii_digit (48 + n % 10)) true (is_digit (n % 10) (omega arith)) refl));
      value = rw (fold_push ds 0 (48 + n % 10), h.value) (omega arith);
    }

all_digits : (n : ℕ) → n < 2 ^ 64 → IsDecimal n (decimal n)
all_digits n lt = decimal_by_steps IsDecimal one_digit more_digits n lt

-- a digit is no blank, no mark and no sign
digit_solid : (c : ℕ) → is_ascii_digit c ≡ true → is_solid c ≡ true
digit_solid c h =
    let p = and_parts (nat_le 48 c) (nat_le c 57) h in
    let low = leb-true 48 c p.0 in
    let high = leb-true c 57 p.1 in
    rw (
      lt-ltb 32 c (omega arith),
      ne_eqb c 34 (λ z. omega (arith, z, low)),
      ne_eqb c 35 (λ z. omega (arith, z, low)),
      ne_eqb c 44 (λ z.
          omega (arith, z, low)),
      ne_eqb c 58 (λ z. omega (arith, z, high)),
    ) refl

digits_solid : (cs : List ℕ) → list_all is_ascii_digit cs ≡ true → list_all is_solid cs ≡ true
digits_solid [] h = refl
digits_solid (c ∷ cs) h =
    let p = and_parts (is_ascii_digit c) (list_all is_ascii_digit cs) h in
    and_from (is_solid c) (list_all is_solid cs) (digit_solid c p.0) (digits_solid cs p.1)

pub decimal-part : (n : ℕ) → n < 2 ^ 64 → IsPart (decimal n)
decimal-part n lt = let d = all_digits n lt in record { some = d.some; all = digits_solid (decimal n) d.digits }

-- digits are read as they say
decimal-of : (n : ℕ) → n < 2 ^ 33 → decimal_of (decimal n) ≡ Some n
unfolding decimal_of
decimal-of n lt =
    let d = all_digits n (omega arith) in
    let v : fold decimal_step 0 (decimal n) ≡ n = d.value ∙ omega arith in
    rw (lt-ltb 0 (length (decimal n)) d.some, d.digits, v) refl

not_sign : (ds : List ℕ) → 0 < length ds → list_all is_ascii_digit ds ≡ true → starts_with nat_eq ds (codes "-") ≡ false
not_sign [] some h = absurd (omega arith)
not_sign (c ∷ cs) some h =
    let p = and_parts (is_ascii_digit c) (list_all is_ascii_digit cs) h in
    let low = leb-true 48 c (and_parts (nat_le 48 c) (nat_le c 57) p.0).0 in
    rw (ne_eqb 45 c (λ z. omega (arith, z, low))) refl

not_hex : (ds : List ℕ) → list_all is_ascii_digit ds ≡ true → starts_with nat_eq ds (codes "0x") ≡ false
not_hex [] h = refl
not_hex (c ∷ []) h = elim (nat_eq 48 c) as (λ b. (b && false) ≡ false) [ true ↦ refl | false ↦ refl ]
not_hex (c ∷ d ∷ ds) h =
    let p = and_parts (is_ascii_digit d) (list_all is_ascii_digit ds) (and_parts (is_ascii_digit c) (list_all is_ascii_digit (d ∷ ds)) h).1
    in
    let high = leb-true d 57 (and_parts (nat_le 48 d) (nat_le d 57) p.0).1 in
    let e = ne_eqb 120 d (λ z. omega (arith, z, high)) in
    elim (nat_eq 48 c) as (λ b. (b && (nat_eq 120 d && true)) ≡ false) [ true ↦ rw e refl | false ↦ refl ]

pub number-plain : (n : ℕ) → n < 2 ^ 33 → number_of (decimal n) ≡ Some (plain_number n)
unfolding number_of
number-plain n lt =
    let d = all_digits n (omega arith) in
    rw (not_sign (decimal n) d.some d.digits, not_hex (decimal n) d.digits, decimal-of n lt) refl

pub number-negative : (n : ℕ) → n < 2 ^ 33 → number_of (45 ∷ decimal n) ≡ Some (negative_number n)
unfolding number_of
number-negative n lt = rw (decimal-of n lt) refl

digit_free : (c : ℕ) → is_ascii_digit c ≡ true → is_free c ≡ true
digit_free c h =
    let low = leb-true 48 c (and_parts (nat_le 48 c) (nat_le c 57) h).0 in
    rw (ne_eqb c 40 (λ z. omega (arith, z, low)), ne_eqb c 41 (λ z. omega (arith, z, low))) refl

digits_free : (cs : List ℕ) → list_all is_ascii_digit cs ≡ true → list_all is_free cs ≡ true
digits_free [] h = refl
digits_free (c ∷ cs) h =
    let p = and_parts (is_ascii_digit c) (list_all is_ascii_digit cs) h in
    and_from (is_free c) (list_all is_free cs) (digit_free c p.0) (digits_free cs p.1)

middle_false : (a b : Bool) → (a && false && b) ≡ false
middle_false true b = refl
middle_false false b = refl

middle_at : (a b c : Bool) → b ≡ false → (a && b && c) ≡ false
middle_at a b c h = rw h (middle_false a c)

digits_unnamed : (cs : List ℕ) → 0 < length cs → list_all is_ascii_digit cs ≡ true → is_name cs ≡ false
unfolding is_name
digits_unnamed [] some h = absurd (omega arith)
digits_unnamed (c ∷ cs) some h =
    let p = and_parts (is_ascii_digit c) (list_all is_ascii_digit cs) h in
    let high = leb-true c 57 (and_parts (nat_le 48 c) (nat_le c 57) p.0).1 in
    let begins : begins_name c ≡ false = rw (
      lt-leb 65 c (omega arith),
      lt-leb 97 c (omega arith),
      ne_eqb c 95 (λ z.
          omega (arith, z, high)),
    ) refl in
    middle_at (nat_le (length (c ∷ cs)) 64) (begins_name c) (list_all is_in_name (c ∷ cs)) begins

minus_unnamed : (cs : List ℕ) → is_name (45 ∷ cs) ≡ false
unfolding is_name
minus_unnamed cs = middle_false (nat_le (length (45 ∷ cs)) 64) (list_all is_in_name (45 ∷ cs))

-- a text that is read as a number
pub record IsNumber (text : List ℕ) (z : Number) : Type 0 where
  pub part : IsPart text
  pub free : list_all is_free text ≡ true
  pub read : number_of text ≡ Some z
  pub unnamed : is_name text ≡ false

pub plain-number : (n : ℕ) → n < 2 ^ 33 → IsNumber (decimal n) (plain_number n)
plain-number n lt =
    let d = all_digits n (omega arith) in
    record {
      part = decimal-part n (omega arith);
      free = digits_free (decimal n) d.digits;
      read = number-plain n lt;
      unnamed =
          digits_unnamed (decimal n) d.some d.digits;
    }

pub negative-number : (n : ℕ) → n < 2 ^ 33 → IsNumber (45 ∷ decimal n) (negative_number n)
negative-number n lt =
    let d = all_digits n (omega arith) in
    record {
      part = record { some = omega arith; all = digits_solid (decimal n) d.digits };
      free = digits_free (decimal n) d.digits;
      read =
          number-negative n lt;
      unnamed = minus_unnamed (decimal n);
    }

-- 32 bits as a signed number
pub low-text : (imm : ℕ) → imm < 2 ^ 31 → signed_text imm ≡ decimal imm
low-text imm lt = rw (lt-ltb imm (2 ^ 31) lt) refl

pub high-text : (imm : ℕ) → 2 ^ 31 ≤ imm → imm < 2 ^ 32 → signed_text imm ≡ 45 ∷ decimal (2 ^ 32 - imm)
high-text imm le lt =
    let e : suc (2 ^ 32 - suc imm) ≡ 2 ^ 32 - imm = omega arith in
    rw (le-ltb imm (2 ^ 31) le) (ap (λ n. 45 ∷ decimal n) e)
