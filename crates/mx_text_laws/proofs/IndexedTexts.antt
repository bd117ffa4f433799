-- A number before a register in brackets is read back.
use Rattle.std.proofs.Common.{◌≡◌, ◌==◌, ℕ, suc, ◌+◌, ◌-◌, Bool, true, false, not, ◌||◌, List, [], ◌∷◌, ◌++◌, length, take, drop, refl, ap}
use Rattle.std.proofs.Common.{sym, arith, Some, is_some, position, append_assoc, add-one}
use Rattle.std.specs.List.{list_all}
use Rattle.std.proofs.lemmas.Bool.{and_parts, and_from, lt-ltb, eq-eqb, or_right}
use Rattle.std.proofs.lemmas.List.{length-append, take_at}
use Rattle.std.proofs.lemmas.List.Folds.{list_all-append}
use Rattle.mx_source.specs.declared.number.Number.{Number}
use Rattle.mx_source.specs.Characters.{trim}
use Rattle.mx_source.specs.Numbers.{number_of}
use Rattle.mx_source.specs.Operands.{Indexed, name_between, indexed_of, is_operand, is_name, text_of}
use Rattle.mx_text_laws.proofs.Solid.{is_solid, is_free, IsPart, trim-solid}
use Rattle.mx_text_laws.proofs.Splitting.{prefix-whole}
use Rattle.mx_text_laws.proofs.Registers.{register, IsRegister}
use Rattle.mx_text_laws.proofs.Numbers.{IsNumber}

not_open : (xs : List ℕ) → list_all is_free xs ≡ true → list_all (λ c. not (c == 40)) xs ≡ true
not_open [] h = refl
not_open (c ∷ cs) h =
    let p = and_parts (is_free c) (list_all is_free cs) h in
    and_from (not (c == 40)) (list_all (λ x. not (x == 40)) cs) (and_parts (not (c == 40)) (not (c == 41)) p.0).0 (not_open cs p.1)

not_close : (xs : List ℕ) → list_all is_free xs ≡ true → list_all (λ c. not (c == 41)) xs ≡ true
not_close [] h = refl
not_close (c ∷ cs) h =
    let p = and_parts (is_free c) (list_all is_free cs) h in
    and_from (not (c == 41)) (list_all (λ x. not (x == 41)) cs) (and_parts (not (c == 40)) (not (c == 41)) p.0).1 (not_close cs p.1)

place-whole : (p : ℕ → Bool) (xs : List ℕ) (y : ℕ) (ys : List ℕ) → list_all (λ c. not (p c)) xs ≡ true → not (p y) ≡ false
    → position p (xs ++ y ∷ ys) ≡ Some (length xs)
place-whole p xs y ys h f =
    rw (prefix-whole (λ c. not (p c)) xs y ys h f, lt-ltb (length xs) (length (xs ++ y ∷ ys)) (omega (arith, length-append xs (y ∷ ys))))
    refl

drop-more : (xs : List ℕ) (y : ℕ) (ys : List ℕ) (n : ℕ) → n ≡ length xs → drop (suc n) (xs ++ y ∷ ys) ≡ ys
drop-more [] y ys n e = rw e refl
drop-more (x ∷ xs) y ys n e = rw e (drop-more xs y ys (length xs) refl)

module _ (num : List ℕ) (z : Number) (r : ℕ) (number : IsNumber num z) (named : IsRegister r) where
  open_at : position (λ c. c == 40) (num ++ 40 ∷ (register r ++ 41 ∷ [])) ≡ Some (length num)
  open_at = place-whole (λ c. c == 40) num 40 (register r ++ 41 ∷ []) (not_open num number.free) refl

  before : list_all (λ c. not (c == 41)) (num ++ 40 ∷ register r) ≡ true
  before = rw list_all-append (and_from (list_all (λ c. not (c == 41)) num) (list_all (λ c. not (c == 41)) (40 ∷ register r))
      (not_close num number.free) (not_close (register r) named.free))

  split : num ++ 40 ∷ (register r ++ 41 ∷ []) ≡ (num ++ 40 ∷ register r) ++ 41 ∷ []
  split = sym (append_assoc num (40 ∷ register r) (41 ∷ []))

  close_at : position (λ c. c == 41) (num ++ 40 ∷ (register r ++ 41 ∷ [])) ≡ Some (length (num ++ 40 ∷ register r))
  close_at = rw split (place-whole (λ c. c == 41) (num ++ 40 ∷ register r) 41 [] before refl)

  between : name_between (num ++ 40 ∷ (register r ++ 41 ∷ [])) (length num) (length (num ++ 40 ∷ register r)) ≡ Some (register r)
  unfolding name_between
  between =
      let whole : (length (num ++ 40 ∷ register r) + 1 == length (num ++ 40 ∷ (register r ++ 41 ∷ []))) ≡ true =
      eq-eqb (length (num ++ 40 ∷ register r) + 1) (length (num ++ 40 ∷ (register r ++ 41 ∷ [])))
      (omega (arith, ap length split, length-append (num ++ 40 ∷ register r) (41 ∷ []))) in
      let n : length (num ++ 40 ∷ register r) - (length num + 1) ≡ length (register r) =
      omega (arith, length-append num (40 ∷ register r)) in
      let d : drop (length num + 1) (num ++ 40 ∷ (register r ++ 41 ∷ [])) ≡ register r ++ 41 ∷ [] =
      rw add-one (drop-more num 40 (register r ++ 41 ∷ []) (length num) refl) in
      let t : trim (take (length (num ++ 40 ∷ register r) - (length num + 1)) (drop (length num + 1) (num ++ 40 ∷ (register r ++ 41 ∷ []))))
      ≡ register r =
      rw (n, d, take_at (register r) (41 ∷ []) (length (register r)) refl) (trim-solid (register r) named.part) in
      rw (whole, t, named.name) refl

  pub indexed-read : indexed_of (num ++ 40 ∷ (register r ++ 41 ∷ [])) ≡ Some (record { number = z; name = register r })
  unfolding indexed_of
  indexed-read = rw (
    open_at,
    close_at,
    take_at num (40 ∷ (register r ++ 41 ∷ [])) (length num) refl,
    trim-solid num
        number.part,
    number.read,
    between,
  ) refl

  pub indexed-part : IsPart (num ++ 40 ∷ (register r ++ 41 ∷ []))
  indexed-part =
      let inner : list_all is_solid (register r ++ 41 ∷ []) ≡ true =
      rw list_all-append (and_from (list_all is_solid (register r)) (list_all is_solid (41 ∷ [])) named.part.all refl) in
      record {
        some = omega (arith, length-append num (40 ∷ (register r ++ 41 ∷ [])));
        all = rw list_all-append (and_from (list_all is_solid num) (list_all is_solid (40 ∷ (register r ++ 41 ∷ []))) number.part.all
            inner);
      }

or_middle : (a b c : Bool) → (a || true || b || c) ≡ true
or_middle true b c = refl
or_middle false b c = refl

pub operand-number : (num : List ℕ) (z : Number) → IsNumber num z → is_operand num ≡ true
operand-number num z h = rw h.read (or_middle (is_name num) (is_some (text_of num)) (is_some (indexed_of num)))

pub operand-register : (r : ℕ) → IsRegister r → is_operand (register r) ≡ true
operand-register r h = rw h.name refl

pub operand-indexed : (text : List ℕ) (i : Indexed) → indexed_of text ≡ Some i → is_operand text ≡ true
operand-indexed text i h = or_right (is_name text || is_some (number_of text) || is_some (text_of text)) (is_some (indexed_of text))
    (ap is_some h)
