-- Bytes that come one after another.
use Rattle.std.proofs.Common.{◌≡◌, ℕ, ◌+◌, ◌*◌, ◌/◌, ◌%◌, ◌<◌, ◌≤◌, ◌==◌, Bool, true, false, nat_lt, length, List, [], ◌∷◌, ◌++◌, flat_map}
use Rattle.std.proofs.Common.{Some, refl, ap, subst, sym, ◌∙◌, arith, append_assoc, length-append, eqb-true, zero-add}
use Rattle.std.specs.List.{sum}
use Rattle.std.proofs.lemmas.List.{append-nil}
use Rattle.std.proofs.lemmas.List.Sums.{sum_by-append}
use Rattle.mx_io.specs.Piece.{hex_digit}
use Rattle.mx_packets.specs.declared.receiver.Place.TheVariants as P
use Rattle.mx_packets.specs.Frames.{pair}
use Rattle.mx_packets.specs.Packets.{Gathered, after, digit_of, flipped, heard}
use Rattle.mx_packets.specs.Streams.{CutsDontMatter, TextsAreHeard, Packet, Told, after_all, escaped, told, told_all}

pub cuts_dont_matter : CutsDontMatter
cuts_dont_matter g [] b = refl
cuts_dont_matter g (x ∷ a) b =
    ap (λ (t : List Told). told (after g x) (heard g x) ++ t) (cuts_dont_matter (after g x) a b)
    ∙ sym (append_assoc (told (after g x) (heard g x)) (told_all (after g x) a) (told_all (after_all (after g x) a) b))

-- within a packet
abbrev pub inside : List ℕ → ℕ → Gathered
inside body c = record { place = P.Within; body = body; checksum = c; long = false }

mod_on : (s b : ℕ) → (s % 256 + b) % 256 ≡ (s + b) % 256
mod_on s b = omega arith

-- what comes of a byte as it is sent
pub record Goes (body : List ℕ) (s : ℕ) (bytes more : List ℕ) : Type 0 where
  pub place : after_all (inside body (s % 256)) bytes ≡ inside (body ++ more) ((s + sum bytes) % 256)
  pub silent : told_all (inside body (s % 256)) bytes ≡ []

plain_byte : (b s : ℕ) (body : List ℕ) → (b == 36) ≡ false → (b == 35) ≡ false → (b == 125) ≡ false → nat_lt (length body) 4096 ≡ true
    → Goes body s (b ∷ []) (b ∷ [])
plain_byte b s body d h e few =
    let total : (s % 256 + b) % 256 ≡ (s + (0 + b)) % 256 = omega arith in
    record { place = rw (d, h, e, few) (ap (inside (body ++ b ∷ [])) total); silent = refl }

special_byte : (f b s : ℕ) (body : List ℕ) → flipped f ≡ b → nat_lt (length body) 4096 ≡ true → Goes body s (125 ∷ f ∷ []) (b ∷ [])
special_byte f b s body is few =
    let total : ((s % 256 + 125) % 256 + f) % 256 ≡ (s + (125 + f)) % 256 = omega arith in
    record { place = rw (few, is) (ap (inside (body ++ b ∷ [])) total); silent = refl }

by_tests : (b s : ℕ) (body : List ℕ) (x y z w : Bool) → (b == 35) ≡ x → (b == 36) ≡ y → (b == 42) ≡ z → (b == 125) ≡ w
    → nat_lt (length body) 4096 ≡ true → Goes body s (escaped b) (b ∷ [])
by_tests b s body true y z w e f g h few = subst (λ b. Goes body s (escaped b) (b ∷ [])) (sym (eqb-true b 35 e))
    (special_byte 3 35 s body refl few)
by_tests b s body false true z w e f g h few = subst (λ b. Goes body s (escaped b) (b ∷ [])) (sym (eqb-true b 36 f))
    (special_byte 4 36 s body refl few)
by_tests b s body false false true w e f g h few = subst (λ b. Goes body s (escaped b) (b ∷ [])) (sym (eqb-true b 42 g))
    (special_byte 10 42 s body refl few)
by_tests b s body false false false true e f g h few = subst (λ b. Goes body s (escaped b) (b ∷ [])) (sym (eqb-true b 125 h))
    (special_byte 93 125 s body refl few)
by_tests b s body false false false false e f g h few = rw (e, f, g, h) (plain_byte b s body f e h few)

after_append : (g : Gathered) (a b : List ℕ) → after_all g (a ++ b) ≡ after_all (after_all g a) b
after_append g [] b = refl
after_append g (x ∷ a) b = after_append (after g x) a b

pub sum_append : (a b : List ℕ) → sum (a ++ b) ≡ sum a + sum b
sum_append a b = sum_by-append (λ x. x) a b

is_below : (n : ℕ) → n < 4096 → nat_lt n 4096 ≡ true
is_below n h = grind arith

all_bytes : (rest body : List ℕ) (s : ℕ) → length body + length rest ≤ 4096 → Goes body s (flat_map escaped rest) rest
all_bytes [] body s few =
    let none : s ≡ s + 0 = omega arith in
    record { place = rw (append-nil body) (ap (λ n. inside body (n % 256)) none); silent = refl }
all_bytes (b ∷ rest) body s few =
    let one = by_tests b s body (b == 35) (b == 36) (b == 42) (b == 125) refl refl refl refl (is_below (length body) (omega (arith, few)))
    in
    let longer : length (body ++ b ∷ []) ≡ length body + 1 = length-append body (b ∷ []) in
    let rest_of = all_bytes rest (body ++ b ∷ []) (s + sum (escaped b)) (omega (arith, few, longer)) in
    let all = flat_map escaped rest in
    let total : s + sum (escaped b) + sum all ≡ s + sum (escaped b ++ all) = (let e = sum_append (escaped b) all in omega (arith, e)) in
    record {
      place = after_append (inside body (s % 256)) (escaped b) all ∙ ap (λ (g : Gathered). after_all g all) one.place ∙ rest_of.place
          ∙ ap (λ (l : List ℕ). inside l ((s + sum (escaped b) + sum all) % 256)) (append_assoc body (b ∷ []) rest)
          ∙ ap (λ n. inside (body ++ b ∷ rest) (n % 256)) total;
      silent = cuts_dont_matter (inside body (s % 256)) (escaped b) all
          ∙ ap (λ (t : List Told). t ++ told_all (after_all (inside body (s % 256)) (escaped b)) all) one.silent
          ∙ ap (λ (g : Gathered). told_all g all) one.place ∙ rest_of.silent;
    }

digit_is : (d : ℕ) → d < 16 → digit_of (hex_digit d) ≡ Some d
digit_is d h = grind arith

summed_true : (n : ℕ) → (16 * (n / 16) + n % 16 == n) ≡ true
summed_true n = grind arith

ends_well : (body : List ℕ) (n : ℕ) → n < 256 → told_all (inside body n) (35 ∷ pair n) ≡ Packet body ∷ []
ends_well body n few =
    let first : n / 16 < 16 = omega arith in
    let second : n % 16 < 16 = omega arith in
    rw (digit_is (n / 16) first, digit_is (n % 16) second, summed_true n) refl

pub texts_are_heard : TextsAreHeard
texts_are_heard body few =
    let all = flat_map escaped body in
    let n = sum all % 256 in
    let goes = all_bytes body [] 0 (omega (arith, few)) in
    let small : n < 256 = omega arith in
    cuts_dont_matter (inside [] 0) all (35 ∷ pair n) ∙ ap (λ (t : List Told). t ++ told_all (after_all (inside [] 0) all) (35 ∷ pair n))
    goes.silent
    ∙ ap (λ (g : Gathered). told_all g (35 ∷ pair n)) (goes.place ∙ ap (λ m. inside body (m % 256)) (zero-add (sum all)))
    ∙ ends_well body n small
