-- Ranges of the fields of a snapshot, and numbers that mean something.
use Rattle.std.proofs.Common.{◌≡◌, ℕ, zero, suc, ◌+◌, ◌*◌, ◌/◌, ◌%◌, ◌^◌, ◌<◌, ◌≤◌, ◌==◌, Bool, true, false, nat_lt, nat_le, ◌||◌, ◌⊎◌}
use Rattle.std.proofs.Common.{List, [], ◌∷◌, ◌++◌, length, ap, ◌∙◌, arith, leb-true, le-leb, ltb-true, eqb-true, zero-add, if◌then◌else◌}
use Rattle.std.specs.List.{AllByRecursion}
use Rattle.std.proofs.lemmas.Bool.{and_from, and_parts}
use Rattle.std.proofs.lemmas.List.Sums.{sum_by-append}
use Rattle.mx_words.specs.declared.perm.Perm.{Perm}
use Rattle.mx_words.specs.declared.tables.Kind.{Kind}
use Rattle.mx_words.specs.Counting.{bit}
use Rattle.mx_words.specs.Ranges.{most_words}
use Rattle.mx_words.specs.Rights.{number}
use Rattle.mx_words.specs.Runs.{Run}
use Rattle.mx_words.specs.Limits.{is_buffer}
use Rattle.mx_manifest.specs.Forms.{is_within}
use Rattle.mx_manifest.specs.InRange.{IsBetween}
use Rattle.mx_machine.specs.declared.views.HartStatus.{HartStatus}
use Rattle.mx_snapshot.specs.Fields.{kind_by, perm_by, run_by, status_by}
use Rattle.mx_snapshot.specs.Fits.{EachFits, IsHead}
use Rattle.mx_snapshot.specs.Rules.{has_place, is_area, is_heard, run_words}
use Rattle.mx_snapshot.specs.Spelling.{kind_number, status_number}
use Rattle.mx_snapshot.specs.Stored.{Head}

pub within_range : (low high n : ℕ) → is_within low high n ≡ true → IsBetween low high n
within_range low high n e = let p = and_parts (nat_le low n) (nat_le n high) e in (leb-true low n p.0, leb-true n high p.1)

pub range_within : (low high n : ℕ) → IsBetween low high n → is_within low high n ≡ true
range_within low high n b = and_from (nat_le low n) (nat_le n high) (le-leb low n b.0) (le-leb n high b.1)

pub from_zero : (high n : ℕ) → n ≤ high → IsBetween 0 high n
from_zero high n le = (omega arith, le)

pub small_words : (h : Head) → IsHead h → h.words ≤ 16777216
small_words h f = (within_range 16384 most_words h.words (and_parts (is_within 16384 most_words h.words) (h.words % 1024 == 0) f.words).0).1

either : (x y : Bool) → (x || y) ≡ true → (x ≡ true) ⊎ (y ≡ true)
either x y e = grind arith

pub small_buffer : (n : ℕ) → is_buffer n ≡ true → n ≤ 64
small_buffer n e = search (arith, either)

pub small_area : (words first count : ℕ) → is_area words first count ≡ true → first + count ≤ words
small_area words first count e = leb-true (first + count) words
    (and_parts (nat_le (first + count) words) (nat_lt 0 count || first == 0) e).0

pub each_part : (n m : ℕ) → 1 ≤ m → n ≤ n * m
each_part n x le = grind arith

pub small_place : {A : Type 0} (words runs : ℕ) (before : List (Run A)) (count : ℕ) → has_place words runs before count ≡ true
    → (0 < count) × (run_words before + count ≤ words)
small_place words runs before count e =
    let p = and_parts (nat_lt 0 count) _ e in
    (ltb-true 0 count p.0, chosen (run_words before + count) (length before + 1 == runs) p.1) where
      chosen : (end : ℕ) (c : Bool) → (if c then end == words else nat_le end words) ≡ true → end ≤ words
      chosen end true h = omega (arith, eqb-true end words h)
      chosen end false h = leb-true end words h

pub run_words_more : {A : Type 0} (before : List (Run A)) (r : Run A) → run_words (before ++ r ∷ []) ≡ run_words before + r.count
run_words_more before r = sum_by-append (λ x. x.count) before (r ∷ []) ∙ ap (λ (k : ℕ). run_words before + k) (zero-add r.count)

-- there are no more runs than words
pub few_runs : {A : Type 0} (words : ℕ) (fits : List (Run A) → Run A → Type 0)
    → ((before : List (Run A)) (r : Run A) → fits before r → (0 < r.count) × (run_words before + r.count ≤ words))
    → (xs before : List (Run A)) → run_words before ≤ words → EachFits fits before xs → run_words before + length xs ≤ words
few_runs words fits each [] before le f = omega (arith, le)
few_runs words fits each (x ∷ xs) before le f =
    let p = each before x f.0 in
    let more = run_words_more before x in
    let rest = few_runs words fits each xs (before ++ x ∷ []) (omega (arith, more, p.1)) f.1 in
    omega (arith, more, p.0, rest)

pub kind_small : (k : Kind) → IsBetween 0 2 (kind_number k)
kind_small x = grind arith

pub kind_again : (k : Kind) → kind_by (kind_number k) ≡ k
kind_again x = grind arith

pub kind_back : (n : ℕ) → n ≤ 2 → n ≡ kind_number (kind_by n)
kind_back x le = grind arith

pub status_small : (s : HartStatus) → IsBetween 0 2 (status_number s)
status_small x = grind arith

pub status_again : (s : HartStatus) → status_by (status_number s) ≡ s
status_again x = grind arith

pub status_back : (n : ℕ) → n ≤ 2 → n ≡ status_number (status_by n)
status_back x le = grind arith

pub bit_small : (b : Bool) → IsBetween 0 1 (bit b)
bit_small x = grind arith

pub bit_again : (b : Bool) → (bit b == 1) ≡ b
bit_again x = grind arith

pub bit_back : (n : ℕ) → n ≤ 1 → n ≡ bit (n == 1)
bit_back x le = grind arith

pub perm_small : (p : Perm) → number p ≤ 3
perm_small x = grind arith

perm_again : (p : Perm) → perm_by (number p) ≡ p
perm_again x = grind arith

perm_back : (n : ℕ) → n < 4 → number (perm_by n) ≡ n
perm_back x lt = grind arith

pub run_again : (r : Run Perm) → run_by (4 * r.count + number r.value) ≡ r
run_again r = search (arith, perm_small, r.count, r.value, perm_again)

pub run_back : (n : ℕ) → n ≡ 4 * (n / 4) + number (perm_by (n % 4))
run_back n = search (arith, perm_back)

power_small : (n : ℕ) → n ≤ 4 → 2 ^ n ≤ 16
power_small zero le = omega arith
power_small (suc zero) le = omega arith
power_small (suc (suc zero)) le = omega arith
power_small (suc (suc (suc zero))) le = omega arith
power_small (suc (suc (suc (suc zero)))) le = omega arith
power_small (suc (suc (suc (suc (suc n))))) le = absurd (omega (arith, le))

pub heard_small : (harts h : ℕ) (status : HartStatus) (heard : ℕ) → harts ≤ 4 → is_heard harts h status heard ≡ true → heard < 2 ^ 32
heard_small harts h x heard le e = grind (arith, and_parts, power_small)

-- a property of each item, whatever stands before it, and two properties of each
pub each_of : {A : Type 0} (P : A → Type 0) (xs before : List A) → AllByRecursion P xs → EachFits (λ others x. P x) before xs
each_of P [] before all = tt
each_of P (x ∷ xs) before all = (all.0, each_of P xs (before ++ x ∷ []) all.1)

pub all_of : {A : Type 0} (P : A → Type 0) (xs before : List A) → EachFits (λ others x. P x) before xs → AllByRecursion P xs
all_of P [] before f = tt
all_of P (x ∷ xs) before f = (f.0, all_of P xs (before ++ x ∷ []) f.1)

pub each_both : {A : Type 0} (P : List A → A → Type 0) (Q : A → Type 0) (xs before : List A) → EachFits P before xs → AllByRecursion Q xs
    → EachFits (λ others x. Q x × P others x) before xs
each_both P Q [] before f all = tt
each_both P Q (x ∷ xs) before f all = ((all.0, f.0), each_both P Q xs (before ++ x ∷ []) f.1 all.1)

pub each_left : {A : Type 0} (P : List A → A → Type 0) (Q : A → Type 0) (xs before : List A)
    → EachFits (λ others x. Q x × P others x) before xs → AllByRecursion Q xs
each_left P Q [] before f = tt
each_left P Q (x ∷ xs) before f = (f.0.0, each_left P Q xs (before ++ x ∷ []) f.1)

pub each_right : {A : Type 0} (P : List A → A → Type 0) (Q : A → Type 0) (xs before : List A)
    → EachFits (λ others x. Q x × P others x) before xs → EachFits P before xs
each_right P Q [] before f = tt
each_right P Q (x ∷ xs) before f = (f.0.1, each_right P Q xs (before ++ x ∷ []) f.1)
