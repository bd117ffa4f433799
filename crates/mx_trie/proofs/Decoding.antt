-- How a line is read back from its codes.
use Rattle.std.proofs.Common.{◌≡◌, ◌≢◌, ℕ, ◌+◌, ◌/◌, ◌%◌, ◌<◌, ◌≤◌, List, [], ◌∷◌, length, drop, set, refl, ap, ◌∙◌, arith, get_or-set_same}
use Rattle.std.proofs.Common.{get_or-set_other, length-drop}
use Rattle.std.proofs.lemmas.Bool.{eqb-true, cases_eq}
use Rattle.std.proofs.lemmas.List.{drop_more, ext_get_or}
use Rattle.mx_words.specs.declared.perm.Perm.{Perm}
use Rattle.mx_words.specs.declared.perm.Perm.TheVariants as P
use Rattle.mx_words.specs.Rights.{number, perm_at}
use Rattle.mx_words.proofs.NumberLaws.{number-one_to_one, number-small}
use Rattle.mx_trie.specs.Codes.{value_code, start_code}
use Rattle.mx_trie.specs.Decoded.{IsDecoded}
use Rattle.mx_trie.proofs.RunCodes.{value_code-same, value_code-other, start_code-same, start_code-other}

-- the lowest digit is the first permission
value_code-lowest : (p : Perm) (ps : List Perm) → value_code (p ∷ ps) % 4 ≡ number p
unfolding value_code
value_code-lowest p [] = omega (arith, number-small p)
value_code-lowest p (q ∷ qs) = grind (arith, eqb-true, number-small, value_code-lowest q qs)

pub value_code-first : (ps : List Perm) (i : ℕ) → i < length ps → value_code (drop i ps) % 4 ≡ number (perm_at ps i)
value_code-first ps i below =
    ap (λ (xs : List Perm). value_code xs % 4) (drop_more ps i P.None below) ∙ value_code-lowest (perm_at ps i) (drop (i + 1) ps)

-- no run but the first begins at the first word or before it
start_code-later : (i : ℕ) (ps : List Perm) (k : ℕ) → i + length ps ≤ 16 → 0 < k → k ≤ i → start_code i ps % 16 ≢ k
unfolding start_code
start_code-later i [] k short some least = λ e. omega arith
start_code-later i (p ∷ ps) k short some least =
    grind (arith, start_code-later (i + 1) ps k (omega arith) some (omega arith))

pub decoded-ended : (perms line : List Perm) (place values starts : ℕ) (p : Perm) → length perms ≡ 16 →
    length line ≡ 16 → place < 16 →
    IsDecoded perms line place values starts → number p ≡ values % 4 → starts % 16 ≡ place + 1 →
    IsDecoded perms (set line place p) (place + 1) (values / 4) (starts / 16)
decoded-ended perms line place values starts p whole long below d e at =
    let read : p ≡ perm_at perms place =
    number-one_to_one p (perm_at perms place) (cc (e, d.values_left below, value_code-first perms place (omega arith))) in
    let n : ℕ = place + 1 in
    let ends : n < length perms → number (perm_at perms place) ≢ number (perm_at perms n) = λ h.
    grind (arith, start_code-later n (drop n perms) n, length-drop n perms, start_code-same perms place n refl h, d.starts_left below) in
    search (
      arith,
      get_or-set_same,
      get_or-set_other,
      cases_eq,
      value_code-other,
      start_code-other,
      number-small,
      d.done,
      d.values_left,
      d.starts_left,
      ends,
    )

pub decoded-going : (perms line : List Perm) (place values starts : ℕ) (p : Perm) → length perms ≡ 16 →
    length line ≡ 16 → place < 16 →
    IsDecoded perms line place values starts → number p ≡ values % 4 → starts % 16 ≢ place + 1 →
    IsDecoded perms (set line place p) (place + 1) values starts
decoded-going perms line place values starts p whole long below d e later =
    let read : p ≡ perm_at perms place =
    number-one_to_one p (perm_at perms place) (cc (e, d.values_left below, value_code-first perms place (omega arith))) in
    let done : (k : ℕ) → k < place + 1 → perm_at (set line place p) k ≡ perm_at perms k =
    λ k lt. grind (arith, get_or-set_same, get_or-set_other, d.done, cases_eq k place) in
    search (arith, done, value_code-same, start_code-same, d.values_left, d.starts_left, start_code-other)

pub decoded-whole : (perms line : List Perm) (values starts : ℕ) → length perms ≡ 16 → length line ≡ 16 →
    IsDecoded perms line 16 values starts → line ≡ perms
decoded-whole perms line values starts whole long d = search (arith, ext_get_or P.None line perms, d.done)
