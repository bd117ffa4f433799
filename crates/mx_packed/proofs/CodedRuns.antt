-- The run of a word, read from the codes of its line.
use Rattle.std.proofs.Common.{◌≡◌, ◌≢◌, ℕ, zero, suc, ◌+◌, ◌-◌, ◌/◌, ◌%◌, ◌<◌, ◌≤◌, ◌⊎◌, inl, inr, false, List, length, drop, refl, sym, ap}
use Rattle.std.proofs.Common.{◌∙◌, arith}
use Rattle.std.proofs.lemmas.Bool.{cases_eq, ne_eqb}
use Rattle.mx_words.specs.declared.perm.Perm.{Perm}
use Rattle.mx_words.specs.declared.perm.Span.{Span}
use Rattle.mx_words.specs.Rights.{number, same, perm_at}
use Rattle.mx_words.proofs.RunLaws.{IsRound, span_within_is}
use Rattle.mx_trie.specs.Codes.{value_code, start_code}
use Rattle.mx_trie.specs.Leaf.{placed, line_run}
use Rattle.mx_words.proofs.NumberLaws.{number-one_to_one, number-small}
use Rattle.mx_trie.proofs.RunCodes.{value_code-same, value_code-other, start_code-same, start_code-other, start_code-last}

-- the words from place i on have one permission up to the next start, or to the line's end where that is 0
pub record IsRunAt (perms : List Perm) (i next : ℕ) : Type 0 where
  pub short : next < 16
  pub last : next ≡ 0 → (k : ℕ) → i ≤ k → k < 16 → perm_at perms k ≡ perm_at perms i
  pub later : next ≢ 0 → i < next
  pub alike : next ≢ 0 → (k : ℕ) → i ≤ k → k < next → perm_at perms k ≡ perm_at perms i
  pub other : next ≢ 0 → number (perm_at perms i) ≢ number (perm_at perms next)
  pub starts : next ≢ 0 → start_code i (drop i perms) / 16 ≡ start_code next (drop next perms)
  pub values : next ≢ 0 → value_code (drop i perms) / 4 ≡ value_code (drop next perms)

alike-more : (perms : List Perm) (i end : ℕ) → number (perm_at perms i) ≡ number (perm_at perms (i + 1)) →
    ((k : ℕ) → i + 1 ≤ k → k < end → perm_at perms k ≡ perm_at perms (i + 1)) → (k : ℕ) → i ≤ k → k < end
    → perm_at perms k ≡ perm_at perms i
alike-more perms i end e rest k from below = cases (cases_eq k i)
  where
    first : perm_at perms i ≡ perm_at perms (i + 1)
    first = number-one_to_one (perm_at perms i) (perm_at perms (i + 1)) e

    cases : (k ≡ i) ⊎ (k ≢ i) → perm_at perms k ≡ perm_at perms i
    cases (inl at) = ap (perm_at perms) at
    cases (inr ne) = rest k (omega arith) below ∙ sym first

run-longer : (perms : List Perm) (i next : ℕ) → length perms ≡ 16 → i + 1 < 16 → number (perm_at perms i) ≡ number (perm_at perms (i + 1)) →
    IsRunAt perms (i + 1) next → IsRunAt perms i next
run-longer perms i next whole below e r =
    let inside : i + 1 < length perms = omega arith in
    record {
      short = r.short;
      last = λ z. alike-more perms i 16 e (r.last z);
      later = λ nz. (let l = r.later nz in omega (arith, l));
      alike = λ nz. alike-more perms i next e (r.alike nz);
      other = λ nz h. r.other nz (sym e ∙ h);
      starts = λ nz. ap (λ n. n / 16) (start_code-same perms i (i + 1) refl inside e) ∙ r.starts nz;
      values = λ nz. ap (λ n. n / 4) (value_code-same perms i (i + 1) refl inside e) ∙ r.values nz;
    }

run-ended : (perms : List Perm) (i next : ℕ) → length perms ≡ 16 → i + 1 < 16 → number (perm_at perms i) ≢ number (perm_at perms (i + 1)) →
    next ≡ start_code i (drop i perms) % 16 → IsRunAt perms i next
run-ended perms i next whole below ne is =
    let inside : i + 1 < length perms = omega arith in
    let s = start_code-other perms i (i + 1) refl inside ne in
    let v = value_code-other perms i (i + 1) refl inside ne in
    let small : number (perm_at perms i) < 4 = number-small (perm_at perms i) in
    let at : next ≡ i + 1 = omega (arith, is, s) in
    record {
      short = omega (arith, at);
      last = λ z. absurd (omega (arith, at, z));
      later = λ nz. omega (arith, at);
      alike = λ nz k from to. (let same_place : k ≡ i = omega (arith, at) in ap (perm_at perms) same_place);
      other = λ nz h. ne (h ∙ ap (λ n. number (perm_at perms n)) at);
      starts = λ nz. (let quotient : start_code i (drop i perms) / 16 ≡ start_code (i + 1) (drop (i + 1) perms) = omega (arith, s) in
          quotient ∙ ap (λ n. start_code n (drop n perms)) (sym at));
      values = λ nz. (let quotient : value_code (drop i perms) / 4 ≡ value_code (drop (i + 1) perms) = omega (arith, v) in
          quotient ∙ ap (λ n. value_code (drop n perms)) (sym at));
    }

run-last : (perms : List Perm) (i next : ℕ) → length perms ≡ 16 → i ≡ 15 → next ≡ start_code i (drop i perms) % 16 → IsRunAt perms i next
run-last perms i next whole at is =
    let s = start_code-last perms i (omega arith) in
    let none : next ≡ 0 = omega (arith, is, s) in
    record {
      short = omega (arith, none);
      last = λ z k from to. (let same_place : k ≡ i = omega arith in ap (perm_at perms) same_place);
      later = λ nz. absurd (nz none);
      alike = λ nz. absurd (nz none);
      other = λ nz. absurd (nz none);
      starts = λ nz. absurd (nz none);
      values = λ nz. absurd (nz none);
    }

run-step : (perms : List Perm) (i next : ℕ) → length perms ≡ 16 → i + 1 < 16 → next ≡ start_code i (drop i perms) % 16 →
    (next ≡ start_code (i + 1) (drop (i + 1) perms) % 16 → IsRunAt perms (i + 1) next) →
    (number (perm_at perms i) ≡ number (perm_at perms (i + 1))) ⊎ (number (perm_at perms i) ≢ number (perm_at perms (i + 1)))
    → IsRunAt perms i next
run-step perms i next whole below is rest (inl e) =
    let inside : i + 1 < length perms = omega arith in
    run-longer perms i next whole below e (rest (is ∙ ap (λ s. s % 16) (start_code-same perms i (i + 1) refl inside e)))
run-step perms i next whole below is rest (inr ne) = run-ended perms i next whole below ne is

pub run-at : (n : ℕ) (perms : List Perm) (i next : ℕ) → length perms ≡ 16 → i + n ≡ 15 → next ≡ start_code i (drop i perms) % 16
    → IsRunAt perms i next
run-at zero perms i next whole sum is = run-last perms i next whole (omega arith) is
run-at (suc n) perms i next whole sum is =
    run-step perms i next whole (omega arith) is (run-at n perms (i + 1) next whole (omega arith))
    (cases_eq (number (perm_at perms i)) (number (perm_at perms (i + 1))))

-- the codes that are left are those of the words from a run's first word on, which is at the place or before it
pub record IsBegun (perms : List Perm) (place first values starts : ℕ) : Type 0 where
  pub from : first ≤ place
  pub values_left : values ≡ value_code (drop first perms)
  pub starts_left : starts ≡ start_code first (drop first perms)
  pub begins : 0 < first → same (perm_at perms first) (perm_at perms (first - 1)) ≡ false

pub begun-more : (perms : List Perm) (place first values starts : ℕ) → length perms ≡ 16 → place < 16
    → IsBegun perms place first values starts →
    starts % 16 ≢ 0 → starts % 16 ≤ place → IsBegun perms place (starts % 16) (values / 4) (starts / 16)
begun-more perms place first values starts whole below b some at =
    let r : IsRunAt perms first (starts % 16) = run-at (15 - first) perms first (starts % 16) whole (omega (arith, b.from))
    (ap (λ s. s % 16) b.starts_left) in
    let later : first < starts % 16 = r.later some in
    let before : perm_at perms (starts % 16 - 1) ≡ perm_at perms first = r.alike some (starts % 16 - 1) (omega arith) (omega arith) in
    record {
      from = at;
      values_left = ap (λ v. v / 4) b.values_left ∙ r.values some;
      starts_left = ap (λ s. s / 16) b.starts_left ∙ r.starts some;
      begins = λ _. ne_eqb (number (perm_at perms (starts % 16))) (number (perm_at perms (starts % 16 - 1))) (λ h.
          r.other some (ap number (sym before) ∙ sym h));
    }

-- where the run ends
pub record IsEnd (perms : List Perm) (place first end : ℕ) : Type 0 where
  pub later : place < end
  pub short : end ≤ 16
  pub alike : (k : ℕ) → first ≤ k → k < end → perm_at perms k ≡ perm_at perms first
  pub after : end < 16 → same (perm_at perms first) (perm_at perms end) ≡ false

pub end-at : (perms : List Perm) (place first values starts : ℕ) → length perms ≡ 16 → place < 16
    → IsBegun perms place first values starts →
    starts % 16 ≢ 0 → place < starts % 16 → IsEnd perms place first (starts % 16)
end-at perms place first values starts whole below b some far =
    let r : IsRunAt perms first (starts % 16) = run-at (15 - first) perms first (starts % 16) whole (omega (arith, b.from))
    (ap (λ s. s % 16) b.starts_left) in
    record {
      later = far;
      short = omega (arith, r.short);
      alike = r.alike some;
      after = λ _. ne_eqb (number (perm_at perms first)) (number (perm_at perms (starts % 16))) (r.other some);
    }

pub end-last : (perms : List Perm) (place first values starts : ℕ) → length perms ≡ 16 → place < 16
    → IsBegun perms place first values starts →
    starts % 16 ≡ 0 → IsEnd perms place first 16
end-last perms place first values starts whole below b none =
    let r : IsRunAt perms first (starts % 16) = run-at (15 - first) perms first (starts % 16) whole (omega (arith, b.from))
    (ap (λ s. s % 16) b.starts_left) in
    record { later = below; short = omega arith; alike = r.last none; after = λ h. absurd (omega arith) }

-- the span between
pub run-between : (perms : List Perm) (line place first end : ℕ) (run : Span) → length perms ≡ 16 → place < 16 → first ≤ place →
    (0 < first → same (perm_at perms first) (perm_at perms (first - 1)) ≡ false) → IsEnd perms place first end →
    run.first ≡ line + first → run.count ≡ end - first → run.perm ≡ perm_at perms first → run ≡ placed line (line_run perms place)
run-between perms line place first end run whole below from begins ends at count perm =
    let here : perm_at perms place ≡ perm_at perms first = ends.alike place from ends.later in
    let round : IsRound perms 0 16 first end place = record {
      from = omega arith;
      left = from;
      right = ends.later;
      to = ends.short;
      inside = λ j lo hi. here ∙ sym (ends.alike j lo hi);
      before = λ some. ap (λ p. same p (perm_at perms (first - 1))) here ∙ begins some;
      after = λ short. ap (λ p. same p (perm_at perms end)) here ∙ ends.after short;
    } in
    let is : line_run perms place ≡ record { first = first; count = end - first; perm = perm_at perms place } =
    span_within_is perms 0 16 first end place (omega arith) round in
    ap (λ (n : ℕ). record { first = n; count = run.count; perm = run.perm }) at
    ∙ ap (λ (n : ℕ). record { first = line + first; count = n; perm = run.perm }) count
    ∙ ap (λ (p : Perm). record { first = line + first; count = end - first; perm = p }) (perm ∙ sym here)
    ∙ sym (ap (placed line) is)
