-- Arrays of what each domain gets, as they are filled from domain 1 on.
use Rattle.std.proofs.Common.{◌≡◌, ◌≢◌, ℕ, ◌<◌, ◌≤◌, ◌==◌, cond, List, length, get_or, set, replicate, refl, sym, ◌∙◌, ap, subst, arith}
use Rattle.std.proofs.Common.{◌⊎◌, ⊎_elim, inl, inr, Option, Some, None}
use Rattle.std.proofs.lemmas.Bool.{cases_eq, ne_eqb, eq-eqb}
use Rattle.std.proofs.lemmas.List.{length-replicate, get_or-set_same, get_or-set_other}
use Rattle.mx_words.specs.declared.perm.Perm.{Perm}
use Rattle.mx_table.proofs.NamedLaws.{everywhere}
use Rattle.mx_model.specs.Serve.{to_one}
use Rattle.mx_supervisor.specs.Rights.{Gives}

-- the domains from 1 up to one get what a function says, and no other domain is named
pub record IsFilled (perms : List (Option Perm)) (end : ℕ) (f : ℕ → Option Perm) : Type 0 where
  pub places : length perms ≡ 64
  pub rest : (d : ℕ) → (d ≡ 0) ⊎ (end ≤ d) → get_or perms d None ≡ None
  pub filled : (d : ℕ) → 1 ≤ d → d < end → get_or perms d None ≡ f d

pub filled-start : (f : ℕ → Option Perm) → IsFilled (replicate 64 None) 1 f
filled-start f = record {
  places = length-replicate {A = Option Perm} 64 None;
  rest = λ d h. everywhere 64 d None;
  filled = λ d l m. absurd (let q : ⊥ = omega (arith, l, m) in q);
}

-- one domain alone
pub one-gives : (perms : List (Option Perm)) (first count domain modules : ℕ) (p : Perm) → 1 ≤ domain → domain < 64 → domain ≤ modules →
    perms ≡ set (replicate 64 None) domain (Some p) → Gives (record { first = first; count = count; perms = perms }) first count modules
    (to_one domain p)
one-gives perms first count domain modules p l m n e = record {
  first = refl;
  count = refl;
  named = λ d h.
      let ne : d ≢ domain = ⊎_elim (λ z q. let r : ⊥ = omega (arith, z, q, l) in r) (λ u q. let r : ⊥ = omega (arith, u, q, n) in r) h in
      ap (λ (ps : List (Option Perm)). get_or ps d None) e ∙ get_or-set_other (replicate 64 None) domain d (Some p) None ne
      ∙ everywhere 64 d None;
  given = λ d a b. ap (λ (ps : List (Option Perm)). get_or ps d None) e ∙ at d (cases_eq d domain);
}
  where
    at : (d : ℕ) → (d ≡ domain) ⊎ (d ≡ domain → ⊥) → get_or (set (replicate 64 None) domain (Some p)) d None
        ≡ cond (d == domain) (Some p) None
    at d (inl same) = subst (λ (i : ℕ). get_or (set (replicate 64 None) domain (Some p)) i None ≡ cond (i == domain) (Some p) None)
        (sym same)
        (get_or-set_same (replicate 64 None) domain (Some p) None (let c = length-replicate {A = Option Perm} 64 None in
        omega (arith, m, c))
        ∙ sym (ap (λ b. cond b (Some p) None) (eq-eqb domain domain refl)))
    at d (inr ne) = get_or-set_other (replicate 64 None) domain d (Some p) None ne ∙ everywhere 64 d None
        ∙ sym (ap (λ b. cond b (Some p) None) (ne_eqb d domain ne))
