-- Changes that name only the domains of their tables.
use Rattle.std.proofs.Common.{◌≡◌, ◌≢◌, ℕ, zero, suc, ◌<◌, ◌≤◌, ◌⊎◌, inl, inr, List, get_or, set, replicate, Option, None, refl, ◌∙◌, arith}
use Rattle.std.proofs.Common.{get_or-set_other}
use Rattle.mx_words.specs.declared.perm.Perm.{Perm}
use Rattle.mx_table.specs.Names.{NamesUpTo}

-- a list of one value has it everywhere, where it is the default too
pub everywhere : {A : Type 0} (n i : ℕ) (x : A) → get_or (replicate n x) i x ≡ x
everywhere zero i x = refl
everywhere (suc n) zero x = refl
everywhere (suc n) (suc i) x = everywhere n i x

-- a list of nothings names no domain
pub names_none : (domains : ℕ) → NamesUpTo domains (replicate 64 None)
names_none domains d other = everywhere 64 d None

-- one domain more is named
pub names_more : (domains : ℕ) (perms : List (Option Perm)) (i : ℕ) (o : Option Perm) → 1 ≤ i → i ≤ domains → NamesUpTo domains perms
    → NamesUpTo domains (set perms i o)
names_more domains perms i o first last names d other = get_or-set_other perms i d o None (apart other) ∙ names d other
  where
    apart : (d ≡ 0) ⊎ (domains < d) → d ≢ i
    apart (inl e) = omega arith
    apart (inr lt) = omega arith
