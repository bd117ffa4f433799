-- A change of rights on one range of words: it names some domains, and for each the permission that it gets.
-- The rules: docs/MACHINE.md, "Memory, domains, harts" and "Supervisor calls".
use Rattle.std.specs.Prelude.{ℕ, ◌+◌, List, [], ◌∷◌, ◌++◌, Option}
use Rattle.std.specs.Option.{option_map_or}
use Rattle.mx_words.specs.declared.perm.Perm.{Perm}
use Rattle.mx_words.specs.Newest.{Grant, laid}

-- a grant of a permission on words first to first + count - 1
abbrev pub grant_of : ℕ → ℕ → Perm → Grant
grant_of first count p = record { first = first; count = count; value = p }

-- a map after a change that gives its domain a permission, or doesn't name it
abbrev pub changed_map : ℕ → ℕ → Option Perm → List Perm → List Perm
changed_map first count given m = option_map_or (λ p. laid (grant_of first count p) m) given m

-- a step on each element of a list, by its number, of which the first is d
abbrev pub each_from : {A : Type 0} → (ℕ → A → A) → ℕ → List A → List A
each_from step d [] = []
each_from step d (x ∷ xs) = step d x ∷ each_from step (d + 1) xs

-- the maps of the domains from d on after a change, and those of all domains, which count from 1
abbrev pub changed_from : ℕ → ℕ → (ℕ → Option Perm) → ℕ → List (List Perm) → List (List Perm)
changed_from first count given d maps =
    each_from (λ d m. changed_map first count (given d) m) d maps

abbrev pub changed_maps : ℕ → ℕ → (ℕ → Option Perm) → List (List Perm) → List (List Perm)
changed_maps first count given maps = changed_from first count given 1 maps

-- the same change of lists of grants: one more grant for each domain that it names
abbrev pub changed_grants : ℕ → ℕ → Option Perm → List Grant → List Grant
changed_grants first count given grants =
    option_map_or (λ p. grants ++ grant_of first count p ∷ []) given grants

abbrev pub granted_from : ℕ → ℕ → (ℕ → Option Perm) → ℕ → List (List Grant) → List (List Grant)
granted_from first count given d grants =
    each_from (λ d g. changed_grants first count (given d) g) d grants

abbrev pub granted_all : ℕ → ℕ → (ℕ → Option Perm) → List (List Grant) → List (List Grant)
granted_all first count given grants = granted_from first count given 1 grants
