-- The test of a turn is true exactly where an access is denied by the grants.
use Rattle.std.proofs.Common.{◌≡◌, ◌↔◌, ℕ, ◌+◌, ◌-◌, ◌*◌, ◌<◌, ◌≤◌, ◌⊎◌, Bool, true, false, not, List, [], ◌∷◌, ◌++◌, fold, refl, sym, ◌∙◌}
use Rattle.std.proofs.Common.{ap, arith, if◌then◌else◌}
use Rattle.std.proofs.lemmas.Bool.{and_cases, and_from, and_parts, cases_lt, false_from_ne_true, leb-false, leb-true, le-leb, lt-ltb}
use Rattle.std.proofs.lemmas.Bool.{ltb-false, ltb-true, not-true, not_from_false}
use Rattle.mx_words.specs.declared.perm.Perm.{Perm}
use Rattle.mx_words.specs.declared.perm.Perm.TheVariants as P
use Rattle.mx_words.specs.declared.perm.Access.{Access}
use Rattle.mx_words.specs.Newest.{Grant, at, laid_at}
use Rattle.mx_words.specs.Ranges.{covers, in_ram, ram_base}
use Rattle.mx_words.specs.Rights.{allows}
use Rattle.mx_model.specs.Reads.{grants_of, reads}
use Rattle.mx_model.specs.State.{State}
use Rattle.mx_model.specs.Turn.{is_denied}
use Rattle.mx_runs.specs.Denials.{ByNewest, Covers, IsDenied, NoneCovers, Uncovered, word_at}

-- whether a grant covers a word
covers-true : (g : Grant) (w : ℕ) → Covers g w → covers g.first g.count w ≡ true
covers-true g w k = search (arith, and_from, le-leb, g.first, lt-ltb, g.count)

true-covers : (g : Grant) (w : ℕ) → covers g.first g.count w ≡ true → Covers g w
true-covers g w e = search (arith, and_parts, g.first, leb-true, g.count, ltb-true)

covers-false : (g : Grant) (w : ℕ) → (Covers g w → ⊥) → covers g.first g.count w ≡ false
covers-false g w n = false_from_ne_true (covers g.first g.count w) (λ e. n (true-covers g w e))

false-covers : (g : Grant) (w : ℕ) → covers g.first g.count w ≡ false → Covers g w → ⊥
false-covers g w e k = let q : true ≡ false = sym (covers-true g w k) ∙ e in cc

-- the newest covering grant of a list, and what is read of the list then
data Newest (grants : List Grant) (w : ℕ) : Type 0 where
  NoneOf : NoneCovers grants w → ((p : Perm) → fold (laid_at w) p grants ≡ p) → Newest grants w
  OneOf : (older : List Grant) (g : Grant) (newer : List Grant) → grants ≡ older ++ g ∷ newer → Covers g w →
      NoneCovers newer w →
      ((p : Perm) → fold (laid_at w) p grants ≡ g.value) → Newest grants w

newest-more : (g : Grant) (gs : List Grant) (w : ℕ) (b : Bool) → covers g.first g.count w ≡ b → Newest gs w →
    Newest (g ∷ gs) w
newest-more g gs w b e (OneOf older k newer s c n f) =
    OneOf (g ∷ older) k newer (ap (λ (xs : List Grant). g ∷ xs) s) c n (λ p. f (laid_at w p g))
newest-more g gs w true e (NoneOf n f) =
    OneOf [] g gs refl (true-covers g w e) n (λ p. f (laid_at w p g) ∙ ap (λ (b : Bool). if b then g.value else p) e)
newest-more g gs w false e (NoneOf n f) =
    NoneOf (false-covers g w e, n) (λ p. f (laid_at w p g) ∙ ap (λ (b : Bool). if b then g.value else p) e)

newest-of : (grants : List Grant) (w : ℕ) → Newest grants w
newest-of [] w = NoneOf tt (λ p. refl)
newest-of (g ∷ gs) w = newest-more g gs w (covers g.first g.count w) refl (newest-of gs w)

none-read : (grants : List Grant) (w : ℕ) (p : Perm) → NoneCovers grants w → fold (laid_at w) p grants ≡ p
none-read [] w p n = refl
none-read (g ∷ gs) w p n =
    none-read gs w (laid_at w p g) n.1 ∙ ap (λ (b : Bool). if b then g.value else p) (covers-false g w n.0)

one-read : (older : List Grant) (g : Grant) (newer : List Grant) (w : ℕ) (p : Perm) → Covers g w → NoneCovers newer w →
    fold (laid_at w) p (older ++ g ∷ newer) ≡ g.value
one-read [] g newer w p c n = none-read newer w (laid_at w p g) n
    ∙ ap (λ (b : Bool). if b then g.value else p) (covers-true g w c)
one-read (o ∷ older) g newer w p c n = one-read older g newer w (laid_at w p o) c n

-- where an address lies
high-cases : (s : State) (address : ℕ) → 4 * s.core.size ≤ address - ram_base →
    (address < ram_base) ⊎ (ram_base ≤ address) → (address < ram_base) ⊎ (ram_base + 4 * s.core.size ≤ address)
high-cases s address far x = grind arith

outside-cases : (s : State) (address : ℕ) → in_ram address s.core.size ≡ false →
    (address < ram_base) ⊎ (ram_base + 4 * s.core.size ≤ address)
outside-cases s address e = search (arith, leb-false, high-cases, ltb-false, cases_lt, and_cases)

denied-outside : (s : State) (d address : ℕ) (access : Access) → in_ram address s.core.size ≡ false →
    is_denied (reads s) s.core d address access ≡ true
denied-outside s d address access e = search arith

-- inside RAM, by the permission of the word
denied-word : (s : State) (d address : ℕ) (access : Access) → in_ram address s.core.size ≡ true →
    is_denied (reads s) s.core d address access ≡ not (allows ((reads s).perm d (word_at address)) access)
denied-word s d address access e = search arith

denied-inside : (s : State) (d address : ℕ) (access : Access) → in_ram address s.core.size ≡ true →
    is_denied (reads s) s.core d address access ≡ not (allows (at (grants_of s.grants d) (word_at address)) access)
denied-inside s d address access e = search (arith, and_parts, s.core.size, ltb-true, denied-word, lt-ltb)

-- inside RAM, by the newest grant
denied-grants : (s : State) (d address : ℕ) (access : Access) →
    allows (at (grants_of s.grants d) (word_at address)) access ≡ false → Newest (grants_of s.grants d) (word_at address) →
    IsDenied s d address access
denied-grants s d address access e (NoneOf n f) = Uncovered n
denied-grants s d address access e (OneOf older g newer split c n f) =
    ByNewest older g newer split c n (ap (λ (p : Perm). allows p access) (sym (f P.None)) ∙ e)

denied-if : (s : State) (d address : ℕ) (access : Access) (b : Bool) → in_ram address s.core.size ≡ b →
    is_denied (reads s) s.core d address access ≡ true →
    IsDenied s d address access
denied-if s d address access true e t =
    denied-grants s d address access (not-true _ (search (arith, denied-inside))) (newest-of (grants_of s.grants d) (word_at address))
denied-if s d address access false e t = search (arith, outside-cases, s.core.size)

grants-denied : (s : State) (d address : ℕ) (access : Access) → IsDenied s d address access →
    in_ram address s.core.size ≡ true →
    allows (at (grants_of s.grants d) (word_at address)) access ≡ false
grants-denied s d address access x e = grind (arith, and_parts, leb-true, ltb-true, none-read, one-read)

if-denied : (s : State) (d address : ℕ) (access : Access) (b : Bool) → in_ram address s.core.size ≡ b →
    IsDenied s d address access →
    is_denied (reads s) s.core d address access ≡ true
if-denied s d address access true e k = search (arith, denied-inside, not_from_false, grants-denied)
if-denied s d address access false e k = denied-outside s d address access e

pub denied-test : (s : State) (d address : ℕ) (access : Access) →
    (is_denied (reads s) s.core d address access ≡ true) ↔ IsDenied s d address access
denied-test s d address access = (
  denied-if s d address access (in_ram address s.core.size) refl,
  if-denied s d address access
      (in_ram address s.core.size) refl,
)

-- so an access is allowed where it isn't denied
pub allowed-test : (s : State) (d address : ℕ) (access : Access) → (IsDenied s d address access → ⊥) →
    is_denied (reads s) s.core d address access ≡ false
allowed-test s d address access n = false_from_ne_true _ (λ e. n ((denied-test s d address access).0 e))

-- an access inside RAM is denied exactly where the permission of its word doesn't allow it
pub word-denied : (s : State) (d address : ℕ) (access : Access) → ram_base ≤ address →
    address < ram_base + 4 * s.core.size →
    (allows ((reads s).perm d (word_at address)) access ≡ false) ↔ IsDenied s d address access
word-denied s d address access low high =
    let inside : in_ram address s.core.size ≡ true =
    and_from _ _ (le-leb ram_base address low)
    (lt-ltb (address - ram_base) (4 * s.core.size) (omega (arith, low, high))) in
    let word = denied-word s d address access inside in (
      λ e. (denied-test s d address access).0 (word ∙ not_from_false _ e),
      λ k. not-true _ (sym word ∙ (denied-test s d address access).1 k),
    )
