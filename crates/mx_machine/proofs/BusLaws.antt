-- The permissions of a bus are those of its domain's map, and what they allow lies in RAM.
use Rattle.std.proofs.Common.{◌≡◌, ℕ, ◌+◌, ◌-◌, ◌*◌, ◌/◌, ◌%◌, ◌<◌, ◌≤◌, arith, Bool, true, false, not, cond, nat_lt, nat_le, List, length}
use Rattle.std.proofs.Common.{refl, sym, ap, subst, ◌∙◌, Some, None}
use Rattle.std.specs.Option.{option_map_or}
use Rattle.std.proofs.lemmas.Bool.{ltb-true, leb-true, and_parts}
use Rattle.mx_words.specs.declared.perm.Perm.{Perm}
use Rattle.mx_words.specs.declared.perm.Perm.TheVariants as P
use Rattle.mx_words.specs.declared.perm.Access.{Access}
use Rattle.mx_words.specs.Bytes.{IsSize}
use Rattle.mx_words.specs.Ranges.{ram_base, in_ram, word_of}
use Rattle.mx_words.specs.Rights.{allows, denies, perm, perm_at}
use Rattle.mx_table.specs.Tables.{map_of, IsDomain}
use Rattle.mx_core.specs.Bus.{denied}
use Rattle.mx_machine.specs.Bus.{perm_from, IsInRam}
use mathlib.Core.Bool.{not-not}
use Rattle.mx_supervisor.proofs.Maps.{map-in}

pub perm-alike : (size : ℕ) (maps : List (List Perm)) (d address : ℕ) → IsDomain maps d → length (map_of maps d) ≡ size →
    perm_from size maps d address ≡ perm (map_of maps d) address
perm-alike size maps d address p e =
    ap (λ (m : List Perm). option_map_or (perm_at m) (word_of address size) P.None) (map-in size maps d p)
    ∙ ap (λ (n : ℕ). option_map_or (perm_at (map_of maps d)) (word_of address n) P.None) (sym e)

pub answer-alike : (size : ℕ) (maps : List (List Perm)) (d address : ℕ) (access : Access) (b : Bool) → IsDomain maps d
    → length (map_of maps d) ≡ size →
    b ≡ not (denies (perm (map_of maps d)) address access) → not b ≡ denied (perm_from size maps d) address access
unfolding denied
answer-alike size maps d address access b p e q =
    ap not q ∙ not-not (denies (perm (map_of maps d)) address access)
    ∙ ap (λ (x : Perm). not (allows x access)) (sym (perm-alike size maps d address p e))

-- what a map doesn't deny a bus doesn't either
pub allowed-alike : (size : ℕ) (maps : List (List Perm)) (d address : ℕ) (access : Access) → IsDomain maps d
    → length (map_of maps d) ≡ size →
    denies (perm (map_of maps d)) address access ≡ false → denied (perm_from size maps d) address access ≡ false
unfolding denied
allowed-alike size maps d address access p e q = ap (λ (x : Perm). not (allows x access)) (perm-alike size maps d address p e) ∙ q

allowed-in : (m : List Perm) (address : ℕ) (access : Access) (b : Bool) → in_ram address (length m) ≡ b →
    allows (option_map_or (perm_at m) (cond b (Some ((address - ram_base) / 4)) None) P.None) access ≡ true → b ≡ true
allowed-in m address access true e q = refl
allowed-in m address access false e q = q

pub allowed-inside : (size : ℕ) (m : List Perm) (address : ℕ) (access : Access) (b : Bool) → length m ≡ size →
    b ≡ not (denies (perm m) address access) → b ≡ true → IsInRam size address
allowed-inside size m address access b e q t =
    let a : allows (perm m address) access ≡ true = sym (not-not (allows (perm m address) access)) ∙ sym q ∙ t in
    let i : in_ram address (length m) ≡ true = allowed-in m address access (in_ram address (length m)) refl a in
    let p = and_parts (nat_le ram_base address) (nat_lt (address - ram_base) (4 * length m)) i in
    (leb-true ram_base address p.0, subst (λ (n : ℕ). address - ram_base < 4 * n) e (ltb-true (address - ram_base) (4 * length m) p.1))

-- the bytes of an aligned access that begins in RAM end there
ends-in : (n a size : ℕ) → IsSize size → a % size ≡ 0 → IsInRam n a → a - ram_base + size ≤ 4 * n
ends-in n a size x d i = grind arith

pub inside-bytes : (n a size l : ℕ) → IsSize size → a % size ≡ 0 → IsInRam n a → l ≡ 4 * n → (ram_base ≤ a) × (a - ram_base + size ≤ l)
inside-bytes n a size l s d i e = (i.0, subst (λ (k : ℕ). a - ram_base + size ≤ k) (sym e) (ends-in n a size s d i))

pub perm-same : (s s' : ℕ) (m m' : List (List Perm)) (d d' : ℕ) → s ≡ s' → m ≡ m' → d ≡ d' → perm_from s m d ≡ perm_from s' m' d'
perm-same s s' m m' d d' p q r = rw (p, q, r) refl
