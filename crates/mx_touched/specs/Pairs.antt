-- Two machines side by side, watched for a domain: which harts are compared, whether agreement fails, what is known of both between turns,
-- and what is found after one.
-- The rules: docs/MACHINE.md, "Agreement".
use Rattle.std.specs.Prelude.{◌≡◌, ℕ, Bool, true, false, not, ◌==◌, ◌&&◌, ◌||◌, length, if◌then◌else◌, Option, Some, None}
use Rattle.std.specs.List.{list_any, range_with_len}
use Rattle.mx_model.specs.Checks.{is_halted}
use Rattle.mx_model.specs.Reads.{flat_reads, map_in}
use Rattle.mx_model.specs.State.{Flat, Hart, hart_at}
use Rattle.mx_model.specs.Valid.{IsValid}
use Rattle.mx_laws.specs.Comparison.{agrees}
use Rattle.mx_touched.specs.Touched.{Touched, touched}
use Rattle.mx_touched.specs.Rest.{AreSameHarts}
use Rattle.mx_touched.specs.Views.{AreSameViews, same_hart, same_touched, same_views}

-- a flat state that is valid but for owners and caches; every map is as long as RAM, also that of a domain that isn't there
pub record IsSound (f : Flat) : Type 0 where
  pub valid : IsValid f.core
  pub whole : (d : ℕ) → length (map_in f.core.size f.maps d) ≡ f.core.size

-- two such states of as many words, harts and modules
pub record ArePair (f g : Flat) : Type 0 where
  pub first : IsSound f
  pub second : IsSound g
  pub words : f.core.size ≡ g.core.size
  pub harts : length f.core.harts ≡ length g.core.harts
  pub modules : length f.core.modules ≡ length g.core.modules

-- whether a hart isn't halted and is in domain d
abbrev pub is_inside : ℕ → Hart → Bool
is_inside d x = not (is_halted x.status) && (x.domain == d)

-- whether hart h is compared: it is so in either machine; and whether any hart is
abbrev pub is_compared : ℕ → Flat → Flat → ℕ → Bool
is_compared d f g h = is_inside d (hart_at f.core h) || is_inside d (hart_at g.core h)

abbrev pub any_compared : ℕ → Flat → Flat → Bool
any_compared d f g = list_any (is_compared d f g) (range_with_len 0 (length f.core.harts))

-- whether the machines agree for a hart; and whether agreement fails, for a hart that is compared
abbrev pub flat_agrees : Flat → Flat → ℕ → Bool
flat_agrees f g h = agrees (flat_reads f) f.core (flat_reads g) g.core h

abbrev pub fails : ℕ → Flat → Flat → Bool
fails d f g =
    list_any (λ h. is_compared d f g h && not (flat_agrees f g h))
    (range_with_len 0 (length f.core.harts))

-- what is known between two turns: each hart that is compared is the same in both, and either the domain is known to see the same of both,
-- or no hart is compared
pub record Knows (d : ℕ) (f g : Flat) (known : Bool) : Type 0 where
  pub harts : (h : ℕ) → is_compared d f g h ≡ true →
      AreSameHarts (hart_at f.core h) (hart_at g.core h)
  pub views : known ≡ true → AreSameViews (flat_reads f) f.core (flat_reads g) g.core d
  pub none : known ≡ false → (h : ℕ) → is_compared d f g h ≡ false

-- what is said of both: that agreement fails, or what is known
abbrev pub IsRight : ℕ → Flat → Flat → Option Bool → Type 0
IsRight d f g None = fails d f g ≡ true
IsRight d f g (Some known) = Knows d f g known

-- what a turn of hart h touches in a flat state
abbrev pub flat_touched : Flat → ℕ → Touched
flat_touched f h = touched (flat_reads f) f.core h

-- whether hart h is the same in both, where it is compared
abbrev pub same_if_compared : ℕ → Flat → Flat → ℕ → Bool
same_if_compared d f g h =
    not (is_compared d f g h) || same_hart (hart_at f.core h) (hart_at g.core h)

-- whether the domain sees in both alike what was touched in one
abbrev pub flat_same_touched : ℕ → Flat → Flat → Touched → Bool
flat_same_touched d f g t = same_touched (flat_reads f) f.core (flat_reads g) g.core d t

-- what is found after a turn of hart h that touched t in the first machine and u in the second, where the domain saw the same before: where
-- it
-- sees what was touched alike, hart h alone is left to compare; else agreement fails if any hart is compared
abbrev pub found_known : ℕ → Flat → Flat → ℕ → Touched → Touched → Option Bool
found_known d f g h t u =
    if flat_same_touched d f g t && flat_same_touched d f g u then
    if same_if_compared d f g h then Some true else None
    else if any_compared d f g then None else Some false

-- and where no hart was compared before: hart h alone may have come in, and then all is compared
abbrev pub found_unknown : ℕ → Flat → Flat → ℕ → Option Bool
found_unknown d f g h =
    if not (is_compared d f g h) then Some false
    else if same_hart (hart_at f.core h) (hart_at g.core h) &&
    same_views (flat_reads f) f.core (flat_reads g) g.core d then Some true
    else None
