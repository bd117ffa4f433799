-- What a bus is: bytes that a map guards, and what touches it.
use Rattle.std.specs.Prelude.{◌≡◌, ℕ, ◌-◌, Bool, List, [], ◌∷◌}
use Rattle.mx_words.specs.declared.perm.Perm.{Perm}
use Rattle.mx_words.specs.declared.perm.Access.{Access}
use Rattle.mx_words.specs.Rights.{denies}
use Rattle.mx_words.specs.Ranges.{ram_base}
use Rattle.mx_words.specs.Bytes.{number_at, put_at}

-- whether a map, the permission at each address, denies an access: `denies` as a word of its own between the layers
unfoldable pub denied : (ℕ → Perm) → ℕ → Access → Bool
denied perm address access = denies perm address access

-- the number that the bytes at an address hold
unfoldable pub load_at : List ℕ → ℕ → ℕ → ℕ
load_at bytes address size = number_at bytes (address - ram_base) size

-- RAM after a store of the low `size` bytes of a value
unfoldable pub store_at : List ℕ → ℕ → ℕ → ℕ → List ℕ
store_at bytes address size value = put_at bytes (address - ram_base) size value

-- one touch of a bus: the place that serves it, its address and its kind
pub record Touch : Type 0 where
  pub place : ℕ
  pub address : ℕ
  pub kind : Access

-- a bus becomes another by touches in a row
abbrev pub Through : {B : Type 0} → (B → ℕ → ℕ → Access → B → Type 0) → B → List Touch → B → Type 0
Through touches a [] b = a ≡ b
Through {B} touches a (t ∷ ts) b =
    (m : B) × (touches a t.place t.address t.kind m × Through touches m ts b)

-- these touches and no others
pub record IsTouched {B : Type 0} (touches : B → ℕ → ℕ → Access → B → Type 0) (a : B)
    (ts : List Touch) (b : B) : Type 0 where
  pub each : Through touches a ts b
