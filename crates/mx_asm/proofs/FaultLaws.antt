-- Laws of fault numbers.
use Rattle.std.proofs.Common.{◌≡◌, ℕ, Option, None, Some, IsSome, refl, ap, arith}
use Rattle.mx_source.proofs.Steps.{pieces-empty}
use Rattle.mx_asm.specs.Faults.{lesser_fault, kind_fault}

-- the least of three in either order
pub lesser-lesser : (a b c : Option ℕ) → lesser_fault (lesser_fault a b) c ≡ lesser_fault a (lesser_fault b c)
lesser-lesser None b c = refl
lesser-lesser (Some a) None c = refl
lesser-lesser (Some a) (Some b) None = refl
lesser-lesser (Some a) (Some b) (Some c) = ap (λ n. Some n) (omega arith)

pub lesser-none : (a : Option ℕ) → lesser_fault a None ≡ a
lesser-none None = refl
lesser-none (Some a) = refl

-- a value of another kind is a fault
pub kind_some : {T : Type 0} (fault : T → Option ℕ) (o : Option T) → kind_fault fault o ≡ None → IsSome o
kind_some fault None h = cc
kind_some fault (Some t) h = refl

pub ruleset fault_steps = (lesser-lesser, lesser-none, pieces-empty)
