-- What a turn leaves of the words that its hart's domain may not write.
-- The rules: docs/MACHINE.md, "Memory, domains, harts" and "Supervisor calls".
use Rattle.std.specs.Prelude.{◌≡◌, ℕ, ◌+◌, ◌*◌, ◌<◌, ◌≤◌, true, false, slice_index}
use Rattle.mx_words.specs.declared.perm.Access.TheVariants as A
use Rattle.mx_words.specs.FirstFit.{Area, with_block}
use Rattle.mx_words.specs.Ranges.{covers}
use Rattle.mx_words.specs.Rights.{allows}
use Rattle.mx_model.specs.Effect.{reg}
use Rattle.mx_model.specs.Reads.{Reads}
use Rattle.mx_model.specs.Serve.{Alloc, service}
use Rattle.mx_model.specs.State.{Core, hart_at, module_at}
use Rattle.mx_laws.specs.After.{domain_at}

-- the domain of hart h may not write word w
abbrev pub IsForeign : Reads → Core → ℕ → ℕ → Type 0
IsForeign r c h w = allows (r.perm (domain_at c h) w) A.Write ≡ false

-- the four bytes of word w are the same in a state and after it
abbrev pub IsKept : Core → Core → ℕ → Type 0
IsKept c e w = (k : ℕ) → k < 4 → slice_index e.ram (4 * w + k) ≡ slice_index c.ram (4 * w + k)

-- the four bytes of word w are zero
abbrev pub IsZero : Core → ℕ → Type 0
IsZero e w = (k : ℕ) → k < 4 → slice_index e.ram (4 * w + k) ≡ 0

-- the heap area of the domain of hart h
abbrev pub heap_of : Core → ℕ → Area
heap_of c h = (module_at c (domain_at c h)).heap

-- hart h asked for a block by its x17 and x10 and got it: the blocks of its domain are one more, the block lies in the heap area and is
-- zero, and
-- each other word that the domain may not write is kept
pub record TakesBlock (r : Reads) (c : Core) (h : ℕ) (e : Core) : Type 0 where
  pub call : service (reg (hart_at c h).regs 17) ≡ Alloc
  pub block : Area
  pub count : block.count ≡ reg (hart_at c h).regs 10
  pub taken : (module_at e (domain_at c h)).blocks
      ≡ with_block block (module_at c (domain_at c h)).blocks
  pub low : (heap_of c h).first ≤ block.first
  pub high : block.first + block.count ≤ (heap_of c h).first + (heap_of c h).count
  pub zero : (w : ℕ) → covers block.first block.count w ≡ true → IsZero e w
  pub others : (w : ℕ) → covers block.first block.count w ≡ false → IsForeign r c h w → IsKept c e w

-- what a turn of hart h leaves of the words that its domain may not write: all of them, or all but those of a new block
pub data ForeignAfter (r : Reads) (c : Core) (h : ℕ) (e : Core) : Type 0 where
  AllKept : ((w : ℕ) → IsForeign r c h w → IsKept c e w) → ForeignAfter r c h e
  AllButBlock : TakesBlock r c h e → ForeignAfter r c h e
