-- The range of an announced call is empty or lies in RAM.
use Rattle.std.proofs.Common.{◌≡◌, ℕ, ◌+◌, ◌-◌, ◌*◌, ◌/◌, ◌%◌, ◌≤◌, Bool, true, false, ◌==◌, ◌&&◌, nat_lt, nat_le, if◌then◌else◌, inl, inr}
use Rattle.std.proofs.Common.{refl, arith, Some, None}
use Rattle.std.specs.Prelude.{unwrap_or}
use Rattle.std.proofs.lemmas.Bool.{leb-true, eqb-true}
use Rattle.mx_words.specs.Announced.{names_range}
use Rattle.mx_words.specs.Ranges.{ram_base, is_range, range_words}
use Rattle.mx_check.specs.Conditions.{IsWithin}
use Rattle.mx_model.specs.declared.values.Call.{Call}
use Rattle.mx_model.specs.Checks.{arg}
use Rattle.mx_supervisor.specs.Heaps.{heap_at}
use Rattle.mx_supervisor.specs.Parts.{Parts, AreJoined}
use Rattle.mx_supervisor.specs.Served.{range_of}

record AreIn (address size words : ℕ) : Type 0 where
  aligned : address % 4 ≡ 0
  low : ram_base ≤ address
  high : address + size ≤ ram_base + 4 * words

four : (a b c d : Bool) → (a && b && c && d) ≡ true → (b ≡ true) × (c ≡ true) × (d ≡ true)
four true true true true e = (refl, refl, refl)
four true true true false e = absurd (let q : ⊥ = cc in q)
four true true false d e = absurd (let q : ⊥ = cc in q)
four true false c d e = absurd (let q : ⊥ = cc in q)
four false b c d e = absurd (let q : ⊥ = cc in q)

are-in : (address size words : ℕ) → is_range address size words ≡ true → AreIn address size words
are-in address size words e =
    let p = four (nat_lt 0 size) (address % 4 == 0) (nat_le ram_base address) (nat_le (address + size) (ram_base + 4 * words)) e in
    record { aligned = eqb-true _ _ p.0; low = leb-true ram_base address p.1; high = leb-true (address + size) (ram_base + 4 * words) p.2 }

abbrev IsIn : ℕ → ℕ × ℕ → Type 0
IsIn words r = IsWithin r.0 r.1 words

words-within : (address size words : ℕ) → IsIn words (range_words address size words)
words-within address size words =
    elim (is_range address size words) as (λ b. is_range address size words ≡ b
    → IsIn words (unwrap_or (if b then Some ((address - ram_base) / 4, (size + 3) / 4) else None) (0, 0))) [
      | true ↦ λ e. let p = are-in address size words e in let a = p.aligned in let b = p.low in let d = p.high in
          inr (omega (arith, a, b, d))
      | false ↦ λ e. inl refl
    ] refl

pub range-within : (p : Parts) (call : Call) → AreJoined p → IsIn p.size (range_of p call)
range-within p call joined =
    let heap = (heap_at p.heaps call.domain).area in
    elim (names_range call.number) as (λ b. IsIn p.size (if b then range_words (arg call 0) (arg call 1) p.size else
    (heap.first, heap.count))) [
      | true ↦ words-within (arg call 0) (arg call 1) p.size
      | false ↦ inr (joined.areas call.domain)
    ]
