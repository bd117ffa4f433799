-- The range of an announced call is empty or lies in RAM.
use Rattle.std.proofs.Common.{◌≡◌, ℕ, ◌+◌, ◌-◌, ◌/◌, ◌≤◌, Bool, true, cond, arith, Some, None, unwrap_or}
use Rattle.std.proofs.lemmas.Bool.{leb-true, and_parts}
use Rattle.mx_check.specs.Conditions.{IsWithin}
use Rattle.mx_words.specs.Ranges.{ram_base, is_range}
use Rattle.mx_model.specs.declared.values.Call.{Call}
use Rattle.mx_supervisor.specs.Parts.{Parts, IsSound}
use Rattle.mx_supervisor.specs.Served.{range_of}

lies : (address size words : ℕ) → is_range address size words ≡ true → (address - ram_base) / 4 + (size + 3) / 4 ≤ words
lies address size words e = search (arith, and_parts, leb-true)

in-words : (address size words : ℕ) (b : Bool) → is_range address size words ≡ b →
    let r = unwrap_or {T = ℕ × ℕ} (cond b (Some ((address - ram_base) / 4, (size + 3) / 4)) None) (0, 0) in IsWithin r.0 r.1 words
in-words address size words x e = grind (arith, lies)

pub range-within : (p : Parts) (call : Call) → IsSound p → IsWithin (range_of p call).0 (range_of p call).1 p.size
range-within p call s = search (arith, p.heaps, in-words, p.size, s.areas)
