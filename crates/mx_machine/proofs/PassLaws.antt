-- At a call gate: the stack area of the domain that is entered lies in RAM.
use Rattle.std.proofs.Common.{◌≡◌, ℕ, ◌+◌, ◌-◌, ◌*◌, ◌<◌, ◌≤◌, ◌⊎◌, true, false, ◌==◌, cond, nat_le, length, sym, subst, arith}
use Rattle.std.proofs.Math.Nat.{mul-le-mul_left}
use Rattle.std.proofs.lemmas.Bool.{cases_eq, le-leb, lt-leb, ne_eqb}
use Rattle.mx_words.specs.Ranges.{most_words}
use Rattle.mx_model.specs.Gates.{most_frames}
use Rattle.mx_model.specs.State.{Module, module_at, no_module}
use Rattle.mx_model.specs.Valid.{IsHome, IsValid}
use Rattle.mx_model.proofs.ListLaws.{all-in}
use Rattle.mx_supervisor.proofs.Modules.{length-modules}
use Rattle.mx_machine.specs.Held.{Held, area_of, rest_of}
use Rattle.mx_machine.specs.Made.{core_in}
use Rattle.mx_machine.specs.Ties.{Fits}
use Rattle.mx_machine.proofs.HartsAt.{length-seen}
use Rattle.mx_machine.proofs.HomeLaws.{IsHere, module-is}

told-inside : (first words n h size : ℕ) → cond (words == 0) 0 first + words * n ≤ size → h < n → size ≤ most_words →
    (words ≡ 0) ⊎ (first + words * (h + 1) ≤ most_words)
told-inside first words n h size e l few = search (arith, cases_eq, ne_eqb, mul-le-mul_left)

pub area-inside : (m : Held) (d h : ℕ) → IsValid (core_in m) → Fits m → IsHere m d → h < length m.harts →
    ((area_of m.stacks d).words ≡ 0) ⊎ ((area_of m.stacks d).first + (area_of m.stacks d).words * (h + 1) ≤ most_words)
area-inside m d h v f p l =
    let c = core_in m in
    let a = area_of m.stacks d in
    let n = length c.harts in
    let low = p.low in
    let high = p.high in
    let count = length-modules (rest_of m) 1 m.parts.heaps in
    let home : IsHome c.size n (module_at c d) = all-in (IsHome c.size n) c.modules no_module v.modules (d - 1) (omega arith) in
    let stack = subst (λ (x : Module). x.stack.first + x.stack.words * n ≤ c.size) (module-is m d f p) home.stack in
    told-inside a.first a.words n h c.size stack (subst (λ k. h < k) (sym (length-seen 0 m.harts m.parts.harts)) l) v.few_words

-- whether the cross stack is full
pub full : (n frames : ℕ) → n ≡ frames → 64 ≤ n → nat_le most_frames frames ≡ true
full n frames e l = le-leb 64 frames (subst (λ k. 64 ≤ k) e l)

pub room : (n frames : ℕ) → n ≡ frames → n < 64 → nat_le most_frames frames ≡ false
room n frames e l = lt-leb 64 frames (subst (λ k. k < 64) e l)
