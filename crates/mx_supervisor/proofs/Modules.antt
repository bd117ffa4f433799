-- The modules of a state made of heaps: their number, and their areas and blocks.
use Rattle.std.proofs.Common.{◌≡◌, ℕ, zero, suc, ◌+◌, ◌-◌, ◌&&◌, nat_le, List, [], ◌∷◌, length, get_or, set, refl, ap}
use Rattle.mx_words.specs.FirstFit.{Area}
use Rattle.mx_heap.specs.HeapState.{HeapState}
use Rattle.mx_model.specs.declared.values.Call.{Call}
use Rattle.mx_model.specs.Serve.{with_blocks}
use Rattle.mx_model.specs.State.{Core, Module, no_module, module_at, is_module}
use Rattle.mx_supervisor.specs.Heaps.{no_heap, heap_at, with_blocks_at}
use Rattle.mx_supervisor.specs.Parts.{Parts, with_heap, modules_from, core_of}

pub length-modules : (rest : Core) (d : ℕ) (heaps : List HeapState) → length (modules_from rest d heaps) ≡ length heaps
length-modules rest d [] = refl
length-modules rest d (x ∷ xs) = ap suc (length-modules rest (d + 1) xs)

heap-at : (rest : Core) (d i : ℕ) (heaps : List HeapState) → (get_or (modules_from rest d heaps) i no_module).heap
    ≡ (get_or heaps i no_heap).area
heap-at rest d i [] = refl
heap-at rest d zero (x ∷ xs) = refl
heap-at rest d (suc i) (x ∷ xs) = heap-at rest (d + 1) i xs

blocks-at : (rest : Core) (d i : ℕ) (heaps : List HeapState) → (get_or (modules_from rest d heaps) i no_module).blocks
    ≡ (get_or heaps i no_heap).blocks
blocks-at rest d i [] = refl
blocks-at rest d zero (x ∷ xs) = refl
blocks-at rest d (suc i) (x ∷ xs) = blocks-at rest (d + 1) i xs

set-blocks : (rest : Core) (d i : ℕ) (heaps : List HeapState) (blocks : List Area) →
    modules_from rest d (set heaps i (record (get_or heaps i no_heap) { blocks = blocks }))
    ≡ set (modules_from rest d heaps) i (record (get_or (modules_from rest d heaps) i no_module) { blocks = blocks })
set-blocks rest d i [] blocks = refl
set-blocks rest d zero (x ∷ xs) blocks = refl
set-blocks rest d (suc i) (x ∷ xs) blocks = ap (λ (ms : List Module). with_heap (module_at rest d) x ∷ ms)
    (set-blocks rest (d + 1) i xs blocks)

-- the same in a state
pub module-heap : (rest : Core) (p : Parts) (d : ℕ) → (module_at (core_of rest p) d).heap ≡ (heap_at p.heaps d).area
module-heap rest p d = heap-at rest 1 (d - 1) p.heaps

pub module-blocks : (rest : Core) (p : Parts) (d : ℕ) → (module_at (core_of rest p) d).blocks ≡ (heap_at p.heaps d).blocks
module-blocks rest p d = blocks-at rest 1 (d - 1) p.heaps

pub modules-number : (rest : Core) (p : Parts) (d : ℕ) → is_module (core_of rest p) d ≡ (nat_le 1 d && nat_le d (length p.heaps))
modules-number rest p d = ap (λ n. nat_le 1 d && nat_le d n) (length-modules rest 1 p.heaps)

pub core-blocks : (rest : Core) (p : Parts) (call : Call) (blocks : List Area) →
    core_of rest (record p { heaps = with_blocks_at call.domain blocks p.heaps }) ≡ with_blocks call blocks (core_of rest p)
core-blocks rest p call blocks =
    ap (λ (ms : List Module). record (core_of rest p) { modules = ms }) (set-blocks rest 1 (call.domain - 1) p.heaps blocks)
