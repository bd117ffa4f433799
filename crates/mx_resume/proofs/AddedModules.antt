-- Modules that are added one after another.
use Rattle.std.proofs.Common.{◌≡◌, ℕ, ◌+◌, ◌<◌, Bool, List, [], ◌∷◌, ◌++◌, length, set, sym, ap, ◌∙◌, arith}
use Rattle.std.specs.Prelude.{map as list_map}
use Rattle.std.proofs.lemmas.List.{map-append}
use Rattle.mx_words.specs.declared.perm.Span.{Span}
use Rattle.mx_heap.specs.HeapState.{HeapState}
use Rattle.mx_supervisor.specs.Heaps.{told_heap}
use Rattle.mx_snapshot.specs.Resuming.{dead_in, heap_in, spans_in, stack_in}
use Rattle.mx_snapshot.specs.Stored.{StoredModule}
use Rattle.mx_snapshot.proofs.ValidGoes.{dead-more}
use Rattle.mx_resume.specs.declared.modules.Module.{Module}
use Rattle.mx_resume.specs.Parts.{IsModuleOf, module_in_code}

-- one more of a mapped list
pub mapped_more : {A B : Type 0} (f : A → B) (xs : List A) (x : A) (ys zs : List B) (y : B) → ys ≡ list_map f xs → y ≡ f x
    → zs ≡ ys ++ y ∷ [] → zs ≡ list_map f (xs ++ x ∷ [])
mapped_more f xs x ys zs y a b e = e ∙ ap (λ (s : List _). s ++ y ∷ []) a ∙ ap (λ z. list_map f xs ++ z ∷ []) b
    ∙ sym (map-append f xs (x ∷ []))

pub name_of : (m : StoredModule) (x : Module) → IsModuleOf m x → x.name ≡ m.name
name_of m x e = ap (λ (y : Module). y.name) e

pub heap_of : (m : StoredModule) (x : Module) → IsModuleOf m x → told_heap x.heap ≡ x.heap → told_heap x.heap ≡ heap_in m
heap_of m x e told = told ∙ ap (λ (y : Module). y.heap) e

pub stack_of : (m : StoredModule) (x : Module) → IsModuleOf m x → x.stack ≡ stack_in m
stack_of m x e = ap (λ (y : Module). y.stack) e

pub row_of : (m : StoredModule) (x : Module) → IsModuleOf m x → x.row ≡ spans_in 0 m.map
row_of m x e = ap (λ (y : Module). y.row) e

pub dead_added : (before : List StoredModule) (m : StoredModule) (x : Module) (domain : ℕ) (dead now : List Bool)
    → length before + 1 ≡ domain → domain < 64 → IsModuleOf m x → dead ≡ dead_in before → now ≡ set dead domain x.dead
    → now ≡ dead_in (before ++ m ∷ [])
dead_added before m x domain dead now long lt e was is =
    is ∙ ap (λ (s : List Bool). set s domain x.dead) was ∙ ap (λ (k : ℕ). set (dead_in before) k x.dead) (sym long)
    ∙ ap (λ (y : Module). set (dead_in before) (length before + 1) y.dead) e ∙ dead-more before m (omega (arith, long, lt))

-- a module of which name, heap and row are read
pub module_is : (m : StoredModule) (name : List ℕ) (heap : HeapState) (row : List Span) → name ≡ m.name → heap.area ≡ m.home.heap
    → row ≡ spans_in 0 m.map →
    (let x : Module = record { name = name; heap = heap; stack = stack_in m; dead = m.home.dead; row = row } in x)
    ≡ module_in_code (record m { home = record m.home { blocks = heap.blocks } })
module_is m name heap row n a r =
    ap (λ (area : _). (let x : Module = record {
      name = name;
      heap = record { area = area; blocks = heap.blocks };
      stack = stack_in m;
      dead = m.home.dead;
      row = row;
    } in x)) a
    ∙ ap (λ (s : List Span). (let x : Module = record {
      name = name;
      heap = record { area = m.home.heap; blocks = heap.blocks };
      stack =
          stack_in m;
      dead = m.home.dead;
      row = s;
    } in x)) r
    ∙ ap (λ (s : List ℕ). (let x : Module = record {
      name = s;
      heap = record { area = m.home.heap; blocks = heap.blocks };
      stack =
          stack_in m;
      dead = m.home.dead;
      row = spans_in 0 m.map;
    } in x)) n
