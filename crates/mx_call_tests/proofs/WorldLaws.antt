-- The parts of a supervisor at the start.
use Rattle.std.proofs.Common.{◌≡◌, ℕ, ◌+◌, ◌-◌, ◌*◌, ◌==◌, ◌≤◌, Bool, true, false, cond, List, [], ◌∷◌, ◌++◌, length, replicate, lit<}
use Rattle.std.proofs.Common.{arith, refl, ap, ◌∙◌}
use Rattle.std.proofs.lemmas.List.{length-replicate}
use Rattle.std.specs.List.{AllByRecursion}
use Rattle.mx_words.specs.declared.perm.Perm.{Perm}
use Rattle.mx_words.specs.declared.tables.Kind.{Kind}
use Rattle.mx_words.specs.declared.tables.Need.{Need}
use Rattle.mx_table.specs.Tables.{IsShaped}
use Rattle.mx_check.specs.Calls.{new_harts}
use Rattle.mx_check.proofs.StartLaws.{new_may}
use Rattle.mx_heap.specs.HeapState.{HeapState}
use Rattle.mx_model.specs.declared.values.Gate.{Gate}
use Rattle.mx_model.proofs.ListLaws.{all-append, all-at}
use Rattle.mx_supervisor.specs.Heaps.{no_heap, no_area, told_heap, heap_at}
use Rattle.mx_supervisor.specs.Parts.{Parts, AreJoined}
use Rattle.mx_supervisor.proofs.Joined.{sound-joined}
use Rattle.mx_call_tests.specs.Calls.{EndsBy, IsAtRest}

-- an area of no words ends nowhere
told-ends : (n : ℕ) (heap : HeapState) → heap.area.first + heap.area.count ≤ n → EndsBy n (told_heap heap)
told-ends n heap inside = elim (heap.area.count == 0) as (λ (b : Bool).
    (cond b no_area heap.area).first + (cond b no_area heap.area).count ≤ n) [
      | true ↦ omega arith
      | false ↦ inside
    ]

-- one heap more
pub pushed_ends : (n : ℕ) (heaps : List HeapState) (heap : HeapState) → AllByRecursion (EndsBy n) heaps
    → heap.area.first + heap.area.count ≤ n →
    AllByRecursion (EndsBy n) (heaps ++ told_heap heap ∷ [])
pushed_ends n heaps heap all inside = all-append (EndsBy n) heaps (told_heap heap) all (told-ends n heap inside)

-- each heap's area lies in a RAM by which they all end
areas-in : (n : ℕ) (heaps : List HeapState) → AllByRecursion (EndsBy n) heaps → (d : ℕ)
    → (heap_at heaps d).area.first + (heap_at heaps d).area.count ≤ n
areas-in n heaps all d = all-at (EndsBy n) heaps no_heap all (omega arith) (d - 1)

-- the parts over tables of a kind, with one hart that has done nothing and a RAM of so many words
abbrev pub started : Kind → List (List Perm) → ℕ → Need → ℕ → ℕ → List ℕ → List Gate → List HeapState → Parts
started kind maps size limit buffer words owners gates heaps = record {
  kind = kind;
  maps = maps;
  size = size;
  limit = limit;
  buffer = buffer;
  harts = new_harts 1;
  ram = replicate (4 * words) 0;
  owners = owners;
  gates = gates;
  heaps = heaps;
}

pub joined-start : (kind : Kind) (maps : List (List Perm)) (size : ℕ) (limit : Need) (buffer words : ℕ) (owners : List ℕ)
    (gates : List Gate) (heaps : List HeapState) →
    words ≡ size → length owners ≡ size → length heaps ≡ length maps → AllByRecursion (EndsBy size) heaps →
    AreJoined (started kind maps size limit buffer words owners gates heaps)
joined-start kind maps size limit buffer words owners gates heaps is owned count all = record {
  ram = length-replicate (4 * words) 0 ∙ ap (λ n. 4 * n) is;
  owners = owned;
  heaps = count;
  areas = areas-in size heaps all;
}

pub rest-start : (kind : Kind) (maps : List (List Perm)) (size : ℕ) (limit : Need) (buffer words : ℕ) (owners : List ℕ) (gates : List Gate)
    (heaps : List HeapState) →
    IsShaped kind size limit maps → words ≡ size → length owners ≡ size → length heaps ≡ length maps → AllByRecursion (EndsBy size) heaps →
    IsAtRest 0 1 (started kind maps size limit buffer words owners gates heaps)
rest-start kind maps size limit buffer words owners gates heaps shaped is owned count all = record {
  sound = sound-joined (started kind maps size limit buffer words owners gates heaps) shaped
      (joined-start kind maps size limit buffer words owners gates heaps is owned count all);
  domain = record { first = omega arith; last = shaped.some_maps };
  alone = refl;
  may = new_may 1 0 1 (lit< tt);
}
