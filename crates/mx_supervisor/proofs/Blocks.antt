-- Calls that begin and end blocks.
use Rattle.std.proofs.Common.{◌≡◌, ℕ, zero, suc, ◌+◌, ◌-◌, ◌*◌, ◌^◌, ◌<◌, ◌≤◌, nat_le, ◌==◌, List, [], ◌∷◌, length, get_or, set, refl, sym}
use Rattle.std.proofs.Common.{◌∙◌, ap, subst, arith, true, false, ⊎_elim, Option, Some, None}
use Rattle.std.specs.Prelude.{IsNone, IsSome, is_some}
use Rattle.std.proofs.lemmas.Bool.{cases_lt, lt-leb}
use Rattle.std.proofs.lemmas.List.{length-set}
use Rattle.mx_words.specs.Bytes.{cleared_at}
use Rattle.mx_words.specs.Changes.{changed_maps}
use Rattle.mx_words.specs.declared.perm.Perm.{Perm}
use Rattle.mx_words.specs.FirstFit.{Area, place, most_blocks, with_block, without_block}
use Rattle.mx_words.specs.Ranges.{address_of}
use Rattle.mx_words.proofs.ChangeLaws.{length-changed_from}
use Rattle.mx_heap.specs.HeapState.{HeapState}
use Rattle.mx_check.specs.Harts.{kept_at}
use Rattle.mx_model.specs.declared.values.Call.{Call}
use Rattle.mx_model.specs.Checks.{arg}
use Rattle.mx_model.specs.Reads.{Reads}
use Rattle.mx_model.specs.Serve.{answers, changes, code, with_blocks, serve_alloc, serve_free, allocated, alloc_place, alloc_change}
use Rattle.mx_model.specs.State.{Core, module_at}
use Rattle.mx_supervisor.specs.declared.answer.Answer.{Answer}
use Rattle.mx_supervisor.specs.Answers.{plain, is_refusal}
use Rattle.mx_supervisor.specs.Heaps.{no_heap, heap_at, with_blocks_at}
use Rattle.mx_supervisor.specs.Parts.{Parts, core_of, IsSound}
use Rattle.mx_supervisor.specs.Served.{ServesAs, Meets}
use Rattle.mx_supervisor.proofs.Answering.{row_on, done, sound-ram}
use Rattle.mx_supervisor.proofs.Changes.{sound-changed}
use Rattle.mx_supervisor.proofs.Modules.{core-blocks, module-heap, module-blocks}

-- other blocks leave the areas
area-set : (heaps : List HeapState) (i j : ℕ) (blocks : List Area) →
    (get_or (set heaps i (record (get_or heaps i no_heap) { blocks = blocks })) j no_heap).area ≡ (get_or heaps j no_heap).area
area-set [] i j blocks = refl
area-set (x ∷ xs) zero zero blocks = refl
area-set (x ∷ xs) zero (suc j) blocks = refl
area-set (x ∷ xs) (suc i) zero blocks = refl
area-set (x ∷ xs) (suc i) (suc j) blocks = area-set xs i j blocks

-- parts with other blocks
pub sound-blocks : (p : Parts) (d : ℕ) (blocks : List Area) → IsSound p → IsSound (record p { heaps = with_blocks_at d blocks p.heaps })
sound-blocks p d blocks sound = record {
  few_words = sound.few_words;
  few_maps = sound.few_maps;
  maps = sound.maps;
  ram = sound.ram;
  owners = sound.owners;
  heaps = length-set p.heaps (d - 1) (record (heap_at p.heaps d) { blocks = blocks }) ∙ sound.heaps;
  areas = λ e. let same = area-set p.heaps (d - 1) (e - 1) blocks in
      subst (λ (a : Area). a.first + a.count ≤ p.size) (sym same) (sound.areas e);
}

-- an address of RAM is no code
address-not-code : (first : ℕ) → first ≤ 2 ^ 24 → nat_le (code 15) (address_of first) ≡ false
address-not-code first few = lt-leb (code 15) (address_of first) (omega (arith, few))

-- a block that ended, and its words' rights
pub free-done : (call : Call) (p q u : Parts) (first count : ℕ) (given : ℕ → Option Perm) (a : Answer) → IsSound p →
    q ≡ record p { maps = changed_maps first count given p.maps } →
    u ≡ record q { heaps = with_blocks_at call.domain (without_block first (heap_at q.heaps call.domain).blocks) q.heaps } → a ≡ plain 0 →
    ((rest : Core) → row_on serve_free call p rest ≡ changes (with_blocks call
    (without_block first (module_at (core_of rest p) call.domain).blocks) (core_of rest p))
    (record { first = first; count = count; given = given })) →
    Meets serve_free call (kept_at p.harts call.hart).flight p u [] a
free-done call p q u first count given a sound eq eu ea es =
    let t : Parts = record p { maps = changed_maps first count given p.maps } in
    let blocks : List Area = without_block first (heap_at p.heaps call.domain).blocks in
    let v : Parts = record t { heaps = with_blocks_at call.domain blocks p.heaps } in
    let served : ServesAs serve_free call p v [] (plain 0) = λ rest bars. rw (es rest, module-blocks rest p call.domain)
    (record { core = core-blocks rest p call blocks; maps = refl; owners = refl; console = refl; a0 = refl; a1 = refl; stop = refl }) in
    let m : Meets serve_free call (kept_at p.harts call.hart).flight p v [] (plain 0) =
    done serve_free call p v [] (plain 0) (sound-blocks t call.domain blocks (sound-changed p first count given sound)) refl refl
    (record { size = refl; limit = refl; modules = length-changed_from first count given 1 p.maps }) served in
    let whole : u ≡ v = eu ∙ ap (λ (x : Parts). record x {
      heaps =
          with_blocks_at call.domain (without_block first (heap_at x.heaps call.domain).blocks) x.heaps;
    }) eq in
    rw (whole, ea) m

-- a block that began, zero-filled, and its words' rights
pub alloc-done : (call : Call) (p q u : Parts) (first : ℕ) (given : ℕ → Option Perm) (a : Answer) → IsSound p → first ≤ 2 ^ 24 →
    length (cleared_at p.ram (4 * first) (4 * arg call 0)) ≡ length p.ram →
    q ≡ record p { maps = changed_maps first (arg call 0) given p.maps } →
    u ≡ record q {
      heaps = with_blocks_at call.domain (with_block (record { first = first; count = arg call 0 }) (heap_at q.heaps call.domain).blocks)
          q.heaps;
      ram = cleared_at q.ram (4 * first) (4 * arg call 0);
    } → a ≡ plain (address_of first) →
    ((rest : Core) → row_on serve_alloc call p rest ≡ record (allocated (core_of rest p) call first) {
      change =
          Some (record { first = first; count = arg call 0; given = given });
    }) →
    Meets serve_alloc call (kept_at p.harts call.hart).flight p u [] a
alloc-done call p q u first given a sound few long eq eu ea es =
    let t : Parts = record p { maps = changed_maps first (arg call 0) given p.maps } in
    let b : Area = record { first = first; count = arg call 0 } in
    let blocks : List Area = with_block b (heap_at p.heaps call.domain).blocks in
    let ram : List ℕ = cleared_at p.ram (4 * first) (4 * arg call 0) in
    let v : Parts = record t { heaps = with_blocks_at call.domain blocks p.heaps; ram = ram } in
    let served : ServesAs serve_alloc call p v [] (plain (address_of first)) = λ rest bars. rw (es rest, module-blocks rest p call.domain)
    (record {
      core = core-blocks rest (record p { ram = ram }) call blocks;
      maps = refl;
      owners = refl;
      console = refl;
      a0 = refl;
      a1 =
          refl;
      stop = refl;
    }) in
    let refused : is_refusal (plain (address_of first)) ≡ false = address-not-code first few in
    let m : Meets serve_alloc call (kept_at p.harts call.hart).flight p v [] (plain (address_of first)) =
    done serve_alloc call p v [] (plain (address_of first))
    (sound-ram (record t { heaps = with_blocks_at call.domain blocks p.heaps }) ram
    (sound-blocks t call.domain blocks (sound-changed p first (arg call 0) given sound)) long)
    refused refl (record { size = refl; limit = refl; modules = length-changed_from first (arg call 0) given 1 p.maps }) served in
    let whole : u ≡ v = eu ∙ ap (λ (x : Parts). record x {
      heaps = with_blocks_at call.domain (with_block b (heap_at x.heaps call.domain).blocks) x.heaps;
      ram = cleared_at x.ram (4 * first) (4 * arg call 0);
    }) eq in
    rw (whole, ea) m

-- what call 6 comes to, test by test
pub alloc-none : (r : Reads) (c : Core) (call : Call) → (arg call 0 == 0) ≡ false → alloc_place c call ≡ None
    → serve_alloc r c call ≡ answers c (code 6)
alloc-none r c call z e = rw (z, e) refl

pub alloc-full : (r : Reads) (c : Core) (call : Call) (first : ℕ) → (arg call 0 == 0) ≡ false → alloc_place c call ≡ Some first →
    nat_le most_blocks (length (module_at c call.domain).blocks) ≡ true → serve_alloc r c call ≡ answers c (code 7)
alloc-full r c call first z e f = rw (z, e, f) refl

pub alloc-unfit : (r : Reads) (c : Core) (call : Call) (first : ℕ) → (arg call 0 == 0) ≡ false → alloc_place c call ≡ Some first →
    nat_le most_blocks (length (module_at c call.domain).blocks) ≡ false → r.fits (alloc_change first call) ≡ false
    → serve_alloc r c call ≡ answers c (code 5)
alloc-unfit r c call first z e f k = rw (z, e, f, k) refl

pub alloc-fit : (r : Reads) (c : Core) (call : Call) (first : ℕ) → (arg call 0 == 0) ≡ false → alloc_place c call ≡ Some first →
    nat_le most_blocks (length (module_at c call.domain).blocks) ≡ false → r.fits (alloc_change first call) ≡ true
    → serve_alloc r c call ≡ allocated c call first
alloc-fit r c call first z e f k = rw (z, e, f, k) refl

-- the place and the number of blocks in a state made of parts
pub place-in : (rest : Core) (p : Parts) (call : Call) →
    alloc_place (core_of rest p) call ≡ place (heap_at p.heaps call.domain).area (heap_at p.heaps call.domain).blocks (arg call 0)
place-in rest p call = rw (module-heap rest p call.domain, module-blocks rest p call.domain) refl

pub blocks-in : (rest : Core) (p : Parts) (call : Call) → length (module_at (core_of rest p) call.domain).blocks
    ≡ length (heap_at p.heaps call.domain).blocks
blocks-in rest p call = ap length (module-blocks rest p call.domain)

pub none-of : (o : Option ℕ) → IsNone o → o ≡ None
none-of None h = refl
none-of (Some x) h = absurd (let q : ⊥ = cc in q)

-- a heap that isn't full, by what its place told
pub not-full : (o : Option ℕ) (n first : ℕ) → n ≤ most_blocks → o ≡ Some first → (IsSome o × (n ≡ most_blocks) → ⊥) → n < most_blocks
not-full o n first few e out = ⊎_elim (λ (h : n < most_blocks). h)
    (λ (h : most_blocks ≤ n). absurd (out (ap is_some e, omega (arith, few, h)))) (cases_lt n most_blocks)
