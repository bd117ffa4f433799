-- Blocks that are made live, each behind those before it.
use Rattle.std.proofs.Common.{◌≡◌, ℕ, ◌+◌, ◌<◌, ◌≤◌, Bool, true, not, List, [], ◌∷◌, ◌++◌, length, sym, ap, ◌∙◌, subst, arith, lt-ltb}
use Rattle.std.proofs.Common.{le-leb}
use Rattle.std.specs.Bool.{OnTrue}
use Rattle.std.proofs.lemmas.Bool.{and_from}
use Rattle.std.proofs.lemmas.List.{append-nil}
use Rattle.mx_words.specs.FirstFit.{Area, AreApart, with_block}
use Rattle.mx_heap.specs.HeapState.{HeapState, may_live}
use Rattle.mx_words.proofs.AreaLaws.{apart_ordered}
use Rattle.mx_heap.proofs.BlockLaws.{with_block_between}
use Rattle.mx_heap.proofs.RoomLaws.{met_below}

-- what holds where an answer is true
pub on_true : (b : Bool) (P : Type 0) → b ≡ true → OnTrue b P → P
on_true b P e h = subst (λ (x : Bool). OnTrue x P) e h

pub block_lives : (heap : HeapState) (from : ℕ) (b : Area) → AreApart heap.area.first from heap.blocks → from ≤ b.first → 0 < b.count
    → b.first + b.count ≤ heap.area.first + heap.area.count → length heap.blocks < 1024 → may_live heap b ≡ true
block_lives heap from b apart le some inside few =
    let low = apart_ordered heap.area.first from heap.blocks apart in
    let free = ap not (met_below heap.area.first from b.first b.count heap.blocks apart le) in
    and_from _ _ (and_from _ _ (lt-ltb 0 b.count some) (and_from _ _
    (and_from _ _ (le-leb heap.area.first b.first (omega (arith, low, le))) (le-leb _ _ inside)) free)) (lt-ltb _ _ few)

pub block_last : (low from : ℕ) (b : Area) (bs : List Area) → AreApart low from bs → from ≤ b.first → 0 < b.count
    → with_block b bs ≡ bs ++ b ∷ []
block_last low from b bs apart le some =
    ap (with_block b) (sym (append-nil bs)) ∙ with_block_between low from (b.first + b.count) b bs [] apart le some (omega arith)

pub apart_more : (low from : ℕ) (b : Area) (bs : List Area) → AreApart low from bs → from ≤ b.first → 0 < b.count
    → AreApart low (b.first + b.count) (bs ++ b ∷ [])
apart_more low from b [] apart le some = (omega (arith, apart, le), some, omega arith)
apart_more low from b (x ∷ xs) apart le some = (apart.0, apart.1, apart_more (x.first + x.count) from b xs apart.2 le some)
