-- What stays true of a heap's parts when a block becomes live and when one ends.
use Rattle.std.proofs.Common.{ℕ, ◌≡◌, ◌+◌, ◌*◌, ◌-◌, ◌≤◌, true, List, length, arith}
use Rattle.mx_words.specs.FirstFit.{most_blocks}
use Rattle.mx_heap.specs.declared.parts.Part.{Part}
use Rattle.mx_heap.specs.HeapState.{IsHeap}
use Rattle.mx_heap.specs.Places.{blocks_of, split, joined, AreParts}
use Rattle.mx_heap.proofs.FillLaws.{Fill-apart, length-parts}
use Rattle.mx_heap.proofs.EditLaws.{AfterSplit}
use Rattle.mx_heap.proofs.JoinLaws.{AfterJoin}

module _ (first count : ℕ) (ps : List Part) (live capacity : ℕ) (h : AreParts first count ps live capacity) where
  -- its blocks are a heap's
  pub is_heap : IsHeap (record { area = record { first = first; count = count }; blocks = blocks_of ps })
  is_heap = record {
    apart = Fill-apart first (first + count) true ps h.fill;
    few = omega (arith, h.counted, h.few);
  }

  -- there is room for two parts more while a block may become live
  pub two_more : (live ≡ most_blocks → ⊥) → length ps + 2 ≤ capacity
  two_more less =
      let most : length ps ≤ 2 * length (blocks_of ps) + 1 = length-parts first (first + count) true ps h.fill in
      omega (arith, most, h.counted, h.few, h.room, less)

  pub kept_split : (i at n : ℕ) (qs : List Part) (room : ℕ) → (live ≡ most_blocks → ⊥) → AfterSplit first (first + count) true ps i at n →
      qs ≡ split ps i at n → capacity ≤ room → AreParts first count qs (live + 1) room
  kept_split i at n qs room less a is le = record {
    in_ram = h.in_ram;
    fill = rw is a.fill;
    counted = rw is (omega (arith, a.more, h.counted));
    few = omega (arith, h.few, less);
    room = omega (arith, h.room);
  }

  pub kept_joined : (i : ℕ) (qs : List Part) (room : ℕ) → AfterJoin first (first + count) ps i → qs ≡ joined ps i → room ≡ capacity
      → AreParts first count qs (live - 1) room
  kept_joined i qs room a is same = record {
    in_ram = h.in_ram;
    fill = rw is a.fill;
    counted = rw is (omega (arith, a.fewer, h.counted));
    few = omega (arith, h.few);
    room = omega (arith, h.room, same);
  }
