-- How many ends of a range lie inside a block: of the blocks that are left, and of the next one.
use Rattle.std.proofs.Common.{◌≡◌, ℕ, ◌+◌, ◌*◌, ◌≤◌, arith}
use Rattle.mx_trie.specs.declared.laying.Laying.{Laying}
use Rattle.mx_trie.specs.Laying.{cut, cuts}
use Rattle.mx_trie.specs.OnWay.{cut_left, cuts_left}

-- the ends of a range in block `next`, and in the later ones before `stop`
module _ (size next stop : ℕ) (lay : Laying) (fits : next * size + size ≤ stop) where
  pub cuts-step : (next + 1) * size ≡ next * size + size →
      cuts size next lay + cuts_left size (next + 1) stop lay ≤ cuts_left size next stop lay
  cuts-step on =
      let step : (x : ℕ) → cut size next x + cut_left size (next + 1) stop x ≤ cut_left size next stop x =
      λ x. omega arith in
      omega (arith, step lay.first, step lay.end)

  pub cuts-within : cuts size next lay ≤ cuts_left size next stop lay
  cuts-within =
      let part : (x : ℕ) → cut size next x ≤ cut_left size next stop x = λ x. omega arith in
      omega (arith, part lay.first, part lay.end)

-- the ends from block `next` on before the end of a greater block
pub cuts-start : (size next big y : ℕ) (lay : Laying) → y * big ≤ next * size →
    cuts_left size next (y * big + big) lay ≤ cuts big y lay
cuts-start size next big y lay b =
    let part : (x : ℕ) → cut_left size next (y * big + big) x ≤ cut big y x = λ x. omega arith in
    omega (arith, part lay.first, part lay.end)

-- frames: what is counted so far, and what is still to come
pub room-more : (free free' free'' all left left' used : ℕ) → free + left ≤ free' + all → free' ≤ free'' + used →
    used + left' ≤ left → free + left' ≤ free'' + all
room-more free free' free'' all left left' used a b c = omega arith

pub room-left : (free free' all left used : ℕ) → free + left ≤ free' + all → all ≤ free → used ≤ left → used ≤ free'
room-left free free' all left used a b c = omega arith

pub room-start : (free all left : ℕ) → left ≤ all → free + left ≤ free + all
room-start free all left a = omega arith

pub room-end : (free free' all left : ℕ) → free + left ≤ free' + all → free ≤ free' + all
room-end free free' all left a = omega arith
