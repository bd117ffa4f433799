-- A list of harts in the first places of an array: what a read and a write of one of them say of the list.
use Rattle.std.proofs.Common.{◌≡◌, ℕ, ◌<◌, List, length, get_or, set, take, sym, ap, ◌∙◌, arith, length-take, get_or-take}
use Rattle.std.proofs.lemmas.List.{get_or_default}
use Rattle.std.proofs.SliceLists.{take-set}
use Rattle.mx_machine.specs.declared.hart.Hart.{Hart}
use Rattle.mx_machine.specs.Harts.{no_held_hart, hart_among, stepped}

module _ (n : ℕ) (items : List Hart) (harts : List Hart) (h : ℕ) (d : Hart) (view : take n items ≡ harts) (there : h < length harts) where
  -- the part that is read is the hart
  pub hart_read : get_or items h d ≡ hart_among harts h
  hart_read =
      let long : h < length (take n items) = omega (arith, ap length view) in
      let low : h < n = omega (arith, length-take n items) in
      let inside : h < length items = omega (arith, length-take n items) in
      get_or_default items h d no_held_hart inside ∙ sym (get_or-take n items h no_held_hart low)
      ∙ ap (λ (hs : List Hart). get_or hs h no_held_hart) view

  -- a part that is written is the hart after a step
  pub hart_written : (step : Hart → Hart) (x : Hart) → x ≡ step (get_or items h d) → take n (set items h x) ≡ stepped h step harts
  hart_written step x e = search (arith, take-set, hart_read)
