-- What holds of all areas of a module holds of some of them.
use Rattle.std.proofs.Common.{ℕ, true, false, cond, [], ◌++◌}
use Rattle.std.specs.List.{AllByRecursion}
use Rattle.mx_model.proofs.JoinLaws.{all-join, all-first, all-second}
use Rattle.mx_boot.specs.declared.area.Area.{Area}
use Rattle.mx_boot.specs.Areas.{Home, pieces, heaps, stacks, input_areas, areas_of}
use Rattle.mx_boot.specs.Boot.{owned_pieces}
use Rattle.mx_boot.specs.Placed.{granted_areas, owned_areas}

module _ (P : Area → Type 0) (harts : ℕ) (h : Home) (all : AllByRecursion P (areas_of harts h)) where
  pub but_input : AllByRecursion P (pieces h ++ heaps h ++ stacks harts h)
  but_input = all-first P (pieces h ++ heaps h ++ stacks harts h) (input_areas h) all

  pub input_part : AllByRecursion P (input_areas h)
  input_part = all-second P (pieces h ++ heaps h ++ stacks harts h) (input_areas h) all

  pub stack_part : AllByRecursion P (stacks harts h)
  stack_part = all-second P (pieces h ++ heaps h) (stacks harts h) but_input

  but_stack : AllByRecursion P (pieces h ++ heaps h)
  but_stack = all-first P (pieces h ++ heaps h) (stacks harts h) but_input

  pub heap_part : AllByRecursion P (heaps h)
  heap_part = all-second P (pieces h) (heaps h) but_stack

  pub piece_part : AllByRecursion P (pieces h)
  piece_part = all-first P (pieces h) (heaps h) but_stack

  pub granted_part : AllByRecursion P (granted_areas harts h)
  granted_part = all-join P (pieces h ++ stacks harts h) (input_areas h) (all-join P (pieces h) (stacks harts h) piece_part stack_part)
      input_part

  owned_piece_part : AllByRecursion P (owned_pieces h)
  owned_piece_part = elim h.plan.seal as (λ b. AllByRecursion P (cond b [] (pieces h))) [ true ↦ tt | false ↦ piece_part ]

  pub owned_part : AllByRecursion P (owned_areas harts h)
  owned_part =
      all-join P (owned_pieces h ++ heaps h ++ stacks harts h) (input_areas h)
      (all-join P (owned_pieces h ++ heaps h) (stacks harts h) (all-join P (owned_pieces h) (heaps h) owned_piece_part heap_part)
      stack_part) input_part
