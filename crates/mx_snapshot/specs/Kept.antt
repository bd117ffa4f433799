-- What a run keeps of a manifest's plan, and a snapshot of a machine.
-- The rules: docs/MACHINE.md, "States that are the same".
use Rattle.std.specs.Prelude.{◌≡◌, ℕ, List, length, slice_get, Some}
use Rattle.std.specs.Prelude.{map as list_map}
use Rattle.mx_words.specs.declared.tables.Kind.{Kind}
use Rattle.mx_words.specs.declared.tables.Need.{Need}
use Rattle.mx_words.specs.Limits.{most_modules, IsBuffer, most_quantum}
use Rattle.mx_table.specs.Tables.{IsLimit}
use Rattle.mx_manifest.specs.declared.parts.ModulePlan.{ModulePlan}
use Rattle.mx_manifest.specs.InRange.{Each, IsBetween, IsName}
use Rattle.mx_manifest.specs.Plan.{Said}
use Rattle.mx_model.specs.State.{Flat}
use Rattle.mx_snapshot.specs.declared.kept.Kept.TheInside.{Inside}

-- the kind of tables and their limit, the size of a lookaside buffer, the quantum, and the modules' names in their order
pub record KeptPlan : Type 0 where
  pub kind : Kind
  pub limit : Need
  pub lookaside : ℕ
  pub quantum : ℕ
  pub names : List (List ℕ)

-- the same of all that a manifest says
abbrev pub kept_of : Said → KeptPlan
kept_of plan = record {
  kind = plan.tables;
  limit = record { upper = plan.upper; leaf = plan.leaf; spill = plan.spill };
  lookaside = plan.lookaside;
  quantum = plan.quantum;
  names = list_map (λ (m : ModulePlan). m.name) plan.modules;
}

-- each is as in a manifest: a limit of tables, a size of a lookaside buffer, 1 to 1000000 turns, and 1 to most_modules names,
-- no two of them equal
pub record IsKept (kept : KeptPlan) : Type 0 where
  pub limit : IsLimit kept.limit
  pub lookaside : IsBuffer kept.lookaside
  pub quantum : IsBetween 1 most_quantum kept.quantum
  pub count : IsBetween 1 most_modules (length kept.names)
  pub names : Each IsName kept.names
  pub apart : (i j : ℕ) (name : List ℕ) → slice_get kept.names i ≡ Some name →
      slice_get kept.names j ≡ Some name → i ≡ j

-- a machine with the kind, limit and size of lookaside buffers that are kept of a plan, and a module for each of its names
pub record IsOfPlan (kept : KeptPlan) (f : Flat) : Type 0 where
  pub kind : f.core.kind ≡ kept.kind
  pub limit : f.core.limit ≡ kept.limit
  pub lookaside : f.core.buffer ≡ kept.lookaside
  pub modules : length f.core.modules ≡ length kept.names

-- what the fields of a kept plan tell
abbrev pub kept_in : Inside → KeptPlan
kept_in kept = record {
  kind = kept.kind;
  limit = kept.limit;
  lookaside = kept.lookaside;
  quantum = kept.quantum;
  names = kept.names.items;
}
