-- What the maps of all domains need in a kind of tables. It is counted over the maps alone.
-- The rules: docs/MACHINE.md, "Needs of the tables".
use Rattle.std.specs.Prelude.{ℕ, ◌+◌, ◌/◌, Bool, ◌&&◌, nat_le, List, sum_by}
use Rattle.mx_words.specs.declared.perm.Perm.{Perm}
use Rattle.mx_words.specs.declared.tables.Kind.{Kind}
use Rattle.mx_words.specs.declared.tables.Kind.TheVariants as K
use Rattle.mx_words.specs.declared.tables.Need.{Need}
use Rattle.mx_words.specs.Runs.{runs, page_words, region_words, broken_blocks, crowded_lines}

-- the frames of 64 entries that a map's runs fill
abbrev pub segment_frames : List Perm → ℕ
segment_frames m = (runs m + 63) / 64

-- a root table per domain, and a mid table per region that isn't eighth-uniform
abbrev pub upper_frames : List Perm → ℕ
upper_frames m = 1 + broken_blocks region_words m

-- the frames and spill words that the maps need
abbrev pub need : Kind → List (List Perm) → Need
need K.Segments maps = record { upper = 0; leaf = sum_by segment_frames maps; spill = 0 }
need K.Multilevel maps =
    record {
      upper = sum_by upper_frames maps;
      leaf = sum_by (broken_blocks page_words) maps;
      spill = 0;
    }
need K.Packed maps =
    record {
      upper = sum_by upper_frames maps;
      leaf = sum_by (broken_blocks page_words) maps;
      spill = sum_by crowded_lines maps;
    }

-- whether a need is within a limit
abbrev pub within : Need → Need → Bool
within needed limit =
    nat_le needed.upper limit.upper && nat_le needed.leaf limit.leaf &&
    nat_le needed.spill limit.spill

-- whether maps fit a limit
abbrev pub fits : Kind → Need → List (List Perm) → Bool
fits kind limit maps = within (need kind maps) limit
