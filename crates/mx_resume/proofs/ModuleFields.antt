-- A module is taken where its fields are, one behind another.
use Rattle.std.proofs.Common.{◌≡◌, ℕ, ◌*◌, Bool, nat_lt, List, [], refl}
use Rattle.mx_words.specs.declared.perm.Perm.{Perm}
use Rattle.mx_words.specs.FirstFit.{Area, most_blocks}
use Rattle.mx_words.specs.Runs.{Run}
use Rattle.mx_snapshot.specs.Fields.{between, block_in, flag_in, map_run_in, module_in}
use Rattle.mx_snapshot.specs.Reader.{Took, list_of, number, piece, such}
use Rattle.mx_snapshot.specs.Rules.{is_area, is_new_name}
use Rattle.mx_snapshot.specs.Stored.{Head, StoredModule}

-- the module of these fields
abbrev pub module_made : List ℕ → ℕ → ℕ → ℕ → ℕ → Bool → Bool → List Area → List (Run Perm) → StoredModule
module_made name heap_first heap_count first words kills dead blocks maps = record {
  name = name;
  home = record {
    heap = record { first = heap_first; count = heap_count };
    blocks = blocks;
    stack = record { first = first; words = words };
    kills = kills;
    dead = dead;
  };
  map = maps;
}

pub module_took : (h : Head) (before : List StoredModule) (bytes : List ℕ) (at : ℕ) (size : ℕ) (a1 : ℕ) (name : List ℕ) (a2 : ℕ)
    (heap_first : ℕ) (a3 : ℕ) (heap_count : ℕ) (a4 : ℕ) (first : ℕ) (a5 : ℕ) (words : ℕ) (a6 : ℕ) (kills : Bool) (a7 : ℕ) (dead : Bool)
    (a8 : ℕ) (count : ℕ) (a9 : ℕ) (blocks : List Area) (a10 : ℕ) (runs : ℕ) (a11 : ℕ) (maps : List (Run Perm)) (a12 : ℕ) →
    between 1 32 bytes at ≡ Took size a1 →
    such (is_new_name before) (piece size) bytes a1 ≡ Took name a2 →
    number bytes a2 ≡ Took heap_first a3 →
    such (is_area h.words heap_first) number bytes a3 ≡ Took heap_count a4 →
    number bytes a4 ≡ Took first a5 →
    such (λ n. is_area h.words first (n * h.harts)) number bytes a5 ≡ Took words a6 →
    flag_in bytes a6 ≡ Took kills a7 →
    flag_in bytes a7 ≡ Took dead a8 →
    between 0 most_blocks bytes a8 ≡ Took count a9 →
    list_of count (block_in (record { first = heap_first; count = heap_count })) [] bytes a9 ≡ Took blocks a10 →
    such (nat_lt 0) number bytes a10 ≡ Took runs a11 →
    list_of runs (map_run_in h runs) [] bytes a11 ≡ Took maps a12 →
    module_in h before bytes at ≡ Took (module_made name heap_first heap_count first words kills dead blocks maps) a12
unfolding module_in
module_took h before bytes at size a1 name a2 heap_first a3 heap_count a4 first a5 words a6 kills a7 dead a8 count a9 blocks a10 runs a11
    maps a12 e1 e2 e3 e4 e5 e6 e7 e8 e9 e10 e11 e12 =
    rw (e1, e2, e3, e4, e5, e6, e7, e8, e9, e10, e11, e12) refl
