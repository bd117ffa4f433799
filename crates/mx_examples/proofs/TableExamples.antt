-- Worked examples of runs, of what maps need, and of what a walk answers and what is stored, computed.
use Rattle.std.specs.Prelude.{◌≡◌, ℕ, ◌%◌, ◌==◌, if◌then◌else◌, true, false, List, [], ◌∷◌, flat_map, replicate, refl}
use Rattle.std.specs.Prelude.{map as list_map}
use Rattle.std.specs.List.{range_with_len}
use Rattle.mx_words.specs.declared.perm.Perm.{Perm}
use Rattle.mx_words.specs.declared.perm.Perm.TheVariants.{None, Read, ReadWrite, ExecuteRead}
use Rattle.mx_words.specs.declared.perm.Span.{Span}
use Rattle.mx_words.specs.declared.tables.Kind.TheVariants as K
use Rattle.mx_words.specs.declared.tables.Level.{Level}
use Rattle.mx_words.specs.declared.tables.Level.TheVariants as L
use Rattle.mx_words.specs.declared.tables.Need.{Need}
use Rattle.mx_words.specs.declared.tables.Shown.{Shown}
use Rattle.mx_words.specs.Need.{need, segment_frames, within}
use Rattle.mx_words.specs.Reach.{span, stored}
use Rattle.mx_words.specs.Rights.{same}
use Rattle.mx_words.specs.Runs.{Run, runs_of, most_owner_runs}

-- a map by the lengths and permissions of its runs
abbrev cells : List (ℕ × Perm) → List Perm
cells rs = flat_map (λ (r : ℕ × Perm). replicate r.0 r.1) rs

abbrev run_of : ℕ → Perm → Run Perm
run_of count p = record { count = count; value = p }

abbrev span_of : ℕ → ℕ → Perm → Span
span_of first count p = record { first = first; count = count; perm = p }

abbrev counts : ℕ → ℕ → ℕ → Need
counts upper leaf spill = record { upper = upper; leaf = leaf; spill = spill }

abbrev shown : Level → ℕ → ℕ → ℕ → Shown
shown level first count word = record { level = level; first = first; count = count; stored = word }

-- maximal runs, in order
runs-in-order : runs_of same (Read ∷ Read ∷ None ∷ Read ∷ [])
    ≡ run_of 2 Read ∷ run_of 1 None ∷ run_of 1 Read ∷ []
runs-in-order = refl

-- read and none in turn: 64 runs fill one frame, and 65 two, in each domain by itself
abbrev turns : ℕ → List Perm
turns count = list_map (λ i. if i % 2 == 0 then Read else None) (range_with_len 0 count)

frames-of-runs : list_map (λ n. segment_frames (turns n)) (1 ∷ 2 ∷ 64 ∷ 65 ∷ 128 ∷ 129 ∷ [])
    ≡ 1 ∷ 1 ∷ 1 ∷ 2 ∷ 2 ∷ 3 ∷ []
frames-of-runs = refl

frames-by-domain : need K.Segments (turns 65 ∷ turns 65 ∷ []) ≡ counts 0 4 0
frames-by-domain = refl

-- a RAM of 17 words, of which the last may be read: the words after it have no permission
abbrev seventeen : List Perm
seventeen = cells ((16, None) ∷ (1, Read) ∷ [])

need-of-17-seg : need K.Segments (seventeen ∷ []) ≡ counts 0 1 0
need-of-17-seg = refl

need-of-17-multi : need K.Multilevel (seventeen ∷ []) ≡ counts 2 1 0
need-of-17-multi = refl

need-of-17-packed : need K.Packed (seventeen ∷ []) ≡ counts 2 1 0
need-of-17-packed = refl

spans-in-17-seg : list_map (span K.Segments seventeen) (0 ∷ 15 ∷ 16 ∷ [])
    ≡ span_of 0 16 None ∷ span_of 0 16 None ∷ span_of 16 1 Read ∷ []
spans-in-17-seg = refl

spans-in-17-multi : list_map (span K.Multilevel seventeen) (0 ∷ 15 ∷ 16 ∷ [])
    ≡ span_of 0 16 None ∷ span_of 0 16 None ∷ span_of 16 1 Read ∷ []
spans-in-17-multi = refl

spans-in-17-packed : list_map (span K.Packed seventeen) (0 ∷ 15 ∷ 16 ∷ [])
    ≡ span_of 0 16 None ∷ span_of 0 16 None ∷ span_of 16 1 Read ∷ []
spans-in-17-packed = refl

stored-in-17-seg : list_map (stored K.Segments seventeen) (3 ∷ 16 ∷ [])
    ≡ shown L.Segment 0 16 0x80000000 ∷ shown L.Segment 16 1 0x80000041 ∷ []
stored-in-17-seg = refl

stored-in-17-multi : list_map (stored K.Multilevel seventeen) (3 ∷ 16 ∷ [])
    ≡ shown L.Leaf 0 16 0x00000000 ∷ shown L.Leaf 16 1 0x00000001 ∷ []
stored-in-17-multi = refl

stored-in-17-packed : list_map (stored K.Packed seventeen) (3 ∷ 16 ∷ [])
    ≡ shown L.Leaf 0 16 0x00000002 ∷ shown L.Leaf 16 1 0x00000406 ∷ []
stored-in-17-packed = refl

-- all of 17 words may be read, which the words after them may not
abbrev readable : List Perm
readable = cells ((17, Read) ∷ [])

need-readable-multi : need K.Multilevel (readable ∷ []) ≡ counts 2 1 0
need-readable-multi = refl

need-readable-packed : need K.Packed (readable ∷ []) ≡ counts 2 1 0
need-readable-packed = refl

spans-readable : list_map (span K.Packed readable) (0 ∷ 16 ∷ []) ≡ span_of 0 17 Read ∷ span_of 0 17 Read ∷ []
spans-readable = refl

-- no word of 17 has a permission: a root vector of none, cut at the end of RAM
abbrev bare : List Perm
bare = cells ((17, None) ∷ [])

need-bare-multi : need K.Multilevel (bare ∷ []) ≡ counts 1 0 0
need-bare-multi = refl

need-bare-packed : need K.Packed (bare ∷ []) ≡ counts 1 0 0
need-bare-packed = refl

spans-bare : list_map (span K.Multilevel bare) (0 ∷ 16 ∷ []) ≡ span_of 0 17 None ∷ span_of 0 17 None ∷ []
spans-bare = refl

stored-bare : list_map (stored K.Packed bare) (16 ∷ []) ≡ shown L.Root 0 17 0x00000001 ∷ []
stored-bare = refl

need-of-two : need K.Packed (seventeen ∷ bare ∷ []) ≡ counts 3 1 0
need-of-two = refl

-- three runs in the last line, and the words after RAM are the fourth
abbrev three_runs : List Perm
three_runs = cells ((16, None) ∷ (1, Read) ∷ (1, ReadWrite) ∷ (1, Read) ∷ [])

need-three-runs : need K.Packed (three_runs ∷ []) ≡ counts 2 1 0
need-three-runs = refl

stored-three-runs : list_map (stored K.Packed three_runs) (18 ∷ []) ≡ shown L.Leaf 16 3 0x000C8466 ∷ []
stored-three-runs = refl

spans-three-runs : list_map (span K.Packed three_runs) (5 ∷ 16 ∷ 17 ∷ 18 ∷ [])
    ≡ span_of 0 16 None ∷ span_of 16 1 Read ∷ span_of 17 1 ReadWrite ∷ span_of 18 1 Read ∷ []
spans-three-runs = refl

-- four runs in the last line, and the words after RAM are the fifth: a spill word
abbrev four_runs : List Perm
four_runs = cells ((16, None) ∷ (1, Read) ∷ (1, ReadWrite) ∷ (1, Read) ∷ (1, ReadWrite) ∷ [])

need-four-runs : need K.Packed (four_runs ∷ []) ≡ counts 2 1 1
need-four-runs = refl

need-four-runs-plain : need K.Multilevel (four_runs ∷ []) ≡ counts 2 1 0
need-four-runs-plain = refl

stored-four-runs : list_map (stored K.Packed four_runs) (18 ∷ []) ≡ shown L.Spill 16 4 0x00000099 ∷ []
stored-four-runs = refl

stored-four-runs-plain : list_map (stored K.Multilevel four_runs) (18 ∷ [])
    ≡ shown L.Leaf 16 4 0x00000099 ∷ []
stored-four-runs-plain = refl

spans-four-runs : list_map (span K.Packed four_runs) (15 ∷ 16 ∷ 19 ∷ [])
    ≡ span_of 0 16 None ∷ span_of 16 1 Read ∷ span_of 19 1 ReadWrite ∷ []
spans-four-runs = refl

-- 96 words that may be read: reaches end at 31, and at the ends of RAM
abbrev long : List Perm
long = cells ((96, Read) ∷ [])

spans-long-packed : list_map (span K.Packed long) (0 ∷ 20 ∷ 50 ∷ 95 ∷ [])
    ≡ span_of 0 47 Read ∷ span_of 0 63 Read ∷ span_of 17 78 Read ∷ span_of 49 47 Read ∷ []
spans-long-packed = refl

spans-long-multi : list_map (span K.Multilevel long) (50 ∷ []) ≡ span_of 48 16 Read ∷ []
spans-long-multi = refl

spans-long-seg : list_map (span K.Segments long) (50 ∷ []) ≡ span_of 0 96 Read ∷ []
spans-long-seg = refl

stored-long : list_map (stored K.Packed long) (0 ∷ 50 ∷ 95 ∷ [])
    ≡ shown L.Leaf 0 16 0x07C00006 ∷ shown L.Leaf 48 16 0xFFC00006 ∷ shown L.Leaf 80 16 0xF8000006 ∷ []
stored-long = refl

stored-long-plain : list_map (stored K.Multilevel long) (50 ∷ []) ≡ shown L.Leaf 48 16 0x55555555 ∷ []
stored-long-plain = refl

-- a line of three runs between others: the first reaches to the left, the last to the right, and the middle one nowhere
abbrev edges : List Perm
edges = cells ((30, None) ∷ (1, ReadWrite) ∷ (1, Read) ∷ (8, Read) ∷ (4, ExecuteRead) ∷ (4, ReadWrite) ∷ (20, ReadWrite) ∷ [])

spans-edges : list_map (span K.Packed edges) (31 ∷ 32 ∷ 39 ∷ 40 ∷ 44 ∷ 47 ∷ 48 ∷ 66 ∷ [])
    ≡ span_of 31 9 Read ∷ span_of 31 9 Read ∷ span_of 31 9 Read ∷ span_of 40 4 ExecuteRead ∷ span_of 44 24 ReadWrite
    ∷ span_of 44 24 ReadWrite ∷ span_of 44 24 ReadWrite ∷ span_of 44 24 ReadWrite ∷ []
spans-edges = refl

stored-edges : list_map (stored K.Packed edges) (40 ∷ 60 ∷ [])
    ≡ shown L.Leaf 32 16 0x0D0320B6 ∷ shown L.Leaf 48 16 0x2100000A ∷ []
stored-edges = refl

-- a page whose eighths have one permission each, and a line after it
abbrev eighths_of_page : List Perm
eighths_of_page = cells ((128, Read) ∷ (128, ReadWrite) ∷ (128, ExecuteRead) ∷ (128, None) ∷ (128, Read) ∷ (128, ExecuteRead)
    ∷ (128, ReadWrite) ∷ (128, ReadWrite) ∷ (1, Read) ∷ (16, None) ∷ [])

need-of-eighths-multi : need K.Multilevel (eighths_of_page ∷ []) ≡ counts 2 1 0
need-of-eighths-multi = refl

need-of-eighths-packed : need K.Packed (eighths_of_page ∷ []) ≡ counts 2 1 0
need-of-eighths-packed = refl

spans-of-eighths : list_map (span K.Packed eighths_of_page) (0 ∷ 300 ∷ 1023 ∷ 1024 ∷ [])
    ≡ span_of 0 128 Read ∷ span_of 256 128 ExecuteRead ∷ span_of 896 128 ReadWrite ∷ span_of 1024 1 Read ∷ []
spans-of-eighths = refl

spans-of-eighths-seg : list_map (span K.Segments eighths_of_page) (1000 ∷ []) ≡ span_of 768 256 ReadWrite ∷ []
spans-of-eighths-seg = refl

stored-of-eighths : list_map (stored K.Multilevel eighths_of_page) (0 ∷ 1023 ∷ 1024 ∷ 1040 ∷ [])
    ≡ shown L.Mid 0 1024 0x0002B4E5 ∷ shown L.Mid 0 1024 0x0002B4E5 ∷ shown L.Leaf 1024 16 0x00000001 ∷ shown L.Leaf 1040 1 0x00000000 ∷ []
stored-of-eighths = refl

-- an eighth of a page with two permissions
abbrev broken_page : List Perm
broken_page = cells ((128, Read) ∷ (127, ReadWrite) ∷ (1, ExecuteRead) ∷ [])

need-of-broken : need K.Multilevel (broken_page ∷ []) ≡ counts 2 1 0
need-of-broken = refl

stored-of-broken : list_map (stored K.Multilevel broken_page) (0 ∷ 255 ∷ [])
    ≡ shown L.Leaf 0 16 0x55555555 ∷ shown L.Leaf 240 16 0xEAAAAAAA ∷ []
stored-of-broken = refl

-- a region whose eighths have one permission each
abbrev eighths_of_region : List Perm
eighths_of_region = cells ((131072, Read) ∷ (131072, ExecuteRead) ∷ (16, None) ∷ [])

stored-of-region : stored K.Packed eighths_of_region 131072 ≡ shown L.Root 0 262160 0x00000035
stored-of-region = refl

span-of-region : span K.Packed eighths_of_region 131072 ≡ span_of 131072 131072 ExecuteRead
span-of-region = refl

-- a need is within a limit where each count is
withins : list_map (λ n. within n (counts 2 1 3)) (counts 2 1 3 ∷ counts 3 0 0 ∷ counts 0 2 0 ∷ counts 0 0 4 ∷ [])
    ≡ true ∷ false ∷ false ∷ false ∷ []
withins = refl

owner-runs-at-most : ◌≡◌ {A = ℕ} most_owner_runs 4096
owner-runs-at-most = refl
