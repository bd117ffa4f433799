-- The maps that stand in the tables, read word by word.
use Rattle.std.specs.Prelude.{ℕ, zero, suc, ◌+◌, ◌/◌, ◌%◌, ◌==◌, Bool, List, [], ◌∷◌, map, if◌then◌else◌}
use Rattle.mx_words.specs.declared.perm.Perm.{Perm}
use Rattle.mx_words.specs.declared.tables.Kind.{Kind}
use Rattle.mx_words.specs.declared.tables.Kind.TheVariants as K
use Rattle.mx_words.specs.Rights.{perm_at}
use Rattle.mx_words.specs.Counting.{list_below}
use Rattle.mx_trie.specs.Digits.{digit, numbered}
use Rattle.mx_pool.specs.Frames.{word_at}
use Rattle.mx_trie.specs.Walk.{Frames, is_pointer, target, root_word, spilled_word, vector_perm}

-- the permissions of a plain entry
abbrev pub plain_line : ℕ → List Perm
plain_line entry = list_below 16 (λ k. numbered (digit entry k))

-- n permissions from the codes of their runs, the first word at place i
unfoldable pub codes_line : ℕ → ℕ → ℕ → ℕ → List Perm
codes_line zero i values starts = []
codes_line (suc n) i values starts =
    let ends : Bool = starts % 16 == i + 1 in
    numbered (values % 4) ∷ codes_line n (i + 1) (if ends then values / 4 else values)
    (if ends then starts / 16 else starts)

-- the permissions of a line, from its entry and its spill word
abbrev pub packed_line : ℕ → ℕ → List Perm
packed_line entry spilled =
    if entry % 4 == 3 then plain_line spilled else codes_line 16 0 (entry / 4 % 256) (entry / 1024 % 4096)

abbrev pub read_line : Kind → ℕ → ℕ → List Perm
read_line K.Packed entry spilled = packed_line entry spilled
read_line kind entry spilled = plain_line entry

-- the permission that a leaf entry, a mid entry, a root entry and a domain's tables give word i
abbrev pub leaf_perm : Kind → Frames → ℕ → ℕ → Perm
leaf_perm kind spill entry i = perm_at (read_line kind entry (spilled_word kind spill entry)) (i % 16)

abbrev pub mid_perm : Kind → Frames → Frames → ℕ → ℕ → Perm
mid_perm kind leaf spill entry i =
    if is_pointer entry then leaf_perm kind spill
    (word_at leaf (target entry) (i / 16 % 64)) i else vector_perm entry (i / 128 % 8)

abbrev pub root_perm : Kind → Frames → Frames → Frames → ℕ → ℕ → Perm
root_perm kind upper leaf spill entry i =
    if is_pointer entry then mid_perm kind leaf spill (word_at upper (target entry) (i / 1024 % 1024)) i
    else vector_perm entry (i / 131072 % 8)

abbrev pub read_at : Kind → Frames → Frames → Frames → ℕ → ℕ → Perm
read_at kind upper leaf spill root i = root_perm kind upper leaf spill (root_word upper root (i / 1048576)) i

-- a domain's map, and the maps of all domains
unfoldable pub read_map : Kind → Frames → Frames → Frames → ℕ → ℕ → List Perm
read_map kind upper leaf spill words root = list_below words (read_at kind upper leaf spill root)

unfoldable pub read_maps : Kind → Frames → Frames → Frames → ℕ → List ℕ → List (List Perm)
read_maps kind upper leaf spill words roots = map (read_map kind upper leaf spill words) roots
