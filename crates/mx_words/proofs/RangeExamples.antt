-- Worked examples of ranges, rights, grants, changes, bytes, first fit and first rows, computed.
use Rattle.std.specs.Prelude.{◌≡◌, ℕ, ◌-◌, ◌*◌, ◌/◌, ◌==◌, if◌then◌else◌, Bool, true, false, List, [], ◌∷◌, refl, Option, Some}
use Rattle.std.specs.Prelude.{map as list_map}
use Rattle.std.specs.Prelude.{None as Nothing}
use Rattle.std.specs.List.{range_with_len}
use Rattle.mx_words.specs.declared.perm.Perm.{Perm}
use Rattle.mx_words.specs.declared.perm.Perm.TheVariants.{None, Read, ReadWrite, ExecuteRead}
use Rattle.mx_words.specs.declared.perm.Access.TheVariants as A
use Rattle.mx_words.specs.Announced.{is_announced, announced}
use Rattle.mx_words.specs.Bytes.{number_at, put_at, cleared_at}
use Rattle.mx_words.specs.Changes.{changed_maps, granted_all}
use Rattle.mx_words.specs.FirstFit.{Area, place, with_block, without_block, block_words}
use Rattle.mx_words.specs.FirstRow.{first_row}
use Rattle.mx_words.specs.Hearing.{is_in, nobody, with_hearer, heard_range, unheard_range, forbids_keeping, lets_pass}
use Rattle.mx_words.specs.Limits.{most_modules, most_domains, most_harts, most_gates, most_frames, most_kept, most_blocks, most_owner_runs}
use Rattle.mx_words.specs.Limits.{most_written}
use Rattle.mx_words.specs.Newest.{Laid, Grant, at, map, owners, laid}
use Rattle.mx_words.specs.Ranges.{most_words, address_of, covers, overlaps, in_ram, word_of, word_range, range_words}
use Rattle.mx_words.specs.Rights.{number, from_number, same, allows, perm, denies}
use Rattle.mx_words.specs.Starts.{is_start, is_owner_start}

-- the greatest numbers
limits : most_modules ∷ most_domains ∷ most_harts ∷ most_gates ∷ most_frames ∷ most_kept ∷ [] ≡ 63 ∷ 64 ∷ 4 ∷ 256 ∷ 64 ∷ 64 ∷ []
limits = refl

more-limits : most_blocks ∷ most_owner_runs ∷ most_written ∷ [] ≡ 1024 ∷ 4096 ∷ 4096 ∷ []
more-limits = refl

-- addresses: RAM of 17 words ends before 0x80000044
greatest-ram : ◌≡◌ {A = ℕ} most_words (65536 * 1024 / 4)
greatest-ram = refl

addresses : list_map address_of (0 ∷ 1 ∷ 5 ∷ 16 ∷ []) ≡ 0x80000000 ∷ 0x80000004 ∷ 0x80000014 ∷ 0x80000040 ∷ []
addresses = refl

words-of-addresses : list_map (λ a. word_of a 17) (0x7FFFFFFF ∷ 0x80000000 ∷ 0x80000003 ∷ 0x80000004 ∷ 0x80000043 ∷ 0x80000044 ∷ 0xFFFFFFFF
    ∷ [])
    ≡ Nothing ∷ Some 0 ∷ Some 0 ∷ Some 1 ∷ Some 16 ∷ Nothing ∷ Nothing ∷ []
words-of-addresses = refl

inside-ram : list_map (λ a. in_ram a 17) (0x7FFFFFFC ∷ 0x80000000 ∷ 0x80000040 ∷ 0x80000044 ∷ []) ≡ false ∷ true ∷ true ∷ false ∷ []
inside-ram = refl

-- ranges: no bytes; from no multiple of 4; from below RAM; to RAM's end and past it; words rounded up
ranges : list_map (λ (r : ℕ × ℕ). word_range r.0 r.1 17)
    ((0x80000000, 0) ∷ (0x80000002, 4) ∷ (0x7FFFFFFC, 8) ∷ (0x80000000, 68) ∷ (0x80000000, 69) ∷ (0x80000040, 4) ∷ (0x80000040, 5)
    ∷ (0x80000004, 1) ∷ (0x80000004, 5)
    ∷ (0xFFFFFFFC, 8) ∷ [])
    ≡ Nothing ∷ Nothing ∷ Nothing ∷ Some (0, 17) ∷ Nothing ∷ Some (16, 1) ∷ Nothing ∷ Some (1, 1) ∷ Some (1, 2) ∷ Nothing ∷ []
ranges = refl

no-range : range_words 0x80000002 4 17 ≡ (0, 0)
no-range = refl

covered : list_map (covers 5 3) (4 ∷ 5 ∷ 7 ∷ 8 ∷ []) ≡ false ∷ true ∷ true ∷ false ∷ []
covered = refl

-- words 5 to 7 beside other ranges, of which one is empty; and an empty one beside them
met : list_map (λ (r : ℕ × ℕ). overlaps 5 3 r.0 r.1) ((2, 3) ∷ (2, 4) ∷ (5, 3) ∷ (6, 1) ∷ (7, 1) ∷ (8, 1) ∷ (6, 0) ∷ (0, 20) ∷ [])
    ≡ false ∷ true ∷ true ∷ true ∷ true ∷ false ∷ false ∷ true ∷ []
met = refl

empty-meets-nothing : overlaps 6 0 5 3 ≡ false
empty-meets-nothing = refl

-- rights: the numbers, and which accesses each allows
numbers : list_map number (None ∷ Read ∷ ReadWrite ∷ ExecuteRead ∷ []) ≡ 0 ∷ 1 ∷ 2 ∷ 3 ∷ []
numbers = refl

of-numbers : list_map from_number (0 ∷ 1 ∷ 2 ∷ 3 ∷ 4 ∷ []) ≡ Some None ∷ Some Read ∷ Some ReadWrite ∷ Some ExecuteRead ∷ Nothing ∷ []
of-numbers = refl

reads : list_map (λ p. allows p A.Read) (None ∷ Read ∷ ReadWrite ∷ ExecuteRead ∷ []) ≡ false ∷ true ∷ true ∷ true ∷ []
reads = refl

writes : list_map (λ p. allows p A.Write) (None ∷ Read ∷ ReadWrite ∷ ExecuteRead ∷ []) ≡ false ∷ false ∷ true ∷ false ∷ []
writes = refl

fetches : list_map (λ p. allows p A.Execute) (None ∷ Read ∷ ReadWrite ∷ ExecuteRead ∷ []) ≡ false ∷ false ∷ false ∷ true ∷ []
fetches = refl

alike : same ReadWrite ReadWrite ∷ same ReadWrite ExecuteRead ∷ same None Read ∷ [] ≡ true ∷ false ∷ false ∷ []
alike = refl

-- a map of three words, by address: outside it there is no permission
perms : list_map (perm (Read ∷ ReadWrite ∷ ExecuteRead ∷ [])) (0x7FFFFFFF ∷ 0x80000003 ∷ 0x80000004 ∷ 0x8000000B ∷ 0x8000000C ∷ [])
    ≡ None ∷ Read ∷ ReadWrite ∷ ExecuteRead ∷ None ∷ []
perms = refl

denied : list_map (λ a. denies (perm (Read ∷ ReadWrite ∷ [])) a A.Write) (0x80000000 ∷ 0x80000004 ∷ 0x80000008 ∷ []) ≡ true ∷ false ∷ true
    ∷ []
denied = refl

-- the newest grant decides; a word of no grant has no permission, and one of no give the owner 0
abbrev grant : ℕ → ℕ → Perm → Grant
grant first count p = record { first = first; count = count; value = p }

abbrev give : ℕ → ℕ → ℕ → Laid ℕ
give first count d = record { first = first; count = count; value = d }

newest-grants : map (grant 1 4 Read ∷ grant 2 2 ReadWrite ∷ grant 3 1 None ∷ []) 6 ≡ None ∷ Read ∷ ReadWrite ∷ None ∷ Read ∷ None ∷ []
newest-grants = refl

newest-gives : owners (give 1 3 1 ∷ give 2 1 2 ∷ []) 5 ≡ 0 ∷ 1 ∷ 2 ∷ 1 ∷ 0 ∷ []
newest-gives = refl

beyond : at (grant 0 9 Read ∷ []) 9 ≡ None
beyond = refl

-- a change of words 1 to 2 by domain: the second gets read-write, the third none, and the first isn't named; each grant is the newest
abbrev given : ℕ → Option Perm
given d = if d == 2 then Some ReadWrite else if d == 3 then Some None else Nothing

changed : changed_maps 1 2 given ((Read ∷ Read ∷ Read ∷ Read ∷ []) ∷ (Read ∷ Read ∷ Read ∷ Read ∷ []) ∷ (Read ∷ Read ∷ Read ∷ Read ∷ [])
    ∷ [])
    ≡ (Read ∷ Read ∷ Read ∷ Read ∷ []) ∷ (Read ∷ ReadWrite ∷ ReadWrite ∷ Read ∷ []) ∷ (Read ∷ None ∷ None ∷ Read ∷ []) ∷ []
changed = refl

granted : granted_all 1 2 given ((grant 0 4 Read ∷ []) ∷ (grant 0 4 Read ∷ []) ∷ [] ∷ [])
    ≡ (grant 0 4 Read ∷ []) ∷ (grant 0 4 Read ∷ grant 1 2 ReadWrite ∷ []) ∷ (grant 1 2 None ∷ []) ∷ []
granted = refl

given-away : laid (give 1 2 7) (4 ∷ 4 ∷ 5 ∷ 6 ∷ []) ≡ 4 ∷ 7 ∷ 7 ∷ 6 ∷ []
given-away = refl

-- little-endian numbers
number-in-bytes : list_map (number_at (0 ∷ 0x78 ∷ 0x56 ∷ 0x34 ∷ 0x12 ∷ []) 1) (1 ∷ 2 ∷ 4 ∷ []) ≡ 0x78 ∷ 0x5678 ∷ 0x12345678 ∷ []
unfolding number_at
number-in-bytes = refl

number-put : list_map (λ size. put_at (1 ∷ 2 ∷ 3 ∷ 4 ∷ 5 ∷ 6 ∷ []) 1 size 0xAABBCCDD) (1 ∷ 2 ∷ 4 ∷ [])
    ≡ (1 ∷ 0xDD ∷ 3 ∷ 4 ∷ 5 ∷ 6 ∷ []) ∷ (1 ∷ 0xDD ∷ 0xCC ∷ 4 ∷ 5 ∷ 6 ∷ []) ∷ (1 ∷ 0xDD ∷ 0xCC ∷ 0xBB ∷ 0xAA ∷ 6 ∷ []) ∷ []
unfolding put_at
number-put = refl

bytes-cleared : cleared_at (1 ∷ 2 ∷ 3 ∷ 4 ∷ 5 ∷ []) 1 3 ≡ 1 ∷ 0 ∷ 0 ∷ 0 ∷ 5 ∷ []
unfolding cleared_at
bytes-cleared = refl

-- first fit in words 100 to 109: before, between and after blocks, of the room's exact size, and no room at the end
abbrev area : Area
area = record { first = 100; count = 10 }

abbrev block : ℕ → ℕ → Area
block first count = record { first = first; count = count }

places : list_map (place area (block 102 3 ∷ block 107 2 ∷ [])) (1 ∷ 2 ∷ 3 ∷ []) ≡ Some 100 ∷ Some 100 ∷ Nothing ∷ []
places = refl

places-behind : list_map (place area (block 100 2 ∷ block 104 3 ∷ [])) (1 ∷ 2 ∷ 3 ∷ 4 ∷ []) ≡ Some 102 ∷ Some 102 ∷ Some 107 ∷ Nothing ∷ []
places-behind = refl

whole-area : list_map (place area []) (10 ∷ 11 ∷ []) ≡ Some 100 ∷ Nothing ∷ []
whole-area = refl

between-two : place area (block 102 2 ∷ []) 2 ∷ place area (block 100 2 ∷ block 102 2 ∷ []) 2
    ∷ place area (block 100 2 ∷ block 102 2 ∷ []) 7 ∷ []
    ≡ Some 100 ∷ Some 104 ∷ Nothing ∷ []
between-two = refl

no-area : place (block 0 0) [] 1 ≡ Nothing
no-area = refl

-- blocks stand by address, end by their first word, and are at most 1024
blocks-by-address : with_block (block 104 1) (block 100 2 ∷ block 107 2 ∷ []) ≡ block 100 2 ∷ block 104 1 ∷ block 107 2 ∷ []
blocks-by-address = refl

block-last : with_block (block 109 1) (block 100 2 ∷ []) ≡ block 100 2 ∷ block 109 1 ∷ []
block-last = refl

block-ended : without_block 104 (block 100 2 ∷ block 104 1 ∷ block 107 2 ∷ []) ≡ block 100 2 ∷ block 107 2 ∷ []
block-ended = refl

words-of-blocks : list_map (block_words (block 100 2 ∷ block 104 1 ∷ [])) (100 ∷ 101 ∷ 104 ∷ []) ≡ Some 2 ∷ Nothing ∷ Some 1 ∷ []
words-of-blocks = refl

-- the first row that applies says it
first-rows : list_map (λ (rows : List (Bool × ℕ)). first_row rows) (((false, 1) ∷ (true, 2) ∷ (true, 3) ∷ []) ∷ ((false, 1) ∷ []) ∷ [] ∷ [])
    ≡ Some 2 ∷ Nothing ∷ Nothing ∷ []
first-rows = refl

-- calls 3, 4, 6 and 7 are announced; 3 and 4 with the range of a0 and a1, 6 and 7 with the heap area
announced-calls : list_map is_announced (range_with_len 0 15)
    ≡ false ∷ false ∷ false ∷ true ∷ true ∷ false ∷ true ∷ true ∷ false ∷ false ∷ false ∷ false ∷ false ∷ false ∷ false ∷ []
announced-calls = refl

announced-ranges : list_map (λ n. announced n 0x80000008 5 17 (10, 4)) (3 ∷ 4 ∷ 6 ∷ 7 ∷ []) ≡ (2, 2) ∷ (2, 2) ∷ (10, 4) ∷ (10, 4) ∷ []
announced-ranges = refl

announced-nothing : list_map (λ n. announced n 0x80000009 5 17 (10, 4)) (3 ∷ 4 ∷ []) ≡ (0, 0) ∷ (0, 0) ∷ []
announced-nothing = refl

-- sets of harts: who has heard a call, and whom it holds up
nobody-heard : nobody ≡ false ∷ false ∷ false ∷ false ∷ []
nobody-heard = refl

hearers : with_hearer 3 (with_hearer 1 nobody) ≡ false ∷ true ∷ false ∷ true ∷ []
hearers = refl

heard-by-two : list_map (is_in (false ∷ true ∷ false ∷ true ∷ [])) (range_with_len 0 5) ≡ false ∷ true ∷ false ∷ true ∷ false ∷ []
heard-by-two = refl

heard-ranges : list_map (λ h. heard_range h (false ∷ true ∷ []) (5, 3)) (0 ∷ 1 ∷ []) ≡ Nothing ∷ Some (5, 3) ∷ []
heard-ranges = refl

unheard-ranges : list_map (λ h. unheard_range h (false ∷ true ∷ []) (5, 3)) (0 ∷ 1 ∷ []) ≡ Some (5, 3) ∷ Nothing ∷ []
unheard-ranges = refl

-- hart 1 has heard a call on words 5 to 7, and hart 0 hasn't: spans of words 7 to 8, and of word 8
barred : list_map (λ (p : ℕ × ℕ). forbids_keeping p.0 (false ∷ true ∷ []) (5, 3) (record { first = p.1; count = 9 - p.1; perm = Read }))
    ((0, 7) ∷ (1, 7) ∷ (1, 8) ∷ [])
    ≡ false ∷ true ∷ false ∷ []
barred = refl

-- a call of hart 2 that hart 1 has heard: hart 2 itself, a halted hart, hart 1, and another
passed : lets_pass 2 (false ∷ true ∷ false ∷ false ∷ []) 2 false ∷ lets_pass 2 (false ∷ true ∷ false ∷ false ∷ []) 3 true
    ∷ lets_pass 2 (false ∷ true ∷ false ∷ false ∷ []) 1 false ∷ lets_pass 2 (false ∷ true ∷ false ∷ false ∷ []) 0 false ∷ []
    ≡ true ∷ true ∷ true ∷ false ∷ []
passed = refl

-- where runs begin
starts : list_map (is_start (Read ∷ Read ∷ None ∷ None ∷ Read ∷ [])) (range_with_len 0 5) ≡ true ∷ false ∷ true ∷ false ∷ true ∷ []
starts = refl

owner-starts : list_map (is_owner_start (0 ∷ 2 ∷ 2 ∷ 1 ∷ [])) (range_with_len 0 4) ≡ true ∷ true ∷ false ∷ true ∷ []
owner-starts = refl
