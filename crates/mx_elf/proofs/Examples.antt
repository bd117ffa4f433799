-- Definitions at numbers.
use Rattle.std.proofs.Common.{◌≡◌, true, false, [], ◌∷◌, ◌++◌, refl}
use Rattle.std.specs.Prelude.{Some, None, Err, codes}
use Rattle.mx_words.specs.declared.perm.Perm.TheVariants as perms
use Rattle.mx_elf.specs.declared.segment.Seg.{Seg}
use Rattle.mx_words.specs.Bytes.{number_at}
use Rattle.mx_elf.specs.Field.{word_at, places}
use Rattle.mx_elf.specs.Segment.{permission_of, word_count, memory_bytes}
use Rattle.mx_elf.specs.Image.{first_fault, segment_rows, image_of}
use Rattle.mx_elf.specs.Symbol.{name_of, begins_with_name}

-- numbers are little-endian
number : word_at (9 ∷ 0x78 ∷ 0x56 ∷ 0x34 ∷ 0x12 ∷ []) 1 ≡ 0x12345678
unfolding word_at number_at
number = refl

-- permissions: of nothing, X, W, W and X, R, R and X, R and W, all three, and a bit above
of-0 : permission_of 0 None ≡ Some perms.None
unfolding permission_of
of-0 = refl

of-1 : permission_of 1 None ≡ Some perms.ExecuteRead
unfolding permission_of
of-1 = refl

of-2 : permission_of 2 None ≡ Some perms.ReadWrite
unfolding permission_of
of-2 = refl

of-3 : permission_of 3 None ≡ None
unfolding permission_of
of-3 = refl

of-4 : permission_of 4 None ≡ Some perms.Read
unfolding permission_of
of-4 = refl

of-5 : permission_of 5 None ≡ Some perms.ExecuteRead
unfolding permission_of
of-5 = refl

of-6 : permission_of 6 None ≡ Some perms.ReadWrite
unfolding permission_of
of-6 = refl

of-7 : permission_of 7 (Some perms.ReadWrite) ≡ Some perms.ReadWrite
unfolding permission_of
of-7 = refl

of-12 : permission_of 12 None ≡ Some perms.Read
unfolding permission_of
of-12 = refl

-- five bytes from a multiple of 4 on are two words, of which the file has three bytes
five : Seg
five = record { offset = 1; file = 3; address = 0x80000100; memory = 5; flags = 6 }

five-words : word_count five ≡ 2
unfolding five
five-words = refl

five-bytes : memory_bytes (1 ∷ 2 ∷ 3 ∷ 4 ∷ 5 ∷ []) five ≡ 2 ∷ 3 ∷ 4 ∷ 0 ∷ 0 ∷ []
unfolding five memory_bytes
five-bytes = refl

-- the faults of that segment in files of 4 and of 3 bytes, at the places 0 and 16
five-fits : first_fault (segment_rows 4 (0, five)) ≡ None
unfolding five
five-fits = refl

five-passes : first_fault (segment_rows 3 (0, five)) ≡ Some 8
unfolding five
five-passes = refl

five-too-many : first_fault (segment_rows 3 (16, five)) ≡ Some 7
unfolding five
five-too-many = refl

-- records of 32 bytes
headers : places 52 32 3 ≡ 52 ∷ 84 ∷ 116 ∷ []
headers = refl

-- names
name : begins_with_name (codes "sum" ++ 0 ∷ codes "start") (codes "sum") ≡ true
name = refl

name-longer : begins_with_name (codes "sums" ++ 0 ∷ []) (codes "sum") ≡ false
name-longer = refl

name-without-end : name_of (codes "sum") ≡ None
name-without-end = refl

-- a file that is too short
short : image_of (0x7F ∷ 0x45 ∷ 0x4C ∷ 0x46 ∷ []) ≡ Err (record { number = 1 })
unfolding image_of
short = refl
