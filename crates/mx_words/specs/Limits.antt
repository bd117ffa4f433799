-- The limits of a machine, and of what it is made from. The code's constants are equal to these: proofs/Constants.
-- The rules: docs/MACHINE.md, "Memory, domains, harts".
use Rattle.std.specs.Prelude.{◌≡◌, ◌⊎◌, ℕ, ◌+◌, Bool, ◌==◌, ◌||◌}

-- how many words a RAM has at most
abbrev pub most_words : ℕ
most_words = 16777216

-- how many modules there are
abbrev pub most_modules : ℕ
most_modules = 63

-- how many domains: the supervisor's, which is 0, and one for each module
abbrev pub most_domains : ℕ
most_domains = most_modules + 1

-- how many harts
abbrev pub most_harts : ℕ
most_harts = 4

-- how many gates stand
abbrev pub most_gates : ℕ
most_gates = 256

-- how many frames a cross stack holds
abbrev pub most_frames : ℕ
most_frames = 64

-- how many spans a hart's lookaside buffer keeps
abbrev pub most_kept : ℕ
most_kept = 64

-- how many blocks live in a heap
abbrev pub most_blocks : ℕ
most_blocks = 1024

-- how many maximal runs of one owner there are
abbrev pub most_owner_runs : ℕ
most_owner_runs = 4096

-- how many bytes one call writes
abbrev pub most_written : ℕ
most_written = 4096

-- how many KiB of RAM a manifest asks at least and at most
abbrev pub least_ram_kib : ℕ
least_ram_kib = 64

abbrev pub most_ram_kib : ℕ
most_ram_kib = 65536

-- how many tables, leaf frames and spill words a manifest allows
abbrev pub most_upper : ℕ
most_upper = 4096

abbrev pub most_leaf : ℕ
most_leaf = 262144

abbrev pub most_spill : ℕ
most_spill = 1048576

-- how many turns of a hart in a row
abbrev pub most_quantum : ℕ
most_quantum = 1000000

-- how many words a module has inline, and how many each stack
abbrev pub most_inline_words : ℕ
most_inline_words = 65536

abbrev pub most_stack_words : ℕ
most_stack_words = 1048576

-- how many bytes a module's name has, and how many a file's or a symbol
abbrev pub most_module_name : ℕ
most_module_name = 32

abbrev pub most_name : ℕ
most_name = 255

-- how many segments an image has, and how many bytes a source gives them
abbrev pub most_segments : ℕ
most_segments = 16

abbrev pub most_segment_bytes : ℕ
most_segment_bytes = 4194304

-- how many bytes a manifest or a source has, an image or a schedule, and a snapshot
abbrev pub most_text_bytes : ℕ
most_text_bytes = 1048576

abbrev pub most_file_bytes : ℕ
most_file_bytes = 16777216

abbrev pub most_snapshot_bytes : ℕ
most_snapshot_bytes = 1073741824

-- how many spans a lookaside buffer may be made for
abbrev pub IsBuffer : ℕ → Type 0
IsBuffer n = (n ≡ 8) ⊎ (n ≡ 32) ⊎ (n ≡ 64)

abbrev pub is_buffer : ℕ → Bool
is_buffer n = n == 8 || n == 32 || n == 64
