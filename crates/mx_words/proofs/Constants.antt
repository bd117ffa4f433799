-- The code's constants are the definitions' numbers.
use Rattle.std.specs.Prelude.{◌≡◌, ℕ, [], ◌∷◌, refl}
use Rattle.mx_words.specs.declared.calls.TheConstants.{WRITE_CALL, GRANT_CALL, REVOKE_ALL_CALL, ALLOC_CALL, FREE_CALL, EXCHANGE_CALL}
use Rattle.mx_words.specs.declared.limits.TheConstants.{MOST_WORDS, MOST_MODULES, MOST_DOMAINS, MOST_HARTS, MOST_GATES, MOST_FRAMES}
use Rattle.mx_words.specs.declared.limits.TheConstants.{MOST_KEPT, MOST_BLOCKS, MOST_OWNER_RUNS, MOST_WRITTEN, LEAST_RAM_KIB, MOST_RAM_KIB}
use Rattle.mx_words.specs.declared.limits.TheConstants.{MOST_UPPER, MOST_LEAF, MOST_SPILL, MOST_QUANTUM, MOST_INLINE_WORDS}
use Rattle.mx_words.specs.declared.limits.TheConstants.{MOST_STACK_WORDS, MOST_SEGMENTS, MOST_SEGMENT_BYTES, MOST_TEXT_BYTES}
use Rattle.mx_words.specs.declared.limits.TheConstants.{MOST_FILE_BYTES, MOST_SNAPSHOT_BYTES}
use Rattle.mx_words.specs.declared.ranges.TheConstants.{RAM_BASE}
use Rattle.mx_words.specs.Calls.{write_call, grant_call, revoke_all_call, alloc_call, free_call, exchange_call}
use Rattle.mx_words.specs.Limits.{most_words, most_modules, most_domains, most_harts, most_gates, most_frames, most_kept, most_blocks}
use Rattle.mx_words.specs.Limits.{most_owner_runs, most_written, least_ram_kib, most_ram_kib, most_upper, most_leaf, most_spill}
use Rattle.mx_words.specs.Limits.{most_quantum, most_inline_words, most_stack_words, most_segments, most_segment_bytes, most_text_bytes}
use Rattle.mx_words.specs.Limits.{most_file_bytes, most_snapshot_bytes}
use Rattle.mx_words.specs.Ranges.{ram_base}

machine : MOST_WORDS ∷ MOST_MODULES ∷ MOST_DOMAINS ∷ MOST_HARTS ∷ MOST_GATES ∷ MOST_FRAMES ∷ MOST_KEPT ∷ MOST_BLOCKS ∷ MOST_OWNER_RUNS
    ∷ MOST_WRITTEN ∷ []
    ≡ most_words ∷ most_modules ∷ most_domains ∷ most_harts ∷ most_gates ∷ most_frames ∷ most_kept ∷ most_blocks ∷ most_owner_runs
    ∷ most_written ∷ []
machine = refl

files : LEAST_RAM_KIB ∷ MOST_RAM_KIB ∷ MOST_UPPER ∷ MOST_LEAF ∷ MOST_SPILL ∷ MOST_QUANTUM ∷ MOST_INLINE_WORDS ∷ MOST_STACK_WORDS
    ∷ MOST_SEGMENTS ∷ MOST_SEGMENT_BYTES ∷ MOST_TEXT_BYTES ∷ MOST_FILE_BYTES ∷ MOST_SNAPSHOT_BYTES ∷ []
    ≡ least_ram_kib ∷ most_ram_kib ∷ most_upper ∷ most_leaf ∷ most_spill ∷ most_quantum ∷ most_inline_words ∷ most_stack_words
    ∷ most_segments ∷ most_segment_bytes ∷ most_text_bytes ∷ most_file_bytes ∷ most_snapshot_bytes ∷ []
files = refl

calls : WRITE_CALL ∷ GRANT_CALL ∷ REVOKE_ALL_CALL ∷ ALLOC_CALL ∷ FREE_CALL ∷ EXCHANGE_CALL ∷ []
    ≡ write_call ∷ grant_call ∷ revoke_all_call ∷ alloc_call ∷ free_call ∷ exchange_call ∷ []
calls = refl

base : ◌≡◌ {A = ℕ} RAM_BASE ram_base
base = refl
