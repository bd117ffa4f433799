-- The ranges of a snapshot's fields, by what stands before them.
-- The rules: docs/COMMANDS.md, "The snapshot".
use Rattle.std.specs.Prelude.{ℕ, ◌+◌, ◌*◌, ◌/◌, ◌%◌, ◌^◌, Bool, true, false, not, nat_le, nat_lt, ◌==◌, ◌&&◌, ◌||◌, List, length}
use Rattle.std.specs.Prelude.{if◌then◌else◌, None, sum_by}
use Rattle.std.specs.List.{last_or, list_all, list_any}
use Rattle.std.specs.Option.{option_map_or}
use Rattle.std.specs.Str.{bytes_eq}
use Rattle.mx_words.specs.declared.perm.Perm.{Perm}
use Rattle.mx_words.specs.Announced.{is_announced}
use Rattle.mx_words.specs.FirstFit.{Area}
use Rattle.mx_words.specs.Limits.{least_ram_kib}
use Rattle.mx_words.specs.Ranges.{most_words}
use Rattle.mx_words.specs.Rights.{same}
use Rattle.mx_words.specs.Runs.{Run}
use Rattle.mx_manifest.specs.Forms.{is_name_byte, is_within}
use Rattle.mx_model.specs.declared.values.Gate.{Gate}
use Rattle.mx_model.specs.Gates.{has_gate}
use Rattle.mx_machine.specs.declared.views.HartStatus.{HartStatus}
use Rattle.mx_machine.specs.declared.views.HartStatus.TheVariants as V
use Rattle.mx_snapshot.specs.Stored.{StoredModule}

-- the words of a RAM of 64 to 65536 KiB, a multiple of 4 KiB
abbrev pub is_ram : ℕ → Bool
is_ram words = is_within (256 * least_ram_kib) most_words words && (words % 1024 == 0)

-- an area lies in a RAM of `words` words, and one of no words is at word 0
abbrev pub is_area : ℕ → ℕ → ℕ → Bool
is_area words first count = nat_le (first + count) words && (nat_lt 0 count || first == 0)

-- a name that none of the modules before it has
abbrev pub is_new_name : List StoredModule → List ℕ → Bool
is_new_name before name =
    list_all is_name_byte name
    && not (list_any (λ (m : StoredModule). bytes_eq m.name name) before)

-- the first word of a heap area behind the blocks so far
abbrev pub behind : Area → List Area → ℕ
behind heap before =
    option_map_or (λ (b : Area). b.first + b.count) (last_or None before) heap.first

-- a block isn't empty, lies in the heap area, and behind the block before it
abbrev pub is_next_block : Area → List Area → Area → Bool
is_next_block heap before b =
    nat_lt 0 b.count && nat_le (behind heap before) b.first
    && nat_le (b.first + b.count) (heap.first + heap.count)

-- the words of some runs
abbrev pub run_words : {A : Type 0} → List (Run A) → ℕ
run_words runs = sum_by (λ r. r.count) runs

-- of `runs` runs the one after those before it isn't empty and doesn't pass RAM's end; the last one ends there
abbrev pub has_place : {A : Type 0} → ℕ → ℕ → List (Run A) → ℕ → Bool
has_place words runs before count =
    nat_lt 0 count
    && (if length before + 1 == runs then run_words before + count == words
    else nat_le (run_words before + count) words)

-- a run's value is another than that of the run before it
abbrev pub is_other : {A : Type 0} → (A → A → Bool) → List (Run A) → A → Bool
is_other {A} eq before value =
    option_map_or (λ (r : Run A). not (eq r.value value)) (last_or None before) true

-- a run of permission, and the owner of a run of owner, 0 or a module
abbrev pub is_next_run : ℕ → ℕ → List (Run Perm) → Run Perm → Bool
is_next_run words runs before r =
    has_place words runs before r.count && is_other same before r.value

abbrev pub is_next_owner : ℕ → List (Run ℕ) → ℕ → Bool
is_next_owner modules before owner =
    nat_le owner modules && is_other (λ a b. a == b) before owner

-- a word of RAM at which the domain has no gate yet
abbrev pub is_free : ℕ → List Gate → ℕ → ℕ → Bool
is_free words before domain word = nat_lt word words && not (has_gate before domain word)

-- an address of an instruction
abbrev pub is_pc : ℕ → Bool
is_pc pc = pc % 4 == 0

-- whether a hart waits on a call that it announced
abbrev pub is_waiting : HartStatus → Bool
is_waiting V.Running = false
is_waiting V.Waiting = true
is_waiting V.Halted = false

-- register 0 is 0, and register 17 of a hart that waits is the number of an announced call
abbrev pub is_register : HartStatus → ℕ → ℕ → Bool
is_register status register value =
    if register == 0 then value == 0 else
    if register == 17 then not (is_waiting status) || is_announced value else true

-- bit i of a number
abbrev pub has_bit : ℕ → ℕ → Bool
has_bit n i = n / 2 ^ i % 2 == 1

-- a call of hart h was heard by other harts that there are; where there is no call, by none
abbrev pub is_heard : ℕ → ℕ → HartStatus → ℕ → Bool
is_heard harts h status heard =
    if is_waiting status then nat_lt heard (2 ^ harts) && not (has_bit heard h) else heard == 0
