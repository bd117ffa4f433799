-- The table of the supervisor's calls: what a call is judged by, and the tests of each in order with their codes.
-- The rules: docs/MACHINE.md, "Supervisor calls".
use Rattle.std.specs.Prelude.{ℕ, ◌+◌, ◌-◌, ◌*◌, ◌/◌, ◌%◌, Bool, true, not, ◌==◌, ◌&&◌, ◌||◌, nat_lt, nat_le, List, [], ◌∷◌, length}
use Rattle.std.specs.Prelude.{slice_index_or, if◌then◌else◌, Option, Some, None, unwrap_or, is_none}
use Rattle.std.specs.List.{list_all, range_with_len}
use Rattle.mx_words.specs.declared.perm.Perm.{Perm}
use Rattle.mx_words.specs.declared.perm.Perm.TheVariants as P
use Rattle.mx_words.specs.declared.perm.Access.TheVariants as A
use Rattle.mx_words.specs.FirstFit.{Area, place, block_words, most_blocks}
use Rattle.mx_words.specs.FirstRow.{Row}
use Rattle.mx_words.specs.Limits.{most_written}
use Rattle.mx_words.specs.Newest.{Give}
use Rattle.mx_words.specs.Ranges.{ram_base, in_ram, is_range, range_words, overlaps}
use Rattle.mx_words.specs.Rights.{allows, from_number}
use Rattle.mx_model.specs.declared.values.Call.{Call}
use Rattle.mx_model.specs.declared.values.Gate.{Gate}
use Rattle.mx_model.specs.Checks.{arg}
use Rattle.mx_model.specs.Gates.{has_gate, no_gate_fits}
use Rattle.mx_model.specs.Reads.{Reads, Change}
use Rattle.mx_model.specs.State.{Core, Module, no_module}

-- the calls by their numbers
pub data Service : Type 0 where
  Exit : Service
  Write : Service
  Grant : Service
  RevokeAll : Service
  Transfer : Service
  Alloc : Service
  Free : Service
  AddGate : Service
  RemoveGate : Service
  AddReturnGate : Service
  Query : Service
  Self : Service
  Exchange : Service
  Unknown : Service

abbrev pub service : ℕ → Service
service n =
    if n == 1 then Exit else if n == 2 then Write else if n == 3 then Grant else
    if n == 4 then RevokeAll else if n == 5 then Transfer else if n == 6 then Alloc else
    if n == 7 then Free else if n == 8 then AddGate else if n == 9 then RemoveGate else
    if n == 10 then AddReturnGate else if n == 11 then Query else if n == 12 then Self else
    if n == 13 then Exchange else Unknown

-- the word of the address in a0
abbrev pub arg_word : Call → ℕ
arg_word call = (arg call 0 - ram_base) / 4

-- what a change gives each module (a change is asked for modules alone): a permission for one of them; none for all but the caller;
-- read-write
-- for the caller and none for the others; none for all
abbrev pub to_one : ℕ → Perm → ℕ → Option Perm
to_one one p d = if d == one then Some p else None

abbrev pub none_but : ℕ → ℕ → Option Perm
none_but caller d = if d == caller then None else Some P.None

abbrev pub own_alone : ℕ → ℕ → Option Perm
own_alone caller d = Some (if d == caller then P.ReadWrite else P.None)

abbrev pub none_at_all : ℕ → Option Perm
none_at_all d = Some P.None

-- a change of a range's rights
abbrev pub change_of : ℕ × ℕ → (ℕ → Option Perm) → Change
change_of range given = record { first = range.0; count = range.1; given = given }

-- the touched words
abbrev pub write_words : Call → List ℕ
write_words call =
    let first = (arg call 0 - ram_base) / 4 in
    let behind = (arg call 0 + arg call 1 - ram_base + 3) / 4 in
    if nat_lt 0 (arg call 1) then range_with_len first (behind - first) else []

-- what a call is judged by: modules, gates and the number of words, the permission of a domain on a word, the owner of a word, whether the
-- maps after a change fit the limit, and whether the owners' runs after a give are few enough
pub record Sight : Type 0 where
  pub modules : List Module
  pub gates : List Gate
  pub size : ℕ
  pub perm : ℕ → ℕ → Perm
  pub owner : ℕ → ℕ
  pub fits : Change → Bool
  pub few_runs : Give → Bool

-- of what is read of rights and owners, and of all else
abbrev pub sight_of : Reads → Core → Sight
sight_of r c = record {
  modules = c.modules;
  gates = c.gates;
  size = c.size;
  perm = r.perm;
  owner = r.owner;
  fits = r.fits;
  few_runs = r.few_runs;
}

-- whether d is a module's number
abbrev pub is_module : Sight → ℕ → Bool
is_module v d = nat_le 1 d && nat_le d (length v.modules)

-- the caller's module
abbrev pub caller : Sight → Call → Module
caller v c = slice_index_or v.modules (c.domain - 1) no_module

-- whether a domain may read a word
abbrev pub may_read : Sight → ℕ → ℕ → Bool
may_read v d word = allows (v.perm d word) A.Read

-- the words of the range of a0 and a1, and whether that is no range
abbrev pub range : Sight → Call → ℕ × ℕ
range v c = range_words (arg c 0) (arg c 1) v.size

abbrev pub no_range : Sight → Call → Bool
no_range v c = not (is_range (arg c 0) (arg c 1) v.size)

-- whether a0 is the address of a word of RAM
abbrev pub is_word : Sight → Call → Bool
is_word v c = (arg c 0 % 4 == 0) && in_ram (arg c 0) v.size

-- whether the caller owns the word of a0, and each word of the range
abbrev pub owns_word : Sight → Call → Bool
owns_word v c = v.owner (arg_word c) == c.domain

abbrev pub owns_range : Sight → Call → Bool
owns_range v c =
    list_all (λ word. v.owner word == c.domain)
    (range_with_len (range v c).0 (range v c).1)

-- whether the range meets the caller's heap area
abbrev pub meets_heap : Sight → Call → Bool
meets_heap v c =
    let heap = (caller v c).heap in
    overlaps heap.first heap.count (range v c).0 (range v c).1

-- whether one of the a1 bytes from a0 on lies outside RAM
abbrev pub bytes_outside : Sight → Call → Bool
bytes_outside v c =
    nat_lt 0 (arg c 1) &&
    (nat_lt (arg c 0) ram_base || nat_lt (ram_base + 4 * v.size) (arg c 0 + arg c 1))

-- the caller's live blocks
abbrev pub blocks : Sight → Call → List Area
blocks v c = (caller v c).blocks

-- the first word of a new block of a0 words, and the words of the block that begins at a0
abbrev pub new_block : Sight → Call → Option ℕ
new_block v c = place (caller v c).heap (blocks v c) (arg c 0)

abbrev pub old_block : Sight → Call → Option ℕ
old_block v c = if is_word v c then block_words (blocks v c) (arg_word c) else None

-- the rights that a grant, a revoke_all, an alloc and a free change
abbrev pub granted : Sight → Call → Change
granted v c = change_of (range v c) (to_one (arg c 2) (unwrap_or (from_number (arg c 3)) P.None))

abbrev pub revoked : Sight → Call → Change
revoked v c = change_of (range v c) (none_but c.domain)

abbrev pub allocated : Sight → Call → Change
allocated v c = change_of (unwrap_or (new_block v c) 0, arg c 0) (own_alone c.domain)

abbrev pub freed : Sight → Call → Change
freed v c = change_of (arg_word c, unwrap_or (old_block v c) 0) none_at_all

-- the owner that a transfer gives
abbrev pub given : Sight → Call → Give
given v c = record { first = (range v c).0; count = (range v c).1; value = arg c 2 }

-- the tests of each call in order, with the code where a test fails
abbrev pub tests : Service → Sight → Call → List (Row ℕ)
tests Exit v c = (c.nested, 10) ∷ []
tests Write v c =
    (nat_lt most_written (arg c 1), 11)
    ∷ (bytes_outside v c, 1)
    ∷ (not (list_all (may_read v c.domain) (write_words c)), 12) ∷ []
tests Grant v c =
    (no_range v c, 1)
    ∷ (not (is_module v (arg c 2)), 3)
    ∷ (nat_lt 3 (arg c 3), 4)
    ∷ (not (owns_range v c), 2)
    ∷ (not (v.fits (granted v c)), 5) ∷ []
tests RevokeAll v c =
    (no_range v c, 1)
    ∷ (not (owns_range v c), 2)
    ∷ (not (v.fits (revoked v c)), 5) ∷ []
tests Transfer v c =
    (no_range v c || meets_heap v c, 1)
    ∷ (nat_lt (length v.modules) (arg c 2), 3)
    ∷ (not (owns_range v c), 2)
    ∷ (not (v.few_runs (given v c)), 14) ∷ []
tests Alloc v c =
    (arg c 0 == 0, 1)
    ∷ (is_none (new_block v c), 6)
    ∷ (nat_le most_blocks (length (blocks v c)), 7)
    ∷ (not (v.fits (allocated v c)), 5) ∷ []
tests Free v c =
    (is_none (old_block v c), 8)
    ∷ (not (v.fits (freed v c)), 5) ∷ []
tests AddGate v c =
    (not (is_word v c), 1)
    ∷ (not (is_module v (arg c 1)) || (arg c 1 == c.domain), 3)
    ∷ (not (owns_word v c), 2)
    ∷ (no_gate_fits v.gates (arg c 1) (arg_word c), 9) ∷ []
tests RemoveGate v c =
    (not (is_word v c), 1)
    ∷ (not (is_module v (arg c 1)), 3)
    ∷ (not (owns_word v c), 2)
    ∷ (not (has_gate v.gates (arg c 1) (arg_word c)), 15) ∷ []
tests AddReturnGate v c =
    (not (is_word v c), 1)
    ∷ (not (owns_word v c), 2)
    ∷ (no_gate_fits v.gates c.domain (arg_word c), 9) ∷ []
tests Query v c =
    (not (is_word v c), 1)
    ∷ (not (is_module v (arg c 1)), 3)
    ∷ (not (arg c 1 == c.domain) && not (owns_word v c), 2) ∷ []
tests Self v c = []
tests Exchange v c =
    (not (is_word v c), 1)
    ∷ (not (allows (v.perm c.domain (arg_word c)) A.Write), 12) ∷ []
tests Unknown v c = (true, 13) ∷ []
