-- The supervisor's calls. For each: its tests, as the table lists them (Table), judged where the call takes effect, and its one effect.
-- The rules: docs/MACHINE.md, "Supervisor calls".
use Rattle.std.specs.Prelude.{ℕ, ◌+◌, ◌-◌, ◌*◌, ◌%◌, ◌^◌, Bool, true, false, not, ◌==◌, ◌&&◌, ◌||◌, nat_lt, List, [], ◌∷◌, take, drop}
use Rattle.std.specs.Prelude.{if◌then◌else◌, Option, Some, None, unwrap_or}
use Rattle.std.specs.Prelude.{map as list_map}
use Rattle.std.specs.List.{list_all, range_with_len, prefix_len}
use Rattle.mx_words.specs.declared.perm.Perm.TheVariants as P
use Rattle.mx_words.specs.declared.perm.Access.TheVariants as A
use Rattle.mx_words.specs.Announced.{is_announced}
use Rattle.mx_words.specs.Bytes.{number_at, put_at, cleared_at}
use Rattle.mx_words.specs.FirstFit.{Area, place, with_block, without_block, block_words}
use Rattle.mx_words.specs.FirstRow.{first_row}
use Rattle.mx_words.specs.Newest.{Give}
use Rattle.mx_words.specs.Ranges.{ram_base, address_of, in_ram, is_range, range_words, overlaps}
use Rattle.mx_words.specs.Rights.{number, from_number, allows}
use Rattle.mx_model.specs.declared.values.Call.{Call}
use Rattle.mx_model.specs.declared.values.Gate.{Gate}
use Rattle.mx_model.specs.Checks.{Look, arg, call_range, drops, looked_all}
use Rattle.mx_model.specs.Gates.{with_gate, without_gate}
pub use Rattle.mx_model.specs.Table.{Service, Exit, Write, Grant, RevokeAll, Transfer, Alloc, Free, AddGate, RemoveGate, AddReturnGate}
pub use Rattle.mx_model.specs.Table.{Query, Self, Exchange, Unknown, service, arg_word, write_words, change_of, to_one, none_but, own_alone}
pub use Rattle.mx_model.specs.Table.{none_at_all}
use Rattle.mx_model.specs.Table.{sight_of, tests}
use Rattle.mx_model.specs.Reads.{Reads, Change}
use Rattle.mx_model.specs.State.{Core, module_at, with_module}

-- what a served call comes to: RAM, blocks, gates and caches afterwards; a change of rights; a give; bytes for the console; the answers in
-- a0 and, for an exchange, in a1; and whether the hart ends
pub record Served : Type 0 where
  pub core : Core
  pub change : Option Change
  pub give : Option Give
  pub console : List ℕ
  pub a0 : ℕ
  pub a1 : Option ℕ
  pub stop : Bool

-- an answer with no effect
abbrev pub answers : Core → ℕ → Served
answers c a0 =
    record { core = c; change = None; give = None; console = []; a0 = a0; a1 = None; stop = false }

-- the number of a code as it stands in a register
abbrev pub code : ℕ → ℕ
code n = 2 ^ 32 - n

-- the tests of a call are rows: whether each fails, and the code that it then gives; a call is refused by the first that fails, and
-- is done where none does
abbrev pub judged : Core → Option ℕ → Served → Served
judged c (Some n) done = answers c (code n)
judged c None done = done

-- the words of the range of a0 and a1
abbrev pub arg_range : Core → Call → ℕ × ℕ
arg_range c call = range_words (arg call 0) (arg call 1) c.size

abbrev pub no_range : Core → Call → Bool
no_range c call = not (is_range (arg call 0) (arg call 1) c.size)

-- whether an address is that of a word of RAM, and that word
abbrev pub is_word : Core → ℕ → Bool
is_word c address = (address % 4 == 0) && in_ram address c.size

-- whether the caller owns each word of a range
abbrev pub owns : Reads → Call → ℕ × ℕ → Bool
owns r call range = list_all (λ w. r.owner w == call.domain) (range_with_len range.0 range.1)

-- a change of rights, answered by 0
abbrev pub changes : Core → Change → Served
changes c change = record (answers c 0) { change = Some change }

-- 1 exit: not with a frame on the cross stack
abbrev pub serve_exit : Core → Call → Served
serve_exit c call =
    judged c (first_row ((call.nested, 10) ∷ [])) (record (answers c (arg call 0)) { stop = true })

-- 2 write: whether a byte lies outside RAM
abbrev pub write_outside : Core → Call → Bool
write_outside c call =
    nat_lt 0 (arg call 1) &&
    (nat_lt (arg call 0) ram_base || nat_lt (ram_base + 4 * c.size) (arg call 0 + arg call 1))

abbrev pub may_read : Reads → ℕ → ℕ → Bool
may_read r d w = allows (r.perm d w) A.Read

abbrev pub look_of : ℕ → ℕ → Look
look_of d w = record { place = 10; domain = d; word = w }

-- they are looked at from the lowest on, up to the first that the caller may not read
abbrev pub write_looks : Reads → Call → List Look
write_looks r call =
    let ws = write_words call in
    list_map (look_of call.domain) (take (prefix_len (may_read r call.domain) ws + 1) ws)

abbrev pub bytes_at : Core → ℕ → ℕ → List ℕ
bytes_at c address size = take size (drop (address - ram_base) c.ram)

abbrev pub written_out : Reads → Core → Call → Served
written_out r c call =
    let looked = looked_all r call.hart (write_looks r call) c in
    judged looked
    (first_row (drop 2 (tests Write (sight_of r c) call)))
    (record (answers looked (arg call 1)) { console = bytes_at c (arg call 0) (arg call 1) })

abbrev pub write_from : Reads → Core → Call → Option ℕ → Served
write_from r c call (Some n) = answers c (code n)
write_from r c call None = written_out r c call

abbrev pub serve_write : Reads → Core → Call → Served
serve_write r c call =
    write_from r c call
    (first_row (take 2 (tests Write (sight_of r c) call)))

-- 3 grant
abbrev pub grant_change : Core → Call → Change
grant_change c call =
    change_of (arg_range c call) (to_one (arg call 2) (unwrap_or (from_number (arg call 3)) P.None))

abbrev pub serve_grant : Reads → Core → Call → Served
serve_grant r c call =
    judged c (first_row (tests Grant (sight_of r c) call))
    (changes c (grant_change c call))

-- 4 revoke_all
abbrev pub revoke_change : Core → Call → Change
revoke_change c call = change_of (arg_range c call) (none_but call.domain)

abbrev pub serve_revoke_all : Reads → Core → Call → Served
serve_revoke_all r c call =
    judged c (first_row (tests RevokeAll (sight_of r c) call))
    (changes c (revoke_change c call))

-- 5 transfer: the caller's heap area stays its own
abbrev pub meets_heap : Core → Call → Bool
meets_heap c call =
    let heap = (module_at c call.domain).heap in
    overlaps heap.first heap.count (arg_range c call).0 (arg_range c call).1

abbrev pub give_of : Core → Call → Give
give_of c call =
    record { first = (arg_range c call).0; count = (arg_range c call).1; value = arg call 2 }

abbrev pub serve_transfer : Reads → Core → Call → Served
serve_transfer r c call =
    judged c (first_row (tests Transfer (sight_of r c) call))
    (record (answers c 0) { give = Some (give_of c call) })

-- the caller's module with other live blocks
abbrev pub with_blocks : Call → List Area → Core → Core
with_blocks call blocks c =
    with_module call.domain (record (module_at c call.domain) { blocks = blocks }) c

-- 6 alloc: the lowest place, zero-filled, read-write for the caller alone
abbrev pub alloc_place : Core → Call → Option ℕ
alloc_place c call =
    place (module_at c call.domain).heap (module_at c call.domain).blocks (arg call 0)

abbrev pub alloc_change : ℕ → Call → Change
alloc_change first call = change_of (first, arg call 0) (own_alone call.domain)

abbrev pub allocated : Core → Call → ℕ → Served
allocated c call first =
    let cleared = record c { ram = cleared_at c.ram (4 * first) (4 * arg call 0) } in
    let block : Area = record { first = first; count = arg call 0 } in
    record (changes (with_blocks call (with_block block (module_at c call.domain).blocks) cleared)
    (alloc_change first call)) {
      a0 = address_of first;
    }

abbrev pub alloc_from : Core → Call → ℕ → Option ℕ → Served
alloc_from c call first (Some n) = answers c (code n)
alloc_from c call first None = allocated c call first

abbrev pub serve_alloc : Reads → Core → Call → Served
serve_alloc r c call =
    let first = unwrap_or (alloc_place c call) 0 in
    alloc_from c call first (first_row (tests Alloc (sight_of r c) call))

-- 7 free
abbrev pub freed_count : Core → Call → Option ℕ
freed_count c call =
    if is_word c (arg call 0) then block_words (module_at c call.domain).blocks (arg_word call)
    else None

abbrev pub free_change : Core → Call → Change
free_change c call = change_of (arg_word call, unwrap_or (freed_count c call) 0) none_at_all

abbrev pub serve_free : Reads → Core → Call → Served
serve_free r c call =
    judged c (first_row (tests Free (sight_of r c) call))
    (changes (with_blocks call (without_block (arg_word call) (module_at c call.domain).blocks) c)
    (free_change c call))

-- whether the caller doesn't own the word of a0
abbrev pub foreign_word : Reads → Call → Bool
foreign_word r call = not (r.owner (arg_word call) == call.domain)

abbrev pub no_word : Core → Call → Bool
no_word c call = not (is_word c (arg call 0))

-- a gate added
abbrev pub adds : Core → Gate → Served
adds c g = answers (record c { gates = with_gate g c.gates }) 0

-- 8 gate: into the caller, for another domain
abbrev pub serve_gate : Reads → Core → Call → Served
serve_gate r c call =
    judged c (first_row (tests AddGate (sight_of r c) call))
    (adds c (record { domain = arg call 1; word = arg_word call; target = call.domain }))

-- 9 ungate
abbrev pub serve_ungate : Reads → Core → Call → Served
serve_ungate r c call =
    judged c (first_row (tests RemoveGate (sight_of r c) call))
    (answers (record c { gates = without_gate (arg call 1) (arg_word call) c.gates }) 0)

-- 10 return_gate
abbrev pub serve_return_gate : Reads → Core → Call → Served
serve_return_gate r c call =
    judged c (first_row (tests AddReturnGate (sight_of r c) call))
    (adds c (record { domain = call.domain; word = arg_word call; target = call.domain }))

-- 11 query: the permission's number, read from no cache and counted nowhere
abbrev pub serve_query : Reads → Core → Call → Served
serve_query r c call =
    judged c (first_row (tests Query (sight_of r c) call))
    (answers c (number (r.perm (arg call 1) (arg_word call))))

-- 12 self
abbrev pub serve_self : Core → Call → Served
serve_self c call = answers c (256 * call.hart + call.domain)

-- 13 exchange: a look at the word as for a store
abbrev pub exchanged : Reads → Core → Call → Served
exchanged r c call =
    let looked = looked_all r call.hart (look_of call.domain (arg_word call) ∷ []) c in
    judged looked (first_row (drop 1 (tests Exchange (sight_of r c) call)))
    (record (answers (record looked { ram = put_at c.ram (4 * arg_word call) 4 (arg call 1) }) 0) {
      a1 = Some (number_at c.ram (4 * arg_word call) 4);
    })

abbrev pub exchange_from : Reads → Core → Call → Option ℕ → Served
exchange_from r c call (Some n) = answers c (code n)
exchange_from r c call None = exchanged r c call

abbrev pub serve_exchange : Reads → Core → Call → Served
serve_exchange r c call = exchange_from r c call (first_row (take 1 (tests Exchange (sight_of r c) call)))

-- a call of each kind
abbrev pub served_by : Service → Reads → Core → Call → Served
served_by Exit r c call = serve_exit c call
served_by Write r c call = serve_write r c call
served_by Grant r c call = serve_grant r c call
served_by RevokeAll r c call = serve_revoke_all r c call
served_by Transfer r c call = serve_transfer r c call
served_by Alloc r c call = serve_alloc r c call
served_by Free r c call = serve_free r c call
served_by AddGate r c call = serve_gate r c call
served_by RemoveGate r c call = serve_ungate r c call
served_by AddReturnGate r c call = serve_return_gate r c call
served_by Query r c call = serve_query r c call
served_by Self r c call = serve_self c call
served_by Exchange r c call = serve_exchange r c call
served_by Unknown r c call = answers c (code 13)

-- at the effect of an announced call, refused or not, the caller drops its own spans on the call's range
abbrev pub ended : Core → Call → Served → Served
ended c call s =
    if is_announced call.number then record s { core = drops call.hart (call_range c call) s.core }
    else s

-- one supervisor call
abbrev pub serve : Reads → Core → Call → Served
serve r c call = ended c call (served_by (service call.number) r c call)
