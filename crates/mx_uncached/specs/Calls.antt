-- The supervisor calls of the plain machine: what a call is judged by here, and a table of what each does where no test fails.
-- The table of their tests is that of the whole machine, mx_model/specs/Table. The same in prose: docs/ABSTRACT.md.
use Rattle.std.specs.Prelude.{ℕ, ◌+◌, ◌-◌, ◌*◌, List, [], ◌∷◌, ◌++◌, take, drop, slice_set, Some, unwrap_or}
use Rattle.std.specs.Option.{option_map_or}
use Rattle.mx_words.specs.Bytes.{number_at, put_at, cleared_at}
use Rattle.mx_words.specs.FirstFit.{Area, with_block, without_block}
use Rattle.mx_words.specs.FirstRow.{first_row}
use Rattle.mx_words.specs.Ranges.{ram_base, address_of}
use Rattle.mx_words.specs.Rights.{number}
use Rattle.mx_model.specs.declared.values.Call.{Call}
use Rattle.mx_model.specs.declared.values.Gate.{Gate}
use Rattle.mx_model.specs.declared.values.Note.TheVariants as N
use Rattle.mx_model.specs.Checks.{arg}
use Rattle.mx_model.specs.Effect.{next}
use Rattle.mx_model.specs.Gates.{with_gate, without_gate}
use Rattle.mx_model.specs.Serve.{code}
use Rattle.mx_model.specs.Table.{Service, Exit, Write, Grant, RevokeAll, Transfer, Alloc, Free, AddGate, RemoveGate, AddReturnGate, Query}
use Rattle.mx_model.specs.Table.{Self, Exchange, Unknown, Sight, service, arg_word, blocks, new_block, granted, revoked, allocated, freed}
use Rattle.mx_model.specs.Table.{given, tests}
use Rattle.mx_uncached.specs.Plain.{Plain, plain_hart, module_of, perm_of, owner_of, change, would_fit, few_runs, with_module, go, halt}
use Rattle.mx_uncached.specs.Plain.{note}

-- what a call is judged by
abbrev pub sight : Plain → Sight
sight p = record {
  modules = p.modules;
  gates = p.gates;
  size = p.size;
  perm = perm_of p;
  owner = owner_of p;
  fits = would_fit p;
  few_runs = few_runs p;
}

-- the answer in x10; hart h goes on after its ECALL
abbrev pub answer : ℕ → ℕ → Plain → Plain
answer h a0 p = let hart = plain_hart p h in go h (slice_set hart.regs 10 a0) (next hart.pc) p

-- an exit: hart h ends with the code, of which there is a note
abbrev pub exit : ℕ → ℕ → Plain → Plain
exit h code p = halt h (Some code) (note (N.Exit p.turns h (plain_hart p h).domain code) p)

-- the a1 bytes from a0 on go to the console
abbrev pub write : Call → Plain → Plain
write c p = record p { console = p.console ++ take (arg c 1) (drop (arg c 0 - ram_base) p.ram) }

-- a gate into the caller, for a domain at the word of a0
abbrev pub add_gate : ℕ → Call → Plain → Plain
add_gate d c p =
    let gate : Gate = record { domain = d; word = arg_word c; target = c.domain } in
    record p { gates = with_gate gate p.gates }

-- the caller's live blocks are others
abbrev pub with_blocks : Call → List Area → Plain → Plain
with_blocks c blocks p =
    with_module c.domain (record (module_of p c.domain) { blocks = blocks }) p

-- a new block: zero-filled, live, read-write for the caller and none in all other domains
abbrev pub allocate : Call → ℕ → Plain → Plain
allocate c first p =
    let block : Area = record { first = first; count = arg c 0 } in
    change (allocated (sight p) c)
    (with_blocks c (with_block block (blocks (sight p) c))
    (record p { ram = cleared_at p.ram (4 * first) (4 * arg c 0) }))

-- a word for another: RAM's goes to x11, and that of a1 to RAM
abbrev pub exchange : ℕ → Call → Plain → Plain
exchange h c p =
    let hart = plain_hart p h in
    let old = number_at p.ram (4 * arg_word c) 4 in
    go h (slice_set (slice_set hart.regs 10 0) 11 old) (next hart.pc)
    (record p { ram = put_at p.ram (4 * arg_word c) 4 (arg c 1) })

-- the table of what each call does where no test fails
abbrev pub does : Service → ℕ → Call → Plain → Plain
does Exit h c p = exit h (arg c 0) p
does Write h c p = answer h (arg c 1) (write c p)
does Grant h c p = answer h 0 (change (granted (sight p) c) p)
does RevokeAll h c p = answer h 0 (change (revoked (sight p) c) p)
does Transfer h c p = answer h 0 (record p { gives = p.gives ++ given (sight p) c ∷ [] })
does Alloc h c p =
    let first = unwrap_or (new_block (sight p) c) 0 in
    answer h (address_of first) (allocate c first p)
does Free h c p =
    let left = without_block (arg_word c) (blocks (sight p) c) in
    answer h 0 (change (freed (sight p) c) (with_blocks c left p))
does AddGate h c p = answer h 0 (add_gate (arg c 1) c p)
does RemoveGate h c p =
    answer h 0 (record p { gates = without_gate (arg c 1) (arg_word c) p.gates })
does AddReturnGate h c p = answer h 0 (add_gate c.domain c p)
does Query h c p = answer h (number (perm_of p (arg c 1) (arg_word c))) p
does Self h c p = answer h (256 * c.hart + c.domain) p
does Exchange h c p = exchange h c p
does Unknown h c p = p

-- a call takes effect: the first test that fails refuses it by its code, and else it is done
abbrev pub serve : ℕ → Call → Plain → Plain
serve h c p =
    let called = service c.number in
    option_map_or (λ n. answer h (code n) p) (first_row (tests called (sight p) c)) (does called h c p)
