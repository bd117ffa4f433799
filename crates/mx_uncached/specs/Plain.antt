-- The plain machine: the whole machine but for its caches. Read this first, then Table of mx_model, then Calls, then Turn.
-- Here: its state, what is read of it, and the small steps of which calls and turns are made.
-- The same in prose: docs/ABSTRACT.md.
use Rattle.std.specs.Prelude.{ℕ, ◌-◌, Bool, not, nat_lt, nat_le, List, [], ◌∷◌, ◌++◌, slice_index_or, slice_set, if◌then◌else◌, Option}
use Rattle.std.specs.Prelude.{map as list_map}
use Rattle.std.specs.Option.{option_map_or}
use Rattle.mx_words.specs.declared.perm.Perm.{Perm}
use Rattle.mx_words.specs.declared.perm.Perm.TheVariants as P
use Rattle.mx_words.specs.declared.perm.Access.{Access}
use Rattle.mx_words.specs.declared.tables.Kind.{Kind}
use Rattle.mx_words.specs.declared.tables.Need.{Need}
use Rattle.mx_words.specs.Bytes.{number_at, put_at}
use Rattle.mx_words.specs.Changes.{granted_all}
use Rattle.mx_words.specs.Need.{fits}
use Rattle.mx_words.specs.Newest.{Grant, Give, at, owner, owners, map}
use Rattle.mx_words.specs.Ranges.{ram_base, word_of}
use Rattle.mx_words.specs.Rights.{allows}
use Rattle.mx_words.specs.Runs.{owner_runs, most_owner_runs}
use Rattle.mx_model.specs.declared.values.Gate.{Gate}
use Rattle.mx_model.specs.declared.values.Note.{Note}
use Rattle.mx_model.specs.Reads.{Change, grants_of}
use Rattle.mx_model.specs.State.{Hart, Module, Running, Halted, no_hart, no_module}

-- a state of the plain machine
pub record Plain : Type 0 where
  -- RAM's bytes
  pub ram : List ℕ
  -- modules 1 to M: areas, live blocks, whether it is killing and whether it is dead
  pub modules : List Module
  -- at most one gate for a domain at a word
  pub gates : List Gate
  -- harts from 0 on: registers, pc, domain, frames and status
  pub harts : List Hart
  -- each module's grants of permissions, the newest last
  pub grants : List (List Grant)
  -- gives of words to their owners, the newest last
  pub gives : List Give
  -- the console bytes so far
  pub console : List ℕ
  -- the faults and exits so far
  pub notes : List Note
  -- the number of turns made
  pub turns : ℕ
  -- the words of RAM, the kind of tables and their limit, which no turn changes
  pub size : ℕ
  pub kind : Kind
  pub limit : Need

-- hart h; one that isn't there is halted
abbrev pub plain_hart : Plain → ℕ → Hart
plain_hart p h = slice_index_or p.harts h no_hart

-- module d
abbrev pub module_of : Plain → ℕ → Module
module_of p d = slice_index_or p.modules (d - 1) no_module

-- the permission of domain d on a word: its newest grant there decides
abbrev pub perm_of : Plain → ℕ → ℕ → Perm
perm_of p d word = if nat_lt word p.size then at (grants_of p.grants d) word else P.None

-- whether domain d is denied an access at an address; outside RAM it is
abbrev pub is_denied : Plain → ℕ → Access → ℕ → Bool
is_denied p d access address =
    not (allows (option_map_or (perm_of p d) (word_of address p.size) P.None) access)

-- the owner of a word: the newest give there decides
abbrev pub owner_of : Plain → ℕ → ℕ
owner_of p word = if nat_lt word p.size then owner p.gives word else 0

-- the number in `size` bytes from an address on
abbrev pub loaded_at : Plain → ℕ → ℕ → ℕ
loaded_at p address size = number_at p.ram (address - ram_base) size

-- the low `size` bytes of a value stored from an address on
abbrev pub store : ℕ → ℕ → ℕ → Plain → Plain
store address size value p = record p { ram = put_at p.ram (address - ram_base) size value }

-- rights changed: one grant more for each domain that the change names
abbrev pub change : Change → Plain → Plain
change c p = record p { grants = granted_all c.first c.count c.given p.grants }

-- whether the tables would hold the maps after a change
abbrev pub would_fit : Plain → Change → Bool
would_fit p c = fits p.kind p.limit (list_map (λ grants. map grants p.size) (change c p).grants)

-- whether there would be few enough runs of owner after a give
abbrev pub few_runs : Plain → Give → Bool
few_runs p give = nat_le (owner_runs (owners (p.gives ++ give ∷ []) p.size)) most_owner_runs

-- hart h, or module d, made another
abbrev pub with_hart : ℕ → Hart → Plain → Plain
with_hart h hart p = record p { harts = slice_set p.harts h hart }

abbrev pub with_module : ℕ → Module → Plain → Plain
with_module d m p = record p { modules = slice_set p.modules (d - 1) m }

-- hart h goes on, with these registers and this pc
abbrev pub go : ℕ → List ℕ → ℕ → Plain → Plain
go h regs pc p = with_hart h (record (plain_hart p h) { regs = regs; pc = pc; status = Running }) p

-- hart h ends, with an exit code or none
abbrev pub halt : ℕ → Option ℕ → Plain → Plain
halt h code p = with_hart h (record (plain_hart p h) { status = Halted code }) p

-- one note more
abbrev pub note : Note → Plain → Plain
note n p = record p { notes = p.notes ++ n ∷ [] }
