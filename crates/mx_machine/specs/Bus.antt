-- The bus of a hart's turn: a supervisor, with the hart and its domain.
use Rattle.std.specs.Prelude.{◌≡◌, ℕ, ◌-◌, ◌*◌, ◌<◌, ◌≤◌, List, length}
use Rattle.std.specs.Option.{option_map_or}
use Rattle.mx_words.specs.declared.perm.Perm.{Perm}
use Rattle.mx_words.specs.declared.perm.Perm.TheVariants as P
use Rattle.mx_words.specs.declared.tables.Kind.{Kind}
use Rattle.mx_words.specs.declared.tables.Need.{Need}
use Rattle.mx_words.specs.Ranges.{ram_base, word_of}
use Rattle.mx_words.specs.Rights.{perm_at}
use Rattle.mx_table.specs.Tables.{map_of, IsDomain, KeepsTables}
use Rattle.mx_check.specs.Conditions.{MayLook}
use Rattle.mx_check.specs.Harts.{kept_at}
use Rattle.mx_check.specs.Looks.{looked_at_address, lookups_after}
use Rattle.mx_model.specs.Reads.{map_in}
use Rattle.mx_machine.specs.declared.bus.HartBus.{HartBus}

-- the permission of a domain at each address
abbrev pub perm_from : ℕ → List (List Perm) → ℕ → ℕ → Perm
perm_from size maps domain address =
    option_map_or (perm_at (map_in size maps domain)) (word_of address size) P.None

-- an address lies in a RAM of so many words
abbrev pub IsInRam : ℕ → ℕ → Type 0
IsInRam size address = (ram_base ≤ address) × (address - ram_base < 4 * size)

-- the hart may look at words in the domain, and RAM has as many words as the tables
pub record IsUsable {T : Type 0} {N : ℕ} (maps : T → List (List Perm)) (size : T → ℕ)
    (b : HartBus T N) : Type 0 where
  pub look : MayLook b.hart b.domain b.supervisor.checker.harts
  pub domain : IsDomain (maps b.supervisor.checker.tables) b.domain
  pub ram : length b.supervisor.ram ≡ 4 * size b.supervisor.checker.tables

-- what one touch changes beside RAM: the checker and the tables' count of lookups, as by one check of the address
pub record IsTouch {T : Type 0} {N : ℕ} (kind : Kind) (maps : T → List (List Perm)) (size : T → ℕ)
    (limit : T → Need) (lookups : T → ℕ) (most : ℕ)
    (old : HartBus T N) (place address : ℕ) (new : HartBus T N) : Type 0 where
  pub same_hart : new.hart ≡ old.hart
  pub same_domain : new.domain ≡ old.domain
  pub same_tables : KeepsTables maps size limit old.supervisor.checker.tables new.supervisor.checker.tables
  pub same_owners : new.supervisor.owners ≡ old.supervisor.owners
  pub same_gates : new.supervisor.gates ≡ old.supervisor.gates
  pub same_heaps : new.supervisor.heaps ≡ old.supervisor.heaps
  pub harts_after : new.supervisor.checker.harts
      ≡ looked_at_address most kind (map_of (maps old.supervisor.checker.tables) old.domain)
      old.hart place old.domain address old.supervisor.checker.harts
  pub counted : lookups new.supervisor.checker.tables
      ≡ lookups_after (map_of (maps old.supervisor.checker.tables) old.domain)
      place old.domain address
      (kept_at old.supervisor.checker.harts old.hart).cache (lookups old.supervisor.checker.tables)
