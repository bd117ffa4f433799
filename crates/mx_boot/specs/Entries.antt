-- The gates that modules ask for, and where harts begin: an entry is a symbol of a module's image, or an address.
-- The rules: docs/MACHINE.md, "Gates".
use Rattle.std.specs.Prelude.{ℕ, ◌-◌, ◌/◌, ◌++◌, if◌then◌else◌, List, map, slice_get, Option, Some, option_and_then, unwrap_or}
use Rattle.std.specs.List.{flat_map}
use Rattle.std.specs.Option.{option_map_or}
use Rattle.mx_words.specs.Ranges.{ram_base}
use Rattle.mx_elf.specs.Symbol.{symbol_of}
use Rattle.mx_manifest.specs.declared.fault.Key.{Key}
use Rattle.mx_manifest.specs.declared.fault.Key.TheVariants as key
use Rattle.mx_manifest.specs.declared.parts.EntryPlan.{EntryPlan}
use Rattle.mx_manifest.specs.declared.parts.EntryPlan.TheVariants.{Symbol, Address}
use Rattle.mx_manifest.specs.declared.parts.GatePlan.{GatePlan}
use Rattle.mx_manifest.specs.declared.parts.HartPlan.{HartPlan}
use Rattle.mx_manifest.specs.Plan.{Said}
use Rattle.mx_boot.specs.declared.gates.Request.{Request}
use Rattle.mx_boot.specs.Areas.{Home, homes, has_image, image, inline_address}

-- the address that an entry means in a module's image; nothing where the image has no such symbol
abbrev pub entry_address : List ℕ → EntryPlan → Option ℕ
entry_address bytes (Symbol name) = symbol_of bytes name
entry_address bytes (Address address) = Some address

-- the word of RAM that holds an address
abbrev pub word_at : ℕ → ℕ
word_at address = (address - ram_base) / 4

-- a gate into a module at one of its entries, for a domain
abbrev pub request : Home → Key → EntryPlan → ℕ → Request
request h key entry domain =
    let address = entry_address h.bytes entry in
    record {
      key = key;
      address = address;
      gate = record { domain = domain; word = word_at (unwrap_or address 0); target = h.domain };
    }

-- the gates that a module asks for: each call gate for each domain that may cross there, then its return gates
abbrev pub call_requests : Home → GatePlan → List Request
call_requests h gate = map (request h key.Gates gate.entry) gate.from

abbrev pub return_request : Home → EntryPlan → Request
return_request h entry = request h key.Returns entry h.domain

abbrev pub requests_of : Home → List Request
requests_of h = flat_map (call_requests h) h.plan.gates ++ map (return_request h) h.plan.returns

abbrev pub requests : Said → List (List ℕ) → List Request
requests plan images = flat_map requests_of (homes plan images)

-- where a hart begins in its module if the manifest doesn't say it: at the image's entry, or at the first inline word
abbrev pub default_entry : Home → ℕ
default_entry h = if has_image h then (image h).entry else inline_address h.plan

abbrev pub start_address : Home → Option EntryPlan → Option ℕ
start_address h entry = option_map_or (entry_address h.bytes) entry (Some (default_entry h))

-- the address that a hart's entry means in its module
abbrev pub hart_start : Said → List (List ℕ) → HartPlan → Option ℕ
hart_start plan images hart =
    option_and_then (λ h. start_address h hart.entry)
    (slice_get (homes plan images) (hart.module - 1))
