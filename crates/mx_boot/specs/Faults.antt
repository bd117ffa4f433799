-- The faults of a plan with its images, 10 to 17: all rows in the order in which they are tested, of which the first that applies decides.
-- The rules: docs/COMMANDS.md, "The manifest".
use Rattle.std.specs.Prelude.{ℕ, ◌+◌, ◌*◌, ◌/◌, ◌%◌, ◌==◌, Bool, true, false, not, ◌&&◌, nat_le, if◌then◌else◌, List, [], ◌∷◌, ◌++◌, length}
use Rattle.std.specs.Prelude.{find, Option, unwrap_or, Result, Ok, Err}
use Rattle.std.specs.List.{enumerate_from, flat_map, list_any}
use Rattle.std.specs.Option.{is_some, option_map_or}
use Rattle.mx_words.specs.FirstRow.{Row, first_row}
use Rattle.mx_words.specs.Ranges.{ram_base, covers, overlaps}
use Rattle.mx_model.specs.declared.values.Gate.{Gate}
use Rattle.mx_model.specs.Gates.{has_gate, most_gates}
use Rattle.mx_elf.specs.declared.image.Image.{Image}
use Rattle.mx_elf.specs.declared.image.ImageFault.{ImageFault}
use Rattle.mx_elf.specs.declared.segment.Seg.{Seg}
use Rattle.mx_elf.specs.Image.{image_of}
use Rattle.mx_elf.specs.Segment.{is_writable, is_executable}
use Rattle.mx_manifest.specs.declared.fault.BootFault.{BootFault}
use Rattle.mx_manifest.specs.declared.fault.Place.{Place}
use Rattle.mx_manifest.specs.declared.fault.Part.TheVariants as part
use Rattle.mx_manifest.specs.declared.fault.Key.{Key}
use Rattle.mx_manifest.specs.declared.fault.Key.TheVariants as key
use Rattle.mx_manifest.specs.declared.parts.HartPlan.{HartPlan}
use Rattle.mx_manifest.specs.Plan.{Said}
use Rattle.mx_boot.specs.declared.area.Area.{Area}
use Rattle.mx_boot.specs.Areas.{Home, homes, image, has_image, areas}
use Rattle.mx_boot.specs.declared.gates.Request.{Request}
use Rattle.mx_boot.specs.Entries.{requests, hart_start}

-- a row: whether it applies, and the fault that it then tells
abbrev pub Fault : Type 0
Fault = Row BootFault

-- a key of a module, and the entry of a hart
abbrev pub at_module : ℕ → Key → Place
at_module domain key = record { part = part.Module; index = domain; key = key }

abbrev pub at_hart : ℕ → Place
at_hart number = record { part = part.Hart; index = number; key = key.Entry }

-- a fault there
abbrev pub fault : ℕ → Place → ℕ → BootFault
fault number place detail = record { number = number; place = place; detail = detail }

-- whether a file has a fault, and its number
abbrev pub is_err : Result Image ImageFault → Bool
is_err (Ok image) = false
is_err (Err fault) = true

abbrev pub fault_number : Result Image ImageFault → ℕ
fault_number (Ok image) = 0
fault_number (Err fault) = fault.number

-- step 5, of a module with an image. Fault 10: the file has a fault of its own; fault 11: a segment is writable and executable, and
-- there is no `wx`
abbrev pub image_row : Home → Fault
image_row h =
    let file = image_of h.bytes in
    (is_err file, fault 10 (at_module h.domain key.Image) (fault_number file))

abbrev pub flags_rows : Home → ℕ × Seg → List Fault
flags_rows h placed = (
  is_writable placed.1.flags && is_executable placed.1.flags && not (is_some h.plan.wx),
  fault 11 (at_module h.domain key.Image) placed.0,
)
    ∷ []

abbrev pub image_rows : Home → List Fault
image_rows h =
    if has_image h then image_row h ∷ flat_map (flags_rows h) (enumerate_from 0 (image h).segments)
    else []

-- the rows of each element in turn, judged after what is kept of the earlier ones
abbrev pub each_behind : {A B : Type 0} → (A → B) → (List B → A → List Fault) → List B → List A →
    List Fault
each_behind keep rows earlier [] = []
each_behind keep rows earlier (x ∷ xs) =
    rows earlier x ++ each_behind keep rows (earlier ++ keep x ∷ []) xs

-- step 6, of an area after the earlier ones. Fault 12: it isn't wholly in a RAM of so many words; fault 13: it shares a word with an
-- earlier area, the first of which the fault tells by its module
abbrev pub is_in_ram : ℕ → Area → Bool
is_in_ram words a =
    nat_le ram_base a.address && nat_le (a.address / 4 + a.count) (ram_base / 4 + words)

abbrev pub shares_word : Area → Area → Bool
shares_word a b = overlaps (a.address / 4) a.count (b.address / 4) b.count

abbrev pub domain_found : Option Area → ℕ
domain_found found = option_map_or (λ (a : Area). a.domain) found 0

abbrev pub area_rows : ℕ → List Area → Area → List Fault
area_rows words earlier a =
    let shared = find (shares_word a) earlier in
    (not (is_in_ram words a), fault 12 (at_module a.domain a.key) 0)
    ∷ (is_some shared, fault 13 (at_module a.domain a.key) (domain_found shared))
    ∷ []

abbrev pub areas_rows : ℕ → List Area → List Area → List Fault
areas_rows words earlier areas = each_behind (λ (a : Area). a) (area_rows words) earlier areas

-- whether an address is an entry of a module: it is aligned, and in an area of the module
abbrev pub holds_entry : ℕ → ℕ → Area → Bool
holds_entry domain address a = (a.domain == domain) && covers (a.address / 4) a.count (address / 4)

abbrev pub is_entry : List Area → ℕ → ℕ → Bool
is_entry areas domain address = (address % 4 == 0) && list_any (holds_entry domain address) areas

-- fault 14 of an entry: it is a symbol that the module doesn't have; fault 15: it isn't aligned, or isn't in an area of its module
abbrev pub entry_rows : List Area → Place → ℕ → Option ℕ → List Fault
entry_rows areas at domain address =
    (not (is_some address), fault 14 at 0)
    ∷ (not (is_entry areas domain (unwrap_or address 0)), fault 15 at 0)
    ∷ []

-- step 7, of a gate after the earlier ones, of which fault 16 is one with its domain and word, and fault 17: 256 are there
abbrev pub gate_rows : List Area → List Gate → Request → List Fault
gate_rows areas earlier r =
    let at = at_module r.gate.target r.key in
    entry_rows areas at r.gate.target r.address
    ++ (has_gate earlier r.gate.domain r.gate.word, fault 16 at 0)
    ∷ (length earlier == most_gates, fault 17 at 0)
    ∷ []

abbrev pub gates_rows : List Area → List Gate → List Request → List Fault
gates_rows areas earlier requests =
    each_behind (λ (r : Request). r.gate) (gate_rows areas) earlier requests

-- step 8, of a hart, whose number counts from 1
abbrev pub hart_rows : Said → List (List ℕ) → ℕ × HartPlan → List Fault
hart_rows plan images placed =
    entry_rows (areas plan images) (at_hart placed.0) placed.1.module
    (hart_start plan images placed.1)

abbrev pub harts_rows : Said → List (List ℕ) → List Fault
harts_rows plan images = flat_map (hart_rows plan images) (enumerate_from 1 plan.harts)

-- the number of words of RAM
abbrev pub ram_words : Said → ℕ
ram_words plan = 256 * plan.ram_kib

-- all rows, and the first fault
abbrev pub rows : Said → List (List ℕ) → List Fault
rows plan images =
    flat_map image_rows (homes plan images)
    ++ areas_rows (ram_words plan) [] (areas plan images)
    ++ gates_rows (areas plan images) [] (requests plan images)
    ++ harts_rows plan images

unfoldable pub first_fault : Said → List (List ℕ) → Option BootFault
first_fault plan images = first_row (rows plan images)
