-- What each module brings into RAM: its areas, and the bytes with which its segments or its inline words begin.
-- The rules: docs/MACHINE.md, "Memory, domains, harts".
use Rattle.std.specs.Prelude.{ℕ, ◌+◌, ◌*◌, ◌/◌, ◌%◌, ◌++◌, Bool, if◌then◌else◌, List, [], ◌∷◌, map, take, drop, length, slice_index_or}
use Rattle.std.specs.Prelude.{unwrap_or, Result, Ok, Err}
use Rattle.std.specs.List.{enumerate_from, flat_map}
use Rattle.std.specs.Option.{is_some, option_map_or}
use Rattle.mx_words.specs.declared.perm.Perm.TheVariants as P
use Rattle.mx_elf.specs.declared.image.Image.{Image}
use Rattle.mx_elf.specs.declared.image.ImageFault.{ImageFault}
use Rattle.mx_elf.specs.declared.segment.Seg.{Seg}
use Rattle.mx_elf.specs.Image.{image_of}
use Rattle.mx_elf.specs.Segment.{word_count, permission_of}
use Rattle.mx_manifest.specs.declared.fault.Key.TheVariants as key
use Rattle.mx_manifest.specs.declared.parts.InputPlan.{InputPlan}
use Rattle.mx_manifest.specs.declared.parts.ModulePlan.{ModulePlan}
use Rattle.mx_manifest.specs.Plan.{Said}
use Rattle.mx_boot.specs.declared.area.Area.{Area}

-- a module with its domain and the bytes of its image; an inline one has none
pub record Home : Type 0 where
  pub domain : ℕ
  pub plan : ModulePlan
  pub bytes : List ℕ

-- the module at a place, which counts from 0
abbrev pub home : List (List ℕ) → ℕ × ModulePlan → Home
home images placed =
    record { domain = placed.0 + 1; plan = placed.1; bytes = slice_index_or images placed.0 [] }

-- the modules of a plan
abbrev pub homes : Said → List (List ℕ) → List Home
homes plan images = map (home images) (enumerate_from 0 plan.modules)

-- what a file is read as; one with a fault has no segments
abbrev pub read_as : Result Image ImageFault → Image
read_as (Ok image) = image
read_as (Err fault) = record { entry = 0; segments = [] }

abbrev pub image : Home → Image
image h = read_as (image_of h.bytes)

-- whether a module has an image; else it is inline
abbrev pub has_image : Home → Bool
has_image h = is_some h.plan.image

-- the words and the address of an inline module
abbrev pub inline_words : ModulePlan → List ℕ
inline_words plan = unwrap_or plan.words []

abbrev pub inline_address : ModulePlan → ℕ
inline_address plan = unwrap_or plan.at 0

-- the area of a loaded segment, with the permission that its flags and `wx` give
abbrev pub segment_area : Home → Seg → Area
segment_area h s = record {
  domain = h.domain;
  key = key.Image;
  address = s.address;
  count = word_count s;
  perm = unwrap_or (permission_of s.flags h.plan.wx) P.None;
}

-- the area of inline words, with the permission that the manifest says
abbrev pub inline_area : Home → Area
inline_area h = record {
  domain = h.domain;
  key = key.At;
  address = inline_address h.plan;
  count = length (inline_words h.plan);
  perm = unwrap_or h.plan.perm P.None;
}

-- the areas of a module's loaded segments or of its inline words
abbrev pub pieces : Home → List Area
pieces h = if has_image h then map (segment_area h) (image h).segments else inline_area h ∷ []

-- its heap area, on which it has no rights, and its stack area, with words for each of so many harts
abbrev pub heap_words : ModulePlan → ℕ
heap_words plan = unwrap_or plan.heap_words 0

abbrev pub stack_words : ModulePlan → ℕ
stack_words plan = unwrap_or plan.stack_words 0

abbrev pub heap_area : Home → ℕ → Area
heap_area h address = record {
  domain = h.domain;
  key = key.Heap;
  address = address;
  count = heap_words h.plan;
  perm = P.None;
}

abbrev pub stack_area : ℕ → Home → ℕ → Area
stack_area harts h address = record {
  domain = h.domain;
  key = key.Stack;
  address = address;
  count = stack_words h.plan * harts;
  perm = P.ReadWrite;
}

abbrev pub heaps : Home → List Area
heaps h = option_map_or (λ address. heap_area h address ∷ []) h.plan.heap []

abbrev pub stacks : ℕ → Home → List Area
stacks harts h = option_map_or (λ address. stack_area harts h address ∷ []) h.plan.stack []

-- the area of its input, with the permission that the manifest says
abbrev pub input_area : Home → InputPlan → Area
input_area h input = record {
  domain = h.domain;
  key = key.InputAt;
  address = input.address;
  count = input.words;
  perm = input.perm;
}

abbrev pub input_areas : Home → List Area
input_areas h = option_map_or (λ input. input_area h input ∷ []) h.plan.input []

-- the areas of a module, and of all modules, in the order in which they are judged
abbrev pub areas_of : ℕ → Home → List Area
areas_of harts h = pieces h ++ heaps h ++ stacks harts h ++ input_areas h

abbrev pub areas : Said → List (List ℕ) → List Area
areas plan images = flat_map (areas_of (length plan.harts)) (homes plan images)

-- bytes that are put into RAM, from an address on
pub record Content : Type 0 where
  pub address : ℕ
  pub bytes : List ℕ

-- the bytes of a loaded segment that its file has; those past them stay zero
abbrev pub segment_content : List ℕ → Seg → Content
segment_content bytes s = record { address = s.address; bytes = take s.file (drop s.offset bytes) }

-- the bytes of a word, the lowest first
abbrev pub word_bytes : ℕ → List ℕ
word_bytes w = w % 256 ∷ w / 256 % 256 ∷ w / 65536 % 256 ∷ w / 16777216 % 256 ∷ []

abbrev pub inline_content : ModulePlan → Content
inline_content plan =
    record { address = inline_address plan; bytes = flat_map word_bytes (inline_words plan) }

-- what a module puts into RAM
abbrev pub contents : Home → List Content
contents h =
    if has_image h then map (segment_content h.bytes) (image h).segments
    else inline_content h.plan ∷ []

-- what an input puts there: the number of its file's bytes as a word, and then these bytes; what is left of its area stays zero
abbrev pub input_content : List ℕ → InputPlan → Content
input_content bytes input =
    record { address = input.address; bytes = word_bytes (length bytes) ++ bytes }

abbrev pub input_contents : List ℕ → ModulePlan → List Content
input_contents bytes plan = option_map_or (λ input. input_content bytes input ∷ []) plan.input []

-- what the input of the module at a place puts there, and what all inputs do
abbrev pub placed_input : List (List ℕ) → ℕ × ModulePlan → List Content
placed_input inputs placed = input_contents (slice_index_or inputs placed.0 []) placed.1

abbrev pub all_inputs : Said → List (List ℕ) → List Content
all_inputs plan inputs = flat_map (placed_input inputs) (enumerate_from 0 plan.modules)
