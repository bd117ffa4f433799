-- What a machine holds, and the flat state that it is.
use Rattle.std.specs.Prelude.{ℕ, ◌+◌, ◌-◌, ◌*◌, ◌==◌, Bool, false, List, [], ◌∷◌, slice_index_or, if◌then◌else◌}
use Rattle.mx_words.specs.declared.tables.Kind.TheVariants as K
use Rattle.mx_words.specs.Ranges.{address_of}
use Rattle.mx_model.specs.State.{Core, Flat, Module, Stack, no_module}
use Rattle.mx_model.specs.State.{Hart as Seen}
use Rattle.mx_supervisor.specs.Parts.{Parts, flat_of}
use Rattle.mx_machine.specs.declared.hart.Hart.{Hart}
use Rattle.mx_machine.specs.declared.starts.StackArea.{StackArea}
use Rattle.mx_machine.specs.Harts.{seen_from}

-- the supervisor's parts, the harts, the modules' stack areas, by number which domains are dead, the number of turns made, and whether
-- some hart may wait
pub record Held : Type 0 where
  pub parts : Parts
  pub harts : List Hart
  pub stacks : List StackArea
  pub dead : List Bool
  pub steps : ℕ
  pub waiting : Bool

-- a stack area of no words is (0, 0), wherever it was said to begin
abbrev pub told : StackArea → Stack
told a = record { first = if a.words == 0 then 0 else a.first; words = a.words }

-- the stack area of domain d, and the address after it for hart h, 0 where it has none
abbrev pub no_area : StackArea
no_area = record { first = 0; words = 0; kills = false }

abbrev pub area_of : List StackArea → ℕ → StackArea
area_of stacks d = slice_index_or stacks (d - 1) no_area

abbrev pub behind : List StackArea → ℕ → ℕ → ℕ
behind stacks d h =
    let a = area_of stacks d in
    if a.words == 0 then 0 else address_of (a.first + a.words * (h + 1))

-- what is said of a module beside its heap
abbrev pub home : List Bool → ℕ → StackArea → Module
home dead d a =
    record no_module { stack = told a; kills = a.kills; dead = slice_index_or dead d false }

-- the same of the modules from domain d on
abbrev pub homes_from : List Bool → ℕ → List StackArea → List Module
homes_from dead d [] = []
homes_from dead d (a ∷ rest) = home dead d a ∷ homes_from dead (d + 1) rest

-- a state's harts, modules and turns, beside which a supervisor's parts are the rest
abbrev pub beside : List Seen → List StackArea → List Bool → ℕ → Core
beside harts stacks dead turns = record {
  ram = [];
  modules = homes_from dead 1 stacks;
  gates = [];
  harts = harts;
  caches = [];
  turns = turns;
  size = 0;
  kind = K.Segments;
  limit = record { upper = 0; leaf = 0; spill = 0 };
  buffer = 0;
}

-- the flat state of a supervisor's parts with these harts, stack areas, dead domains and turns
abbrev pub state_of : Parts → List Seen → List StackArea → List Bool → ℕ → Flat
state_of p harts stacks dead turns = flat_of (beside harts stacks dead turns) p

-- the flat state of what a machine holds, and all of it but the supervisor's parts
abbrev pub rest_of : Held → Core
rest_of m = beside (seen_from 0 m.harts m.parts.harts) m.stacks m.dead m.steps

abbrev pub meaning : Held → Flat
meaning m = flat_of (rest_of m) m.parts
