-- States at boot for the worked examples: inline modules in a RAM of 64 KiB, packed tables, a lookaside buffer of 32.
use Rattle.std.specs.Prelude.{ℕ, ◌+◌, ◌-◌, ◌*◌, ◌/◌, ◌%◌, Bool, false, List, [], ◌∷◌, ◌++◌, length, flat_map, replicate, slice_set, fold}
use Rattle.std.specs.Prelude.{map as list_map}
use Rattle.std.specs.List.{enumerate_from}
use Rattle.mx_words.specs.declared.perm.Perm.{Perm}
use Rattle.mx_words.specs.declared.perm.Perm.TheVariants as P
use Rattle.mx_words.specs.declared.tables.Kind.TheVariants as K
use Rattle.mx_words.specs.Caches.{no_cache}
use Rattle.mx_words.specs.FirstFit.{Area}
use Rattle.mx_words.specs.Newest.{Grant, Give}
use Rattle.mx_words.specs.Ranges.{ram_base}
use Rattle.mx_model.specs.declared.values.Gate.{Gate}
use Rattle.mx_model.specs.declared.values.Note.{Note}
use Rattle.mx_model.specs.declared.values.Note.TheVariants as N
use Rattle.mx_model.specs.State.{Core, Hart, Module, Stack, State, Running}
use Rattle.mx_model.specs.Turn.{stack_address}

-- an inline module: its first word, its permission, its words, its heap and stack areas, and whether it is killing
pub record Inline : Type 0 where
  pub first : ℕ
  pub perm : Perm
  pub text : List ℕ
  pub heap : Area
  pub stack : Stack
  pub kills : Bool

-- a module with words alone
abbrev pub inline : ℕ → Perm → List ℕ → Inline
inline first p text = record {
  first = first;
  perm = p;
  text = text;
  heap = record { first = 0; count = 0 };
  stack = record { first = 0; words = 0 };
  kills = false;
}

abbrev pub bytes_of : ℕ → List ℕ
bytes_of w = w % 256 ∷ w / 256 % 256 ∷ w / 65536 % 256 ∷ w / 16777216 ∷ []

-- RAM's bytes from place `from` on, with the modules' words in the order of their addresses
abbrev pub ram_from : ℕ → List Inline → List ℕ
ram_from from [] = replicate (65536 - from) 0
ram_from from (m ∷ ms) =
    replicate (4 * m.first - from) 0 ++ flat_map bytes_of m.text ++ ram_from (4 * m.first + 4 * length m.text) ms

abbrev pub grants_at : ℕ → Inline → List Grant
grants_at harts m =
    record { first = m.first; count = length m.text; value = m.perm }
    ∷ record { first = m.stack.first; count = m.stack.words * harts; value = P.ReadWrite } ∷ []

abbrev pub gives_of : ℕ → List (ℕ × Inline) → List Give
gives_of harts [] = []
gives_of harts (p ∷ ps) =
    (record { first = p.1.first; count = length p.1.text; value = p.0 }
    ∷ record { first = p.1.heap.first; count = p.1.heap.count; value = p.0 }
    ∷ record { first = p.1.stack.first; count = p.1.stack.words * harts; value = p.0 } ∷ [])
    ++ gives_of harts ps

abbrev pub module_of : Inline → Module
module_of m = record { heap = m.heap; blocks = []; stack = m.stack; kills = m.kills; dead = false }

-- a hart's domain and first pc
abbrev pub Start : Type 0
Start = ℕ × ℕ

abbrev pub core_of : List Inline → List Gate → List Hart → Core
core_of modules gates harts = record {
  ram = ram_from 0 modules;
  modules = list_map module_of modules;
  gates = gates;
  harts = harts;
  caches = list_map (λ (hart : Hart). no_cache) harts;
  turns = 0;
  size = 16384;
  kind = K.Packed;
  limit = record { upper = 128; leaf = 4096; spill = 4096 };
  buffer = 32;
}

abbrev pub hart_of : List Inline → ℕ × Start → Hart
hart_of modules p = record {
  regs = slice_set (replicate 32 0) 2 (stack_address (core_of modules [] []) p.1.0 p.0);
  pc = p.1.1;
  domain = p.1.0;
  frames = [];
  status = Running;
}

abbrev pub boot : List Inline → List Gate → List Start → State
boot modules gates starts = record {
  core = core_of modules gates (list_map (hart_of modules) (enumerate_from 0 starts));
  grants = list_map (grants_at (length starts)) modules;
  gives = gives_of (length starts) (enumerate_from 1 modules);
  console = [];
  notes = [];
}

-- what an example tells of a hart: pc, domain, the number of frames, and its registers
pub record HartEnd : Type 0 where
  pub pc : ℕ
  pub domain : ℕ
  pub frames : ℕ
  pub regs : List ℕ

-- what it tells of a state: the notes, the number of turns and the harts
pub record End : Type 0 where
  pub notes : List Note
  pub turns : ℕ
  pub harts : List HartEnd

abbrev pub hart_end : Hart → HartEnd
hart_end hart = record { pc = hart.pc; domain = hart.domain; frames = length hart.frames; regs = hart.regs }

abbrev pub end : State → End
end s = record { notes = s.notes; turns = s.core.turns; harts = list_map hart_end s.core.harts }

-- registers that are zero but for some
abbrev pub regs_with : List (ℕ × ℕ) → List ℕ
regs_with values = fold (λ regs (p : ℕ × ℕ). slice_set regs p.0 p.1) (replicate 32 0) values

-- an end with one hart
abbrev pub one_end : List Note → ℕ → ℕ → ℕ → ℕ → List (ℕ × ℕ) → End
one_end notes turns pc domain frames values = record {
  notes = notes;
  turns = turns;
  harts = record { pc = pc; domain = domain; frames = frames; regs = regs_with values } ∷ [];
}

-- the note of a fault
abbrev pub fault : ℕ → ℕ → ℕ → ℕ → ℕ → ℕ → Note
fault step hart domain pc cause value = N.Fault step hart domain pc (record { cause = cause; value = value })

-- a run of one inline module, execute-read at the first word, with one hart in it
abbrev pub one_module : List ℕ → State
one_module text = boot (inline 0 P.ExecuteRead text ∷ []) [] ((1, ram_base) ∷ [])
