-- What ties the whole machine to the plain one: a state without caches and their size, and a state of the plain machine as one that
-- keeps nothing in them.
-- The rules: docs/ABSTRACT.md, "What is proved of it".
use Rattle.std.specs.Prelude.{[]}
use Rattle.mx_model.specs.State.{State}
use Rattle.mx_uncached.specs.Plain.{Plain}

-- a state without its caches
abbrev pub plain : State → Plain
plain s = record {
  ram = s.core.ram;
  modules = s.core.modules;
  gates = s.core.gates;
  harts = s.core.harts;
  grants = s.grants;
  gives = s.gives;
  console = s.console;
  notes = s.notes;
  turns = s.core.turns;
  size = s.core.size;
  kind = s.core.kind;
  limit = s.core.limit;
}

-- a state of the plain machine, as one of the whole machine in which no hart has a cache
abbrev pub bare : Plain → State
bare p = record {
  core = record {
    ram = p.ram;
    modules = p.modules;
    gates = p.gates;
    harts = p.harts;
    caches = [];
    turns = p.turns;
    size = p.size;
    kind = p.kind;
    limit = p.limit;
    buffer = 0;
  };
  grants = p.grants;
  gives = p.gives;
  console = p.console;
  notes = p.notes;
}
