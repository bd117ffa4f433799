-- What the fields of a plan say.
use Rattle.mx_manifest.specs.declared.plan.Plan.TheInside.{Inside}
use Rattle.mx_manifest.specs.Plan.{Said}

abbrev pub said : Inside → Said
said p = record {
  version = p.version;
  ram_kib = p.ram_kib;
  tables = p.tables;
  upper = p.upper;
  leaf = p.leaf;
  spill = p.spill;
  lookaside = p.lookaside;
  quantum = p.quantum;
  modules = p.modules.items;
  harts = p.harts.items;
}
