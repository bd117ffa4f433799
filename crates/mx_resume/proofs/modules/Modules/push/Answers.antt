use Rattle.std.proofs.Common.{refl}
use Rattle.mx_snapshot.specs.Resuming.{heap_in, spans_in, stack_in}
use Rattle.mx_snapshot.specs.Stored.{StoredModule}
use Rattle.mx_resume.proofs.AddedModules.{dead_added, heap_of, mapped_more, name_of, row_of, stack_of}
use Rattle.mx_resume.proofs.modules.Modules.push.Goals as goal

pub returns-clause-added : goal.returns-clause-added
returns-clause-added c = λ before m long are is. record {
  names = mapped_more (λ (x : StoredModule). x.name) before m _ _ _ are.names (name_of m c.args.added is) c.in-Ok.ensures.items;
  heaps = mapped_more heap_in before m _ _ _ are.heaps (heap_of m c.args.added is c.requires.told) c.push.ensures;
  stacks = mapped_more stack_in before m _ _ _ are.stacks (stack_of m c.args.added is) c.push-2.ensures;
  dead = dead_added before m c.args.added c.args.domain _ _ long c.requires.domain is are.dead refl;
  rows = mapped_more (λ (x : StoredModule). spans_in 0 x.map) before m _ _ _ are.rows (row_of m c.args.added is) c.in-Ok-push.ensures.items;
}
