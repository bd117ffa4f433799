use Rattle.std.proofs.Common.{◌≡◌, ℕ, ◌<◌, ◌≤◌, nat_lt, true, false, length}
use Rattle.std.proofs.lemmas.Bool.{lt-ltb, le-ltb}
use Rattle.mx_model.specs.Checks.{arg}
use Rattle.mx_supervisor.proofs.Modules.{module-heap, length-modules}
use Rattle.mx_model.specs.Serve.{serve_transfer}
use Rattle.mx_supervisor.proofs.Answering.{refuses, refuses-after, give-done}
use Rattle.mx_supervisor.proofs.supervisor.Supervisor.transfer.Goals as goal

above : (d m n : ℕ) → m ≡ n → m < d → nat_lt n d ≡ true
above d m n e h = lt-ltb n d (rw (← e) h)

below : (d m n : ℕ) → m ≡ n → d ≤ m → nat_lt n d ≡ false
below d m n e h = le-ltb n d (rw (← e) h)

pub returns-in_default : goal.returns-in_default
returns-in_default g c = refuses serve_transfer c.args.call.now _ 1 _ c.requires.sound c.refused.ensures
    (λ rest. rw (c.in_default.ensures.there rest))

pub returns-then-meets_heap : goal.returns-then-meets_heap
returns-then-meets_heap g c = refuses serve_transfer c.args.call.now _ 1 _ c.requires.sound c.refused-then-meets_heap.ensures
    (λ rest. rw (c.in-Some.ensures.there rest, module-heap, c.in-Some.ensures.range rest, c.meets_heap.ensures, c.if-meets_heap.true))

pub returns-then-domain-modules : goal.returns-then-domain-modules
returns-then-domain-modules g c = refuses serve_transfer c.args.call.now _ 3 _ c.requires.sound c.refused-then-domain-modules.ensures
    (λ rest. let many : nat_lt (length (g.T.PermTables.maps c.args.self.now.checker.tables)) (arg c.args.call.now 2) ≡ true =
    above _ _ _ c.modules.ensures c.if-domain-modules.true in
    rw (
      c.in-Some.ensures.there rest,
      module-heap,
      c.in-Some.ensures.range
          rest,
      c.meets_heap.ensures,
      c.if-meets_heap.false,
      length-modules,
      c.requires.sound.heaps,
      many,
    ))

pub returns-then-not-owns : goal.returns-then-not-owns
returns-then-not-owns g c = refuses serve_transfer c.args.call.now _ 2 _ c.requires.sound c.refused-then-not-owns.ensures
    (λ rest. let few : nat_lt (length (g.T.PermTables.maps c.args.self.now.checker.tables)) (arg c.args.call.now 2) ≡ false =
    below _ _ _ c.modules.ensures c.if-domain-modules.false in
    rw (
      c.in-Some.ensures.there rest,
      module-heap,
      c.in-Some.ensures.range
          rest,
      c.meets_heap.ensures,
      c.if-meets_heap.false,
      length-modules,
      c.requires.sound.heaps,
      few,
      c.owns.ensures
          rest,
      c.if-not-owns.true,
    ))

pub returns-then-not-try_give : goal.returns-then-not-try_give
returns-then-not-try_give g c = refuses-after serve_transfer c.args.call.now _ _ 14 _ c.requires.sound
    (c.try_give.ensures.kept c.if-not-try_give.true) c.refused-then-not-try_give.ensures
    (λ rest. let few : nat_lt (length (g.T.PermTables.maps c.args.self.now.checker.tables)) (arg c.args.call.now 2) ≡ false =
    below _ _ _ c.modules.ensures c.if-domain-modules.false in
    rw (
      c.in-Some.ensures.there rest,
      module-heap,
      c.in-Some.ensures.range
          rest,
      c.meets_heap.ensures,
      c.if-meets_heap.false,
      length-modules,
      c.requires.sound.heaps,
      few,
      c.owns.ensures
          rest,
      c.if-not-owns.false,
      c.try_give.ensures.fits rest,
      c.if-not-try_give.true,
    ))

pub returns : goal.returns
returns g c = give-done serve_transfer c.args.call.now _ _ _ _ c.requires.sound (c.try_give.ensures.done c.if-not-try_give.false)
    c.done.ensures
    (λ rest. let few : nat_lt (length (g.T.PermTables.maps c.args.self.now.checker.tables)) (arg c.args.call.now 2) ≡ false =
    below _ _ _ c.modules.ensures c.if-domain-modules.false in
    rw (
      c.in-Some.ensures.there rest,
      module-heap,
      c.in-Some.ensures.range
          rest,
      c.meets_heap.ensures,
      c.if-meets_heap.false,
      length-modules,
      c.requires.sound.heaps,
      few,
      c.owns.ensures
          rest,
      c.if-not-owns.false,
      c.try_give.ensures.fits rest,
      c.if-not-try_give.false,
    ))

pub meets_heap-requires : goal.meets_heap-requires
meets_heap-requires g c = (assumption c, c.requires.domain)

pub owns-requires : goal.owns-requires
owns-requires g c = (assumption c, (c.requires.sound, c.in-Some.ensures.inside))

pub try_give-requires : goal.try_give-requires
try_give-requires g c = (assumption c, (c.requires.sound, c.in-Some.ensures.inside))

pub arg_range-requires : goal.arg_range-requires
arg_range-requires g c = search
