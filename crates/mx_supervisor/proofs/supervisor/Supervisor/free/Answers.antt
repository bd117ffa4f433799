use Rattle.std.proofs.Common.{◌≡◌, ℕ, ◌≤◌, false, ap, arith, length, le_trans}
use Rattle.mx_words.specs.Announced.{names_range}
use Rattle.mx_model.specs.Serve.{serve_free, none_at_all}
use Rattle.mx_supervisor.specs.Heaps.{heap_at}
use Rattle.mx_supervisor.specs.Parts.{Parts, parts_of}
use Rattle.mx_supervisor.proofs.Answering.{refuses, refuses-after}
use Rattle.mx_supervisor.proofs.Blocks.{free-done}
use Rattle.mx_supervisor.proofs.Changes.{lawful-of, in-of, range-heap, gives-in}
use Rattle.mx_supervisor.proofs.supervisor.Supervisor.free.Goals as goal

there-at : (d a b m : ℕ) → a ≡ b → b ≡ m → d ≤ m → d ≤ a
there-at d a b m e f h = omega (arith, e, f, h)

pub returns-in_default : goal.returns-in_default
returns-in_default g c = refuses serve_free c.args.call.now _ 8 _ c.requires.sound c.refused.ensures
    (λ rest. rw (c.in_default.ensures.there rest))

pub try_change-requires : goal.try_change-requires
try_change-requires g c =
    let p = parts_of g.T.PermTables c.args.self.now in
    let gives = gives-in _ _ _ _ _ _ c.modules.ensures c.none_at_all-change.ensures in
    let named : names_range c.args.call.now.number ≡ false = ap names_range c.requires.number in
    let range = range-heap p c.args.call.now named in
    let low = c.in-Some.ensures.inside.0 in let high = c.in-Some.ensures.inside.1 in let area =
    c.requires.sound.areas c.args.call.now.domain in (
      assumption c,
      (
        c.requires.announced,
        (
          lawful-of _ _ _ _ _ _ gives c.in-Some.ensures.some (le_trans high area),
          rw range (in-of _ _ _ _ _ (
            (heap_at p.heaps c.args.call.now.domain).area.first,
            (heap_at p.heaps c.args.call.now.domain).area.count,
          ) gives low high),
        ),
      ),
    )

pub returns-then-not-try_change : goal.returns-then-not-try_change
returns-then-not-try_change g c =
    refuses-after serve_free c.args.call.now _ _ 5 _ c.requires.sound (c.try_change.ensures.kept c.if-not-try_change.true)
    c.refused-then-not-try_change.ensures
    (λ rest. rw (
      c.in-Some.ensures.there rest,
      c.in-Some.ensures.word,
      c.try_change.ensures.fits _ _ _ (gives-in _ _ _ _ _ _ c.modules.ensures c.none_at_all-change.ensures),
      c.if-not-try_change.true,
    ))

pub free-requires-clause-there : goal.free-requires-clause-there
free-requires-clause-there g c =
    let q = c.try_change.ensures.done _ _ _ (gives-in _ _ _ _ _ _ c.modules.ensures c.none_at_all-change.ensures) c.if-not-try_change.false
    in
    there-at _ _ _ _ (ap (λ (x : Parts). length x.heaps) q) c.requires.sound.heaps c.requires.domain.last

pub returns : goal.returns
returns g c =
    let gives = gives-in _ _ _ _ _ _ c.modules.ensures c.none_at_all-change.ensures in
    let q = parts_of g.T.PermTables c.try_change.new.self in
    let p = parts_of g.T.PermTables c.args.self.now in
    free-done c.args.call.now p q (record q { heaps = c.free.new.self }) c.in-Some.first c.in-Some.count none_at_all c.done.result
    c.requires.sound (c.try_change.ensures.done _ _ _ gives c.if-not-try_change.false)
    (ap (λ hs. record q { heaps = hs }) c.free.ensures) c.done.ensures
    (λ rest. rw (c.in-Some.ensures.there rest, c.in-Some.ensures.word, c.try_change.ensures.fits _ _ _ gives, c.if-not-try_change.false))

pub arg_block-requires : goal.arg_block-requires
arg_block-requires g c = search
