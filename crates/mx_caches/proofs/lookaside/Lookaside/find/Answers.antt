use Rattle.std.proofs.Common.{◌≡◌, ◌+◌, ◌-◌, drop, take, refl, sym, ap, ◌∙◌, arith, None, Some}
use Rattle.mx_words.specs.Caches.{found_kept}
use Rattle.mx_caches.proofs.Entries.{found-append}
use Rattle.mx_caches.proofs.Ring.{window_runs}
use Rattle.mx_caches.proofs.lookaside.Lookaside.find.Goals as goal

pub returns-in-Some-clause-found : goal.returns-in-Some-clause-found
returns-in-Some-clause-found g c =
    let l = c.self.inside in
    let i = c.self.invariant in
    let run = c.min-run.result in
    let d = c.args.domain in
    let w = c.args.word in
    let first = take run (drop l.newest l.slots) in
    let rest = take (l.len - run) l.slots in
    let e : l.newest + run - l.newest ≡ run = omega arith in
    let found : found_kept first d w ≡ Some c.in-Some.span = sym (ap (λ n. found_kept (take n (drop l.newest l.slots)) d w) e)
    ∙ sym c.newest_in.ensures ∙ c.in-Some.is in
    rw (← c.self.view_is, window_runs l.newest l.len run l.slots i.1 (omega arith) i.0 (omega arith), found-append d w first rest, found)
    refl

pub returns-in-None-clause-found : goal.returns-in-None-clause-found
returns-in-None-clause-found g c =
    let l = c.self.inside in
    let i = c.self.invariant in
    let run = c.min-run.result in
    let d = c.args.domain in
    let w = c.args.word in
    let first = take run (drop l.newest l.slots) in
    let rest = take (l.len - run) l.slots in
    let e : l.newest + run - l.newest ≡ run = omega arith in
    let found : found_kept first d w ≡ None = sym (ap (λ n. found_kept (take n (drop l.newest l.slots)) d w) e) ∙ sym c.newest_in.ensures
    ∙ c.in-None.is in
    rw (← c.self.view_is, window_runs l.newest l.len run l.slots i.1 (omega arith) i.0 (omega arith), found-append d w first rest, found)
    c.newest_in-in-None.ensures
