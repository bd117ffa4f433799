use Rattle.std.proofs.Common.{◌≡◌, not, length}
use Rattle.std.proofs.lemmas.List.Filters.{FiltersInPlace}
use Rattle.mx_caches.specs.Window.{window}
use Rattle.mx_words.specs.Caches.{Entry, meets}
use Rattle.mx_caches.proofs.lookaside.Lookaside.drop_overlap.Given as goal

abbrev pub invariant-loop-i : goal.invariant-loop-i
invariant-loop-i g l =
    let before = l.initial.self-inside in
    let now = l.self-inside in
    record {
      newest : now.newest ≡ before.newest;
      len : now.len ≡ before.len;
      long : length now.slots ≡ 64;
      filtered : FiltersInPlace (λ (e : Entry). not (meets e.1 l.first l.count)) (window before.newest before.len before.slots)
          (window now.newest now.len now.slots) l.kept l.i;
    }
