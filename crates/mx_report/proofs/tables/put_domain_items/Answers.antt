use Rattle.std.proofs.Common.{rules, ◌≡◌, ◌+◌, ◌-◌, ◌<◌, ◌≤◌, length, flat_map, sym, ap, ◌∙◌, arith}
use Rattle.std.specs.List.{range_with_len}
use Rattle.std.proofs.lemmas.Result.{err_from_is_err_and}
use Rattle.mx_words.specs.declared.tables.Shown.{Shown}
use Rattle.mx_words.specs.Reach.{stored}
use Rattle.mx_model.specs.Reads.{map_in}
use Rattle.mx_report.specs.Texts.{item_text, shown_text, shown_lines}
use Rattle.mx_tail.proofs.PassLaws.{passes_same, coming_same, coming_next, coming_stop, coming_numbers, coming_range}
use Rattle.mx_report.proofs.ItemLaws.{items_from, next_begins, stored_round, shown_round}
use Rattle.mx_report.proofs.tables.put_domain_items.Goals as goal

pub items-init : goal.items-init
unfolding shown_lines
items-init g c =
    let f = c.args.machine.now in
    let m = map_in f.core.size f.maps c.args.domain in
    record {
      within = omega arith;
      begins = λ lt. let left = (stored_round f.core.kind m 0 lt).left in omega arith;
      coming = coming_range _ _ (item_text c.args.domain f.core.kind m) 0 (length m) (length m - 0) (omega arith);
    }

pub put_item-requires : goal.put_item-requires
put_item-requires g c =
    let f = c.args.machine.now in
    let whole = c.machine_is_valid.ensures.whole c.args.domain c.requires in
    let lt : c.items.word < f.core.size = omega (arith, c.items-test.true, c.words.ensures) in
    let inside = (shown_round f c.args.domain c.items.word c.shown-item.result c.shown-item.ensures whole lt).inside in
    let fits : c.shown-item.result.first + c.shown-item.result.count ≤ f.core.size = omega (arith, whole, inside) in
    (search, (c.requires, fits))

pub returns-in_err-put_item : goal.returns-in_err-put_item
returns-in_err-put_item g c =
    let f = c.args.machine.now in
    let m = map_in f.core.size f.maps c.args.domain in
    let whole = c.machine_is_valid.ensures.whole c.args.domain c.requires in
    let lt : c.items.word < length m = omega (arith, c.items-test.true, c.words.ensures, whole) in
    let next = (stored f.core.kind m c.items.word).first + (stored f.core.kind m c.items.word).count in
    let p = err_from_is_err_and c.from_residual.result c.from_residual.ensures.1 in
    rw (p.1, p.2)
    (coming_stop (flat_map (item_text c.args.domain f.core.kind m) (range_with_len next (length m - next)))
    (coming_same (items_from c.args.domain f.core.kind m c.items.word lt (c.items.invariant.begins lt)) c.items.invariant.coming)
    (passes_same (ap (shown_text c.args.domain m) c.shown-item.ensures) c.in_err-put_item.ensures))

pub overflow_add-word : goal.overflow_add-word
overflow_add-word g c =
    let f = c.args.machine.now in
    let whole = c.machine_is_valid.ensures.whole c.args.domain c.requires in
    let lt : c.items.word < f.core.size = omega (arith, c.items-test.true, c.words.ensures) in
    let inside = (shown_round f c.args.domain c.items.word c.shown-item.result c.shown-item.ensures whole lt).inside in
    let few = c.machine_is_valid.ensures.valid.few_words in
    omega (arith, whole, inside, few)

pub items-smaller : goal.items-smaller
items-smaller g c =
    let f = c.args.machine.now in
    let whole = c.machine_is_valid.ensures.whole c.args.domain c.requires in
    let lt : c.items.word < f.core.size = omega (arith, c.items-test.true, c.words.ensures) in
    let right = (shown_round f c.args.domain c.items.word c.shown-item.result c.shown-item.ensures whole lt).right in
    omega arith

pub items-preserved : goal.items-preserved
items-preserved g c =
    let f = c.args.machine.now in
    let m = map_in f.core.size f.maps c.args.domain in
    let whole = c.machine_is_valid.ensures.whole c.args.domain c.requires in
    let small : c.items.word < f.core.size = omega (arith, c.items-test.true, c.words.ensures) in
    let inside = (shown_round f c.args.domain c.items.word c.shown-item.result c.shown-item.ensures whole small).inside in
    let lt : c.items.word < length m = omega (arith, whole) in
    let at = c.items.invariant.begins lt in
    let next : (stored f.core.kind m c.items.word).first + (stored f.core.kind m c.items.word).count ≡ c.shown-item.result.first
    + c.shown-item.result.count =
    ap (λ (x : Shown). x.first + x.count) (sym c.shown-item.ensures) in
    record {
      within = omega (arith, whole, inside);
      begins = λ more. sym (ap (λ w. (stored f.core.kind m w).first) next)
          ∙ next_begins c.args.domain f.core.kind m c.items.word lt at (omega (arith, next)) ∙ next;
      coming = coming_same (ap (λ w. flat_map (item_text c.args.domain f.core.kind m) (range_with_len w (length m - w))) next)
          (coming_next (coming_same (items_from c.args.domain f.core.kind m c.items.word lt at) c.items.invariant.coming)
          (passes_same (ap (shown_text c.args.domain m) c.shown-item.ensures) c.in_ok-put_item.ensures));
    }

pub returns : goal.returns
returns g c =
    let f = c.args.machine.now in
    let m = map_in f.core.size f.maps c.args.domain in
    let whole = c.machine_is_valid.ensures.whole c.args.domain c.requires in
    coming_numbers (item_text c.args.domain f.core.kind m) c.items.word (length m - c.items.word)
    (omega (arith, c.items-test.false, c.words.ensures, whole)) c.items.invariant.coming

pub machine_is_valid-requires : goal.machine_is_valid-requires
machine_is_valid-requires g c = search

pub words-requires : goal.words-requires
words-requires g c = search

pub shown-item-requires : goal.shown-item-requires
shown-item-requires g c = (search, search rules)
