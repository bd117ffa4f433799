use Rattle.std.proofs.Common.{◌∙◌, ◌≤◌, ap, sym, subst, length, map, Err}
use Rattle.mx_words.specs.Need.{within}
use Rattle.mx_table.specs.Tables.{row_map}
use Rattle.mx_boot.specs.Boot.{TooFull, limit_of}
use Rattle.mx_boot.proofs.Fitting.{boot-fits, boot-full, fits-are, length-rows, need-is}
use Rattle.mx_boot.proofs.tables.tables.Goals as goal

pub build-requires-clause-some_rows : goal.build-requires-clause-some_rows
build-requires-clause-some_rows g c =
    let count = length-rows c.args.plan.now c.args.images.now c.in-Ok.rows.items c.in-Ok.ensures.maps in
    subst (λ n. 1 ≤ n) (sym (ap length c.as_slice.ensures.value ∙ count)) c.plan_is_in_range.ensures.module_count.0

pub build-requires-clause-few_rows : goal.build-requires-clause-few_rows
build-requires-clause-few_rows g c =
    let count = length-rows c.args.plan.now c.args.images.now c.in-Ok.rows.items c.in-Ok.ensures.maps in
    subst (λ n. n ≤ 63) (sym (ap length c.as_slice.ensures.value ∙ count)) c.plan_is_in_range.ensures.module_count.1

pub returns-in-Ok-build-clause-boot : goal.returns-in-Ok-build-clause-boot
returns-in-Ok-build-clause-boot g c = λ inputs.
    let same = ap (map (row_map c.ram_words.result)) c.as_slice.ensures.value
    ∙ ap (λ n. map (row_map n) c.in-Ok.rows.items) c.ram_words.ensures ∙ c.in-Ok.ensures.maps in
    boot-fits c.args.plan.now c.args.images.now inputs c.requires.clear
    (sym (fits-are c.args.plan.now c.args.images.now g.T.PermTables.kind c.limit-limit.result _ c.requires.kind c.limit-limit.ensures.limit
    (c.in-Ok-build.ensures.maps ∙ same)) ∙ c.in-Ok-build.ensures.fits)

pub returns-in-Err-TablesFull-clause-refused : goal.returns-in-Err-TablesFull-clause-refused
returns-in-Err-TablesFull-clause-refused g c = λ inputs.
    let plan = c.args.plan.now in
    let images = c.args.images.now in
    let same = ap (map (row_map c.ram_words.result)) c.as_slice.ensures.value
    ∙ ap (λ n. map (row_map n) c.in-Ok.rows.items) c.ram_words.ensures ∙ c.in-Ok.ensures.maps in
    let told = rw c.in-Err-TablesFull.field-0-is at c.in-Err-TablesFull.ensures.refused in
    let need = told.0 ∙ need-is plan images g.T.PermTables.kind _ c.requires.kind same in
    boot-full plan images inputs c.requires.clear (sym (ap (λ n. within n c.limit-limit.result) need
    ∙ ap (within _) c.limit-limit.ensures.limit) ∙ told.1)
    ∙ ap (λ n. Err (TooFull n (limit_of plan))) (sym need) ∙ ap (λ l. Err (TooFull c.in-Err-TablesFull.need l))
    (sym c.limit-limit.ensures.limit)
