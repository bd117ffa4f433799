use Rattle.std.proofs.Common.{◌≡◌, List, ℕ, true, false, codes, ap, sym, ◌∙◌}
use Rattle.std.proofs.lemmas.List.{take_rest}
use Rattle.mx_packets.specs.declared.request.Request.TheVariants as R
use Rattle.mx_packets.specs.Requests.{alone, begins_with, object_of}
use Rattle.mx_packets.proofs.request.by_query.Goals as goal

pub returns-then-starts_with-5 : goal.returns-then-starts_with-5
returns-then-starts_with-5 c =
    let is-1 : begins_with c.args.rest.now (codes "Supported") ≡ false = sym c.starts_with.ensures.value ∙ c.if-starts_with.false in
    let is-2 : begins_with c.args.rest.now (codes "Attached") ≡ false = sym c.starts_with-else-starts_with.ensures.value
    ∙ c.if-starts_with-2.false in
    let is-3 : begins_with c.args.rest.now (codes "fThreadInfo") ≡ false = sym c.starts_with-else-starts_with-2.ensures.value
    ∙ c.if-starts_with-3.false in
    let is-4 : begins_with c.args.rest.now (codes "sThreadInfo") ≡ false = sym c.starts_with-else-starts_with-3.ensures.value
    ∙ c.if-starts_with-4.false in
    let is-5 : begins_with c.args.rest.now (codes "Xfer:") ≡ true = sym c.starts_with-else-starts_with-4.ensures.value
    ∙ c.if-starts_with-5.true in
    rw (is-1, is-2, is-3, is-4, is-5) (c.object_of.ensures ∙ ap object_of (take_rest c.args.rest.now 5))

pub returns-then-starts_with-6 : goal.returns-then-starts_with-6
returns-then-starts_with-6 c =
    let is-1 : begins_with c.args.rest.now (codes "Supported") ≡ false = sym c.starts_with.ensures.value ∙ c.if-starts_with.false in
    let is-2 : begins_with c.args.rest.now (codes "Attached") ≡ false = sym c.starts_with-else-starts_with.ensures.value
    ∙ c.if-starts_with-2.false in
    let is-3 : begins_with c.args.rest.now (codes "fThreadInfo") ≡ false = sym c.starts_with-else-starts_with-2.ensures.value
    ∙ c.if-starts_with-3.false in
    let is-4 : begins_with c.args.rest.now (codes "sThreadInfo") ≡ false = sym c.starts_with-else-starts_with-3.ensures.value
    ∙ c.if-starts_with-4.false in
    let is-5 : begins_with c.args.rest.now (codes "Xfer:") ≡ false = sym c.starts_with-else-starts_with-4.ensures.value
    ∙ c.if-starts_with-5.false in
    let is-6 : begins_with c.args.rest.now (codes "C") ≡ true = sym c.starts_with-else-starts_with-5.ensures.value
    ∙ c.if-starts_with-6.true in
    rw (is-1, is-2, is-3, is-4, is-5, is-6) (c.alone.ensures ∙ ap (λ (x : List ℕ). alone x R.Current) (take_rest c.args.rest.now 1))
