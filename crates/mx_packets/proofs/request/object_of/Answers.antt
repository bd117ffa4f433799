use Rattle.std.proofs.Common.{◌≡◌, true, false, codes, ap, sym, ◌∙◌}
use Rattle.std.proofs.lemmas.List.{take_rest}
use Rattle.mx_packets.specs.declared.request.Object.TheVariants as O
use Rattle.mx_packets.specs.Requests.{begins_with, file_of, whole_of}
use Rattle.mx_packets.proofs.request.object_of.Goals as goal

pub returns-then-starts_with-2 : goal.returns-then-starts_with-2
returns-then-starts_with-2 c =
    let is-1 : begins_with c.args.rest.now (codes "features:read:") ≡ false = sym c.starts_with.ensures.value ∙ c.if-starts_with.false in
    let is-2 : begins_with c.args.rest.now (codes "threads:read:") ≡ true = sym c.starts_with-else-starts_with.ensures.value
    ∙ c.if-starts_with-2.true in
    rw (is-1, is-2) (c.whole_of.ensures ∙ ap (whole_of O.Threads) (take_rest c.args.rest.now 13))

pub returns-then-starts_with-3 : goal.returns-then-starts_with-3
returns-then-starts_with-3 c =
    let is-1 : begins_with c.args.rest.now (codes "features:read:") ≡ false = sym c.starts_with.ensures.value ∙ c.if-starts_with.false in
    let is-2 : begins_with c.args.rest.now (codes "threads:read:") ≡ false = sym c.starts_with-else-starts_with.ensures.value
    ∙ c.if-starts_with-2.false in
    let is-3 : begins_with c.args.rest.now (codes "exec-file:read:") ≡ true = sym c.starts_with-else-starts_with-2.ensures.value
    ∙ c.if-starts_with-3.true in
    rw (is-1, is-2, is-3) (c.file_of.ensures ∙ ap file_of (take_rest c.args.rest.now 15))

pub returns-then-starts_with-4 : goal.returns-then-starts_with-4
returns-then-starts_with-4 c =
    let is-1 : begins_with c.args.rest.now (codes "features:read:") ≡ false = sym c.starts_with.ensures.value ∙ c.if-starts_with.false in
    let is-2 : begins_with c.args.rest.now (codes "threads:read:") ≡ false = sym c.starts_with-else-starts_with.ensures.value
    ∙ c.if-starts_with-2.false in
    let is-3 : begins_with c.args.rest.now (codes "exec-file:read:") ≡ false = sym c.starts_with-else-starts_with-2.ensures.value
    ∙ c.if-starts_with-3.false in
    let is-4 : begins_with c.args.rest.now (codes "libraries:read:") ≡ true = sym c.starts_with-else-starts_with-3.ensures.value
    ∙ c.if-starts_with-4.true in
    rw (is-1, is-2, is-3, is-4) (c.whole_of-then-starts_with-4.ensures ∙ ap (whole_of O.Libraries) (take_rest c.args.rest.now 15))

pub returns-then-starts_with-5 : goal.returns-then-starts_with-5
returns-then-starts_with-5 c =
    let is-1 : begins_with c.args.rest.now (codes "features:read:") ≡ false = sym c.starts_with.ensures.value ∙ c.if-starts_with.false in
    let is-2 : begins_with c.args.rest.now (codes "threads:read:") ≡ false = sym c.starts_with-else-starts_with.ensures.value
    ∙ c.if-starts_with-2.false in
    let is-3 : begins_with c.args.rest.now (codes "exec-file:read:") ≡ false = sym c.starts_with-else-starts_with-2.ensures.value
    ∙ c.if-starts_with-3.false in
    let is-4 : begins_with c.args.rest.now (codes "libraries:read:") ≡ false = sym c.starts_with-else-starts_with-3.ensures.value
    ∙ c.if-starts_with-4.false in
    let is-5 : begins_with c.args.rest.now (codes "memory-map:read:") ≡ true = sym c.starts_with-else-starts_with-4.ensures.value
    ∙ c.if-starts_with-5.true in
    rw (is-1, is-2, is-3, is-4, is-5) (c.whole_of-then-starts_with-5.ensures ∙ ap (whole_of O.Memory) (take_rest c.args.rest.now 16))
