use Rattle.std.proofs.Common.{◌≡◌, ℕ, ◌*◌, ◌<◌, List, refl, ap, sym, subst, ◌∙◌, Some}
use Rattle.mx_words.specs.Bytes.{number_at, put_at}
use Rattle.mx_model.specs.Checks.{arg}
use Rattle.mx_model.specs.Reads.{flat_reads}
use Rattle.mx_model.specs.Serve.{serve_exchange, answers, code}
use Rattle.mx_model.specs.State.{Core}
use Rattle.mx_model.proofs.ListLaws.{length-put_at}
use Rattle.mx_supervisor.specs.Parts.{Parts, parts_of, core_of, flat_of, IsSound}
use Rattle.mx_supervisor.proofs.Answering.{refuses, harts-alone, looks-served, ram-done, with-harts}
use Rattle.mx_supervisor.proofs.Writing.{exchange-denied, exchange-done}
use Rattle.mx_supervisor.proofs.supervisor.Supervisor.exchange.Goals as goal

pub returns-in_default : goal.returns-in_default
returns-in_default g c = refuses serve_exchange c.args.call.now _ 1 _ c.requires.sound c.refused.ensures (λ rest.
    rw (c.in_default.ensures.there rest))

pub returns-then-not-look : goal.returns-then-not-look
returns-then-not-look g c =
    let p = parts_of g.T.PermTables c.args.self.now in
    let look = c.look.ensures.looked in
    harts-alone serve_exchange c.args.call.now p _ _ _ c.requires.sound look.same look.harts (λ e. refl)
    (λ rest bars. rw c.refused-then-not-look.ensures (looks-served rest p _ (code 12) _ _ look.same
    (exchange-denied (flat_reads (flat_of rest p)) (core_of rest p) c.args.call.now c.in-Some.word (c.in-Some.ensures.there rest)
    c.in-Some.ensures.word
    (c.look.ensures.answer ∙ c.if-not-look.true)
    ∙ ap (λ (s : Core). answers s (code 12)) (sym (look.core rest bars)))
    refl))

pub put-old-requires : goal.put-old-requires
put-old-requires g c =
    let p = parts_of g.T.PermTables c.args.self.now in
    let q = parts_of g.T.PermTables c.look.new.self in
    let same : q ≡ record p { harts = q.harts } = c.look.ensures.looked.same in
    let sound : IsSound q = subst (λ (x : Parts). IsSound x) (sym same) (with-harts p q.harts c.requires.sound) in
    let inside : c.in-Some.word < q.size = subst (λ (n : ℕ). c.in-Some.word < n) (sym (ap (λ (x : Parts). x.size) same))
    c.in-Some.ensures.inside.0 in
    (assumption c, (sound, inside))

pub returns : goal.returns
returns g c =
    let call = c.args.call.now in
    let w = c.in-Some.word in
    let p = parts_of g.T.PermTables c.args.self.now in
    let q = parts_of g.T.PermTables c.look.new.self in
    let t = parts_of g.T.PermTables c.put-old.new.self in
    let look = c.look.ensures.looked in
    let ram = put_at p.ram (4 * w) 4 (arg call 1) in
    let same_ram : q.ram ≡ p.ram = ap (λ (x : Parts). x.ram) look.same in
    let made : t ≡ record q { ram = ram } = c.put-old.ensures.put
    ∙ ap (λ (r : List ℕ). record q { ram = put_at r (4 * w) 4 (arg call 1) }) same_ram in
    let old : number_at p.ram (4 * w) 4 ≡ c.put-old.result = sym (c.put-old.ensures.old
    ∙ ap (λ (r : List ℕ). number_at r (4 * w) 4) same_ram) in
    ram-done serve_exchange call p q t ram _ c.requires.sound look.same look.harts made (length-put_at 4 p.ram (4 * w) (arg call 1)) refl
    (λ rest bars.
    exchange-done (flat_reads (flat_of rest p)) (core_of rest p) call w (c.in-Some.ensures.there rest) c.in-Some.ensures.word
    (c.look.ensures.answer ∙ c.if-not-look.false)
    ∙ ap (λ (s : Core). record (answers (record s { ram = ram }) 0) { a1 = Some (number_at p.ram (4 * w) 4) }) (sym (look.core rest bars))
    ∙ ap (λ n. record (answers (record (core_of rest q) { ram = ram }) 0) { a1 = Some n }) old)

pub arg_word-requires : goal.arg_word-requires
arg_word-requires g c = search

pub look-requires : goal.look-requires
look-requires g c =
    (assumption c, (c.requires.sound, (c.requires.domain, (c.requires.may, c.in-Some.ensures.inside.0))))
