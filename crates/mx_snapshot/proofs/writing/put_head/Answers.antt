use Rattle.std.proofs.Common.{◌≡◌, ℕ, [], ◌∷◌, length, sym, ap, ◌∙◌}
use Rattle.std.proofs.lemmas.Result.{err_from_is_err_and}
use Rattle.mx_words.specs.declared.tables.Need.{Need}
use Rattle.mx_image.specs.Image.{little_endian}
use Rattle.mx_model.specs.State.{Flat}
use Rattle.mx_any.specs.Machines.{meaning}
use Rattle.mx_snapshot.specs.Spelling.{head_bytes, kind_number, numbers}
use Rattle.mx_tail.proofs.PassLaws.{passes_next, passes_stop, passes_last, passes_same}
use Rattle.mx_snapshot.proofs.writing.put_head.Goals as goal

-- the numbers of the head, by what is told of machine and plan
first_told : (f : Flat) (words kind : ℕ) (limit : Need) → words ≡ f.core.size → kind ≡ kind_number f.core.kind → limit ≡ f.core.limit
    → numbers (words ∷ kind ∷ limit.upper ∷ limit.leaf ∷ limit.spill ∷ [])
    ≡ numbers (f.core.size ∷ kind_number f.core.kind ∷ f.core.limit.upper ∷ f.core.limit.leaf ∷ f.core.limit.spill ∷ [])
first_told f words kind limit w k l =
    ap (λ (n : ℕ). numbers (n ∷ kind ∷ limit.upper ∷ limit.leaf ∷ limit.spill ∷ [])) w
    ∙ ap (λ (n : ℕ). numbers (f.core.size ∷ n ∷ limit.upper ∷ limit.leaf ∷ limit.spill ∷ [])) k
    ∙ ap (λ (n : Need). numbers (f.core.size ∷ kind_number f.core.kind ∷ n.upper ∷ n.leaf ∷ n.spill ∷ [])) l

next_told : (f : Flat) (asked buffer quantum modules harts : ℕ) → buffer ≡ f.core.buffer → quantum ≡ asked → modules ≡ length f.core.modules
    → harts ≡ length f.core.harts
    → numbers (buffer ∷ quantum ∷ modules ∷ harts ∷ []) ≡ numbers (f.core.buffer ∷ asked ∷ length f.core.modules ∷ length f.core.harts ∷ [])
next_told f asked buffer quantum modules harts b q m h =
    ap (λ (n : ℕ). numbers (n ∷ quantum ∷ modules ∷ harts ∷ [])) b ∙ ap (λ (n : ℕ). numbers (f.core.buffer ∷ n ∷ modules ∷ harts ∷ [])) q
    ∙ ap (λ (n : ℕ). numbers (f.core.buffer ∷ asked ∷ n ∷ harts ∷ [])) m
    ∙ ap (λ (n : ℕ). numbers (f.core.buffer ∷ asked ∷ length f.core.modules ∷ n ∷ [])) h

pub returns-in_err-put_bytes : goal.returns-in_err-put_bytes
unfolding head_bytes
returns-in_err-put_bytes g c =
    let p = err_from_is_err_and c.from_residual.result c.from_residual.ensures.1 in
    rw (p.1, p.2) (passes_stop _ _ c.in_err-put_bytes.ensures)

pub returns-in_err-put_numbers : goal.returns-in_err-put_numbers
unfolding head_bytes
returns-in_err-put_numbers g c =
    let p = err_from_is_err_and c.from_residual-in_err-put_numbers.result c.from_residual-in_err-put_numbers.ensures.1 in
    rw (p.1, p.2) (passes_next c.in_ok-put_bytes.ensures (passes_stop _ _
    (passes_same (first_told (meaning c.args.machine.now) c.words.result c.kind_number.result c.limit-limit.result c.words.ensures
    (c.kind_number.ensures ∙ ap kind_number (c.kind.ensures ∙ sym c.requires.kind)) (c.limit-limit.ensures.value
    ∙ sym c.requires.limit)) c.in_err-put_numbers.ensures)))

pub returns-in_err-put_numbers-2 : goal.returns-in_err-put_numbers-2
unfolding head_bytes
returns-in_err-put_numbers-2 g c =
    let p = err_from_is_err_and c.from_residual-in_err-put_numbers-2.result c.from_residual-in_err-put_numbers-2.ensures.1 in
    rw (p.1, p.2) (passes_next c.in_ok-put_bytes.ensures (passes_next
    (passes_same (first_told (meaning c.args.machine.now) c.words.result c.kind_number.result c.limit-limit.result c.words.ensures
    (c.kind_number.ensures ∙ ap kind_number (c.kind.ensures ∙ sym c.requires.kind)) (c.limit-limit.ensures.value
    ∙ sym c.requires.limit)) c.in_ok-put_numbers.ensures)
    (passes_stop _ _ (passes_same (next_told (meaning c.args.machine.now) c.args.plan.now.quantum c.lookaside.result c.quantum.result
    c.modules.result c.harts.result (c.lookaside.ensures.value ∙ sym c.requires.lookaside) c.quantum.ensures.value c.modules.ensures
    c.harts.ensures) c.in_err-put_numbers-2.ensures))))

pub returns : goal.returns
unfolding head_bytes
returns g c = passes_next c.in_ok-put_bytes.ensures (passes_next
    (passes_same (first_told (meaning c.args.machine.now) c.words.result c.kind_number.result c.limit-limit.result c.words.ensures
    (c.kind_number.ensures ∙ ap kind_number (c.kind.ensures ∙ sym c.requires.kind)) (c.limit-limit.ensures.value ∙ sym c.requires.limit))
    c.in_ok-put_numbers.ensures) (passes_next (passes_same (next_told (meaning c.args.machine.now) c.args.plan.now.quantum
    c.lookaside.result c.quantum.result c.modules.result c.harts.result (c.lookaside.ensures.value ∙ sym c.requires.lookaside)
    c.quantum.ensures.value c.modules.ensures c.harts.ensures) c.in_ok-put_numbers-2.ensures)
    (passes_last (passes_same (ap (little_endian 8) c.steps.ensures) c.put_long.ensures))))
