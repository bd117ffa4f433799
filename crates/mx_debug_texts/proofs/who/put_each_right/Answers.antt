use Rattle.std.proofs.Common.{◌≡◌, ℕ, ◌+◌, ◌++◌, List, drop, flat_map, length, refl, ap, sym, subst, ◌∙◌, arith}
use Rattle.std.specs.List.{range_with_len}
use Rattle.mx_any.specs.Machines.{meaning}
use Rattle.mx_model.specs.Reads.{flat_reads}
use Rattle.mx_debug_texts.specs.Documents.{is_none, next_right, right_of, right_text}
use Rattle.mx_debug_texts.specs.Window.{further}
use Rattle.mx_debug_texts.proofs.RightLaws.{AreAny, any_more, any_told, without_first}
use Rattle.mx_debug_texts.proofs.WindowLaws.{further_none, numbers_more, puts_more}
use Rattle.mx_debug_texts.proofs.who.put_each_right.Goals as goal

pub loop-i-init : goal.loop-i-init
loop-i-init c = record { text = further_none c.args.window.now; some = refl }

pub loop-i-preserved : goal.loop-i-preserved
loop-i-preserved c =
    let plan = c.args.plan.now in
    let i = c.loop-i.i in
    let f = λ (d : ℕ). right_text plan d ((flat_reads (meaning c.args.machine.now)).perm d c.args.word) in
    let rights = flat_map f (range_with_len 1 i) in
    let perm = c.perm.result in
    let place : 1 + i ≡ i + 1 = omega arith in
    let right : f (1 + i) ≡ right_text plan (i + 1) perm = ap f place ∙ ap (right_text plan (i + 1)) (sym c.perm.ensures) in
    let more : flat_map f (range_with_len 1 (i + 1)) ≡ rights ++ right_text plan (i + 1) perm = numbers_more f 1 i
    ∙ ap (λ (r : List ℕ). rights ++ r) right in
    record {
      text = puts_more c.args.window.now c.loop-i.window c.put_right-some.new.window (drop 2 rights)
          (next_right plan (i + 1) perm c.loop-i.some) (drop 2 (flat_map f (range_with_len 1 (i + 1))))
          c.loop-i.invariant.text c.put_right-some.ensures.text
          (ap (drop 2) more ∙ without_first (is_none perm) c.loop-i.some rights (right_of plan (i + 1) perm) c.loop-i.invariant.some);
      some = subst (λ (r : List ℕ). AreAny c.put_right-some.result r) (sym more)
          (rw c.put_right-some.ensures.some (any_more (is_none perm) c.loop-i.some rights (right_of plan (i + 1) perm)
          c.loop-i.invariant.some));
    }

pub returns-clause-text : goal.returns-clause-text
returns-clause-text c =
    let f = λ (d : ℕ). right_text c.args.plan.now d ((flat_reads (meaning c.args.machine.now)).perm d c.args.word) in
    let all : c.loop-i.i ≡ length (meaning c.args.machine.now).core.modules = omega arith in
    c.loop-i.invariant.text ∙ ap (λ n. further c.args.window.now (drop 2 (flat_map f (range_with_len 1 n)))) all

pub returns-clause-some : goal.returns-clause-some
returns-clause-some c =
    let f = λ (d : ℕ). right_text c.args.plan.now d ((flat_reads (meaning c.args.machine.now)).perm d c.args.word) in
    let all : c.loop-i.i ≡ length (meaning c.args.machine.now).core.modules = omega arith in
    any_told c.loop-i.some (flat_map f (range_with_len 1 (length (meaning c.args.machine.now).core.modules)))
    (subst (λ n. AreAny c.loop-i.some (flat_map f (range_with_len 1 n))) all c.loop-i.invariant.some)
