use Rattle.std.proofs.Common.{◌≡◌, ℕ, ◌+◌, ◌-◌, ◌*◌, ◌/◌, ◌%◌, ◌<◌, ◌≤◌, Bool, true, false, not, Option, Some, None, IfSome, is_some}
use Rattle.std.proofs.Common.{if◌then◌else◌, refl, ap, sym, subst, ◌∙◌, arith}
use Rattle.std.specs.Prelude.{unwrap_or}
use Rattle.std.proofs.lemmas.Bool.{and_parts, ltb-true, leb-true, eqb-true}
use Rattle.mx_words.specs.Ranges.{ram_base, is_range, word_range}
use Rattle.mx_model.specs.Checks.{arg}
use Rattle.mx_model.specs.Serve.{arg_range}
use Rattle.mx_model.specs.State.{Core}
use Rattle.mx_supervisor.specs.Parts.{parts_of, core_of}
use Rattle.mx_supervisor.proofs.supervisor.Supervisor.arg_range.Goals as goal

given : (b : Bool) (x : ℕ × ℕ) → b ≡ is_some (if b then Some x else None)
given true x = refl
given false x = refl

is-it : (b : Bool) (x : ℕ × ℕ) →
    IfSome {T = ℕ × ℕ} (if b then Some x else None) (λ r. (rest : Core) → unwrap_or (if b then Some x else None) (0, 0) ≡ r)
is-it true x = λ rest. refl
is-it false x = tt

inside : (a n s : ℕ) (b : Bool) → is_range a n s ≡ b →
    IfSome {T = ℕ × ℕ} (if b then Some ((a - ram_base) / 4, (n + 3) / 4) else None) (λ r. (0 < r.1) × (r.0 + r.1 ≤ s))
inside a n s true e =
    let three = and_parts _ _ e in
    let two = and_parts _ _ three.0 in
    let one = and_parts _ _ two.0 in
    let has : 0 < n = ltb-true _ _ one.0 in
    let whole : a % 4 ≡ 0 = eqb-true _ _ one.1 in
    let low : ram_base ≤ a = leb-true _ _ two.1 in
    let high : a + n ≤ ram_base + 4 * s = leb-true _ _ three.1 in
    (omega (arith, has), omega (arith, has, whole, low, high))
inside a n s false e = tt

pub returns-clause-there : goal.returns-clause-there
returns-clause-there g c = λ rest.
    let size = c.words.ensures ∙ ap g.T.PermTables.size c.tables.ensures in
    let e = c.word_range.ensures ∙ ap (word_range (arg c.args.call.now 0) (arg c.args.call.now 1)) size in
    ap not (given _ _ ∙ ap is_some (sym e))

pub returns-clause-range : goal.returns-clause-range
returns-clause-range g c =
    let size = c.words.ensures ∙ ap g.T.PermTables.size c.tables.ensures in
    let e = c.word_range.ensures ∙ ap (word_range (arg c.args.call.now 0) (arg c.args.call.now 1)) size in
    subst (λ (o : Option (ℕ × ℕ)). IfSome {T = ℕ × ℕ} o
    (λ r. (rest : Core) → arg_range (core_of rest (parts_of g.T.PermTables c.args.self.now)) c.args.call.now ≡ r))
    (sym e) (is-it _ _)

pub returns-clause-inside : goal.returns-clause-inside
returns-clause-inside g c =
    let size = c.words.ensures ∙ ap g.T.PermTables.size c.tables.ensures in
    let e = c.word_range.ensures ∙ ap (word_range (arg c.args.call.now 0) (arg c.args.call.now 1)) size in
    subst (λ (o : Option (ℕ × ℕ)). IfSome {T = ℕ × ℕ} o
    (λ r. (0 < r.1) × (r.0 + r.1 ≤ g.T.PermTables.size c.args.self.now.checker.tables))) (sym e)
    (inside (arg c.args.call.now 0) (arg c.args.call.now 1) (g.T.PermTables.size c.args.self.now.checker.tables) _ refl)

pub word_range-requires : goal.word_range-requires
word_range-requires g c =
    omega (arith, c.words.ensures ∙ ap g.T.PermTables.size c.tables.ensures, c.requires.few_words)
