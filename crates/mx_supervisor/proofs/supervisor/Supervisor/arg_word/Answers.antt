use Rattle.std.proofs.Common.{◌≡◌, ℕ, ◌-◌, ◌*◌, ◌/◌, ◌%◌, ◌<◌, ◌≤◌, ◌==◌, ◌&&◌, Bool, true, false, Option, Some, None, IfSome, is_some}
use Rattle.std.proofs.Common.{if◌then◌else◌, refl, ap, sym, subst, ◌∙◌, arith, eq-eqb, ne_eqb}
use Rattle.std.proofs.lemmas.Bool.{and_left, and_parts, ltb-true, leb-true}
use Rattle.mx_words.specs.Ranges.{ram_base, address_of, in_ram, word_of}
use Rattle.mx_model.specs.Checks.{arg}
use Rattle.mx_model.specs.Serve.{arg_word}
use Rattle.mx_supervisor.proofs.supervisor.Supervisor.arg_word.Goals as goal

given : (b : Bool) (x : ℕ) → b ≡ is_some (if b then Some x else None)
given true x = refl
given false x = refl

there : (a w s : ℕ) (r : Option ℕ) → a % 4 ≡ 0 → w ≡ s → r ≡ word_of a w → ((a % 4 == 0) && in_ram a s) ≡ is_some r
there a w s r z e er =
    ap (λ (b : Bool). b && in_ram a s) (eq-eqb _ _ z) ∙ (ap (in_ram a) (sym e)
    ∙ (given (in_ram a w) ((a - ram_base) / 4) ∙ ap is_some (sym er)))

is-it : (b : Bool) (x : ℕ) → IfSome (if b then Some x else None) (λ w. x ≡ w)
is-it true x = refl
is-it false x = tt

inside : (a s : ℕ) (b : Bool) → a % 4 ≡ 0 → in_ram a s ≡ b →
    IfSome (if b then Some ((a - ram_base) / 4) else None) (λ w. (w < s) × (a ≡ address_of w))
inside a s true z e =
    let parts = and_parts _ _ e in
    let from : ram_base ≤ a = leb-true _ _ parts.0 in
    let below : a - ram_base < 4 * s = ltb-true _ _ parts.1 in
    (omega (arith, from, below), omega (arith, from, below, z))
inside a s false z e = tt

pub returns-then-addr-ne0-clause-there : goal.returns-then-addr-ne0-clause-there
returns-then-addr-ne0-clause-there g c = λ rest. and_left _ _ (ne_eqb _ _ c.if-addr-ne0.true)

pub returns-clause-there : goal.returns-clause-there
returns-clause-there g c = λ rest.
    there _ _ _ _ c.if-addr-ne0.false (c.words.ensures ∙ ap g.T.PermTables.size c.tables.ensures) c.word_of.ensures

pub returns-clause-word : goal.returns-clause-word
returns-clause-word g c =
    subst (λ (o : Option ℕ). IfSome o (λ w. arg_word c.args.call.now ≡ w)) (sym c.word_of.ensures) (is-it _ _)

pub returns-clause-inside : goal.returns-clause-inside
returns-clause-inside g c =
    let size = c.words.ensures ∙ ap g.T.PermTables.size c.tables.ensures in
    subst (λ (o : Option ℕ). IfSome o (λ w. (w < g.T.PermTables.size c.args.self.now.checker.tables) ×
    (arg c.args.call.now 0 ≡ address_of w)))
    (sym (c.word_of.ensures ∙ ap (word_of (arg c.args.call.now 0)) size)) (inside _ _ _ c.if-addr-ne0.false refl)

pub word_of-requires : goal.word_of-requires
word_of-requires g c =
    omega (arith, c.words.ensures ∙ ap g.T.PermTables.size c.tables.ensures, c.requires.few_words)
