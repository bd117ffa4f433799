use Rattle.std.proofs.Common.{◌≡◌, ◌+◌, ◌-◌, ◌*◌, ◌/◌, ◌%◌, ◌<◌, ◌≤◌, ℕ, min, length, sym, ap, ◌∙◌, subst, arith}
use Rattle.mx_words.proofs.NumberLaws.{from_number-number}
use Rattle.mx_trie.specs.Digits.{numbered}
use Rattle.mx_trie.specs.Leaf.{form_reach}
use Rattle.mx_trie.specs.Walk.{vector_perm}
use Rattle.mx_trie.specs.Steps.{IsBeforeEighth, IsBehindEighth}
use Rattle.mx_trie.proofs.FlatLaws.{flat-spill}
use Rattle.mx_trie.proofs.VectorEntries.{vector-line-out, vector-line-in}
use Rattle.mx_trie.proofs.page.line_of_vector.Goals as goal

pub returns-then-begin-words-clause-none : goal.returns-then-begin-words-clause-none
returns-then-begin-words-clause-none g c =
    flat-spill g.L.LeafForm.kind g.met.L.LeafForm.trie c.perm_in-perm.result 0 0 0 c.flat.result (c.flat.ensures 0)

pub returns-then-begin-words-clause-line : goal.returns-then-begin-words-clause-line
returns-then-begin-words-clause-line g c = λ m spill long known even is.
    let told : vector_perm c.args.entry (c.args.k / 8) ≡ c.perm_in-perm.result =
    ap numbered (sym c.perm_in-perm.ensures) ∙ from_number-number c.perm_in-perm.result in
    let past : length m ≤ (c.args.page * 64 + c.args.k) * 16 = omega (arith, long, c.if-begin-words.true) in
    vector-line-out g.L.LeafForm.kind g.met.L.LeafForm.trie m spill c.args.page c.args.entry c.args.k c.requires.k even is
    c.perm_in-perm.result told c.flat.result past c.flat.ensures

pub returns-clause-none : goal.returns-clause-none
returns-clause-none g c =
    flat-spill g.L.LeafForm.kind g.met.L.LeafForm.trie c.perm_in-perm.result c.min-left.result c.min.result 0 c.flat-2.result
    (c.flat-2.ensures 0)

pub returns-clause-line : goal.returns-clause-line
returns-clause-line g c = λ m spill long known even is.
    let told : vector_perm c.args.entry (c.args.k / 8) ≡ c.perm_in-perm.result =
    ap numbered (sym c.perm_in-perm.ensures) ∙ from_number-number c.perm_in-perm.result in
    let within : (c.args.page * 64 + c.args.k) * 16 < length m = omega (arith, long, c.if-begin-words.false) in
    let before : IsBeforeEighth c.args.entry (c.args.k / 8) c.args.outer.left (form_reach g.L.LeafForm.kind) c.before_eighth-before.result =
    subst (λ (n : ℕ). IsBeforeEighth c.args.entry (c.args.k / 8) c.args.outer.left n c.before_eighth-before.result) (c.REACH.ensures
    ∙ g.met.L.LeafForm.reach) c.before_eighth-before.ensures in
    let behind : IsBehindEighth c.args.entry (c.args.k / 8) c.args.outer.right (form_reach g.L.LeafForm.kind)
    c.behind_eighth-behind.result =
    subst (λ (n : ℕ). IsBehindEighth c.args.entry (c.args.k / 8) c.args.outer.right n c.behind_eighth-behind.result) (c.REACH-2.ensures
    ∙ g.met.L.LeafForm.reach) c.behind_eighth-behind.ensures in
    let left : c.min-left.result ≡ min (c.args.k % 8 * 16 + c.before_eighth-before.result) (form_reach g.L.LeafForm.kind) =
    c.min-left.ensures ∙ ap (min (c.args.k % 8 * 16 + c.before_eighth-before.result)) (c.REACH-3.ensures ∙ g.met.L.LeafForm.reach) in
    let right : c.min-right.result ≡ min ((7 - c.args.k % 8) * 16 + c.behind_eighth-behind.result) (form_reach g.L.LeafForm.kind) =
    c.min-right.ensures ∙ ap (min ((7 - c.args.k % 8) * 16 + c.behind_eighth-behind.result)) (c.REACH-4.ensures ∙ g.met.L.LeafForm.reach) in
    let rest : c.saturating_sub-rest.result ≡ length m - ((c.args.page * 64 + c.args.k) * 16 + 16) =
    c.saturating_sub-rest.ensures ∙ ap (λ n. n - ((c.args.page * 64 + c.args.k) * 16 + 16)) (sym long) in
    vector-line-in g.L.LeafForm.kind g.met.L.LeafForm.trie m spill c.args.page c.args.entry c.args.k c.requires.k even is
    c.perm_in-perm.result told c.flat-2.result c.args.outer known within
    c.before_eighth-before.result c.behind_eighth-behind.result c.min-left.result c.min.result before behind left
    (c.min.ensures ∙ ap (λ a. min a c.saturating_sub-rest.result) right
    ∙ ap (min (min ((7 - c.args.k % 8) * 16 + c.behind_eighth-behind.result) (form_reach g.L.LeafForm.kind))) rest)
    c.flat-2.ensures
