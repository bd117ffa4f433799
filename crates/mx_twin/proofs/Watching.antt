-- A turn in two machines that are watched, and what is found after it.
use Rattle.std.proofs.Common.{◌≡◌, ℕ, ◌<◌, Bool, true, false, length, sym, ◌∙◌, ap, subst, Option, Some}
use Rattle.mx_words.specs.FirstFit.{Area}
use Rattle.mx_model.specs.declared.values.TurnKind.{TurnKind}
use Rattle.mx_model.specs.declared.values.TurnKind.TheVariants as T
use Rattle.mx_model.specs.Reads.{flat_reads}
use Rattle.mx_model.specs.Run.{flat_kind, flat_turn}
use Rattle.mx_model.specs.State.{Flat}
use Rattle.mx_model.specs.Valid.{IsModule}
use Rattle.mx_model.proofs.KeepLaws.{keeps-turned, size-turned}
use Rattle.mx_touched.specs.Touched.{AreIn, Touched, called_at, stored_at, touched_as, touched_in}
use Rattle.mx_touched.specs.Pairs.{ArePair, IsRight, Knows, flat_touched, found_known, found_unknown, is_compared}
use Rattle.mx_touched.proofs.Going.{pair-turn}
use Rattle.mx_touched.proofs.Leaves.{touched-inside}
use Rattle.mx_touched.proofs.Pairs.{known-right, ran-right, unknown-right}
use Rattle.mx_twin.specs.Turns.{AreAlike}
use Rattle.mx_twin.proofs.PairLaws.{IsWhole, pair-of}
use Rattle.mx_twin.proofs.TurnRows.{alike-turn}

-- what a turn touched, by what was read before it and what it was
pub touched-is : (f : Flat) (h : ℕ) (kind : TurnKind) (stored : Area) (called t : Touched) → t ≡ touched_in kind stored called →
    stored ≡ stored_at (flat_reads f) f.core h → called ≡ called_at f.core h → kind ≡ flat_kind f h → t ≡ flat_touched f h
touched-is f h kind stored called t e s c k =
    e ∙ ap (λ (a : Area). touched_in kind a called) s ∙ ap (λ (x : Touched). touched_in kind (stored_at (flat_reads f) f.core h) x) c
    ∙ ap (λ (x : TurnKind). touched_as x (flat_reads f) f.core h) k

-- machines m and n after a turn of hart h in f and g
module _ (d h : ℕ) (f g m n : Flat) (a : AreAlike f g) (v : IsWhole f) (w : IsWhole g) (x : m ≡ flat_turn f h) (y : n ≡ flat_turn g h) where
  pair : ArePair f g
  pair = pair-of f g a v w

  pub alike-after : AreAlike m n
  alike-after = subst (λ (z : Flat). AreAlike z n) (sym x) (subst (λ (z : Flat). AreAlike (flat_turn f h) z) (sym y) (alike-turn f g h a))

  pub hart-after : h < length f.core.harts → h < length m.core.harts
  hart-after l =
      subst (λ (z : Flat). h < length z.core.harts) (sym x)
      (subst (λ (k : ℕ). h < k) (sym (keeps-turned (flat_reads f) f.core h).harts) l)

  pub domain-after : IsModule (length f.core.modules) d → IsModule (length m.core.modules) d
  domain-after i =
      subst (λ (z : Flat). IsModule (length z.core.modules) d) (sym x)
      (subst (λ (k : ℕ). IsModule k d) (sym (keeps-turned (flat_reads f) f.core h).modules) i)

  size-after : f.core.size ≡ m.core.size
  size-after = sym (ap (λ (z : Flat). z.core.size) x ∙ size-turned (flat_reads f) f.core h)

  pub first-inside : (t : Touched) → t ≡ flat_touched f h → AreIn m.core.size t
  first-inside t e =
      subst (λ (k : ℕ). AreIn k t) size-after
      (subst (λ (z : Touched). AreIn f.core.size z) (sym e) (touched-inside (flat_kind f h) (flat_reads f) f.core h v.valid))

  pub second-inside : (t : Touched) → t ≡ flat_touched g h → AreIn m.core.size t
  second-inside t e =
      subst (λ (k : ℕ). AreIn k t) (sym a.words ∙ size-after)
      (subst (λ (z : Touched). AreIn g.core.size z) (sym e) (touched-inside (flat_kind g h) (flat_reads g) g.core h w.valid))

  moved : (o : Option Bool) → IsRight d (flat_turn f h) (flat_turn g h) o → IsRight d m n o
  moved o r = subst (λ (z : Flat). IsRight d z n o) (sym x) (subst (λ (z : Flat). IsRight d (flat_turn f h) z o) (sym y) r)

  pub watched-known : (known : Bool) → known ≡ true → Knows d f g known → (t u : Touched) → t ≡ flat_touched f h → u ≡ flat_touched g h →
      (o : Option Bool) → o ≡ found_known d m n h t u → IsRight d m n o
  watched-known known i k t u p q o e =
      let is : o ≡ found_known d (flat_turn f h) (flat_turn g h) h (flat_touched f h) (flat_touched g h) =
      e ∙ ap (λ (z : Flat). found_known d z n h t u) x ∙ ap (λ (z : Flat). found_known d (flat_turn f h) z h t u) y
      ∙ ap (λ (z : Touched). found_known d (flat_turn f h) (flat_turn g h) h z u) p
      ∙ ap (λ (z : Touched). found_known d (flat_turn f h) (flat_turn g h) h (flat_touched f h) z) q in
      moved o (subst (λ (z : Option Bool). IsRight d (flat_turn f h) (flat_turn g h) z) (sym is)
      (known-right d h f g pair (pair-turn f g h pair) (subst (λ (b : Bool). Knows d f g b) i k)))

  pub watched-unknown : (known : Bool) → known ≡ false → Knows d f g known → (o : Option Bool) → o ≡ found_unknown d m n h → IsRight d m n o
  watched-unknown known i k o e =
      let is : o ≡ found_unknown d (flat_turn f h) (flat_turn g h) h =
      e ∙ ap (λ (z : Flat). found_unknown d z n h) x ∙ ap (λ (z : Flat). found_unknown d (flat_turn f h) z h) y in
      moved o (subst (λ (z : Option Bool). IsRight d (flat_turn f h) (flat_turn g h) z) (sym is)
      (unknown-right d h f g pair (pair-turn f g h pair) (subst (λ (b : Bool). Knows d f g b) i k)))

  pub watched-ran : (known : Bool) → Knows d f g known → (compared : Bool) → compared ≡ is_compared d f g h → (kind : TurnKind)
      → kind ≡ flat_kind f h →
      (compared ≡ true) × (kind ≡ T.Ran) → IsRight d m n (Some true)
  watched-ran known k compared c kind e p =
      moved (Some true) (ran-right d h f g known pair k (sym c ∙ p.0) (sym e ∙ p.1))
