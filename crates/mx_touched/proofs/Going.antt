-- How two machines go on: from the start, at a border, where all harts are halted, and as a pair.
use Rattle.std.proofs.Common.{◌≡◌, ◌≢◌, ℕ, zero, suc, ◌+◌, ◌-◌, Bool, true, false, not, ◌==◌, ◌&&◌, ◌||◌, List, [], ◌∷◌, length, get_or}
use Rattle.std.proofs.Common.{refl, sym, ◌∙◌, ap, Option, Some, None}
use Rattle.mx_words.specs.declared.perm.Perm.{Perm}
use Rattle.mx_words.specs.Changes.{changed_from}
use Rattle.mx_words.specs.Newest.{map}
use Rattle.mx_words.proofs.MapLaws.{length-changed_map}
use Rattle.mx_model.specs.declared.values.TurnKind.TheVariants as T
use Rattle.mx_model.specs.Agreement.{Ended, standing}
use Rattle.mx_model.specs.Checks.{is_halted}
use Rattle.mx_model.specs.Reads.{Change, flat_reads, map_in}
use Rattle.mx_model.specs.Run.{all_halted, flat_kind, flat_made, flat_turn, maps_after}
use Rattle.mx_model.specs.State.{Flat, Status, Running, Waiting, Halted, hart_at}
use Rattle.mx_model.proofs.KeepLaws.{keeps-turned, size-turned}
use Rattle.mx_model.proofs.TurnLaws.{valid-turned}
use Rattle.mx_laws.specs.Quiet.{may_tell}
use Rattle.mx_laws.proofs.QuietLaws.{end-turned, halted-each}
use Rattle.mx_laws.proofs.TwinLaws.{idle-ended}
use Rattle.mx_touched.specs.Pairs.{ArePair, IsSound, any_compared, fails, is_compared}
use Rattle.mx_touched.proofs.Pairs.{agree-hart, agreed-each, compared-live, known-holds, out-holds, ran-right, same-halted, start-known}

-- a pair stays one
length-from : (first count size : ℕ) (given : ℕ → Option Perm) (d k : ℕ) (ms : List (List Perm)) (n : List Perm) →
    length (get_or (changed_from first count given d ms) k n) ≡ length (get_or ms k n)
length-from first count size given d k [] n = refl
length-from first count size given d zero (m ∷ ms) n = length-changed_map first count (given d) m
length-from first count size given d (suc k) (m ∷ ms) n = length-from first count size given (d + 1) k ms n

length-after : (size : ℕ) (maps : List (List Perm)) (o : Option Change) (d : ℕ) →
    length (map_in size (maps_after maps o) d) ≡ length (map_in size maps d)
length-after size maps None d = refl
length-after size maps (Some change) d =
    length-from change.first change.count size change.given 1 (d - 1) maps (map [] size)

sound-turn : (f : Flat) (h : ℕ) → IsSound f → IsSound (flat_turn f h)
sound-turn f h s = record {
  valid = valid-turned (flat_reads f) f.core h s.valid;
  whole = λ d.
      let e = size-turned (flat_reads f) f.core h in
      ap (λ (n : ℕ). length (map_in n (maps_after f.maps (flat_made f h).change) d)) e
      ∙ length-after f.core.size f.maps (flat_made f h).change d ∙ s.whole d ∙ sym e;
}

pub pair-turn : (f g : Flat) (h : ℕ) → ArePair f g → ArePair (flat_turn f h) (flat_turn g h)
pair-turn f g h p =
    let a = keeps-turned (flat_reads f) f.core h in
    let b = keeps-turned (flat_reads g) g.core h in
    record {
      first = sound-turn f h p.first;
      second = sound-turn g h p.second;
      words = a.size ∙ p.words ∙ sym b.size;
      harts = a.harts ∙ p.harts ∙ sym b.harts;
      modules = a.modules ∙ p.modules ∙ sym b.modules;
    }

-- a hart that is compared makes neither kind of turn where agreement then fails
pub border-kind : (d h : ℕ) (f g : Flat) → ArePair f g → fails d f g ≡ false → is_compared d f g h ≡ true →
    fails d (flat_turn f h) (flat_turn g h) ≡ true → (flat_kind f h ≢ T.Ran) × (flat_kind f h ≢ T.Idle)
border-kind d h f g p n c e = (
  λ (k : flat_kind f h ≡ T.Ran).
      let m : fails d (flat_turn f h) (flat_turn g h) ≡ false =
      known-holds d (flat_turn f h) (flat_turn g h) true (pair-turn f g h p)
      (ran-right d h f g (any_compared d f g) p (start-known d f g p n) c k) in
      let z : ⊥ = cc in z,
  λ (k : flat_kind f h ≡ T.Idle).
      let stands = (idle-ended (flat_reads f) f.core h).0 k in
      let same = agree-hart f g h (agreed-each d f g h p n c) in
      let live = compared-live d f g h c same in
      let dead : is_halted (hart_at f.core h).status ≡ true = same-halted (hart_at f.core h).status (Halted None) stands in
      let z : ⊥ = cc in z,
)

-- all harts are halted
halted-standing : (s : Status) → is_halted s ≡ true → standing s ≡ Ended
halted-standing Running e = absurd (let z : ⊥ = cc in z)
halted-standing (Waiting call heard) e = absurd (let z : ⊥ = cc in z)
halted-standing (Halted code) e = refl

pub halted-turn : (f : Flat) (h : ℕ) → all_halted f.core ≡ true → all_halted (flat_turn f h).core ≡ true
halted-turn f h e =
    let idle = (idle-ended (flat_reads f) f.core h).1 (halted-standing (hart_at f.core h).status (halted-each f.core.harts h e)) in
    end-turned (flat_reads f) f.core h (ap may_tell idle) ∙ e

pub halted-holds : (d : ℕ) (f g : Flat) → ArePair f g → all_halted f.core ≡ true → all_halted g.core ≡ true → fails d f g ≡ false
halted-holds d f g p a b = out-holds d f g (λ i.
    let x = hart_at f.core i in
    let y = hart_at g.core i in
    ap (λ (h : Bool). (not h && (x.domain == d)) || (not (is_halted y.status) && (y.domain == d))) (halted-each f.core.harts i a)
    ∙ ap (λ (h : Bool). not h && (y.domain == d)) (halted-each g.core.harts i b))
