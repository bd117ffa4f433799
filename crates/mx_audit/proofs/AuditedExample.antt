-- A small state that an audit takes, with a call in flight, a heap area with a live block, and two sealed words.
use Rattle.std.proofs.Common.{◌≡◌, ℕ, zero, suc, ◌+◌, ◌-◌, ◌<◌, ◌≤◌, true, [], ◌∷◌, refl, ap, arith}
use Rattle.std.specs.List.{range_with_len}
use Rattle.std.specs.Prelude.{filter}
use Rattle.mx_words.specs.declared.perm.Perm.TheVariants as P
use Rattle.mx_words.specs.Bytes.{number_at}
use Rattle.mx_words.proofs.OverlayLaws.{covers_from}
use Rattle.mx_isa.specs.Table.{decoded}
use Rattle.mx_model.specs.Effect.{effect}
use Rattle.mx_model.specs.Reads.{reads}
use Rattle.mx_model.specs.Run.{ByBytes, run}
use Rattle.mx_model.specs.State.{State, flat, hart_at}
use Rattle.mx_model.proofs.ValidExample.{core, small, small-core}
use Rattle.mx_model.proofs.Smalls.{grant, give}
use Rattle.mx_audit.specs.Live.{is_live}
use Rattle.mx_laws.specs.OwnHeaps.{OwnHeaps}
use Rattle.mx_audit.specs.Sealed.{is_sealed, IsAudited}

abbrev small_state : State
small_state = record {
  core = core;
  grants = (grant 0 4 P.ExecuteRead ∷ grant 5 2 P.ReadWrite ∷ grant 8 4 P.ReadWrite ∷ [])
      ∷ (grant 12 2 P.ReadWrite ∷ grant 16 1 P.ExecuteRead ∷ []) ∷ [];
  gives = give 0 12 1 ∷ give 12 2 2 ∷ give 16 1 2 ∷ [];
  console = [];
  notes = [];
}

small-flat-state : flat small_state ≡ small
small-flat-state = refl

-- the first module owns its heap area, words 4 to 7; the second has none
heap-word : (w : ℕ) → 4 ≤ w → w < 8 → (reads small_state).owner w ≡ 1
heap-word w l u = between (w - 4) (omega (arith, l)) (omega (arith, u))
  where
    between : (k : ℕ) → w ≡ 4 + k → k < 4 → (reads small_state).owner w ≡ 1
    between zero e m = ap (reads small_state).owner e
    between (suc zero) e m = ap (reads small_state).owner e
    between (suc (suc zero)) e m = ap (reads small_state).owner e
    between (suc (suc (suc zero))) e m = ap (reads small_state).owner e
    between (suc (suc (suc (suc k)))) e m = absurd (let q : ⊥ = omega (arith, m) in q)

small-heaps : OwnHeaps (reads small_state) core
small-heaps zero w m c = absurd (let l = m.first in let q : ⊥ = omega (arith, l) in q)
small-heaps (suc zero) w m c = let p = covers_from 4 4 w c in let u = p.1 in heap-word w p.0 (omega (arith, u))
small-heaps (suc (suc zero)) w m c = let p = covers_from 0 0 w c in absurd (let u = p.1 in let q : ⊥ = omega (arith, u) in q)
small-heaps (suc (suc (suc d))) w m c = absurd (let l = m.last in let q : ⊥ = omega (arith, l) in q)

pub small-audited : IsAudited small_state
small-audited = record { valid = small-core; heaps = small-heaps }

-- words 14 and 15 are the supervisor's
small-sealed : filter (is_sealed (reads small_state) core) (range_with_len 0 17) ≡ 14 ∷ 15 ∷ []
small-sealed = refl

-- domain 2 is live there by a frame alone: the second hart's next turn faults, and it goes on in domain 2
small-live : is_live core 2 ≡ true
small-live = refl

small-domain : (hart_at core 1).domain ≡ 1
small-domain = refl

small-faults : (hart_at (run (ByBytes (1 ∷ [])) 1 small_state).core 1).domain ≡ 2
unfolding decoded effect number_at
small-faults = refl
