-- What a turn of a hart leaves: all that agreement reads beside what it touches.
-- The rules: docs/MACHINE.md, "One turn" and "Agreement".
use Rattle.std.specs.Prelude.{◌≡◌, ◌≢◌, ℕ, ◌≤◌, false}
use Rattle.mx_model.specs.Agreement.{standing, target_at}
use Rattle.mx_model.specs.Reads.{Reads, reads, flat_reads}
use Rattle.mx_model.specs.Run.{turn, flat_turn}
use Rattle.mx_model.specs.State.{Core, Hart, State, Flat, hart_at, module_at}
use Rattle.mx_laws.specs.After.{domain_at}
use Rattle.mx_laws.specs.Foreign.{IsKept}
use Rattle.mx_touched.specs.Touched.{Touched, is_among, touched}

-- two harts with the same standing, pc, registers and domain
pub record AreSameHarts (x y : Hart) : Type 0 where
  pub standing : standing x.status ≡ standing y.status
  pub pc : x.pc ≡ y.pc
  pub regs : x.regs ≡ y.regs
  pub domain : x.domain ≡ y.domain

-- state e after a turn of hart h in state c: the bytes of each word beside those touched; the gates of every domain at such words; the
-- deaths, but for that of the hart's own domain where that may die; and each other hart
pub record LeavesRest (t : Touched) (c e : Core) (h : ℕ) : Type 0 where
  pub bytes : (w : ℕ) → is_among t.bytes w ≡ false → IsKept c e w
  pub gates : (d w : ℕ) → is_among t.gates w ≡ false → target_at e d w ≡ target_at c d w
  pub death : t.death ≡ false → (d : ℕ) → (module_at e d).dead ≡ (module_at c d).dead
  pub deaths : (d : ℕ) → 1 ≤ d → d ≢ domain_at c h →
      (module_at e d).dead ≡ (module_at c d).dead
  pub harts : (g : ℕ) → g ≢ h → AreSameHarts (hart_at c g) (hart_at e g)

-- the permissions of every domain on each word beside those touched
pub record LeavesRights (t : Touched) (r q : Reads) : Type 0 where
  pub rights : (d w : ℕ) → is_among t.rights w ≡ false → q.perm d w ≡ r.perm d w

-- both, of what is answered of rights and of the rest of a state, before and after a turn of hart h
pub record LeavesAll (t : Touched) (r : Reads) (c : Core) (q : Reads) (e : Core) (h : ℕ)
    : Type 0 where
  pub rest : LeavesRest t c e h
  pub rights : LeavesRights t r q

-- the next state, and the next flat state, beside what the turn of hart h touches
abbrev pub leaves_all : State → ℕ → Type 0
leaves_all s h =
    LeavesAll (touched (reads s) s.core h) (reads s) s.core (reads (turn s h)) (turn s h).core h

abbrev pub flat_leaves_all : Flat → ℕ → Type 0
flat_leaves_all f h =
    LeavesAll (touched (flat_reads f) f.core h) (flat_reads f) f.core (flat_reads (flat_turn f h))
    (flat_turn f h).core h
