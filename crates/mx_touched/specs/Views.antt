-- What a domain sees of two states, and tests of it: of a word, of what was touched, and of all.
-- The rules: docs/MACHINE.md, "Agreement".
use Rattle.std.specs.Prelude.{◌≡◌, ℕ, ◌+◌, ◌*◌, ◌<◌, Bool, not, ◌==◌, ◌&&◌, ◌||◌, nat_eq, List, [], ◌∷◌, ◌++◌, slice_index, IsTrue}
use Rattle.std.specs.Cmp.Lexicographic.{pointwise}
use Rattle.std.specs.List.{list_all, range_with_len}
use Rattle.mx_words.specs.declared.perm.Access.TheVariants as A
use Rattle.mx_words.specs.FirstFit.{Area}
use Rattle.mx_words.specs.Rights.{allows}
use Rattle.mx_model.specs.declared.values.Gate.{Gate}
use Rattle.mx_model.specs.Agreement.{standing, target_at}
use Rattle.mx_model.specs.Reads.{Reads}
use Rattle.mx_model.specs.State.{Core, Hart, module_at}
use Rattle.mx_laws.specs.Comparison.{same_flag, same_if_read, same_right, same_standing, same_target}
use Rattle.mx_touched.specs.Touched.{Touched}

-- agreement without the hart: domain d has the same permission on every word, is dead in both or in neither, has gates with the same
-- targets at the same words, and each word that it may read has the same bytes
pub record AreSameViews (r : Reads) (c : Core) (q : Reads) (e : Core) (d : ℕ) : Type 0 where
  pub map : (i : ℕ) → r.perm d i ≡ q.perm d i
  pub death : (module_at c d).dead ≡ (module_at e d).dead
  pub gates : (i : ℕ) → target_at c d i ≡ target_at e d i
  pub bytes : (i : ℕ) → IsTrue (allows (r.perm d i) A.Read) → (k : ℕ) → k < 4 →
      slice_index c.ram (4 * i + k) ≡ slice_index e.ram (4 * i + k)

-- whether two harts have the same standing, pc, registers and domain
abbrev pub same_hart : Hart → Hart → Bool
same_hart x y =
    list_all (λ (b : Bool). b) (
    same_standing (standing x.status) (standing y.status)
    ∷ (x.pc == y.pc) ∷ pointwise nat_eq x.regs y.regs ∷ (x.domain == y.domain) ∷ [])

-- whether a domain has the same permission on a word, and the word has the same bytes where it may read it
abbrev pub sees_same : Reads → Core → Reads → Core → ℕ → ℕ → Bool
sees_same r c q e d word = same_right r q d word && same_if_read r c e d word

-- the words of an area
abbrev pub words_of : Area → List ℕ
words_of area = range_with_len area.first area.count

-- whether the domain is dead in both or in neither
abbrev pub same_death : Core → Core → ℕ → Bool
same_death c e d = same_flag (module_at c d).dead (module_at e d).dead

-- whether the domain sees what was touched alike. A word whose rights changed may have become readable, so its bytes count too
abbrev pub same_touched : Reads → Core → Reads → Core → ℕ → Touched → Bool
same_touched r c q e d t =
    list_all (sees_same r c q e d) (words_of t.bytes) &&
    list_all (sees_same r c q e d) (words_of t.rights) &&
    list_all (same_target c e d) (words_of t.gates) && (not t.death || same_death c e d)

-- whether it sees all alike: each word of RAM, and each gate that stands
abbrev pub same_views : Reads → Core → Reads → Core → ℕ → Bool
same_views r c q e d =
    list_all (sees_same r c q e d) (range_with_len 0 c.size) && same_death c e d &&
    list_all (λ (g : Gate). same_target c e d g.word) (c.gates ++ e.gates)
