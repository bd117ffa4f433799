-- Agreement as a test that computes: over the words of RAM and the gates that stand.
-- The rules: docs/MACHINE.md, "Agreement".
use Rattle.std.specs.Prelude.{◌≡◌, ℕ, ◌+◌, ◌*◌, ◌≤◌, Bool, not, ◌==◌, nat_eq, ◌||◌, [], ◌∷◌, ◌++◌, slice_index, if◌then◌else◌}
use Rattle.std.specs.Cmp.Lexicographic.{pointwise}
use Rattle.std.specs.List.{list_all, range_with_len}
use Rattle.std.specs.Option.{option_eq}
use Rattle.mx_words.specs.declared.perm.Perm.TheVariants as P
use Rattle.mx_words.specs.declared.perm.Access.TheVariants as A
use Rattle.mx_words.specs.Rights.{allows, same}
use Rattle.mx_model.specs.declared.values.Gate.{Gate}
use Rattle.mx_model.specs.Agreement.{Standing, Runs, Waits, Ended, standing, target_at}
use Rattle.mx_model.specs.Reads.{Reads}
use Rattle.mx_model.specs.State.{Core, hart_at, module_at}

-- the number of a standing
abbrev pub standing_number : Standing → ℕ
standing_number Runs = 0
standing_number Waits = 1
standing_number Ended = 2

-- whether two standings, or two flags, are the same
abbrev pub same_standing : Standing → Standing → Bool
same_standing a b = standing_number a == standing_number b

abbrev pub same_flag : Bool → Bool → Bool
same_flag a b = if a then b else not b

-- whether a domain has the same permission on a word
abbrev pub same_right : Reads → Reads → ℕ → ℕ → Bool
same_right r q d word = same (r.perm d word) (q.perm d word)

-- whether the gate for a domain at a word has the same target
abbrev pub same_target : Core → Core → ℕ → ℕ → Bool
same_target c e d word = option_eq nat_eq (target_at c d word) (target_at e d word)

-- whether the four bytes of a word are the same
abbrev pub same_word : Core → Core → ℕ → Bool
same_word c e word =
    list_all (λ k. slice_index c.ram (4 * word + k) == slice_index e.ram (4 * word + k))
    (0 ∷ 1 ∷ 2 ∷ 3 ∷ [])

-- whether they are, where a domain may read the word
abbrev pub same_if_read : Reads → Core → Core → ℕ → ℕ → Bool
same_if_read r c e d word = not (allows (r.perm d word) A.Read) || same_word c e word

-- whether two states, each with what it answers of rights, agree for hart h
abbrev pub agrees : Reads → Core → Reads → Core → ℕ → Bool
agrees r c q e h =
    let x = hart_at c h in
    let y = hart_at e h in
    let words = range_with_len 0 c.size in
    list_all (λ (b : Bool). b) (
    same_standing (standing x.status) (standing y.status)
    ∷ (x.pc == y.pc)
    ∷ pointwise nat_eq x.regs y.regs
    ∷ (x.domain == y.domain)
    ∷ list_all (same_right r q x.domain) words
    ∷ same_flag (module_at c x.domain).dead (module_at e x.domain).dead
    ∷ list_all (λ (g : Gate). same_target c e x.domain g.word) (c.gates ++ e.gates)
    ∷ list_all (same_if_read r c e x.domain) words ∷ [])

-- no domain has a right outside RAM
pub record IsBounded (r : Reads) (c : Core) : Type 0 where
  pub outside : (d word : ℕ) → c.size ≤ word → r.perm d word ≡ P.None

-- two states that the test fits: of as many words of RAM, outside which no domain has a right
pub record AreFit (r : Reads) (c : Core) (q : Reads) (e : Core) : Type 0 where
  pub words : c.size ≡ e.size
  pub first : IsBounded r c
  pub second : IsBounded q e
