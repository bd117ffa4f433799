-- Foreign words, worked: a run in which a domain writes beside a word of another; a run in which a turn names nobody;
-- allocs with and without lists.
use Rattle.std.proofs.Common.{◌≡◌, ℕ, zero, suc, ◌*◌, ◌<◌, Bool, true, false, List, [], ◌∷◌, refl, subst, arith, lit<, lit≤}
use Rattle.mx_words.specs.declared.perm.Perm.TheVariants as P
use Rattle.mx_words.specs.declared.perm.Access.TheVariants as A
use Rattle.mx_words.specs.Bytes.{cleared_at, number_at, put_at}
use Rattle.mx_words.specs.Hearing.{nobody}
use Rattle.mx_words.specs.Newest.{Grant}
use Rattle.mx_words.specs.Rights.{allows}
use Rattle.mx_isa.specs.Fields.{extended, imm_b, imm_i, imm_j, imm_s, imm_u}
use Rattle.mx_isa.specs.Table.{decoded}
use Rattle.mx_model.specs.Effect.{effect, holds, imm_result, loaded, reg_result}
use Rattle.mx_model.specs.Reads.{reads}
use Rattle.mx_model.specs.Run.{ByBytes, ByQuantum, Schedule, hart_of, run, turn}
use Rattle.mx_model.specs.State.{Running, State, Waiting, no_module}
use Rattle.mx_model.specs.Turn.{call_of}
use Rattle.mx_model.proofs.Boots.{regs_with}
use Rattle.mx_model.proofs.Smalls.{area, give, grant, small}
use Rattle.mx_model.proofs.Smalls.{hart_of as hart}
use Rattle.mx_runs.specs.ForeignRuns.{AreAllForeign, MakesTurn, MayNotWrite, NamesNobody, NeverWrites}

-- a store of 7 to word 16 and then one to word 17, by module 1, which may write word 16 and no other
abbrev storing : State
storing = small ((0, 0x00532023) ∷ (1, 0x00532223) ∷ (17, 0x12345678) ∷ []) (no_module ∷ no_module ∷ [])
    ((grant 0 2 P.ExecuteRead ∷ grant 16 1 P.ReadWrite ∷ []) ∷ (grant 17 1 P.ReadWrite ∷ []) ∷ []) [] []
    (hart 1 0x80000000 (regs_with ((5, 7) ∷ (6, 0x80000040) ∷ [])) [] Running ∷ []) 8

-- the four bytes of a word as a number
abbrev word_in : State → ℕ → ℕ
word_in s w = number_at s.core.ram (4 * w) 4

abbrev after : ℕ → State
after n = run (ByQuantum 1) n storing

-- module 1 makes both turns, may write word 17 in none of the three states, and the word stays; word 16 doesn't
first-made : MakesTurn (ByQuantum 1) (after 0) 1
unfolding decoded effect holds imm_result reg_result loaded number_at put_at cleared_at imm_i imm_s imm_b imm_u imm_j extended
first-made = record { going = refl; there = lit< tt; domain = refl }

second-made : MakesTurn (ByQuantum 1) (after 1) 1
unfolding decoded effect holds imm_result reg_result loaded number_at put_at cleared_at imm_i imm_s imm_b imm_u imm_j extended
second-made = record { going = refl; there = lit< tt; domain = refl }

never-written :
    (MayNotWrite (reads (after 0)) 1 17) × (MayNotWrite (reads (after 1)) 1 17) × (MayNotWrite (reads (after 2)) 1 17)
unfolding decoded effect holds imm_result reg_result loaded number_at put_at cleared_at imm_i imm_s imm_b imm_u imm_j extended
never-written = (refl, refl, refl)

stayed : word_in (after 0) 17 ∷ word_in (after 1) 17 ∷ word_in (after 2) 17 ∷ []
    ≡ 0x12345678 ∷ 0x12345678 ∷ 0x12345678 ∷ []
unfolding decoded effect holds imm_result reg_result loaded number_at put_at cleared_at imm_i imm_s imm_b imm_u imm_j extended
stayed = refl

written-beside : word_in (after 0) 16 ∷ word_in (after 1) 16 ∷ word_in (after 2) 16 ∷ [] ≡ 0 ∷ 7 ∷ 7 ∷ []
unfolding decoded effect holds imm_result reg_result loaded number_at put_at cleared_at imm_i imm_s imm_b imm_u imm_j extended
written-beside = refl

-- by the bytes 9 and 0 the first turn names nobody, and the one hart makes the second, a store of 7 to word 16. It is
-- in module 2, which may write word 17 in none of the three states; module 1 may write it, and no hart is in module 1
abbrev visiting : State
visiting = small ((0, 0x00532023) ∷ (17, 0x12345678) ∷ []) (no_module ∷ no_module ∷ [])
    ((grant 16 2 P.ReadWrite ∷ []) ∷ (grant 0 1 P.ExecuteRead ∷ grant 16 1 P.ReadWrite ∷ []) ∷ []) [] []
    (hart 2 0x80000000 (regs_with ((5, 7) ∷ (6, 0x80000040) ∷ [])) [] Running ∷ []) 8

abbrev named : Schedule
named = ByBytes (9 ∷ 0 ∷ [])

abbrev later : ℕ → State
later n = run named n visiting

-- a hart that isn't there has the domain 0, and what is read of the rights of domain 0 are those of module 1: the law
-- doesn't ask for them, since the first turn names nobody
first-named : hart_of named (later 0).core ≡ 9
first-named = refl

nobody-named : NamesNobody named (later 0)
nobody-named = lit≤ tt

of-no-domain : allows ((reads (later 0)).perm 0 17) A.Write ∷ allows ((reads (later 0)).perm 1 17) A.Write ∷ []
    ≡ true ∷ true ∷ []
of-no-domain = refl

second-visit : MakesTurn named (later 1) 2
unfolding decoded effect holds imm_result reg_result loaded number_at put_at cleared_at imm_i imm_s imm_b imm_u imm_j extended
second-visit = record { going = refl; there = lit< tt; domain = refl }

visitor-never : NeverWrites named visiting 2 2 17
unfolding decoded effect holds imm_result reg_result loaded number_at put_at cleared_at imm_i imm_s imm_b imm_u imm_j extended
visitor-never zero l = refl
visitor-never (suc zero) l = refl
visitor-never (suc (suc zero)) l = refl
visitor-never (suc (suc (suc k))) l = absurd (let q : ⊥ = omega (arith, l) in q)

all-foreign : AreAllForeign named visiting 2 17
unfolding decoded effect holds imm_result reg_result loaded number_at put_at cleared_at imm_i imm_s imm_b imm_u imm_j extended
all-foreign d zero l m = absurd (let n : 9 < 1 = m.there in let q : ⊥ = omega (arith, n) in q)
all-foreign d (suc zero) l m =
    let own : 2 ≡ d = m.domain in subst (λ (e : ℕ). NeverWrites named visiting 2 e 17) own visitor-never
all-foreign d (suc (suc k)) l m = absurd (let q : ⊥ = omega (arith, l) in q)

visited : word_in (later 0) 17 ∷ word_in (later 1) 17 ∷ word_in (later 2) 17 ∷ []
    ≡ 0x12345678 ∷ 0x12345678 ∷ 0x12345678 ∷ []
unfolding decoded effect holds imm_result reg_result loaded number_at put_at cleared_at imm_i imm_s imm_b imm_u imm_j extended
visited = refl

visited-beside : word_in (later 0) 16 ∷ word_in (later 1) 16 ∷ word_in (later 2) 16 ∷ [] ≡ 0 ∷ 0 ∷ 7 ∷ []
unfolding decoded effect holds imm_result reg_result loaded number_at put_at cleared_at imm_i imm_s imm_b imm_u imm_j extended
visited-beside = refl

-- a hart that waits on an alloc of one word, of a module whose heap area is word 20
abbrev allocating : List (List Grant) → State
allocating grants =
    small ((20, 0x12345678) ∷ []) (record no_module { heap = area 20 1 } ∷ []) grants (give 20 1 1 ∷ []) []
    (hart 1 0x80000000 (regs_with ((17, 6) ∷ (10, 1) ∷ [])) []
    (Waiting (call_of 0 (hart 1 0x80000000 (regs_with ((17, 6) ∷ (10, 1) ∷ [])) [] Running)) nobody) ∷ []) 8

-- whether module 1 may write word 20 before and after its turn, and the word after it
abbrev block_after : List (List Grant) → Bool × Bool × ℕ
block_after grants =
    let s = allocating grants in
    (allows ((reads s).perm 1 20) A.Write, allows ((reads (turn s 0)).perm 1 20) A.Write, word_in (turn s 0) 20)

-- with a list of grants the word of the block is zero, and the module may then write it; with none it is zero, and
-- nobody has a right to it
with-a-list : block_after ([] ∷ []) ≡ (false, true, 0)
unfolding decoded effect holds imm_result reg_result loaded number_at put_at cleared_at imm_i imm_s imm_b imm_u imm_j extended
with-a-list = refl

without-lists : block_after [] ≡ (false, false, 0)
unfolding decoded effect holds imm_result reg_result loaded number_at put_at cleared_at imm_i imm_s imm_b imm_u imm_j extended
without-lists = refl
