-- Worked examples, computed: what turns of each sort touch, what a domain sees of it, and which harts are compared.
use Rattle.std.proofs.Common.{◌≡◌, ℕ, Bool, true, false, List, [], ◌∷◌, refl}
use Rattle.std.specs.Prelude.{Some, None}
use Rattle.mx_words.specs.declared.perm.Perm.TheVariants as P
use Rattle.mx_words.specs.Bytes.{number_at, put_at}
use Rattle.mx_words.specs.Hearing.{nobody}
use Rattle.mx_words.specs.Newest.{Grant}
use Rattle.mx_isa.specs.Fields.{imm_i, imm_s, imm_b, imm_u, imm_j, extended}
use Rattle.mx_isa.specs.Table.{decoded}
use Rattle.mx_model.specs.Effect.{effect, holds, imm_result, loaded, reg_result}
use Rattle.mx_model.specs.Reads.{reads}
use Rattle.mx_model.specs.State.{Module, Halted, Running, State, Status, Waiting, flat, no_module}
use Rattle.mx_model.proofs.Boots.{regs_with}
use Rattle.mx_model.proofs.Smalls.{area, call, gate, grant, hart_of, small}
use Rattle.mx_touched.specs.Touched.{Touched, touched, untouched}
use Rattle.mx_touched.specs.Views.{same_touched, same_views}
use Rattle.mx_touched.specs.Pairs.{fails, found_known, found_unknown, is_compared}

-- a module with a heap area of words 16 to 23, killing, and one hart in it at word 0, where one word stands; it may fetch words 0 to 7 and
-- write words 8 to 11
abbrev home : Module
home = record no_module { heap = area 16 8; kills = true }

abbrev rights : List Grant
rights = grant 0 8 P.ExecuteRead ∷ grant 8 4 P.ReadWrite ∷ []

abbrev with_status : ℕ → List (ℕ × ℕ) → Status → State
with_status word regs status =
    small ((0, word) ∷ []) (home ∷ no_module ∷ []) (rights ∷ [] ∷ []) [] []
    (hart_of 1 0x80000000 (regs_with regs) [] status ∷ []) 8

abbrev at : ℕ → List (ℕ × ℕ) → State
at word regs = with_status word regs Running

-- what the turn of the hart touches
abbrev touches : State → Touched
touches s = touched (reads s) s.core 0

-- SW x5, 0(x6): at word 8, of which any byte's word is the whole; a denied one kills; a load and an addition touch nothing
store : touches (at 0x00532023 ((6, 0x80000020) ∷ [])) ≡ record untouched { bytes = area 8 1 }
unfolding decoded effect holds imm_result reg_result loaded number_at put_at imm_i imm_s imm_b imm_u imm_j extended
store = refl

store-of-a-byte : touches (at 0x005301A3 ((6, 0x80000024) ∷ [])) ≡ record untouched { bytes = area 9 1 }
unfolding decoded effect holds imm_result reg_result loaded number_at put_at imm_i imm_s imm_b imm_u imm_j extended
store-of-a-byte = refl

denied-store : touches (at 0x00532023 ((6, 0x80000000) ∷ [])) ≡ record untouched { death = true }
unfolding decoded effect holds imm_result reg_result loaded number_at put_at imm_i imm_s imm_b imm_u imm_j extended
denied-store = refl

load : touches (at 0x00032283 ((6, 0x80000020) ∷ [])) ≡ untouched
unfolding decoded effect holds imm_result reg_result loaded number_at put_at imm_i imm_s imm_b imm_u imm_j extended
load = refl

-- ECALL with the call's number in x17
abbrev calls : List (ℕ × ℕ) → Touched
calls regs = touches (at 0x00000073 regs)

granted : calls ((17, 3) ∷ (10, 0x80000020) ∷ (11, 15) ∷ (12, 2) ∷ (13, 1) ∷ []) ≡ record untouched { rights = area 8 4 }
unfolding decoded effect holds imm_result reg_result loaded number_at put_at imm_i imm_s imm_b imm_u imm_j extended
granted = refl

granted-nothing : calls ((17, 3) ∷ (10, 0x80000020) ∷ (12, 2) ∷ (13, 1) ∷ []) ≡ untouched
unfolding decoded effect holds imm_result reg_result loaded number_at put_at imm_i imm_s imm_b imm_u imm_j extended
granted-nothing = refl

revoked : calls ((17, 4) ∷ (10, 0x80000024) ∷ (11, 4) ∷ []) ≡ record untouched { rights = area 9 1 }
unfolding decoded effect holds imm_result reg_result loaded number_at put_at imm_i imm_s imm_b imm_u imm_j extended
revoked = refl

allocated : calls ((17, 6) ∷ (10, 2) ∷ []) ≡ record untouched { bytes = area 16 8; rights = area 16 8 }
unfolding decoded effect holds imm_result reg_result loaded number_at put_at imm_i imm_s imm_b imm_u imm_j extended
allocated = refl

freed : calls ((17, 7) ∷ (10, 0x80000040) ∷ []) ≡ record untouched { rights = area 16 8 }
unfolding decoded effect holds imm_result reg_result loaded number_at put_at imm_i imm_s imm_b imm_u imm_j extended
freed = refl

gated : calls ((17, 8) ∷ (10, 0x80000010) ∷ (11, 2) ∷ []) ≡ record untouched { gates = area 4 1 }
unfolding decoded effect holds imm_result reg_result loaded number_at put_at imm_i imm_s imm_b imm_u imm_j extended
gated = refl

ungated : calls ((17, 9) ∷ (10, 0x80000014) ∷ (11, 2) ∷ []) ≡ record untouched { gates = area 5 1 }
unfolding decoded effect holds imm_result reg_result loaded number_at put_at imm_i imm_s imm_b imm_u imm_j extended
ungated = refl

returns-gated : calls ((17, 10) ∷ (10, 0x80000018) ∷ []) ≡ record untouched { gates = area 6 1 }
unfolding decoded effect holds imm_result reg_result loaded number_at put_at imm_i imm_s imm_b imm_u imm_j extended
returns-gated = refl

gated-outside : calls ((17, 8) ∷ (10, 0x80000100) ∷ (11, 2) ∷ []) ≡ untouched
unfolding decoded effect holds imm_result reg_result loaded number_at put_at imm_i imm_s imm_b imm_u imm_j extended
gated-outside = refl

exchanged : calls ((17, 13) ∷ (10, 0x80000028) ∷ (11, 7) ∷ []) ≡ record untouched { bytes = area 10 1 }
unfolding decoded effect holds imm_result reg_result loaded number_at put_at imm_i imm_s imm_b imm_u imm_j extended
exchanged = refl

transferred : calls ((17, 5) ∷ (10, 0x80000020) ∷ (11, 4) ∷ (12, 2) ∷ []) ≡ untouched
unfolding decoded effect holds imm_result reg_result loaded number_at put_at imm_i imm_s imm_b imm_u imm_j extended
transferred = refl

-- two states that differ in word 8 and in x5, side by side
abbrev plain : State
plain = at 0x00000073 []

abbrev other : State
other = small ((0, 0x00000073) ∷ (8, 1) ∷ []) (home ∷ no_module ∷ []) (rights ∷ [] ∷ []) [] (gate 1 12 2 ∷ [])
    (hart_of 1 0x80000000 (regs_with ((5, 1) ∷ [])) [] Running ∷ []) 8

abbrev sees : ℕ → Touched → Bool
sees d t = same_touched (reads plain) plain.core (reads other) other.core d t

-- domain 1 may read word 8, domain 2 none
bytes-count : sees 1 (record untouched { bytes = area 8 1 }) ≡ false
bytes-count = refl

bytes-where-rights-changed : sees 1 (record untouched { rights = area 8 1 }) ≡ false
bytes-where-rights-changed = refl

unread-bytes : sees 2 (record untouched { bytes = area 8 1; rights = area 8 4 }) ≡ true
unread-bytes = refl

other-words : sees 1 (record untouched { bytes = area 9 8; rights = area 0 8 }) ≡ true
other-words = refl

gate-counts : sees 1 (record untouched { gates = area 12 1 }) ≡ false
gate-counts = refl

gate-of-another : sees 2 (record untouched { gates = area 12 1; death = true }) ≡ true
gate-of-another = refl

dead-in-one : same_touched (reads plain) plain.core (reads plain)
    (record plain.core { modules = record home { dead = true } ∷ no_module ∷ [] }) 1 (record untouched { death = true }) ≡ false
dead-in-one = refl

nothing-counts : sees 1 untouched ≡ true
nothing-counts = refl

-- all that domain 1, and that domain 2, sees
views-of-1 : same_views (reads plain) plain.core (reads other) other.core 1 ≡ false
views-of-1 = refl

views-of-2 : same_views (reads plain) plain.core (reads other) other.core 2 ≡ true
views-of-2 = refl

-- the hart is compared for its domain where it isn't halted in either machine
abbrev ended : State
ended = with_status 0x00000073 [] (Halted None)

compared : is_compared 1 (flat ended) (flat plain) 0 ≡ true
compared = refl

halted-in-both : is_compared 1 (flat ended) (flat ended) 0 ≡ false
halted-in-both = refl

in-another-domain : is_compared 2 (flat plain) (flat plain) 0 ≡ false
in-another-domain = refl

waiting-too : is_compared 1 (flat (with_status 0x00000073 [] (Waiting (call 4 [] 0 1 false) nobody))) (flat ended) 0 ≡ true
waiting-too = refl

-- agreement fails by the hart and by the word, and not for a domain in which no hart is
fails-for-1 : fails 1 (flat plain) (flat other) ≡ true
fails-for-1 = refl

holds-for-2 : fails 2 (flat plain) (flat other) ≡ false
holds-for-2 = refl

-- after a turn that touched nothing hart 0 alone counts; where what was touched is seen apart agreement fails by any hart in the domain,
-- and
-- is open where there is none
found-apart : found_known 1 (flat plain) (flat other) 0 (record untouched { bytes = area 8 1 }) untouched ≡ None
found-apart = refl

found-by-hart : found_known 1 (flat plain) (flat other) 0 untouched untouched ≡ None
found-by-hart = refl

found-same : found_known 1 (flat plain) (flat plain) 0 (record untouched { bytes = area 8 1 }) untouched ≡ Some true
found-same = refl

abbrev shared : State
shared = record plain { grants = rights ∷ (grant 0 1 P.Read ∷ []) ∷ [] }

found-open : found_known 2 (flat plain) (flat shared) 0 untouched (record untouched { rights = area 0 1 }) ≡ Some false
found-open = refl

-- a hart that came in is compared whole
came-in : found_unknown 1 (flat plain) (flat plain) 0 ≡ Some true
came-in = refl

came-in-apart : found_unknown 1 (flat plain) (flat other) 0 ≡ None
came-in-apart = refl

stays-out : found_unknown 2 (flat plain) (flat other) 0 ≡ Some false
stays-out = refl
