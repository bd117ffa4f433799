-- The instruction at which a hart stands, by what is read of a machine.
use Rattle.std.proofs.Common.{◌≡◌, ℕ, zero, suc, ◌+◌, ◌-◌, ◌*◌, ◌/◌, ◌%◌, ◌<◌, ◌≤◌, Bool, true, not, List, drop, get_or, slice_range}
use Rattle.std.proofs.Common.{if◌then◌else◌, Option, Some, None, refl, sym, ap, ◌∙◌, subst, arith, get_or-take, get_or-drop}
use Rattle.std.specs.Option.{option_map_or}
use Rattle.std.proofs.lemmas.Bool.{and_parts, leb-true, ltb-true}
use Rattle.std.proofs.lemmas.Option.{same_Some}
use Rattle.mx_words.specs.declared.perm.Access.TheVariants as A
use Rattle.mx_words.specs.declared.perm.Perm.TheVariants as P
use Rattle.mx_words.specs.Bytes.{number_at}
use Rattle.mx_words.specs.Ranges.{ram_base, word_of}
use Rattle.mx_words.specs.Rights.{allows}
use Rattle.mx_isa.specs.declared.inst.Inst.{Inst}
use Rattle.mx_isa.specs.Table.{decoded}
use Rattle.mx_model.specs.Reads.{Reads}
use Rattle.mx_model.specs.State.{Core}
use Rattle.mx_model.specs.Turn.{is_denied, load_at}

-- the number that some of a list's bytes hold, told of them alone
number_part : (size : ℕ) (xs : List ℕ) (a n k : ℕ) → k + size ≤ n → number_at (slice_range xs a (a + n)) k size ≡ number_at xs (a + k) size
unfolding number_at
number_part zero xs a n k h = refl
number_part (suc size) xs a n k h =
    let at : get_or (slice_range xs a (a + n)) k 0 ≡ get_or xs (a + k) 0 = get_or-take (a + n - a) (drop a xs) k 0 (omega arith)
    ∙ get_or-drop a xs k 0 in
    let rest = number_part size xs a n (k + 1) (omega arith) in
    let place : a + (k + 1) ≡ a + k + 1 = omega arith in
    rw (at, rest, place) refl

-- a word that holds an address
pub record HoldsAddress (address size word : ℕ) : Type 0 where
  pub low : ram_base ≤ address
  pub is : (address - ram_base) / 4 ≡ word
  pub inside : word < size

pub holds_address : (address size word : ℕ) → Some word ≡ word_of address size → HoldsAddress address size word
holds_address address size word e = search (arith, and_parts, leb-true, ltb-true, same_Some)

-- what stands at an address by the word that holds it, and by whether that word allows a fetch
abbrev by_word : Reads → Core → ℕ → ℕ → Option ℕ → Option Inst
by_word r c d pc word = if not (allows (option_map_or (r.perm d) word P.None) A.Execute) then None else decoded (load_at c pc 4)

abbrev by_right : Core → ℕ → Bool → Option Inst
by_right c pc right = if not right then None else decoded (load_at c pc 4)

abbrev pub standing_at : Reads → Core → ℕ → ℕ → Option Inst
standing_at r c d pc = if is_denied r c d pc A.Execute then None else decoded (load_at c pc 4)

pub fetch : (r : Reads) (c : Core) (d pc word : ℕ) (x : Option Inst) (n : ℕ) (bytes : List ℕ) → Some word ≡ word_of pc c.size
    → allows (r.perm d word) A.Execute ≡ true
    → pc % 4 ≡ 0 → bytes ≡ slice_range c.ram (4 * word) (4 * word + 4) → n ≡ number_at bytes 0 4 → x ≡ decoded n → x ≡ standing_at r c d pc
fetch r c d pc word x n bytes e right aligned part number is =
    let holds = holds_address pc c.size word e in
    let low = holds.low in
    let there = holds.is in
    let place : 4 * word + 0 ≡ pc - ram_base = omega arith in
    let all : n ≡ load_at c pc 4 =
    number ∙ ap (λ (b : List ℕ). number_at b 0 4) part ∙ number_part 4 c.ram (4 * word) 4 0 (omega arith)
    ∙ ap (λ k. number_at c.ram k 4) place in
    subst (λ (o : Option ℕ). x ≡ by_word r c d pc o) e (subst (λ (b : Bool). x ≡ by_right c pc b) (sym right) (is ∙ ap decoded all))
