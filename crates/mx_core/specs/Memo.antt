-- Decoded words that are kept for a row of turns: which instructions a row carries out, and what an entry says.
use Rattle.std.specs.Prelude.{◌≡◌, ℕ, List, slice_set, Bool, true, false, not, ◌==◌, if◌then◌else◌, Option, Some, None}
use Rattle.mx_isa.specs.declared.inst.Inst.{Inst}
use Rattle.mx_isa.specs.declared.inst.Inst.TheVariants.{Load, Store, Ecall, Ebreak}
use Rattle.mx_isa.specs.Ranges.{IsValid}
use Rattle.mx_isa.specs.Table.{decoded}
use Rattle.mx_core.specs.declared.memo.Entry.{Entry}

-- whether a row carries out an instruction: none that calls or breaks, and no access by x0, whose place is the fetches' own
abbrev pub stays : Inst → Bool
stays (Load width rd rs1 imm) = not (rs1 == 0)
stays (Store width rs1 rs2 imm) = not (rs1 == 0)
stays Ecall = false
stays Ebreak = false
stays _ = true

abbrev pub staying : Option Inst → Option Inst
staying None = None
staying (Some inst) = if stays inst then Some inst else None

-- the instruction of a word, where a row carries it out
abbrev pub quick : ℕ → Option Inst
quick word = staying (decoded word)

-- an entry holds the instruction of its word, which a row carries out
pub record IsDecoded (e : Entry) : Type 0 where
  pub inst : quick e.word ≡ Some e.inst
  pub valid : IsValid e.inst

-- a word whose instruction a row carries out is kept at a place of the entries, and any other isn't
abbrev pub HasFilled : Option Inst → ℕ → ℕ → List Entry → Bool → List Entry → Type 0
HasFilled None at word old answer new = (answer ≡ false) × (new ≡ old)
HasFilled (Some inst) at word old answer new =
    (answer ≡ true) × (new ≡ slice_set old at (record { word = word; inst = inst }))
