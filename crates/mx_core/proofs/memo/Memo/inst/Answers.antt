use Rattle.std.proofs.Common.{◌≡◌, ℕ, ◌/◌, ◌%◌, Bool, List, length, length-set, All, Option, Some, None, IfSome, refl, ◌∙◌}
use Rattle.std.proofs.lemmas.List.Elements.{All-set}
use Rattle.mx_isa.specs.declared.inst.Inst.{Inst}
use Rattle.mx_isa.specs.Ranges.{IsValid}
use Rattle.mx_core.specs.declared.memo.Entry.{Entry}
use Rattle.mx_core.specs.Memo.{HasFilled, IsDecoded, quick}
use Rattle.mx_core.proofs.memo.Memo.inst.Goals as goal
use Rattle.mx_core.proofs.memo.Memo.inst.Goals.{then-self-at+else-not-fill, else-self-at}

-- entries stay decoded where a word is kept
filled : (o : Option Inst) (at word : ℕ) (old new : List Entry) (answer : Bool) → quick word ≡ o → IfSome o IsValid → length old ≡ 1024
    → All IsDecoded old →
    HasFilled o at word old answer new → (length new ≡ 1024) × All IsDecoded new
filled None at word old new answer is valid long all f = rw f.1 (long, all)
filled (Some inst) at word old new answer is valid long all f =
    let e : Entry = record { word = word; inst = inst } in
    let decoded : IsDecoded e = record { inst = is; valid = valid } in
    rw f.1 (length-set old at e ∙ long, All-set IsDecoded old at e decoded all)

pub invariant_of-self-2 : goal.invariant_of-self-2
invariant_of-self-2 c =
    let entries = c.self.inside.entries in
    elim c.if-self-at.branch [
      | then-self-at+else-not-fill w ↦
          rw w.self-inside-is (filled (quick c.args.word) (c.args.addr / 4 % 1024) c.args.word entries _ w.fill.result refl
          w.fill.ensures.valid c.self.invariant.0 c.self.invariant.1 w.fill.ensures.kept)
      | else-self-at w ↦ rw w.self-inside-is c.self.invariant
    ]
