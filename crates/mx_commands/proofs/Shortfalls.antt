-- What answers say that come to a file that isn't whole: a call failed, it ended before the size told, or it is absent.
use Rattle.std.proofs.Common.{◌≡◌, ℕ, ◌-◌, ◌<◌, ◌⊎◌, List, [], ◌∷◌, ◌++◌, length, Option, Some, None, unwrap_or, sym, ap, subst, ◌∙◌, inl}
use Rattle.std.proofs.Common.{inr, arith}
use Rattle.std.proofs.lemmas.Option.{none-some}
use Rattle.std.specs.FinMap.{get}
use Rattle.mx_words.proofs.OptionLaws.{unmapped}
use Rattle.mx_io.specs.Store.{FileMap, file_bytes}
use Rattle.mx_io.specs.Answer.{Answer, Sized, Gave, HasSucceeded, IsOf}
use Rattle.mx_io.proofs.Talks.{Each}
use Rattle.mx_commands.specs.Finding.{Finding, Absent, Large, Short, Broken, Whole, EndsEarly, Completes, FindsSized, Finds}
use Rattle.mx_commands.proofs.Findings.{not_early, present}

absent_broken : Absent ≡ Broken → ⊥
absent_broken e = cc

absent_large : Absent ≡ Large → ⊥
absent_large e = cc

absent_short : {t g : ℕ} → Absent ≡ Short t g → ⊥
absent_short e = cc

absent_whole : {bytes : List ℕ} → Absent ≡ Whole bytes → ⊥
absent_whole e = cc

broken_large : Broken ≡ Large → ⊥
broken_large e = cc

broken_short : {t g : ℕ} → Broken ≡ Short t g → ⊥
broken_short e = cc

broken_whole : {bytes : List ℕ} → Broken ≡ Whole bytes → ⊥
broken_whole e = cc

large_short : {t g : ℕ} → Large ≡ Short t g → ⊥
large_short e = cc

short_whole : {t g : ℕ} {bytes : List ℕ} → Short t g ≡ Whole bytes → ⊥
short_whole e = cc

short_told : {t g told got : ℕ} → Short t g ≡ Short told got → t ≡ told
short_told e = cc

short_got : {t g told got : ℕ} → Short t g ≡ Short told got → g ≡ got
short_got e = cc

-- a call failed: what each failed answer shows holds
module _ (P : Type 0) where
  abbrev pub Shows : Answer → Type 0
  Shows a = (HasSucceeded a → ⊥) → P

  last_failed : (name : List ℕ) (told at room : ℕ) (a : Answer) (part : Option (List ℕ)) → Shows a → a ≡ Gave name at room part
      → EndsEarly part told at Broken → P
  last_failed name told at room a None shows is early = shows (λ ok. subst HasSucceeded is ok)
  last_failed name told at room a (Some []) shows is early = absurd (broken_short early)
  last_failed name told at room a (Some (byte ∷ bytes)) shows is early = absurd early

  parts_failed : (name : List ℕ) (told : ℕ) (got : List ℕ) (answers : List Answer) → Each Shows answers
      → Completes name told got answers Broken → P
  parts_failed name told got [] each c = absurd (broken_whole c.1)
  parts_failed name told got (a ∷ more) each c =
      elim c.3 [
        | inl h ↦ parts_failed name told (got ++ h.0) more each.1 h.3
        | inr h ↦ last_failed name told (length got) (told - length got) a c.1 each.0 c.2 h.0
      ]

  size_failed : (most : ℕ) (name : List ℕ) (a : Answer) (size : Option (Option ℕ)) (more : List Answer) → Shows a → Each Shows more
      → a ≡ Sized name size → FindsSized most name size more Broken → P
  size_failed most name a None more shows each is f = shows (λ ok. subst HasSucceeded is ok)
  size_failed most name a (Some None) more shows each is f = absurd (absent_broken (sym f.0))
  size_failed most name a (Some (Some told)) more shows each is f =
      elim f [ inl h ↦ absurd (broken_large h.1) | inr h ↦ parts_failed name told [] more each h.1 ]

  pub broken_shows : (most : ℕ) (name : List ℕ) (answers : List Answer) → Each Shows answers → Finds most name answers Broken → P
  broken_shows most name [] each f = absurd f
  broken_shows most name (a ∷ more) each f = size_failed most name a f.0 more each.0 each.1 f.1 f.2

-- a file that ended early ended before the size told
early_less : (told at : ℕ) (part : Option (List ℕ)) (t g : ℕ) → at < told → EndsEarly part told at (Short t g) → g < t
early_less told at None t g less early = absurd (broken_short (sym early))
early_less told at (Some []) t g less early = omega (arith, short_told early, short_got early, less)
early_less told at (Some (byte ∷ bytes)) t g less early = absurd early

parts_less : (name : List ℕ) (told : ℕ) (got : List ℕ) (answers : List Answer) (t g : ℕ) → Completes name told got answers (Short t g)
    → g < t
parts_less name told got [] t g c = absurd (short_whole c.1)
parts_less name told got (a ∷ more) t g c =
    elim c.3 [ inl h ↦ parts_less name told (got ++ h.0) more t g h.3 | inr h ↦ early_less told (length got) c.1 t g c.0 h.0 ]

size_less : (most : ℕ) (name : List ℕ) (size : Option (Option ℕ)) (more : List Answer) (t g : ℕ)
    → FindsSized most name size more (Short t g) → g < t
size_less most name None more t g f = absurd (broken_short (sym f.0))
size_less most name (Some None) more t g f = absurd (absent_short (sym f.0))
size_less most name (Some (Some told)) more t g f = elim f [
  | inl h ↦ absurd (large_short (sym h.1))
  | inr h ↦
      parts_less name told [] more t g h.1
]

pub short_less : (most : ℕ) (name : List ℕ) (answers : List Answer) (t g : ℕ) → Finds most name answers (Short t g) → g < t
short_less most name [] t g f = absurd f
short_less most name (a ∷ more) t g f = size_less most name f.0 more t g f.2

module _ (files : FileMap) (name : List ℕ) where
  -- no file ends early over a store that tells
  early_never : (told at room : ℕ) (part : Option (List ℕ)) (t g : ℕ) → IsOf files (Gave name at room part) → 0 < room
      → at < length (file_bytes files name) → EndsEarly part told at (Short t g) → ⊥
  early_never told at room None t g of more inside early = broken_short (sym early)
  early_never told at room (Some []) t g of more inside early =
      not_early files name told at room (Short t g) (Some []) tt of more inside early
  early_never told at room (Some (byte ∷ bytes)) t g of more inside early = early

  parts_never : (told : ℕ) → length (file_bytes files name) ≡ told → (got : List ℕ) (answers : List Answer) (t g : ℕ)
      → Each (IsOf files) answers → Completes name told got answers (Short t g) → ⊥
  parts_never told size got [] t g of c = short_whole c.1
  parts_never told size got (a ∷ more) t g of c =
      elim c.3 [
        | inl h ↦ parts_never told size (got ++ h.0) more t g of.1 h.3
        | inr h ↦ early_never told (length got) (told - length got) c.1 t g (subst (IsOf files) c.2 of.0) (omega (arith, c.0))
            (omega (arith, size, c.0)) h.0
      ]

  size_never : (most : ℕ) (size : Option (Option ℕ)) (more : List Answer) (t g : ℕ) → IsOf files (Sized name size) → Each (IsOf files) more
      → FindsSized most name size more (Short t g) → ⊥
  size_never most None more t g of ofs f = broken_short (sym f.0)
  size_never most (Some None) more t g of ofs f = absent_short (sym f.0)
  size_never most (Some (Some told)) more t g of ofs f =
      let p = present (get files name) told of in
      let size : length (file_bytes files name) ≡ told = ap (λ o. length (unwrap_or o [])) p.1 ∙ p.2 in
      elim f [ inl h ↦ large_short (sym h.1) | inr h ↦ parts_never told size [] more t g ofs h.1 ]

  pub short_never : (most : ℕ) (answers : List Answer) (t g : ℕ) → Each (IsOf files) answers → Finds most name answers (Short t g) → ⊥
  short_never most [] t g of f = f
  short_never most (a ∷ more) t g of f = size_never most f.0 more t g (subst (IsOf files) f.1 of.0) of.1 f.2

  -- a file that is found absent is absent
  early_here : (told at : ℕ) (part : Option (List ℕ)) → EndsEarly part told at Absent → ⊥
  early_here told at None early = absent_broken early
  early_here told at (Some []) early = absent_short early
  early_here told at (Some (byte ∷ bytes)) early = early

  parts_here : (told : ℕ) (got : List ℕ) (answers : List Answer) → Completes name told got answers Absent → ⊥
  parts_here told got [] c = absent_whole c.1
  parts_here told got (a ∷ more) c = elim c.3 [
    | inl h ↦ parts_here told (got ++ h.0) more h.3
    | inr h ↦
        early_here told (length got) c.1 h.0
  ]

  size_absent : (most : ℕ) (size : Option (Option ℕ)) (more : List Answer) → IsOf files (Sized name size)
      → FindsSized most name size more Absent → get files name ≡ None
  size_absent most None more of f = absurd (absent_broken f.0)
  size_absent most (Some None) more of f = unmapped length (get files name) (sym of)
  size_absent most (Some (Some told)) more of f = absurd (elim f [ inl h ↦ absent_large h.1 | inr h ↦ parts_here told [] more h.1 ])

  pub absent_named : (most : ℕ) (answers : List Answer) → Each (IsOf files) answers → Finds most name answers Absent → get files name ≡ None
  absent_named most [] of f = absurd f
  absent_named most (a ∷ more) of f = size_absent most f.0 more (subst (IsOf files) f.1 of.0) f.2

  -- a file that is absent is found so, or a call failed
  size_found : (most : ℕ) (size : Option (Option ℕ)) (more : List Answer) (x : Finding) → get files name ≡ None
      → IsOf files (Sized name size) → FindsSized most name size more x
      → (x ≡ Absent) ⊎ (x ≡ Broken)
  size_found most None more x none of f = inr f.0
  size_found most (Some None) more x none of f = inl f.0
  size_found most (Some (Some told)) more x none of f = let p = present (get files name) told of in absurd (none-some p.0 (sym none ∙ p.1))

  pub absent_found : (most : ℕ) (answers : List Answer) (x : Finding) → get files name ≡ None → Each (IsOf files) answers
      → Finds most name answers x → (x ≡ Absent) ⊎ (x ≡ Broken)
  absent_found most [] x none of f = absurd f
  absent_found most (a ∷ more) x none of f = size_found most f.0 more x none (subst (IsOf files) f.1 of.0) f.2
