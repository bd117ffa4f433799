-- Worked examples of what tables store and need after grants, computed.
use Rattle.std.specs.Prelude.{◌≡◌, ℕ, List, [], ◌∷◌, false, refl}
use Rattle.mx_words.specs.declared.perm.Perm.{Perm}
use Rattle.mx_words.specs.declared.perm.Perm.TheVariants as P
use Rattle.mx_words.specs.declared.tables.Kind.TheVariants as K
use Rattle.mx_words.specs.declared.tables.Level.TheVariants as L
use Rattle.mx_words.specs.declared.tables.Need.{Need}
use Rattle.mx_words.specs.Newest.{Grant, map}
use Rattle.mx_words.specs.Need.{need, fits}
use Rattle.mx_words.specs.Reach.{stored}

abbrev grant : ℕ → ℕ → Perm → Grant
grant first count p = record { first = first; count = count; value = p }

abbrev map_of : List Grant → List Perm
map_of grants = map grants 16384

abbrev counts : ℕ → ℕ → ℕ → Need
counts upper leaf spill = record { upper = upper; leaf = leaf; spill = spill }

-- segment entries: read-write on words 1024 to 1027, and then on 1028 to 1031 too
abbrev segments : List Perm
segments = map_of (grant 1024 4 P.ReadWrite ∷ [])

segments-need : need K.Segments (segments ∷ []) ≡ counts 0 1 0
segments-need = refl

segments-first : (stored K.Segments segments 0).stored ≡ 0x80000000
segments-first = refl

segments-second : (stored K.Segments segments 1025).stored ≡ 0x80001002
segments-second = refl

segments-third : (stored K.Segments segments 1028).stored ≡ 0x80001010
segments-third = refl

-- after the second change the third entry stands after the longer run, and there is no fourth
segments_more : List Perm
segments_more = map_of (grant 1024 4 P.ReadWrite ∷ grant 1028 4 P.ReadWrite ∷ [])

segments-third-more : (stored K.Segments (map_of (grant 1024 4 P.ReadWrite ∷ grant 1028 4 P.ReadWrite ∷ [])) 16383).stored ≡ 0x80001020
segments-third-more = refl

-- reach over a page: read on words 976 to 1012, and then on word 1024, the first of the next page
abbrev reaching : List Perm
reaching = map_of (grant 976 37 P.Read ∷ [])

abbrev reaching_more : List Perm
reaching_more = map_of (grant 976 37 P.Read ∷ grant 1024 1 P.Read ∷ [])

reach-first : (stored K.Packed reaching 1008).stored ≡ 0xFFC01406
reach-first = refl

reach-changed : (stored K.Packed reaching_more 1008).stored ≡ 0xF8001406
reach-changed = refl

reach-next : (stored K.Packed reaching_more 1024).stored ≡ 0x07C00406
reach-next = refl

-- spill and back: four runs in the line of words 16 to 31, then five, then four again
abbrev spilling : List Grant
spilling = grant 17 1 P.Read ∷ grant 18 1 P.ReadWrite ∷ []

abbrev spilled : List Grant
spilled = grant 17 1 P.Read ∷ grant 18 1 P.ReadWrite ∷ grant 31 1 P.Read ∷ []

abbrev back : List Grant
back = grant 17 1 P.Read ∷ grant 18 1 P.ReadWrite ∷ grant 31 1 P.Read ∷ grant 31 1 P.None ∷ []

four-runs : stored K.Packed (map_of spilling) 20 ≡ record { level = L.Leaf; first = 16; count = 16; stored = 0x87CC8492 }
four-runs = refl

four-runs-need : need K.Packed (map_of spilling ∷ []) ≡ counts 2 1 0
four-runs-need = refl

five-runs : stored K.Packed (map_of spilled) 20 ≡ record { level = L.Spill; first = 16; count = 16; stored = 0x40000024 }
five-runs = refl

five-runs-need : need K.Packed (map_of spilled ∷ []) ≡ counts 2 1 1
five-runs-need = refl

four-runs-again : (stored K.Packed (map_of back) 20).stored ≡ 0x87CC8492
four-runs-again = refl

four-runs-again-need : need K.Packed (map_of back ∷ []) ≡ counts 2 1 0
four-runs-again-need = refl

-- full tables: read on word 0, on words 0 and 1024, on word 1024 alone
one-page : need K.Multilevel (map_of (grant 0 1 P.Read ∷ []) ∷ []) ≡ counts 2 1 0
one-page = refl

two-pages : need K.Multilevel (map_of (grant 0 1 P.Read ∷ grant 1024 1 P.Read ∷ []) ∷ []) ≡ counts 2 2 0
two-pages = refl

two-pages-full : fits K.Multilevel (counts 2 1 0) (map_of (grant 0 1 P.Read ∷ grant 1024 1 P.Read ∷ []) ∷ []) ≡ false
two-pages-full = refl

no-page : need K.Multilevel (map_of (grant 0 1 P.Read ∷ grant 0 1 P.None ∷ []) ∷ []) ≡ counts 1 0 0
no-page = refl

other-page : need K.Multilevel (map_of (grant 0 1 P.Read ∷ grant 0 1 P.None ∷ grant 1024 1 P.Read ∷ []) ∷ []) ≡ counts 2 1 0
other-page = refl

-- three words of execute-read at the start of RAM: one root, one mid and one leaf table, and the leaf entry of the first line
three-words-need : need K.Packed (map_of (grant 0 3 P.ExecuteRead ∷ []) ∷ []) ≡ counts 2 1 0
three-words-need = refl

three-words-shown : stored K.Packed (map_of (grant 0 3 P.ExecuteRead ∷ [])) 0
    ≡ record { level = L.Leaf; first = 0; count = 16; stored = 0x07c00c0e }
three-words-shown = refl
