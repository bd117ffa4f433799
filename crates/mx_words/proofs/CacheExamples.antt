-- Worked examples of the caches, computed.
use Rattle.std.specs.Prelude.{◌≡◌, ℕ, List, [], ◌∷◌, Bool, true, false, fold, replicate, slice_set, refl, Some, None}
use Rattle.std.specs.Prelude.{map as list_map}
use Rattle.mx_words.specs.declared.perm.Perm.{Perm}
use Rattle.mx_words.specs.declared.perm.Perm.TheVariants as P
use Rattle.mx_words.specs.declared.perm.Span.{Span}
use Rattle.mx_words.specs.declared.tables.Kind.TheVariants as K
use Rattle.mx_words.specs.Newest.{map}
use Rattle.mx_words.specs.Reach.{span}
use Rattle.mx_words.specs.Caches.{Cache, Entry, no_cache, raised, checked, left_domain, without_range, meets}

record Counts : Type 0 where
  sidecar : ℕ
  lookaside : ℕ
  walks : ℕ

abbrev counts_of : Cache → Counts
counts_of c = record { sidecar = c.sidecar; lookaside = c.lookaside; walks = c.walks }

abbrev counts : ℕ → ℕ → ℕ → Counts
counts sidecar lookaside walks = record { sidecar = sidecar; lookaside = lookaside; walks = walks }

-- one word, two domains: execute-read on word 0 in domain 1, read-write in domain 2, a list of 8 over packed tables
abbrev map_of : Perm → List Perm
map_of p = map (record { first = 0; count = 1; value = p } ∷ []) 16384

abbrev look : ℕ → Perm → Cache → Cache
look domain p c = checked 8 5 domain 0 (span K.Packed (map_of p) 0) false c

abbrev two_domains : Cache
two_domains =
    look 1 P.ExecuteRead (look 1 P.ExecuteRead (left_domain (look 2 P.ReadWrite (left_domain (look 1 P.ExecuteRead no_cache)))))

two-domains : counts_of two_domains ≡ counts 1 1 2
two-domains = refl

-- revocation under a schedule: hart 1 looks at word 1024 before it has heard of a call on words 1024 to 1027, then twice after,
-- and twice after the call took effect
abbrev before : Span
before = span K.Packed (map (record { first = 1024; count = 4; value = P.Read } ∷ []) 16384) 1024

abbrev after : Span
after = span K.Packed (map (record { first = 1024; count = 4; value = P.Read } ∷ record { first = 1024; count = 4; value = P.None } ∷ [])
    16384) 1024

abbrev seen : Span → Bool → Cache → Cache
seen walked barred c = checked 8 5 2 1024 walked barred c

abbrev heard : Cache → Cache
heard c = without_range 1024 4 c

before-meets : meets before 1024 4 ≡ true
before-meets = refl

first-look : counts_of (seen before false no_cache) ≡ counts 0 0 1
first-look = refl

second-look : counts_of (seen before true (heard (seen before false no_cache))) ≡ counts 0 0 2
second-look = refl

third-look : counts_of (seen before true (seen before true (heard (seen before false no_cache)))) ≡ counts 0 0 3
third-look = refl

last-looks : counts_of (seen after false (seen after false (seen before true (seen before true (heard (seen before false no_cache))))))
    ≡ counts 1 0 4
last-looks = refl

-- counts end at 2^64 - 1
counts-raised : list_map raised (0 ∷ 0xFFFFFFFFFFFFFFFE ∷ 0xFFFFFFFFFFFFFFFF ∷ []) ≡ 1 ∷ 0xFFFFFFFFFFFFFFFF ∷ 0xFFFFFFFFFFFFFFFF ∷ []
counts-raised = refl

-- spans of words 0 to 3, 2 to 5, 4 to 7 and 4 to 5; caches with the spans of some places, a list of two at most and counts 10, 20 and 30
abbrev span_of : ℕ → ℕ → Perm → Span
span_of first count p = record { first = first; count = count; perm = p }

abbrev low : Span
low = span_of 0 4 P.Read

abbrev middle : Span
middle = span_of 2 4 P.ReadWrite

abbrev high : Span
high = span_of 4 4 P.ExecuteRead

abbrev short : Span
short = span_of 4 2 P.ReadWrite

abbrev cache : List (ℕ × Span) → List Entry → ℕ → ℕ → ℕ → Cache
cache places kept sidecar lookaside walks = record {
  places = fold (λ ps (p : ℕ × Span). slice_set ps p.0 (Some p.1)) (replicate 32 None) places;
  kept = kept;
  sidecar = sidecar;
  lookaside = lookaside;
  walks = walks;
}

no-cache : no_cache ≡ cache [] [] 0 0 0
no-cache = refl

-- a look of domain 1 at a word at place 5, where a walk answers the span of words 4 to 5
abbrev look_at : ℕ → Bool → Cache → Cache
look_at word barred c = checked 2 5 1 word short barred c

-- the place comes first, whoever put its span there
place-answers : look_at 5 false (cache ((5, high) ∷ []) ((1, middle) ∷ []) 10 20 30) ≡ cache ((5, high) ∷ []) ((1, middle) ∷ []) 11 20 30
place-answers = refl

-- then the newest kept span of the domain that covers the word; it goes into the place, and the list stays
list-answers : look_at 5 false (cache ((4, high) ∷ (5, low) ∷ []) ((1, low) ∷ (2, high) ∷ (1, middle) ∷ (1, high) ∷ []) 10 20 30)
    ≡ cache ((4, high) ∷ (5, middle) ∷ []) ((1, low) ∷ (2, high) ∷ (1, middle) ∷ (1, high) ∷ []) 10 21 30
list-answers = refl

-- then the tables: their span goes into the place and to the front of the list, and a full list loses its oldest
tables-answer : look_at 5 false (cache ((6, high) ∷ []) ((2, high) ∷ (1, low) ∷ []) 10 20 30)
    ≡ cache ((5, short) ∷ (6, high) ∷ []) ((1, short) ∷ (2, high) ∷ []) 10 20 31
tables-answer = refl

list-not-full : look_at 5 false (cache [] ((1, low) ∷ []) 10 20 30) ≡ cache ((5, short) ∷ []) ((1, short) ∷ (1, low) ∷ []) 10 20 31
list-not-full = refl

-- nothing is kept of a barred walk
barred-walk : look_at 5 true (cache ((5, low) ∷ []) ((1, low) ∷ []) 10 20 30) ≡ cache ((5, low) ∷ []) ((1, low) ∷ []) 10 20 31
barred-walk = refl

-- but a place or the list answers also where a walk would be barred
barred-place : look_at 5 true (cache ((5, high) ∷ []) [] 10 20 30) ≡ cache ((5, high) ∷ []) [] 11 20 30
barred-place = refl

-- the places are emptied, and the list and the counts stay
emptied : left_domain (cache ((0, low) ∷ (31, high) ∷ []) ((1, low) ∷ []) 10 20 30) ≡ cache [] ((1, low) ∷ []) 10 20 30
emptied = refl

-- the spans that meet words 5 to 6 are dropped, in the places and in the list, of each domain
dropped : without_range 5 2 (cache ((0, low) ∷ (3, middle) ∷ (31, high) ∷ []) ((1, low) ∷ (2, short) ∷ (1, high) ∷ (2, low) ∷ []) 10 20 30)
    ≡ cache ((0, low) ∷ []) ((1, low) ∷ (2, low) ∷ []) 10 20 30
dropped = refl

nothing-dropped : without_range 5 0 (cache ((3, middle) ∷ []) ((1, high) ∷ []) 10 20 30)
    ≡ cache ((3, middle) ∷ []) ((1, high) ∷ []) 10 20 30
nothing-dropped = refl
