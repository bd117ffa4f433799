-- Bytes and words put one after another.
use Rattle.std.proofs.Common.{◌≡◌, ℕ, zero, suc, ◌+◌, ◌*◌, ◌/◌, ◌%◌, ◌<◌, List, [], ◌∷◌, ◌++◌, length, get_or, set, take, map, fold}
use Rattle.std.proofs.Common.{slice_get, Some, refl, ap, ◌∙◌, sym, arith}
use Rattle.std.specs.List.{flat_map}
use Rattle.std.proofs.lemmas.Grind.{flat_map-append, fold-append}
use Rattle.std.proofs.lemmas.List.{append-nil, length-take-le, map-append, take_more}
use Rattle.mx_words.specs.Bytes.{put_at}
use Rattle.mx_boot.specs.Areas.{Content, word_bytes}
use Rattle.mx_boot.specs.Boot.{with_content}
use Rattle.mx_boot.proofs.Placing.{length-word_bytes}
use Rattle.mx_boot.proofs.RamBytes.{put}
use Rattle.mx_boot.proofs.Rows.{take_at}

put-append : (ram : List ℕ) (k : ℕ) (xs ys : List ℕ) → put ram k (xs ++ ys) ≡ put (put ram k xs) (k + length xs) ys
put-append ram k [] ys = let same : k ≡ k + 0 = omega arith in ap (λ n. put ram n ys) same
put-append ram k (x ∷ xs) ys = put-append (set ram k x) (k + 1) xs ys
    ∙ (let same : k + 1 + length xs ≡ k + suc (length xs) = omega arith in ap (λ n. put (put (set ram k x) (k + 1) xs) n ys) same)

-- one byte, and one word
one_byte : (ram : List ℕ) (k b : ℕ) → b < 256 → put_at ram k 1 b ≡ put ram k (b ∷ [])
unfolding put_at
one_byte ram k b small = let same : b % 256 ≡ b = omega (arith, small) in ap (λ x. set ram k x) same

one_word : (ram : List ℕ) (k w : ℕ) → put_at ram k 4 w ≡ put ram k (word_bytes w)
unfolding put_at
one_word ram k w =
    let third : w / 256 / 256 % 256 ≡ w / 65536 % 256 = omega arith in
    let fourth : w / 256 / 256 / 256 % 256 ≡ w / 16777216 % 256 = omega arith in
    ap (λ x. set (set (set (set ram k (w % 256)) (k + 1) (w / 256 % 256)) (k + 1 + 1) x) (k + 1 + 1 + 1) (w / 256 / 256 / 256 % 256)) third
    ∙ ap (λ x. set (set (set (set ram k (w % 256)) (k + 1) (w / 256 % 256)) (k + 1 + 1) (w / 65536 % 256)) (k + 1 + 1 + 1) x) fourth

length_before : (xs : List ℕ) (i b : ℕ) → slice_get xs i ≡ Some b → length (take i xs) ≡ i
length_before [] i b at = absurd cc
length_before (x ∷ xs) zero b at = refl
length_before (x ∷ xs) (suc i) b at = ap suc (length_before xs i b at)

-- the next byte, and the next word
pub next-byte : (old now new : List ℕ) (k i place : ℕ) (bytes : List ℕ) → i < length bytes → get_or bytes i 0 < 256 → place ≡ k + i
    → now ≡ put old k (take i bytes)
    → new ≡ put_at now place 1 (get_or bytes i 0) → new ≡ put old k (take (i + 1) bytes)
next-byte old now new k i place bytes below small here so_far store =
    let b = get_or bytes i 0 in
    let long : length (take i bytes) ≡ i = length-take-le i bytes (omega (arith, below)) in
    store ∙ one_byte now place b small ∙ ap (λ n. put now n (b ∷ [])) (here ∙ ap (λ n. k + n) (sym long))
    ∙ ap (λ ram. put ram (k + length (take i bytes)) (b ∷ [])) so_far ∙ sym (put-append old k (take i bytes) (b ∷ []))
    ∙ ap (put old k) (sym (take_more bytes i 0 below))

pub next-word : (old now new : List ℕ) (k i place w : ℕ) (words : List ℕ) → slice_get words i ≡ Some w → place ≡ k + 4 * i
    → now ≡ put old k (flat_map word_bytes (take i words)) → new ≡ put_at now place 4 w
    → new ≡ put old k (flat_map word_bytes (take (i + 1) words))
next-word old now new k i place w words at here so_far store =
    let before = flat_map word_bytes (take i words) in
    let long : length before ≡ 4 * i = length-word_bytes (take i words) ∙ ap (λ n. 4 * n) (length_before words i w at) in
    store ∙ one_word now place w ∙ ap (λ n. put now n (word_bytes w)) (here ∙ ap (λ n. k + n) (sym long))
    ∙ ap (λ ram. put ram (k + length before) (word_bytes w)) so_far ∙ sym (put-append old k before (word_bytes w))
    ∙ ap (λ e. put old k (before ++ e)) (sym (append-nil (word_bytes w)))
    ∙ ap (put old k) (sym (flat_map-append word_bytes (take i words) (w ∷ [])))
    ∙ ap (λ xs. put old k (flat_map word_bytes xs)) (sym (take_at words i w at))

-- the next content, and those of the next element
pub next-content : {X : Type 0} (f : X → Content) (xs : List X) (i : ℕ) (x : X) (old now new : List ℕ) → slice_get xs i ≡ Some x
    → now ≡ fold with_content old (map f (take i xs))
    → new ≡ with_content now (f x) → new ≡ fold with_content old (map f (take (i + 1) xs))
next-content f xs i x old now new at so_far put_ =
    put_ ∙ ap (λ ram. with_content ram (f x)) so_far ∙ sym (fold-append with_content old (map f (take i xs)) (f x ∷ []))
    ∙ ap (fold with_content old) (sym (map-append f (take i xs) (x ∷ [])) ∙ ap (map f) (sym (take_at xs i x at)))

pub next-contents : {X : Type 0} (f : X → List Content) (xs : List X) (i : ℕ) (x : X) (old now new : List ℕ) → slice_get xs i ≡ Some x
    → now ≡ fold with_content old (flat_map f (take i xs))
    → new ≡ fold with_content now (f x) → new ≡ fold with_content old (flat_map f (take (i + 1) xs))
next-contents f xs i x old now new at so_far put_ =
    put_ ∙ ap (λ ram. fold with_content ram (f x)) so_far ∙ sym (fold-append with_content old (flat_map f (take i xs)) (f x))
    ∙ ap (λ cs. fold with_content old (flat_map f (take i xs) ++ cs)) (sym (append-nil (f x)))
    ∙ ap (fold with_content old) (sym (flat_map-append f (take i xs) (x ∷ [])) ∙ ap (flat_map f) (sym (take_at xs i x at)))

-- a word that tells how many bytes follow, and then those
pub sized-long : (bytes : List ℕ) → length (word_bytes (length bytes) ++ bytes) ≡ 4 + length bytes
sized-long bytes = omega arith

pub sized-put : (old between new : List ℕ) (k next : ℕ) (bytes : List ℕ) → next ≡ k + 4 → between ≡ put_at old k 4 (length bytes)
    → new ≡ put between next bytes
    → new ≡ put old k (word_bytes (length bytes) ++ bytes)
sized-put old between new k next bytes here first rest =
    rest ∙ ap (λ n. put between n bytes) here ∙ ap (λ ram. put ram (k + 4) bytes) (first ∙ one_word old k (length bytes))
    ∙ sym (put-append old k (word_bytes (length bytes)) bytes)
