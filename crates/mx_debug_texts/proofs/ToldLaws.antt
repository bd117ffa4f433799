-- Documents that are told in parts.
use Rattle.std.proofs.Common.{◌≡◌, ◌⊎◌, ℕ, zero, suc, ◌+◌, ◌-◌, ◌*◌, ◌≤◌, nat_lt, List, [], ◌∷◌, ◌++◌, drop, length, min, take, Result, Ok}
use Rattle.std.proofs.Common.{Err, inl, inr, refl, ap, sym, ◌∙◌, arith, append_assoc, length-append, length-drop}
use Rattle.std.proofs.lemmas.List.{length-take, length-take-le, take-append-drop, take_all}
use Rattle.std.proofs.lemmas.Grind.{flat_map-append}
use Rattle.mx_packets.specs.Frames.{cut, pair}
use Rattle.mx_packets.specs.Streams.{sent}
use Rattle.mx_packets.specs.Lines.{Speaks, SpeaksOrFails}
use Rattle.mx_packets.proofs.CutLaws.{cut_full}
use Rattle.mx_packets.proofs.LineLaws.{fails_behind, speaks_more}
use Rattle.mx_debug_texts.specs.Told.{chunks_said, mark_by, most_shown, pairs, shown_text, window_text}

mark_at : (at n all rest part : ℕ) → rest ≡ all - at → part ≡ min n rest → nat_lt n rest ≡ nat_lt (at + part) all
mark_at at n all rest part e f = grind arith

-- a part of a text, by what a window holds of it
pub window_is : (text : List ℕ) (at count : ℕ) → mark_by (nat_lt (min count 4000) (length (drop at text)))
    ∷ take (min count 4000) (drop at text) ≡ window_text text at count
window_is text at count =
    let n = min count 4000 in
    let rest = drop at text in
    ap (λ b. mark_by b ∷ take n rest) (mark_at at n (length text) (length rest) (length (take n rest)) (length-drop at text)
    (length-take n rest))

length_pairs : (bytes : List ℕ) → length (pairs bytes) ≡ 2 * length bytes
length_pairs [] = refl
length_pairs (b ∷ more) = let e = length_pairs more in omega (arith, e)

pairs_by : (before text : List ℕ) → (length text ≤ 2048) ⊎ (2048 ≤ length text)
    → cut (before ++ pairs (take 2048 text)) ≡ cut (before ++ pairs text)
pairs_by before text (inl few) = ap (λ (t : List ℕ). cut (before ++ pairs t)) (take_all 2048 text few)
pairs_by before text (inr many) =
    let front = pairs (take 2048 text) in
    let e : length front ≡ 4096 = (let f = length_pairs (take 2048 text) in let h = length-take-le 2048 text many in omega (arith, f, h)) in
    let long : 4096 ≤ length (before ++ front) = (let f = length-append before front in omega (arith, e, f)) in
    sym (cut_full (before ++ front) (pairs (drop 2048 text)) long)
    ∙ ap cut (append_assoc before front (pairs (drop 2048 text))
    ∙ ap (λ (t : List ℕ). before ++ t) (sym (flat_map-append pair (take 2048 text) (drop 2048 text))
    ∙ ap pairs (take-append-drop 2048 text)))

few_or_many : (n : ℕ) → (n ≤ 2048) ⊎ (2048 ≤ n)
few_or_many n = grind arith

-- an answer has no more than 2048 pairs
pub pairs_cut : (before text : List ℕ) → cut (before ++ pairs (take 2048 text)) ≡ cut (before ++ pairs text)
pairs_cut before text = pairs_by before text (few_or_many (length text))

pub no_chunks : (n : ℕ) (bytes : List ℕ) → n ≡ 0 → chunks_said n bytes ≡ []
no_chunks n bytes e = ap (λ j. chunks_said j bytes) e

pub no_bytes : (n : ℕ) (bytes : List ℕ) → length (take most_shown bytes) ≤ 0 → chunks_said n bytes ≡ []
no_bytes zero bytes none = refl
no_bytes (suc n) [] none = refl
no_bytes (suc n) (b ∷ more) none = absurd (let e = length-take most_shown (b ∷ more) in omega (arith, none, e))

pub next_chunk : (n : ℕ) (bytes : List ℕ) → 1 ≤ n → 1 ≤ length (take most_shown bytes)
    → chunks_said n bytes ≡ sent (cut (shown_text (take most_shown bytes))) ++ chunks_said (n - 1) (drop most_shown bytes)
next_chunk zero bytes some more = absurd (omega (arith, some))
next_chunk (suc n) [] some more = absurd (let e = length-take {A = ℕ} most_shown [] in omega (arith, more, e))
next_chunk (suc n) (b ∷ rest) some more =
    let less : n ≡ suc n - 1 = omega arith in
    ap (λ j. sent (cut (shown_text (take most_shown (b ∷ rest)))) ++ chunks_said j (drop most_shown (b ∷ rest))) less

-- what is said after something that was said
pub speaks_then : {L A E : Type 0} (says : L → List ℕ → L → Type 0) (room : L → ℕ) (l k m : L) (a b : List ℕ) (result : Result A E)
    → Speaks says room l a k → SpeaksOrFails says room k b m result
    → SpeaksOrFails says room l (a ++ b) m result
speaks_then says room l k m a b (Ok x) one two = speaks_more says room l k m a b one two
speaks_then says room l k m a b (Err e) one two = fails_behind says room l k m a b one two
