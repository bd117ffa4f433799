-- The packet of an answer, byte by byte.
use Rattle.std.proofs.Common.{◌≡◌, ℕ, ◌+◌, ◌*◌, ◌%◌, ◌<◌, ◌≤◌, Bool, true, false, List, [], ◌∷◌, ◌++◌, length, take, get_or, flat_map}
use Rattle.std.proofs.Common.{if◌then◌else◌, ap, sym, ◌∙◌, arith, length-append}
use Rattle.std.specs.List.{sum}
use Rattle.std.proofs.lemmas.List.{append-nil}
use Rattle.std.proofs.lemmas.Grind.{flat_map-append, take_at_read}
use Rattle.mx_packets.specs.Packets.{flipped}
use Rattle.mx_packets.specs.Streams.{escaped, is_special}
use Rattle.mx_packets.proofs.StreamLaws.{sum_append}

few_by : (s : Bool) (b : ℕ) → length (if s then 125 ∷ flipped b ∷ [] else b ∷ []) ≤ 2
few_by true b = omega arith
few_by false b = omega arith

pub escaped_few : (b : ℕ) → length (escaped b) ≤ 2
escaped_few b = few_by (is_special b) b

escaped_item : (body : List ℕ) (i : ℕ) → i < length body →
    flat_map escaped (take (i + 1) body) ≡ flat_map escaped (take i body) ++ escaped (get_or body i 0)
escaped_item body i few =
    let b = get_or body i 0 in
    ap (flat_map escaped) (take_at_read body i 0 few).1 ∙ flat_map-append escaped (take i body) (b ∷ [])
    ∙ ap (λ (zs : List ℕ). flat_map escaped (take i body) ++ zs) (append-nil (escaped b))

-- the packet as far as so many bytes of the answer, and its sum
pub record Framed (body : List ℕ) (i : ℕ) (bytes : List ℕ) (total : ℕ) : Type 0 where
  pub items : bytes ≡ 36 ∷ flat_map escaped (take i body)
  pub checksum : total ≡ sum (flat_map escaped (take i body)) % 256
  pub few : length bytes ≤ 1 + 2 * i

pub framed_next : (body items new : List ℕ) (i total out : ℕ) → i < length body → Framed body i items total
    → new ≡ items ++ escaped (get_or body i 0) → out ≡ (total + sum (escaped (get_or body i 0))) % 256
    → Framed body (i + 1) new out
framed_next body items new i total out below is more added =
    let b = get_or body i 0 in
    let front = flat_map escaped (take i body) in
    let sums : sum (front ++ escaped b) ≡ sum front + sum (escaped b) = sum_append front (escaped b) in
    let before : total ≡ sum front % 256 = is.checksum in
    let long : length (items ++ escaped b) ≡ length items + length (escaped b) = length-append items (escaped b) in
    let one : length (escaped b) ≤ 2 = escaped_few b in
    let all : length items ≤ 1 + 2 * i = is.few in
    let total_is : out ≡ sum (front ++ escaped b) % 256 = omega (arith, sums, before, added) in
    let longer : length new ≡ length (items ++ escaped b) = ap length more in
    record {
      items = more ∙ ap (λ (zs : List ℕ). zs ++ escaped b) is.items ∙ ap (λ (zs : List ℕ). 36 ∷ zs) (sym (escaped_item body i below));
      checksum = total_is ∙ ap (λ (zs : List ℕ). sum zs % 256) (sym (escaped_item body i below));
      few = omega (arith, longer, long, one, all);
    }
