-- What a line without faults keeps: the segments of the program so far, and the place after them.
use Rattle.std.proofs.Common.{◌≡◌, ◌==◌, ℕ, ◌-◌, ◌^◌, ◌<◌, ◌≤◌, Bool, true, false, cond, not, ◌&&◌, ◌||◌, List, [], ◌∷◌, length, map, refl}
use Rattle.std.proofs.Common.{arith, Option, None, Some, IsSome, is_some, nat_le}
use Rattle.std.specs.Option.{option_map_or}
use Rattle.std.proofs.lemmas.Bool.{leb-true, and_parts}
use Rattle.std.proofs.lemmas.List.{length-map, length-replicate}
use Rattle.mx_image.specs.Image.{words}
use Rattle.mx_image.proofs.Sizes.{length-words}
use Rattle.mx_source.specs.declared.mnemonics.Keyword.{Keyword}
use Rattle.mx_source.specs.declared.mnemonics.Keyword.TheVariants.{Text, Data, At, Word, Byte, Ascii, Li, La, Inst}
use Rattle.mx_source.specs.declared.number.Number.{Number}
use Rattle.mx_source.specs.Numbers.{fits}
use Rattle.mx_source.specs.Fields.{Fields, value_fields, label_fields, fields_of, address_range}
use Rattle.mx_asm.specs.declared.places.Place.{Place}
use Rattle.mx_asm.specs.Places.{address_number, address_of, size_of}
use Rattle.mx_asm.specs.Labels.{Definition}
use Rattle.mx_asm.specs.Faults.{kind_fault, address_fault, operand_fault, is_full, place_fault, begins_segment, is_misplaced}
use Rattle.mx_asm.specs.Denoted.{bytes_of, pair_words, inst_word, word_of_value, byte_of_number}
use Rattle.mx_asm.proofs.FaultLaws.{kind_some}
use Rattle.mx_words.proofs.OptionLaws.{row_none, withheld}

-- what the rows of a statement's place say where none applies
pub record IsPlain (label : Option (List ℕ)) (keyword : Keyword) (operands : List (List ℕ)) (place : Place) : Type 0 where
  pub begun : ((place.segments == 0) && (is_some label || not (begins_segment keyword))) ≡ false
  pub aligned : is_misplaced keyword operands place ≡ false
  pub sixteenth : (begins_segment keyword && nat_le 16 place.segments) ≡ false
  pub room : is_full label place (size_of keyword operands place.here) ≡ false

pub place_plain : (label : Option (List ℕ)) (keyword : Keyword) (operands : List (List ℕ)) (place : Place)
    → place_fault label keyword operands place ≡ None → IsPlain label keyword operands place
unfolding place_fault
place_plain label keyword operands place h =
    let a = row_none _ 6 _ h in
    let b = row_none _ 7 _ a.1 in
    let c = row_none _ 8 _ b.1 in
    let d = row_none _ 9 _ c.1 in
    let e = row_none _ 10 None d.1 in
    record { begun = a.0; aligned = b.0; sixteenth = d.0; room = e.0 }

below_at : (negative : Bool) (m : ℕ) → m ≤ cond negative 0 0xFFFFFFFF → m < 2 ^ 32
below_at true m h = omega arith
below_at false m h = omega arith

-- an address without fault
number_below : (found : Option Number) → kind_fault (λ n. cond (fits address_range n) None (Some 3)) found ≡ None
    → option_map_or (λ n. n.magnitude) found 0 < 2 ^ 32
number_below None h = cc
number_below (Some n) h = below_at n.negative n.magnitude (leb-true n.magnitude (cond n.negative 0 0xFFFFFFFF)
    (and_parts (nat_le n.magnitude (cond n.negative 0 0xFFFFFFFF)) true (withheld (fits address_range n) 3 h)).0)

pub address_below : (operands : List (List ℕ)) → address_fault operands ≡ None → address_of operands < 2 ^ 32
unfolding address_of
address_below operands h = number_below (address_number operands) h

-- the size is the number of bytes
pair_size : (labels : List Definition) (found : Option Fields) → IsSome found
    → length (option_map_or (λ f. words (pair_words labels f)) found []) ≡ 8
pair_size labels None h = cc
pair_size labels (Some f) h = refl

inst_size : (found : Option Fields) (word : Fields → ℕ) → IsSome found → length (option_map_or (λ f. words (word f ∷ [])) found []) ≡ 4
inst_size None word h = cc
inst_size (Some f) word h = refl

pub length-bytes_of : (labels : List Definition) (here : ℕ) (keyword : Keyword) (operands : List (List ℕ))
    → operand_fault labels keyword operands ≡ None
    → length (bytes_of labels here keyword operands) ≡ size_of keyword operands here
unfolding bytes_of size_of operand_fault
length-bytes_of labels here Text operands h = refl
length-bytes_of labels here Data operands h = refl
length-bytes_of labels here At operands h = length-replicate (address_of operands - here) 0
length-bytes_of labels here Word operands h = omega (
  arith,
  length-words (map (word_of_value labels) operands),
  length-map operands
      (word_of_value labels),
)
length-bytes_of labels here Byte operands h = length-map operands byte_of_number
length-bytes_of labels here Ascii operands h = refl
length-bytes_of labels here Li operands h = pair_size labels (value_fields operands) (kind_some _ (value_fields operands) h)
length-bytes_of labels here La operands h = pair_size labels (label_fields operands) (kind_some _ (label_fields operands) h)
length-bytes_of labels here (Inst form) operands h = inst_size (fields_of form operands) (inst_word labels here form)
    (kind_some _ (fields_of form operands) h)
