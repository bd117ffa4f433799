-- Lines without faults keep a program within its limits.
use Rattle.std.proofs.Common.{◌≡◌, ◌⊎◌, inl, inr, ◌==◌, ℕ, ◌+◌, ◌%◌, ◌^◌, ◌<◌, ◌≤◌, Bool, true, false, cond, not, ◌&&◌, ◌||◌, List, [], ◌∷◌}
use Rattle.std.proofs.Common.{◌++◌, length, refl, ap, arith, add-zero, Option, None, Some, IsSome, is_some, nat_lt, nat_le}
use Rattle.std.specs.List.{AllByRecursion}
use Rattle.std.specs.Option.{option_or}
use Rattle.std.proofs.lemmas.Bool.{ltb-false, leb-false, eqb-true, eqb-false, or_parts, not-false}
use Rattle.std.proofs.lemmas.List.{length-append}
use Rattle.mx_image.specs.declared.segment.Segment.{Segment}
use Rattle.mx_image.specs.Program.{Program, byte_count, with_entry, with_byte, with_last_byte, no_program, with_bytes}
use Rattle.mx_image.specs.Lawful.{IsSegment}
use Rattle.mx_image.proofs.Building.{byte_count-append}
use Rattle.mx_source.specs.declared.mnemonics.Keyword.{Keyword}
use Rattle.mx_source.specs.declared.mnemonics.Keyword.TheVariants.{Text, Data, At, Word, Byte, Ascii, Li, La, Inst}
use Rattle.mx_source.specs.Lines.{Statement, Absent, Unlisted, Listed}
use Rattle.mx_asm.specs.declared.places.Place.{Place}
use Rattle.mx_asm.specs.Places.{start, address_of, size_of, at_segment, with_size, place_listed, place_after}
use Rattle.mx_asm.specs.Labels.{Definition}
use Rattle.mx_asm.specs.Faults.{operand_fault, begins_segment, is_aligned, place_fault, label_fault, label_place_fault, line_fault}
use Rattle.mx_asm.specs.Faults.{offset_fault, offset_fits}
use Rattle.mx_asm.specs.Denoted.{bytes_of, with_begun, with_listed, with_statement, with_defined}
use Rattle.mx_asm.specs.Ready.{IsReady, IsReadyFor}
use Rattle.mx_asm.proofs.ProgramLaws.{grown}
use Rattle.mx_asm.proofs.PlaceLaws.{IsPlain, place_plain, address_below, length-bytes_of}
use Rattle.mx_words.proofs.OptionLaws.{neither, row_none, withheld}

-- a segment at a multiple of 4, of code or of data
pub record IsBegun (s : Segment) : Type 0 where
  pub aligned : s.address % 4 ≡ 0
  pub flags : (s.flags ≡ 5) ⊎ (s.flags ≡ 6)

-- segments of which none passes 2^32, the last one ending at an address
abbrev pub AreLaid : List Segment → ℕ → Type 0
AreLaid [] end = Unit {0}
AreLaid (s ∷ []) end = IsBegun s × (s.address + length s.bytes ≡ end)
AreLaid (s ∷ t ∷ more) end = IsSegment s × AreLaid (t ∷ more) end

-- one segment more
laid_append : (segments : List Segment) (end : ℕ) (s : Segment) → end ≤ 2 ^ 32 → AreLaid segments end → IsBegun s → s.bytes ≡ []
    → AreLaid (segments ++ s ∷ []) s.address
laid_append [] end s le h begun none = (begun, omega (arith, ap length none))
laid_append (r ∷ []) end s le h begun none = (
  record {
    aligned = h.0.aligned;
    flags = h.0.flags;
    ends =
        omega (arith, h.1);
  },
  (begun, omega (arith, ap length none)),
)
laid_append (r ∷ t ∷ more) end s le h begun none = (h.0, laid_append (t ∷ more) end s le h.1 begun none)

-- one byte more
laid_byte : (b : ℕ) (segments : List Segment) (end : ℕ) → AreLaid segments end → AreLaid (with_last_byte b segments) (end + 1)
laid_byte b [] end h = tt
laid_byte b (s ∷ []) end h = (record { aligned = h.0.aligned; flags = h.0.flags }, omega (arith, h.1, length-append s.bytes (b ∷ [])))
laid_byte b (s ∷ t ∷ []) end h = (h.0, laid_byte b (t ∷ []) end h.1)
laid_byte b (s ∷ t ∷ u ∷ more) end h = (h.0, laid_byte b (t ∷ u ∷ more) end h.1)

laid_bytes : (bytes : List ℕ) (p : Program) (end : ℕ) → AreLaid p.segments end → AreLaid (with_bytes bytes p).segments (end + length bytes)
laid_bytes [] p end h = rw add-zero h
laid_bytes (b ∷ bytes) p end h =
    let e : end + length (b ∷ bytes) ≡ (end + 1) + length bytes = omega arith in
    rw e (laid_bytes bytes (with_byte b p) (end + 1) (laid_byte b p.segments end h))

-- all of them are segments that an image can hold
pub laid_all : (segments : List Segment) (end : ℕ) → end ≤ 2 ^ 32 → AreLaid segments end → AllByRecursion IsSegment segments
laid_all [] end le h = tt
laid_all (s ∷ []) end le h = (record { aligned = h.0.aligned; flags = h.0.flags; ends = omega (arith, h.1) }, tt)
laid_all (s ∷ t ∷ more) end le h = (h.0, laid_all (t ∷ more) end le h.1)

-- a program and the place after its lines
pub record IsPlaced (place : Place) (p : Program) : Type 0 where
  pub segments : place.segments ≡ length p.segments
  pub few : place.segments ≤ 16
  pub total : place.total ≡ byte_count p.segments
  pub room : place.total ≤ 4194304
  pub here : place.here ≤ 2 ^ 32
  pub entry : p.entry < 2 ^ 32
  pub laid : AreLaid p.segments place.here

-- with a segment begun
begun_at : ℕ → ℕ → Segment
begun_at flags address = record { address = address; flags = flags; bytes = [] }

begun_segments : (flags address : ℕ) (p : Program) → (with_begun flags address p).segments ≡ p.segments ++ begun_at flags address ∷ []
unfolding begun_at
begun_segments flags address p =
    elim (length p.segments == 0) as (λ b. (cond b (with_entry address p) p).segments ++ begun_at flags address ∷ [] ≡ p.segments
    ++ begun_at flags address ∷ []) [ true ↦ refl | false ↦ refl ]

begun_entry : (flags address : ℕ) (p : Program) → address < 2 ^ 32 → p.entry < 2 ^ 32 → (with_begun flags address p).entry < 2 ^ 32
begun_entry flags address p a e = elim (length p.segments == 0) as (λ b. (cond b (with_entry address p) p).entry < 2 ^ 32) [
  | true ↦
      a
  | false ↦ e
]

pub begun_labels : (flags address : ℕ) (p : Program) → (with_begun flags address p).labels ≡ p.labels
begun_labels flags address p = elim (length p.segments == 0) as (λ b. (cond b (with_entry address p) p).labels ≡ p.labels) [
  | true ↦
      refl
  | false ↦ refl
]

begin_placed : (flags address : ℕ) (place : Place) (p : Program) → (flags ≡ 5) ⊎ (flags ≡ 6) → address < 2 ^ 32 → address % 4 ≡ 0
    → place.segments < 16 → IsPlaced place p
    → IsPlaced (at_segment address place) (with_begun flags address p)
unfolding begun_at
begin_placed flags address place p kind below aligned more is =
    let e = begun_segments flags address p in
    record {
      segments = rw e (omega (arith, is.segments, length-append p.segments (begun_at flags address ∷ [])));
      few = omega (arith, is.segments);
      total = rw e (omega (arith, is.total, byte_count-append p.segments (begun_at flags address)));
      room = is.room;
      here = omega arith;
      entry = begun_entry flags address p below is.entry;
      laid = rw e (laid_append p.segments place.here (begun_at flags address) is.here is.laid (record { aligned = aligned; flags = kind })
          refl);
    }

pub bytes_entry : (bytes : List ℕ) (p : Program) → (with_bytes bytes p).entry ≡ p.entry
bytes_entry [] p = refl
bytes_entry (b ∷ bytes) p = bytes_entry bytes (with_byte b p)

pub bytes_labels : (bytes : List ℕ) (p : Program) → (with_bytes bytes p).labels ≡ p.labels
bytes_labels [] p = refl
bytes_labels (b ∷ bytes) p = bytes_labels bytes (with_byte b p)

grow_placed : (bytes : List ℕ) (size : ℕ) (place : Place) (p : Program) → length bytes ≡ size → 0 < length p.segments
    → place.total + size ≤ 4194304 → place.here + size ≤ 2 ^ 32 → IsPlaced place p
    → IsPlaced (with_size size place) (with_bytes bytes p)
grow_placed bytes size place p same begun room here is =
    let g = grown bytes p begun in
    record {
      segments = omega (arith, is.segments, g.segments);
      few = is.few;
      total = omega (arith, is.total, g.bytes);
      room = room;
      here = here;
      entry = rw (bytes_entry bytes p) is.entry;
      laid = rw (← same) (laid_bytes bytes p place.here is.laid);
    }

-- what a line without faults says of its statement
pub record IsStep (labels : List Definition) (place : Place) (statement : Statement) (p : Program) : Type 0 where
  pub ready : IsReady labels place statement p
  pub after : IsPlaced (place_after statement place) (with_statement labels place.here statement p)

both_true : (a b : Bool) → (a && (b || true)) ≡ false → a ≡ false
both_true true true h = h
both_true true false h = h
both_true false b h = refl

first_of : (a b c : Bool) → (a || b || c) ≡ false → (a ≡ false) × (b ≡ false) × (c ≡ false)
first_of a b c h = let p = or_parts (a || b) c h in let q = or_parts a b p.0 in (q.0, q.1, p.1)

pos_of : (n : ℕ) → (n ≡ 0 → ⊥) → 0 < n
pos_of n h = omega (arith, h)

not_aligned : (n : ℕ) → not (n % 4 == 0) ≡ false → n % 4 ≡ 0
not_aligned n h = eqb-true (n % 4) 0 (not-false (n % 4 == 0) h)

module _ (labels : List Definition) (label : Option (List ℕ)) (operands : List (List ℕ)) (place : Place) (p : Program)
    (is : IsPlaced place p) where
  begun_of : (keyword : Keyword) → begins_segment keyword ≡ false → IsPlain label keyword operands place → 0 < length p.segments
  begun_of keyword begins plain =
      let none = both_true (place.segments == 0) (is_some label) (rw begins at plain.begun) in
      omega (arith, is.segments, pos_of place.segments (eqb-false place.segments 0 none))

  -- a segment is begun
  begin_step : (flags : ℕ) (keyword : Keyword) → (flags ≡ 5) ⊎ (flags ≡ 6) → begins_segment keyword ≡ true → address_of operands < 2 ^ 32
      → IsPlain label keyword operands place
      → IsPlaced (at_segment (address_of operands) place) (with_begun flags (address_of operands) p)
  begin_step flags keyword kind begins below plain =
      let a = rw begins at plain.aligned in
      let s = rw begins at plain.sixteenth in
      begin_placed flags (address_of operands) place p kind below
      (not_aligned (address_of operands) (or_parts (not (address_of operands % 4 == 0)) (is_aligned keyword && not (place.here % 4 == 0))
      a).0)
      (leb-false 16 place.segments s) is

  -- bytes are added
  content_step : (keyword : Keyword) → begins_segment keyword ≡ false → operand_fault labels keyword operands ≡ None
      → IsPlain label keyword operands place
      → IsPlaced (with_size (size_of keyword operands place.here) place) (with_bytes (bytes_of labels place.here keyword operands) p)
  content_step keyword begins none plain =
      let size = size_of keyword operands place.here in
      let f = first_of (nat_lt 4194304 (place.total + size)) (nat_lt (2 ^ 32) (place.here + size))
      (is_some label && nat_le (2 ^ 32) place.here) plain.room in
      grow_placed (bytes_of labels place.here keyword operands) size place p (length-bytes_of labels place.here keyword operands none)
      (begun_of keyword begins plain)
      (ltb-false 4194304 (place.total + size) f.0) (ltb-false (2 ^ 32) (place.here + size) f.1) is

  content_ready : (keyword : Keyword) → begins_segment keyword ≡ false → operand_fault labels keyword operands ≡ None
      → offset_fits labels place.here keyword operands ≡ true → IsPlain label keyword operands place
      → IsReadyFor labels place keyword operands p
  content_ready keyword begins none fit plain =
      let size = size_of keyword operands place.here in
      let f = first_of (nat_lt 4194304 (place.total + size)) (nat_lt (2 ^ 32) (place.here + size))
      (is_some label && nat_le (2 ^ 32) place.here) plain.room in
      record {
        begun = λ _. begun_of keyword begins plain;
        address = λ b. cc;
        faultless = none;
        fits = fit;
        room = omega (arith, is.total, ltb-false 4194304 (place.total + size) f.0);
      }

  -- a listed statement
  begin_ready : (keyword : Keyword) → begins_segment keyword ≡ true → operand_fault labels keyword operands ≡ None
      → offset_fits labels place.here keyword operands ≡ true
      → address_of operands < 2 ^ 32 → size_of keyword operands place.here ≡ 0 → IsReadyFor labels place keyword operands p
  begin_ready keyword begins none fit below size =
      record { begun = λ f. cc; address = λ _. below; faultless = none; fits = fit; room = omega (arith, is.total, is.room, size) }

  listed_step : (keyword : Keyword) → operand_fault labels keyword operands ≡ None → offset_fits labels place.here keyword operands ≡ true
      → IsPlain label keyword operands place
      → IsStep labels place (Listed keyword operands) p
  unfolding place_listed with_listed operand_fault size_of
  listed_step Text none fit plain =
      let below = address_below operands none in
      record { ready = begin_ready Text refl none refl below refl; after = begin_step 5 Text (inl refl) refl below plain }
  listed_step Data none fit plain =
      let below = address_below operands none in
      record { ready = begin_ready Data refl none refl below refl; after = begin_step 6 Data (inr refl) refl below plain }
  listed_step At none fit plain = record { ready = content_ready At refl none fit plain; after = content_step At refl none plain }
  listed_step Word none fit plain = record { ready = content_ready Word refl none fit plain; after = content_step Word refl none plain }
  listed_step Byte none fit plain = record { ready = content_ready Byte refl none fit plain; after = content_step Byte refl none plain }
  listed_step Ascii none fit plain = record { ready = content_ready Ascii refl none fit plain; after = content_step Ascii refl none plain }
  listed_step Li none fit plain = record { ready = content_ready Li refl none fit plain; after = content_step Li refl none plain }
  listed_step La none fit plain = record { ready = content_ready La refl none fit plain; after = content_step La refl none plain }
  listed_step (Inst form) none fit plain = record {
    ready = content_ready (Inst form) refl none fit plain;
    after =
        content_step (Inst form) refl none plain;
  }

-- the statement of a line without faults
pub statement_step : (labels : List Definition) (number : ℕ) (place : Place) (label : Option (List ℕ)) (statement : Statement) (p : Program)
    → line_fault labels number place label statement ≡ None → offset_fault labels place statement ≡ None → IsPlaced place p
    → IsStep labels place statement p
unfolding line_fault offset_fault
statement_step labels number place label Absent p h off is = record { ready = tt; after = is }
statement_step labels number place label Unlisted p h off is = cc
statement_step labels number place label (Listed keyword operands) p h off is =
    let o = neither (operand_fault labels keyword operands) (option_or (label_fault labels number label)
    (place_fault label keyword operands place)) h in
    let q = neither (label_fault labels number label) (place_fault label keyword operands place) o.1 in
    listed_step labels label operands place p is keyword o.0 (withheld (offset_fits labels place.here keyword operands) 3 off)
    (place_plain label keyword operands place q.1)

below_end : (some : Bool) (here : ℕ) → (some && nat_le (2 ^ 32) here) ≡ false → some ≡ true → here < 2 ^ 32
below_end true here h e = leb-false (2 ^ 32) here h
below_end false here h e = cc

-- its label stands below 2^32
pub label_below : (labels : List Definition) (number : ℕ) (place : Place) (label : Option (List ℕ)) (statement : Statement)
    → line_fault labels number place label statement ≡ None → IsSome label → place.here < 2 ^ 32
unfolding line_fault
label_below labels number place label Absent h some =
    let o = neither (label_fault labels number label) (label_place_fault label place) h in
    let a = row_none (is_some label && (place.segments == 0)) 6 _ o.1 in
    let b = row_none (is_some label && nat_le (2 ^ 32) place.here) 10 None a.1 in
    below_end (is_some label) place.here b.0 some
label_below labels number place label Unlisted h some = cc
label_below labels number place label (Listed keyword operands) h some =
    let o = neither (operand_fault labels keyword operands) (option_or (label_fault labels number label)
    (place_fault label keyword operands place)) h in
    let q = neither (label_fault labels number label) (place_fault label keyword operands place) o.1 in
    let size = size_of keyword operands place.here in
    let plain = place_plain label keyword operands place q.1 in
    below_end (is_some label) place.here (first_of (nat_lt 4194304 (place.total + size)) (nat_lt (2 ^ 32) (place.here + size))
    (is_some label && nat_le (2 ^ 32) place.here) plain.room).2 some

-- and it is defined on this line
pub label_here : (labels : List Definition) (number : ℕ) (place : Place) (label : Option (List ℕ)) (statement : Statement)
    → line_fault labels number place label statement ≡ None → label_fault labels number label ≡ None
unfolding line_fault
label_here labels number place label Absent h = (neither (label_fault labels number label) (label_place_fault label place) h).0
label_here labels number place label Unlisted h = cc
label_here labels number place label (Listed keyword operands) h =
    (neither (label_fault labels number label) (place_fault label keyword operands place)
    (neither (operand_fault labels keyword operands) (option_or (label_fault labels number label)
    (place_fault label keyword operands place)) h).1).0

-- a label changes neither
pub label_placed : (place : Place) (label : Option (List ℕ)) (here : ℕ) (p : Program) → IsPlaced place p
    → IsPlaced place (with_defined label here p)
label_placed place None here p is = is
label_placed place (Some name) here p is = record {
  segments = is.segments;
  few = is.few;
  total = is.total;
  room = is.room;
  here = is.here;
  entry = is.entry;
  laid = is.laid;
}

-- nothing yet
pub start_placed : IsPlaced start no_program
start_placed = record {
  segments = refl;
  few = omega arith;
  total = refl;
  room = omega arith;
  here = omega arith;
  entry = omega arith;
  laid = tt;
}
