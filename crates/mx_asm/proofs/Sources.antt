-- Walks through the lines of a source without faults.
use Rattle.std.proofs.Common.{◌≡◌, ℕ, ◌+◌, ◌<◌, ◌^◌, true, false, cond, List, [], ◌∷◌, ◌++◌, codes, drop, refl, ap, ◌∙◌, Option, None, Some}
use Rattle.std.proofs.Common.{IsSome, IfSome, is_some, option_map}
use Rattle.std.specs.List.{AllByRecursion}
use Rattle.std.specs.Option.{option_map_or}
use Rattle.std.specs.Str.{bytes_eq}
use Rattle.std.specs.Str.Lines.{lines}
use Rattle.mx_image.specs.Program.{Program, no_program, with_entry}
use Rattle.mx_source.specs.Lines.{Line, line_of}
use Rattle.mx_asm.specs.declared.places.Place.{Place}
use Rattle.mx_asm.specs.declared.labels.LabelPlace.{LabelPlace}
use Rattle.mx_asm.specs.Places.{start, place_after}
use Rattle.mx_asm.specs.Labels.{Definition, definition_of, with_name, labels_from}
use Rattle.mx_asm.specs.LabelViews.{definition_view}
use Rattle.mx_asm.specs.Faults.{at_line, line_fault, offset_fault, fault_from, offset_from}
use Rattle.mx_asm.specs.Denoted.{with_line, with_defined, with_start, program_from, program_of, first_fault, labels_of_source}
use Rattle.mx_asm.proofs.LineLaws.{IsLineAt}
use Rattle.mx_asm.proofs.Placed.{IsPlaced, IsStep, statement_step, label_below, label_placed}
use Rattle.mx_words.proofs.OptionLaws.{neither}

line_none : (number : ℕ) (fault : Option ℕ) → at_line number fault ≡ None → fault ≡ None
line_none number None h = refl
line_none number (Some n) h = cc

-- where lines have no fault, the first has none, and the later ones have none
module _ (labels : List Definition) (place : Place) (number : ℕ) (text : List ℕ) (rest : List (List ℕ)) where
  pub fault_parts : fault_from labels place number (text ∷ rest) ≡ None
      → (line_fault labels number place (line_of text).label (line_of text).statement ≡ None)
      × (fault_from labels (place_after (line_of text).statement place) (number + 1) rest ≡ None)
  unfolding fault_from
  fault_parts h =
      let o = neither (at_line number (line_fault labels number place (line_of text).label (line_of text).statement))
      (fault_from labels (place_after (line_of text).statement place) (number + 1) rest) h in
      (line_none number (line_fault labels number place (line_of text).label (line_of text).statement) o.0, o.1)

  pub offset_parts : offset_from labels place number (text ∷ rest) ≡ None
      → (offset_fault labels place (line_of text).statement ≡ None)
      × (offset_from labels (place_after (line_of text).statement place) (number + 1) rest ≡ None)
  unfolding offset_from
  offset_parts h =
      let o = neither (at_line number (offset_fault labels place (line_of text).statement))
      (offset_from labels (place_after (line_of text).statement place) (number + 1) rest) h in
      (line_none number (offset_fault labels place (line_of text).statement) o.0, o.1)

  pub program_more : (p : Program)
      → program_from labels place (text ∷ rest) p ≡ program_from labels (place_after (line_of text).statement place) rest
      (with_line labels place.here (line_of text) p)
  unfolding program_from
  program_more p = refl

-- what a line without faults says, and the later ones
pub record IsNext (labels : List Definition) (place : Place) (number : ℕ) (line : Line) (rest : List (List ℕ)) (p : Program) : Type 0 where
  pub below : IsSome line.label → place.here < 2 ^ 32
  pub step : IsStep labels place line.statement (with_defined line.label place.here p)
  pub faults : fault_from labels (place_after line.statement place) (number + 1) rest ≡ None
  pub offsets : offset_from labels (place_after line.statement place) (number + 1) rest ≡ None

pub line_next : (labels : List Definition) (place : Place) (number : ℕ) (text : List ℕ) (rest : List (List ℕ)) (p : Program)
    → fault_from labels place number (text ∷ rest) ≡ None → offset_from labels place number (text ∷ rest) ≡ None → IsPlaced place p
    → IsNext labels place number (line_of text) rest p
line_next labels place number text rest p faults offsets is =
    let f = fault_parts labels place number text rest faults in
    let o = offset_parts labels place number text rest offsets in
    let line = line_of text in
    record {
      below = label_below labels number place line.label line.statement f.0;
      step = statement_step labels number place line.label line.statement (with_defined line.label place.here p) f.0 o.0
          (label_placed place line.label place.here p is);
      faults = f.1;
      offsets = o.1;
    }

-- the same of the line at a place of a source
pub next_at : (source : List ℕ) (labels : List Definition) (place : Place) (n : ℕ) (text : List ℕ) (line : Line) (p : Program)
    → IsLineAt source n text → line ≡ line_of text
    → fault_from labels place (n + 1) (drop n (lines source)) ≡ None → offset_from labels place (n + 1) (drop n (lines source)) ≡ None
    → IsPlaced place p
    → IsNext labels place (n + 1) line (drop (n + 1) (lines source)) p
next_at source labels place n text line p at is faults offsets placed =
    rw is (line_next labels place (n + 1) text (drop (n + 1) (lines source)) p (rw at.next at faults) (rw at.next at offsets) placed)

pub program_at : (source : List ℕ) (labels : List Definition) (place : Place) (n : ℕ) (text : List ℕ) (line : Line) (p : Program)
    → IsLineAt source n text → line ≡ line_of text
    → program_from labels place (drop n (lines source)) p ≡ program_from labels (place_after line.statement place)
    (drop (n + 1) (lines source)) (with_line labels place.here line p)
program_at source labels place n text line p at is = rw (at.next, is) (program_more labels place 0 text (drop (n + 1) (lines source)) p)

-- a source without faults
pub first_none : (source : List ℕ) (labels : List Definition) → labels ≡ labels_of_source source → first_fault source ≡ None
    → (fault_from labels start 1 (lines source) ≡ None) × (offset_from labels start 1 (lines source) ≡ None)
unfolding first_fault
first_none source labels is h =
    let o = neither (fault_from (labels_of_source source) start 1 (lines source))
    (offset_from (labels_of_source source) start 1 (lines source)) h in
    (rw is o.0, rw is o.1)

-- labels below 2^32
abbrev pub AreBelow : List Definition → Type 0
AreBelow labels = AllByRecursion (λ d. d.address < 2 ^ 32) labels

below_push : (labels : List Definition) (d : Definition) → AreBelow labels → d.address < 2 ^ 32 → AreBelow (labels ++ d ∷ [])
below_push [] d h b = (b, tt)
below_push (e ∷ labels) d h b = (h.0, below_push labels d h.1 b)

below_name : (label : Option (List ℕ)) (address line : ℕ) (labels : List Definition) → (IsSome label → address < 2 ^ 32) → AreBelow labels
    → AreBelow (with_name label address line labels)
unfolding with_name
below_name None address line labels b h = h
below_name (Some name) address line labels b h =
    elim (is_some (definition_of labels name)) as (λ t. AreBelow
    (cond t labels (labels ++ record { name = name; address = address; line = line } ∷ []))) [
      | true ↦ h
      | false ↦
          below_push labels (record { name = name; address = address; line = line }) h (b refl)
    ]

below_from : (all : List Definition) (place : Place) (number : ℕ) (labels : List Definition) (texts : List (List ℕ))
    → fault_from all place number texts ≡ None → AreBelow labels
    → AreBelow (labels_from place number labels texts)
unfolding labels_from
below_from all place number labels [] h b = b
below_from all place number labels (text ∷ rest) h b =
    let f = fault_parts all place number text rest h in
    let line = line_of text in
    below_from all (place_after line.statement place) (number + 1) (with_name line.label place.here number labels) rest f.1
    (below_name line.label place.here number labels (label_below all number place line.label line.statement f.0) b)

found_below : (labels : List Definition) (name : List ℕ) → AreBelow labels → IfSome (definition_of labels name) (λ d. d.address < 2 ^ 32)
unfolding definition_of
found_below [] name h = tt
found_below (d ∷ labels) name h =
    elim (bytes_eq name d.name) as (λ t. IfSome (cond t (Some d) (definition_of labels name)) (λ e. e.address < 2 ^ 32)) [
      | true ↦
          h.0
      | false ↦ found_below labels name h.1
    ]

-- what a label of a source without faults stands for
pub definition_below : (source name : List ℕ) → first_fault source ≡ None
    → IfSome (definition_of (labels_of_source source) name) (λ d. d.address < 2 ^ 32)
definition_below source name h =
    found_below (labels_of_source source) name (below_from (labels_of_source source) start 1 [] (lines source)
    (first_none source (labels_of_source source) refl h).0 tt)

-- the same of what the map finds
pub found_place : (name : List ℕ) (found : Option LabelPlace) (told : Option Definition) → option_map (definition_view name) found ≡ told
    → IfSome told (λ d. d.address < 2 ^ 32)
    → IfSome found (λ place. place.address < 2 ^ 32)
found_place name None told e h = tt
found_place name (Some place) told e h = rw (← e) at h

-- the entry
pub start_same : (name : List ℕ) (found : Option LabelPlace) (labels : List Definition) (p : Program)
    → option_map (definition_view name) found ≡ definition_of labels name
    → option_map_or (λ place. with_entry place.address p) found p
    ≡ option_map_or (λ d. with_entry d.address p) (definition_of labels name) p
start_same name None labels p e = rw (← e) refl
start_same name (Some place) labels p e = rw (← e) refl

-- the program with its entry is that of the source
pub program_done : (source : List ℕ) (labels : List Definition) (p q : Program) (found : Option LabelPlace)
    → labels ≡ labels_of_source source
    → p ≡ program_from labels start (lines source) no_program
    → option_map (definition_view (codes "start")) found ≡ definition_of labels (codes "start")
    → q ≡ option_map_or (λ place. with_entry place.address p) found p → q ≡ program_of source
unfolding program_of
program_done source labels p q found is made told set =
    set ∙ start_same (codes "start") found labels p told ∙ ap (with_start labels) made
    ∙ ap (λ l. with_start l (program_from l start (lines source) no_program)) is
