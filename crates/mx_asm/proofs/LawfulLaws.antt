-- The program of a source without faults is one that an image can hold and a loader can read.
use Rattle.std.proofs.Common.{◌≡◌, ◌≢◌, ◌==◌, ℕ, ◌+◌, ◌<◌, ◌≤◌, ◌^◌, Bool, true, false, cond, List, [], ◌∷◌, ◌++◌, length, codes, add-zero}
use Rattle.std.proofs.Common.{refl, ap, arith, Option, None, Some, IsSome, IfSome, is_some}
use Rattle.std.specs.List.{AllByRecursion}
use Rattle.std.specs.Option.{option_map_or}
use Rattle.std.specs.Str.{bytes_eq}
use Rattle.std.specs.Str.Lines.{lines}
use Rattle.std.proofs.lemmas.Bool.{eqb-true}
use Rattle.std.proofs.lemmas.List.{length-append}
use Rattle.std.proofs.lemmas.Slice.Eq.{bytes_eq-Decides}
use Rattle.mx_image.specs.declared.segment.Segment.{Segment}
use Rattle.mx_image.specs.Program.{Program, Label, has_bytes, filled, label, no_program, with_entry}
use Rattle.mx_image.specs.Lawful.{IsName, IsSegment, IsLabel, AreDistinct, IsProgram}
use Rattle.mx_image.proofs.Building.{filled-most}
use Rattle.mx_source.specs.declared.mnemonics.Keyword.{Keyword}
use Rattle.mx_source.specs.declared.mnemonics.Keyword.TheVariants.{Text, Data, At, Word, Byte, Ascii, Li, La, Inst}
use Rattle.mx_source.specs.Lines.{Statement, Absent, Unlisted, Listed, line_of}
use Rattle.mx_source.proofs.Names.{IsNamed, named_line, length-name, no_zero-name}
use Rattle.mx_asm.specs.declared.places.Place.{Place}
use Rattle.mx_asm.specs.Places.{start, place_after, address_of}
use Rattle.mx_asm.specs.Labels.{Definition, definition_of, with_name, labels_from}
use Rattle.mx_asm.specs.Faults.{label_fault, fault_from, offset_from}
use Rattle.mx_asm.specs.Denoted.{bytes_of, with_listed, with_statement, with_defined, with_line, program_from, program_of, first_fault}
use Rattle.mx_asm.specs.Denoted.{labels_of_source}
use Rattle.mx_words.proofs.OptionLaws.{some_of, withheld}
use Rattle.mx_words.proofs.ElementLaws.{all_push}
use Rattle.mx_asm.proofs.LineLaws.{length-lines}
use Rattle.mx_asm.proofs.Placed.{IsPlaced, begun_labels, bytes_labels, laid_all, label_here, start_placed}
use Rattle.mx_asm.proofs.Sources.{line_next, fault_parts, first_none, definition_below}

-- what a name is defined as stays so when a label is added
kept_at : (b : Bool) (f d : Definition) (found later : Option Definition) → (found ≡ Some d → later ≡ Some d)
    → cond b (Some f) found ≡ Some d → cond b (Some f) later ≡ Some d
kept_at true f d found later rest h = h
kept_at false f d found later rest h = rest h

kept_push : (labels : List Definition) (e d : Definition) (name : List ℕ) → definition_of labels name ≡ Some d
    → definition_of (labels ++ e ∷ []) name ≡ Some d
unfolding definition_of
kept_push [] e d name h = cc
kept_push (f ∷ labels) e d name h =
    kept_at (bytes_eq name f.name) f d (definition_of labels name) (definition_of (labels ++ e ∷ []) name) (kept_push labels e d name) h

kept_cond : (b : Bool) (labels more : List Definition) (d : Definition) (name : List ℕ) → definition_of labels name ≡ Some d
    → definition_of more name ≡ Some d → definition_of (cond b labels more) name ≡ Some d
kept_cond true labels more d name h g = h
kept_cond false labels more d name h g = g

kept_name : (label : Option (List ℕ)) (address line : ℕ) (labels : List Definition) (d : Definition) (name : List ℕ)
    → definition_of labels name ≡ Some d → definition_of (with_name label address line labels) name ≡ Some d
unfolding with_name
kept_name None address line labels d name h = h
kept_name (Some n) address line labels d name h =
    kept_cond (is_some (definition_of labels n)) labels (labels ++ record { name = n; address = address; line = line } ∷ []) d name h
    (kept_push labels (record { name = n; address = address; line = line }) d name h)

kept_from : (place : Place) (number : ℕ) (labels : List Definition) (texts : List (List ℕ)) (d : Definition) (name : List ℕ)
    → definition_of labels name ≡ Some d → definition_of (labels_from place number labels texts) name ≡ Some d
unfolding labels_from
kept_from place number labels [] d name h = h
kept_from place number labels (text ∷ rest) d name h =
    kept_from (place_after (line_of text).statement place) (number + 1) (with_name (line_of text).label place.here number labels) rest d
    name
    (kept_name (line_of text).label place.here number labels d name h)

-- a name is defined once it was added
added_push : (labels : List Definition) (d : Definition) (name : List ℕ) → bytes_eq name d.name ≡ true
    → IsSome (definition_of (labels ++ d ∷ []) name)
unfolding definition_of
added_push [] d name same = rw same refl
added_push (e ∷ labels) d name same =
    elim (bytes_eq name e.name) as (λ b. IsSome (cond b (Some e) (definition_of (labels ++ d ∷ []) name))) [
      | true ↦ refl
      | false ↦
          added_push labels d name same
    ]

added_at : (b : Bool) (labels : List Definition) (name : List ℕ) (address line : ℕ) → is_some (definition_of labels name) ≡ b
    → IsSome (definition_of (cond b labels (labels ++ record { name = name; address = address; line = line } ∷ [])) name)
added_at true labels name address line h = h
added_at false labels name address line h = added_push labels (record { name = name; address = address; line = line }) name
    ((bytes_eq-Decides name name).1 refl)

added_name : (labels : List Definition) (name : List ℕ) (address line : ℕ)
    → IsSome (definition_of (with_name (Some name) address line labels) name)
unfolding with_name
added_name labels name address line = added_at (is_some (definition_of labels name)) labels name address line refl

defined_here : (place : Place) (number : ℕ) (labels : List Definition) (text : List ℕ) (rest : List (List ℕ)) (name : List ℕ)
    → (line_of text).label ≡ Some name
    → (d : Definition) × (definition_of (labels_from place number labels (text ∷ rest)) name ≡ Some d)
unfolding labels_from
defined_here place number labels text rest name is =
    let added =
    some_of (definition_of (with_name (Some name) place.here number labels) name)
    (added_name labels name place.here number) in (
      added.0,
      kept_from (place_after (line_of text).statement place) (number + 1) (with_name (line_of text).label place.here number labels)
          rest added.0 name (rw is added.1),
    )

-- a label of a program, that a line before one with this number defines
pub record IsDefined (labels : List Definition) (number : ℕ) (l : Label) : Type 0 where
  pub name : IsName l.name
  pub lawful : IsLabel l
  pub definition : Definition
  pub is : definition_of labels l.name ≡ Some definition
  pub earlier : definition.line < number

abbrev pub AreDefined : List Definition → ℕ → List Label → Type 0
AreDefined labels number ls = AllByRecursion (IsDefined labels number) ls

defined_later : (labels : List Definition) (number : ℕ) (ls : List Label) → AreDefined labels number ls → AreDefined labels (number + 1) ls
defined_later labels number [] h = tt
defined_later labels number (l ∷ ls) h = (
  record {
    name = h.0.name;
    lawful = h.0.lawful;
    definition = h.0.definition;
    is = h.0.is;
    earlier =
        omega (arith, h.0.earlier);
  },
  defined_later labels number ls h.1,
)

distinct_push : (ls : List Label) (l : Label) → AreDistinct ls → AllByRecursion (λ m. m.name ≢ l.name) ls → AreDistinct (ls ++ l ∷ [])
distinct_push [] l h f = (tt, tt)
distinct_push (m ∷ ls) l h f = (all_push (λ x. m.name ≢ x.name) ls l h.0 f.0, distinct_push ls l h.1 f.1)

fresh : (labels : List Definition) (number : ℕ) (ls : List Label) (name : List ℕ) (d : Definition) → definition_of labels name ≡ Some d
    → d.line ≡ number → AreDefined labels number ls → AllByRecursion (λ m. m.name ≢ name) ls
fresh labels number [] name d is line h = tt
fresh labels number (m ∷ ls) name d is line h = (
  λ e. absurd (let same : h.0.definition ≡ d = cc (h.0.is, is, ap (definition_of labels) e) in
      omega (arith, h.0.earlier, line, ap (λ x. x.line) same)),
  fresh labels number ls name d is line h.1,
)

-- the labels of a program
pub record AreLawful (labels : List Definition) (number : ℕ) (ls : List Label) : Type 0 where
  pub count : length ls + 1 ≤ number
  pub defined : AreDefined labels number ls
  pub distinct : AreDistinct ls

same_line : (labels : List Definition) (number : ℕ) (name : List ℕ) (d : Definition) → label_fault labels number (Some name) ≡ None
    → definition_of labels name ≡ Some d → d.line ≡ number
unfolding label_fault
same_line labels number name d none is = eqb-true d.line number (withheld {A = ℕ} (d.line == number) 5 (rw is at none))

lawful_label : (labels : List Definition) (number here : ℕ) (label : Option (List ℕ)) (p : Program) → IsNamed label
    → (IsSome label → here < 2 ^ 32) → label_fault labels number label ≡ None
    → ((name : List ℕ) → label ≡ Some name → (d : Definition) × (definition_of labels name ≡ Some d)) → AreLawful labels number p.labels
    → AreLawful labels (number + 1) (with_defined label here p).labels
lawful_label labels number here None p named below none found is =
    record { count = omega (arith, is.count); defined = defined_later labels number p.labels is.defined; distinct = is.distinct }
lawful_label labels number here (Some name) p named below none found is =
    let l = label name here in
    let f = found name refl in
    let line = same_line labels number name f.0 none f.1 in
    let size = length-name name named in
    let this : IsDefined labels (number + 1) l = record {
      name = record { some = size.0; most = size.1 };
      lawful = record { name = no_zero-name name named; address = below refl };
      definition = f.0;
      is = f.1;
      earlier = omega (arith, line);
    } in
    record {
      count = omega (arith, is.count, length-append p.labels (l ∷ []));
      defined = all_push (IsDefined labels (number + 1)) p.labels l (defined_later labels number p.labels is.defined) this;
      distinct = distinct_push p.labels l is.distinct (fresh labels number p.labels name f.0 f.1 line is.defined);
    }

listed_labels : (labels : List Definition) (here : ℕ) (keyword : Keyword) (operands : List (List ℕ)) (p : Program)
    → (with_listed labels here keyword operands p).labels ≡ p.labels
unfolding with_listed
listed_labels labels here Text operands p = begun_labels 5 (address_of operands) p
listed_labels labels here Data operands p = begun_labels 6 (address_of operands) p
listed_labels labels here At operands p = bytes_labels (bytes_of labels here At operands) p
listed_labels labels here Word operands p = bytes_labels (bytes_of labels here Word operands) p
listed_labels labels here Byte operands p = bytes_labels (bytes_of labels here Byte operands) p
listed_labels labels here Ascii operands p = bytes_labels (bytes_of labels here Ascii operands) p
listed_labels labels here Li operands p = bytes_labels (bytes_of labels here Li operands) p
listed_labels labels here La operands p = bytes_labels (bytes_of labels here La operands) p
listed_labels labels here (Inst form) operands p = bytes_labels (bytes_of labels here (Inst form) operands) p

statement_labels : (labels : List Definition) (here : ℕ) (statement : Statement) (p : Program)
    → (with_statement labels here statement p).labels ≡ p.labels
statement_labels labels here Absent p = refl
statement_labels labels here Unlisted p = refl
statement_labels labels here (Listed keyword operands) p = listed_labels labels here keyword operands p

-- the end of the lines
pub record IsWhole (labels : List Definition) (number : ℕ) (q : Program) : Type 0 where
  pub place : Place
  pub placed : IsPlaced place q
  pub lawful : AreLawful labels number q.labels

whole_from : (labels : List Definition) (place : Place) (number : ℕ) (earlier : List Definition) (texts : List (List ℕ)) (p : Program)
    → labels ≡ labels_from place number earlier texts
    → fault_from labels place number texts ≡ None → offset_from labels place number texts ≡ None → IsPlaced place p
    → AreLawful labels number p.labels
    → IsWhole labels (number + length texts) (program_from labels place texts p)
unfolding labels_from program_from
whole_from labels place number earlier [] p is faults offsets placed lawful =
    record { place = place; placed = placed; lawful = rw add-zero lawful }
whole_from labels place number earlier (text ∷ rest) p is faults offsets placed lawful =
    let line = line_of text in
    let next = line_next labels place number text rest p faults offsets placed in
    let head = fault_parts labels place number text rest faults in
    let q = with_line labels place.here line p in
    let more = lawful_label labels number place.here line.label p (named_line text) next.below
    (label_here labels number place line.label line.statement head.0)
    (λ name e. rw (← is) at (defined_here place number earlier text rest name e)) lawful in
    let kept = statement_labels labels place.here line.statement (with_defined line.label place.here p) in
    let count : number + length (text ∷ rest) ≡ number + 1 + length rest = omega arith in
    rw count
    (whole_from labels (place_after line.statement place) (number + 1) (with_name line.label place.here number earlier) rest q is
    next.faults next.offsets next.step.after (rw kept more))

-- the names, the labels and the segments that an image holds
names_of : (labels : List Definition) (number : ℕ) (ls : List Label) → AreDefined labels number ls → AllByRecursion (λ l. IsName l.name) ls
names_of labels number [] h = tt
names_of labels number (l ∷ ls) h = (h.0.name, names_of labels number ls h.1)

lawful_of : (labels : List Definition) (number : ℕ) (ls : List Label) → AreDefined labels number ls → AllByRecursion IsLabel ls
lawful_of labels number [] h = tt
lawful_of labels number (l ∷ ls) h = (h.0.lawful, lawful_of labels number ls h.1)

all_filled : (segments : List Segment) → AllByRecursion IsSegment segments → AllByRecursion IsSegment (filled segments)
all_filled [] h = tt
all_filled (s ∷ segments) h =
    elim (has_bytes s) as (λ b. AllByRecursion IsSegment (cond b (s ∷ filled segments) (filled segments))) [
      | true ↦
          (h.0, all_filled segments h.1)
      | false ↦ all_filled segments h.1
    ]

program_whole : (labels : List Definition) (number entry : ℕ) (q : Program) → number ≤ 2 ^ 20 + 1 → entry < 2 ^ 32 → IsWhole labels number q
    → IsProgram (with_entry entry q)
program_whole labels number entry q few below w =
    record {
      sized = record {
        segments = omega (arith, filled-most q.segments, w.placed.segments, w.placed.few);
        bytes = omega (arith, w.placed.total, w.placed.room);
        labels = omega (arith, w.lawful.count);
        names = names_of labels number q.labels w.lawful.defined;
      };
      entry = below;
      segments = all_filled q.segments (laid_all q.segments w.place.here w.placed.here w.placed.laid);
      labels = lawful_of labels number q.labels w.lawful.defined;
      distinct = w.lawful.distinct;
    }

entry_whole : (labels : List Definition) (number : ℕ) (found : Option Definition) (q : Program) → number ≤ 2 ^ 20 + 1
    → IfSome found (λ d. d.address < 2 ^ 32) → IsWhole labels number q
    → IsProgram (option_map_or (λ d. with_entry d.address q) found q)
entry_whole labels number None q few below w = program_whole labels number q.entry q few w.placed.entry w
entry_whole labels number (Some d) q few below w = program_whole labels number d.address q few below w

-- a source of at most 2^20 bytes without faults denotes a lawful program
pub program_lawful : (source : List ℕ) → length source ≤ 2 ^ 20 → first_fault source ≡ None → IsProgram (program_of source)
unfolding program_of
program_lawful source short none =
    let labels = labels_of_source source in
    let f = first_none source labels refl none in
    let w = whole_from labels start 1 [] (lines source) no_program refl f.0 f.1 start_placed
    (record { count = omega arith; defined = tt; distinct = tt }) in
    entry_whole labels (1 + length (lines source)) (definition_of labels (codes "start"))
    (program_from labels start (lines source) no_program)
    (omega (arith, length-lines source, short)) (definition_below source (codes "start") none) w
