-- How a command ends: the file that is read last isn't whole, or what was found says how.
use Rattle.std.proofs.Common.{◌≡◌, ℕ, zero, suc, ◌+◌, ◌*◌, ◌⊎◌, Bool, true, false, List, [], ◌∷◌, ◌++◌, Option, Some, None, Result, Ok, Err}
use Rattle.std.proofs.Common.{refl, sym, ap, subst, ◌∙◌, inl, inr, append_assoc}
use Rattle.std.specs.Prelude.{map as list_map, if◌then◌else◌}
use Rattle.std.specs.Str.{is_utf8}
use Rattle.std.proofs.lemmas.List.{append-nil, map-append}
use Rattle.mx_io.specs.Answer.{Answer}
use Rattle.mx_model.specs.Run.{Schedule, ByQuantum, ByBytes}
use Rattle.mx_model.specs.State.{State}
use Rattle.mx_manifest.specs.declared.fault.BootFault.{BootFault}
use Rattle.mx_manifest.specs.declared.parts.ModulePlan.{ModulePlan}
use Rattle.mx_manifest.specs.Plan.{Said}
use Rattle.mx_boot.specs.Boot.{Refusal, Faulty, boot_of}
use Rattle.mx_boot.specs.Faults.{ram_words}
use Rattle.mx_snapshot.specs.Kept.{KeptPlan, kept_of}
use Rattle.mx_snapshot.specs.Resumed.{plan_of, state_of}
use Rattle.mx_snapshot.specs.Stored.{Stored}
use Rattle.mx_resume.specs.Snapshot.{Unread, snapshot_of}
use Rattle.mx_commands.specs.declared.side.Side.{Side}
use Rattle.mx_commands.specs.declared.side.Side.TheVariants.{First, Second}
use Rattle.mx_image.specs.Image.{image_of}
use Rattle.mx_asm.specs.Denoted.{program_of, first_fault}
use Rattle.mx_commands.specs.declared.status.Status.{Status}
use Rattle.mx_commands.specs.declared.status.Status.TheVariants.{Ran, StoreFault, ShortFile, NoFile, AsmFault, SnapshotFault}
use Rattle.mx_commands.specs.Order.{Order, Pair}
use Rattle.mx_commands.specs.declared.order.Way.{Way}
use Rattle.mx_commands.specs.declared.order.Way.TheVariants as way
use Rattle.mx_plan.specs.Manifest.{judged}
use Rattle.mx_commands.specs.Finding.{Finding, Absent, Large, Short, Broken, Whole, Finds}
use Rattle.mx_commands.specs.Next.{Outcome, Wanted, Next, Read, End, refusal, lack_of, after_file}
use Rattle.mx_commands.specs.Boots.{Rest, refused_by, after_files, after_images, after_inputs, image_named, image_wanted, input_named}
use Rattle.mx_commands.specs.Boots.{input_wanted, manifest_file, booted, planned, after_boot, HasFile, HasFiles, HasBoth}
use Rattle.mx_commands.specs.Commands.{schedule_file, source_file, scheduled, run_of, run_from, booted_run, going, written_image}
use Rattle.mx_commands.specs.Commands.{unless_faulty, assembled_text, assembled, audited, after_first, assembling, auditing, comparing}
use Rattle.mx_commands.specs.Compared.{compared}
use Rattle.mx_commands.specs.Resumed.{Onward, unread_by, snapshot_file, resumed, after_snapshot}
use Rattle.mx_commands.specs.Leads.{LeadsBy, LeadsTo, FindsAll, FindsLast}
use Rattle.mx_commands.proofs.FileSteps.{file_step}
use Rattle.mx_commands.proofs.Leads.{end_same, read_same, read_end}

pub status_same : {a b : Outcome} → End a ≡ End b → b.status ≡ a.status
status_same e = sym (ap (λ (o : Outcome). o.status) (end_same e))

-- answers that lead to an outcome say what is found of each file, and by that the step ends
pub all_found : (n : ℕ) (step : List Finding → Next) (answers : List Answer) (outcome : Outcome) → LeadsBy n step answers outcome
    → (found : List Finding) × FindsAll step answers found × (step found ≡ End outcome)
all_found zero step answers outcome l = ([], l.1, l.0)
all_found (suc n) step answers outcome l =
    let later = all_found n (λ more. step (l.3 ∷ more)) l.2 outcome l.7 in
    (l.3 ∷ later.0, (l.0, l.1, l.2, l.4, l.5, l.6, later.1), later.2)

pub leads_all : (step : List Finding → Next) (answers : List Answer) (found : List Finding) (outcome : Outcome)
    → FindsAll step answers found → step found ≡ End outcome → LeadsTo step answers outcome
leads_all step answers [] outcome f is = (0, (is, f))
leads_all step answers (x ∷ more) outcome f is =
    let later = leads_all (λ later. step (x ∷ later)) f.2 more outcome f.6 is in
    (suc later.0, (f.0, f.1, f.2, x, f.3, f.4, f.5, later.1))

-- one more file
pub all_with : (step : List Finding → Next) (before last : List Answer) (others : List Finding) (file : Wanted) (found : Finding)
    → FindsAll step before others → step others ≡ Read file
    → Finds file.most file.name last found → FindsAll step (before ++ last) (others ++ found ∷ [])
all_with step before last [] file found f is said = (file, last, [], is, ap (λ xs. xs ++ last) f ∙ sym (append-nil last), said, refl)
all_with step before last (x ∷ more) file found f is said = (
  f.0,
  f.1,
  f.2 ++ last,
  f.3,
  ap (λ xs. xs ++ last) f.4 ∙ append_assoc f.1 f.2 last,
  f.5,
  all_with (λ later. step (x ∷ later)) f.2 last more file found f.6 is said,
)

-- after an end nothing is read
end_answers : (o : Outcome) (answers : List Answer) (found : List Finding) → FindsAll (λ _. End o) answers found → answers ≡ []
end_answers o answers [] f = f
end_answers o answers (x ∷ more) f = absurd (read_end (sym f.3))

end_found : (o : Outcome) (answers : List Answer) (found : List Finding) → FindsAll (λ _. End o) answers found → found ≡ []
end_found o answers [] f = refl
end_found o answers (x ∷ more) f = absurd (read_end (sym f.3))

-- the status of a file over its limit
abbrev pub IsLimit : Wanted → Type 0
IsLimit file =
    ((side : Side) × (fault : BootFault) × (file.large ≡ refused_by side (Faulty fault)))
    ⊎ ((line : ℕ) × (number : ℕ) × (file.large ≡ AsmFault line number))
    ⊎ ((at : ℕ) × (number : ℕ) × (file.large ≡ SnapshotFault at number))

-- the file that is read last isn't whole
abbrev pub Lack : (List Finding → Next) → List Answer → Status → Type 0
Lack step answers status = (file : Wanted) × (found : Finding) × FindsLast step answers file found × IsLimit file
    × (lack_of file found ≡ Some status)

-- where a step ends, it ends so, or by what is said
abbrev pub Caused : (List Finding → Next) → (List Finding → Status → Type 0) → Type 0
Caused step Own = (answers : List Answer) (found : List Finding) (outcome : Outcome) → FindsAll step answers found
    → step found ≡ End outcome
    → Lack step answers outcome.status ⊎ Own found outcome.status

weaker : (step : List Finding → Next) (P Q : List Finding → Status → Type 0)
    → ((found : List Finding) (status : Status) → P found status → Q found status) → Caused step P → Caused step Q
weaker step P Q f c answers found outcome all end = elim (c answers found outcome all end) [
  | inl l ↦ inl l
  | inr p ↦
      inr (f found outcome.status p)
]

module _ (file : Wanted) (rest : List ℕ → List Finding → Next) where
  lacking : (answers first later : List Answer) (found : Finding) (status : Status) (more : List Finding) (outcome : Outcome) → IsLimit file
      → answers ≡ first ++ later
      → Finds file.most file.name first found → lack_of file found ≡ Some status → FindsAll (λ _. End (refusal file.name status)) later more
      → End (refusal file.name status) ≡ End outcome → Lack (after_file file rest) answers outcome.status
  lacking answers first later found status more outcome limit is said lack f end =
      let none = end_answers (refusal file.name status) later more f in (
        file,
        found,
        (
          first,
          record { others = []; before = []; parts = is ∙ ap (λ xs. first ++ xs) none ∙ append-nil first; finds = refl; read = refl },
          said,
        ),
        limit,
        lack ∙ ap (λ s. Some s) (sym (status_same end)),
      )

  lifted : (bytes : List ℕ) (answers first later : List Answer) (status : Status) → answers ≡ first ++ later
      → Finds file.most file.name first (Whole bytes)
      → Lack (rest bytes) later status → Lack (after_file file rest) answers status
  lifted bytes answers first later status is said l = (
    l.0,
    l.1,
    (
      l.2.0,
      record {
        others = Whole bytes ∷ l.2.1.others;
        before = first ++ l.2.1.before;
        parts = is ∙ ap (λ xs. first ++ xs) l.2.1.parts ∙ sym (append_assoc first l.2.1.before l.2.0);
        finds = (file, first, l.2.1.before, refl, refl, said, l.2.1.finds);
        read = l.2.1.read;
      },
      l.2.2,
    ),
    l.3,
    l.4,
  )

  -- what follows from the bytes of a file
  abbrev OfFile : (List ℕ → List Finding → Status → Type 0) → List Finding → Status → Type 0
  OfFile Own found status = (bytes : List ℕ) × (others : List Finding) × (found ≡ Whole bytes ∷ others) × Own bytes others status

  by_finding : (Own : List ℕ → List Finding → Status → Type 0) → IsLimit file → ((bytes : List ℕ) → Caused (rest bytes) (Own bytes))
      → (answers first later : List Answer) (found : Finding)
      (more : List Finding) (outcome : Outcome) → answers ≡ first ++ later → Finds file.most file.name first found
      → FindsAll (λ others. after_file file rest (found ∷ others)) later more
      → after_file file rest (found ∷ more) ≡ End outcome → Lack (after_file file rest) answers outcome.status
      ⊎ OfFile Own (found ∷ more) outcome.status
  by_finding Own limit each answers first later Absent more outcome is said f end =
      inl (lacking answers first later Absent (NoFile file.role) more outcome limit is said refl f end)
  by_finding Own limit each answers first later Large more outcome is said f end =
      inl (lacking answers first later Large file.large more outcome limit is said refl f end)
  by_finding Own limit each answers first later (Short told got) more outcome is said f end =
      inl (lacking answers first later (Short told got) (ShortFile file.role told got) more outcome limit is said refl f end)
  by_finding Own limit each answers first later Broken more outcome is said f end =
      inl (lacking answers first later Broken StoreFault more outcome limit is said refl f end)
  by_finding Own limit each answers first later (Whole bytes) more outcome is said f end =
      elim (each bytes later more outcome f end) [
        | inl l ↦ inl (lifted bytes answers first later outcome.status is said l)
        | inr o ↦ inr (bytes, more, refl, o)
      ]

  by_file : (Own : List ℕ → List Finding → Status → Type 0) → IsLimit file → ((bytes : List ℕ) → Caused (rest bytes) (Own bytes))
      → Caused (after_file file rest) (OfFile Own)
  by_file Own limit each answers [] outcome f end = absurd (read_end end)
  by_file Own limit each answers (x ∷ more) outcome f end =
      let same : file ≡ f.0 = read_same f.3 in
      by_finding Own limit each answers f.1 f.2 x more outcome f.4 (subst (λ (w : Wanted). Finds w.most w.name f.1 x) (sym same) f.5) f.6
      end

-- what follows from the files of modules
module _ {N : Type 0} (named : ModulePlan → Option N) where
  abbrev pub OfFiles : List ModulePlan → List (List ℕ) → (List (List ℕ) → List Finding → Status → Type 0) → List Finding → Status → Type 0
  OfFiles ms before Own found status =
      (files : List (List ℕ)) × (taken : List (List ℕ)) × (more : List Finding) × HasFiles named ms files taken
      × (found ≡ list_map Whole files ++ more) × Own (before ++ taken) more status

  -- the same with one more module, whose file is told by its name
  abbrev OfOne : Option N → List ModulePlan → List (List ℕ) → (List (List ℕ) → List Finding → Status → Type 0) → List Finding → Status
      → Type 0
  OfOne o ms before Own found status =
      (files : List (List ℕ)) × (bytes : List ℕ) × (left : List (List ℕ)) × HasFile o files bytes left
      × (taken : List (List ℕ)) × (more : List Finding) × HasFiles named ms left taken × (found ≡ list_map Whole files ++ more)
      × Own ((before ++ bytes ∷ []) ++ taken) more status

  with_one : (m : ModulePlan) (ms : List ModulePlan) (before : List (List ℕ)) (Own : List (List ℕ) → List Finding → Status
      → Type 0) (found : List Finding) (status : Status)
      → OfOne (named m) ms before Own found status → OfFiles (m ∷ ms) before Own found status
  with_one m ms before Own found status o = (
    o.0,
    o.1 ∷ o.4,
    o.5,
    (o.1, o.2, o.4, o.3, refl, o.6),
    o.7,
    subst (λ (all : List (List ℕ)). Own all o.5 status) (append_assoc before (o.1 ∷ []) o.4) o.8,
  )

  module _ (file : ℕ → List (List ℕ) → N → Wanted) (limits : (number : ℕ) (taken : List (List ℕ)) (name : N)
      → IsLimit (file number taken name)) where
    by_one : (o : Option N) (number : ℕ) (ms : List ModulePlan) (before : List (List ℕ)) (rest : List (List ℕ) → List Finding → Next)
        (Own : List (List ℕ) → List Finding → Status → Type 0)
        → ((before : List (List ℕ)) → Caused (after_files named file (number + 1) ms before rest) (OfFiles ms before Own))
        → Caused (file_step named file o number ms before rest) (OfOne o ms before Own)
    by_one None number ms before rest Own each =
        weaker (file_step named file None number ms before rest) (OfFiles ms (before ++ [] ∷ []) Own) (OfOne None ms before Own)
        (λ found status o. (o.0, [], o.0, (refl, refl), o.1, o.2, o.3, o.4, o.5)) (each (before ++ [] ∷ []))
    by_one (Some name) number ms before rest Own each =
        let wanted = file number before name in
        let next_files = λ (bytes : List ℕ). after_files named file (number + 1) ms (before ++ bytes ∷ []) rest in
        weaker (file_step named file (Some name) number ms before rest)
        (OfFile wanted next_files (λ bytes. OfFiles ms (before ++ bytes ∷ []) Own)) (OfOne (Some name) ms before Own)
        (λ found status o.
        let p = o.3 in
        (o.0 ∷ p.0, o.0, p.0, refl, p.1, p.2, p.3, o.2 ∙ ap (λ xs. Whole o.0 ∷ xs) p.4, p.5))
        (by_file wanted next_files (λ bytes. OfFiles ms (before ++ bytes ∷ []) Own) (limits number before name) (λ bytes.
        each (before ++ bytes ∷ [])))

    by_files : (ms : List ModulePlan) (number : ℕ) (before : List (List ℕ)) (rest : List (List ℕ) → List Finding
        → Next) (Own : List (List ℕ) → List Finding → Status → Type 0)
        → ((before : List (List ℕ)) → Caused (rest before) (Own before))
        → Caused (after_files named file number ms before rest) (OfFiles ms before Own)
    by_files [] number before rest Own each =
        weaker (rest before) (Own before) (OfFiles [] before Own)
        (λ found status o. (
          [],
          [],
          found,
          (refl, refl),
          refl,
          subst (λ (all : List (List ℕ)). Own all found status)
              (sym (append-nil before)) o,
        )) (each before)
    by_files (m ∷ ms) number before rest Own each =
        weaker (file_step named file (named m) number ms before rest) (OfOne (named m) ms before Own) (OfFiles (m ∷ ms) before Own)
        (with_one m ms before Own)
        (by_one (named m) number ms before rest Own (λ before. by_files ms (number + 1) before rest Own each))

-- what follows from the images and the inputs of a plan's modules
abbrev pub OfBoth : Said → (List (List ℕ) → List (List ℕ) → List Finding → Status → Type 0) → List Finding → Status → Type 0
OfBoth plan Own found status =
    (files : List (List ℕ)) × (images : List (List ℕ)) × (inputs : List (List ℕ)) × (more : List Finding) × HasBoth plan files images inputs
    × (found ≡ list_map Whole files ++ more) × Own images inputs more status

by_both : (side : Side) (size : ℕ) (plan : Said) (rest : List (List ℕ) → List (List ℕ) → List Finding → Next) (Own : List (List ℕ)
    → List (List ℕ) → List Finding → Status → Type 0)
    → ((images inputs : List (List ℕ)) → Caused (rest images inputs) (Own images inputs))
    → Caused (after_images side 1 plan.modules [] (λ images. after_inputs side size 1 plan.modules [] (rest images))) (OfBoth plan Own)
by_both side size plan rest Own each =
    let OwnInputs : List (List ℕ) → List Finding → Status → Type 0 = λ images. OfFiles input_named plan.modules [] (Own images) in
    weaker (after_images side 1 plan.modules [] (λ images. after_inputs side size 1 plan.modules [] (rest images)))
    (OfFiles image_named plan.modules [] OwnInputs) (OfBoth plan Own)
    (λ found status o.
    let p = o.5 in (
      o.0 ++ p.0,
      o.1,
      p.1,
      p.2,
      record { first = o.0; last = p.0; parts = refl; as_images = o.3; as_inputs = p.3 },
      o.4 ∙ ap (λ xs. list_map Whole o.0 ++ xs) p.4 ∙ sym (append_assoc (list_map Whole o.0) (list_map Whole p.0) p.2)
          ∙ ap (λ xs. xs ++ p.2) (sym (map-append Whole o.0 p.0)),
      p.5,
    ))
    (by_files image_named (image_wanted side) (λ number taken name. inl (side, _, refl)) plan.modules 1 [] (λ images.
    after_inputs side size 1 plan.modules [] (rest images)) OwnInputs
    (λ images. by_files input_named (input_wanted side size) (λ number taken name. inl (side, _, refl)) plan.modules 1 [] (rest images)
    (Own images) (each images)))

-- a step that only ends
pub by_end : (o : Outcome) → Caused (λ _. End o) (λ found status. (found ≡ []) × (status ≡ o.status))
by_end o answers found outcome f end = inr (end_found o answers found f, status_same end)

abbrev pub OfRun : List Finding → Status → Type 0
OfRun found status = status ≡ Ran

-- a step that only ends, and well
pub by_ran : (o : Outcome) → o.status ≡ Ran → Caused (λ _. End o) OfRun
by_ran o ran answers found outcome f end = inr (status_same end ∙ ran)

by_run : (quantum : ℕ) (made : Schedule → Outcome) → ((schedule : Schedule) → (made schedule).status ≡ Ran) → (name : Option (List ℕ))
    → Caused (scheduled quantum made name) OfRun
by_run quantum made ran None = by_ran (made (ByQuantum quantum)) (ran (ByQuantum quantum))
by_run quantum made ran (Some name) =
    let rest = λ (bytes : List ℕ) (more : List Finding). End (made (ByBytes bytes)) in
    weaker (scheduled quantum made (Some name)) (OfFile (schedule_file name) rest (λ bytes. OfRun)) OfRun (λ found status h. h.3)
    (by_file (schedule_file name) rest (λ bytes. OfRun) (inl (First, _, refl)) (λ bytes.
    by_ran (made (ByBytes bytes)) (ran (ByBytes bytes))))

-- what follows from a plan and its state
abbrev pub Own : Type 1
Own = Said → State → List Finding → Status → Type 0

-- how a side's boot ends, or what follows
abbrev pub OfState : Side → Own → Said → Result State Refusal → List Finding → Status → Type 0
OfState side own plan (Ok s) found status = own plan s found status
OfState side own plan (Err why) found status = (found ≡ []) × (status ≡ refused_by side why)

abbrev pub OfPlan : Side → Own → Result Said BootFault → List Finding → Status → Type 0
OfPlan side own (Ok plan) found status = OfBoth plan (λ images inputs. OfState side own plan (boot_of plan images inputs)) found status
OfPlan side own (Err fault) found status = (found ≡ []) × (status ≡ refused_by side (Faulty fault))

abbrev pub OfBoot : Side → Own → List Finding → Status → Type 0
OfBoot side own found status = (bytes : List ℕ) × (others : List Finding) × (found ≡ Whole bytes ∷ others)
    × OfPlan side own (judged bytes) others status

module _ (side : Side) (name : List ℕ) (rest : Rest) (own : Own) (each : (plan : Said) (s : State)
    → Caused (rest plan s) (own plan s)) where
  by_state : (plan : Said) (boot : Result State Refusal) → Caused (booted side name rest plan boot) (OfState side own plan boot)
  by_state plan (Ok s) = each plan s
  by_state plan (Err why) = by_end (refusal name (refused_by side why))

  by_plan : (plan : Result Said BootFault) → Caused (planned side name rest plan) (OfPlan side own plan)
  by_plan (Ok plan) =
      by_both side (4 * ram_words plan) plan (λ images inputs. booted side name rest plan (boot_of plan images inputs)) (λ images inputs.
      OfState side own plan (boot_of plan images inputs))
      (λ images inputs. by_state plan (boot_of plan images inputs))
  by_plan (Err fault) = by_end (refusal name (refused_by side (Faulty fault)))

  by_boot : Caused (after_boot side name rest) (OfBoot side own)
  by_boot =
      by_file (manifest_file side name) (λ bytes. planned side name rest (judged bytes)) (λ bytes. OfPlan side own (judged bytes))
      (inl (side, _, refl)) (λ bytes. by_plan (judged bytes))

-- how a snapshot is refused, or what follows
abbrev pub OfStored : Result Stored Unread → List Finding → Status → Type 0
OfStored (Ok stored) found status = OfRun found status
OfStored (Err why) found status = (found ≡ []) × (status ≡ unread_by why)

abbrev pub OfSnapshot : List Finding → Status → Type 0
OfSnapshot found status = (bytes : List ℕ) × (others : List Finding) × (found ≡ Whole bytes ∷ others)
    × OfStored (snapshot_of bytes) others status

module _ (name : List ℕ) (rest : Onward) (each : (kept : KeptPlan) (s : State) → Caused (rest kept s) OfRun) where
  by_stored : (stored : Result Stored Unread) → Caused (resumed name rest stored) (OfStored stored)
  by_stored (Ok stored) = each (plan_of stored) (state_of stored)
  by_stored (Err why) = by_end (refusal name (unread_by why))

  by_snapshot : Caused (after_snapshot name rest) OfSnapshot
  by_snapshot =
      by_file (snapshot_file name) (λ bytes. resumed name rest (snapshot_of bytes)) (λ bytes. OfStored (snapshot_of bytes))
      (inr (inr (0, 1, refl))) (λ bytes. by_stored (snapshot_of bytes))

abbrev pub OfSource : List ℕ → List ℕ → List Finding → Status → Type 0
OfSource source bytes found status = (found ≡ []) × (status ≡ (assembled source bytes).status)

abbrev pub IsOfSource : Status → Type 0
IsOfSource status = (status ≡ Ran) ⊎ ((line : ℕ) × (number : ℕ) × (status ≡ AsmFault line number))

text_status : {F : Type 0} (first : Option F) (refused : F → Outcome)
    → ((fault : F) → (line : ℕ) × (number : ℕ) × ((refused fault).status ≡ AsmFault line number)) → (image : Outcome)
    → image.status ≡ Ran → IsOfSource (unless_faulty first refused image).status
text_status None refused each image is = inl is
text_status (Some fault) refused each image is = inr (each fault)

bytes_status : (source : List ℕ) (good : Bool) (outcome : Outcome) → IsOfSource outcome.status
    → IsOfSource (if good then outcome else refusal source (AsmFault 0 11)).status
bytes_status source true outcome is = is
bytes_status source false outcome is = inr (0, 11, refl)

pub source_status : (source bytes : List ℕ) → IsOfSource (assembled source bytes).status
source_status source bytes = bytes_status source (is_utf8 bytes) (assembled_text source bytes)
    (text_status (first_fault bytes) (λ fault. refusal source (AsmFault fault.line fault.number)) (λ fault.
    (fault.line, fault.number, refl)) (written_image (image_of (program_of bytes))) refl)

-- how a run of each way ends
abbrev pub OfWay : Way → List Finding → Status → Type 0
OfWay way.Run found status = OfBoot First (λ plan s. OfRun) found status
OfWay way.Resume found status = OfSnapshot found status
OfWay way.Trace found status = OfBoot First (λ plan s. OfRun) found status

by_from : (o : Order) (kept : KeptPlan) (s : State) → Caused (run_from o kept s) OfRun
by_from o kept s = by_run kept.quantum (run_of o kept s) (λ schedule. refl) o.schedule

by_booted : (o : Order) → Caused (booted_run o) (OfBoot First (λ plan s. OfRun))
by_booted o = by_boot First o.file (λ plan s. run_from o (kept_of plan) s) (λ plan s. OfRun) (λ plan s. by_from o (kept_of plan) s)

pub by_way : (o : Order) (w : Way) → Caused (going o w) (OfWay w)
by_way o way.Run = by_booted o
by_way o way.Resume = by_snapshot o.file (run_from o) (by_from o)
by_way o way.Trace = by_booted o

-- how a comparison ends
abbrev pub OfPair : Pair → Said → State → Own
OfPair p plan s other t found status = (found ≡ []) × (status ≡ (compared p plan s other t).status)

abbrev pub OfAssembling : List ℕ → List Finding → Status → Type 0
OfAssembling source found status = (bytes : List ℕ) × (others : List Finding) × (found ≡ Whole bytes ∷ others)
    × OfSource source bytes others status

pub by_assembling : (source : List ℕ) → Caused (assembling source) (OfAssembling source)
by_assembling source =
    by_file (source_file source) (λ bytes more. End (assembled source bytes)) (OfSource source) (inr (inl (0, 11, refl))) (λ bytes.
    by_end (assembled source bytes))

pub by_auditing : (name : List ℕ) → Caused (auditing name) (OfBoot First (λ plan s. OfRun))
by_auditing name = by_boot First name (λ plan s more. End (audited plan s)) (λ plan s. OfRun) (λ plan s. by_ran (audited plan s) refl)

abbrev pub OfComparing : Pair → List Finding → Status → Type 0
OfComparing p = OfBoot First (λ plan s. OfBoot Second (OfPair p plan s))

pub by_comparing : (p : Pair) → Caused (comparing p) (OfComparing p)
by_comparing p =
    by_boot First p.first (after_first p) (λ plan s. OfBoot Second (OfPair p plan s))
    (λ plan s. by_boot Second p.second (λ other t more. End (compared p plan s other t)) (OfPair p plan s) (λ other t.
    by_end (compared p plan s other t)))
