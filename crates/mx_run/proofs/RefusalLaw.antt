-- What a command comes to over files is status 0, or one line on the report and nothing else.
use Rattle.std.proofs.Common.{◌≡◌, ◌≢◌, ℕ, suc, ◌+◌, ◌*◌, Bool, true, false, List, [], ◌∷◌, ◌++◌, Option, Some, None, Result, Ok, Err, refl}
use Rattle.std.proofs.Common.{subst, sym, ◌∙◌, if◌then◌else◌}
use Rattle.std.specs.Str.{is_utf8}
use Rattle.mx_asm.specs.Denoted.{first_fault, program_of}
use Rattle.mx_image.specs.Image.{image_of}
use Rattle.mx_turns.specs.Ends.{Sinks, Holds}
use Rattle.mx_mill.specs.Mill.{mill_text}
use Rattle.mx_io.specs.Store.{FileMap, StoreState}
use Rattle.mx_model.specs.Run.{Schedule, ByQuantum, ByBytes}
use Rattle.mx_model.specs.State.{State}
use Rattle.mx_manifest.specs.declared.fault.BootFault.{BootFault}
use Rattle.mx_manifest.specs.declared.parts.ModulePlan.{ModulePlan}
use Rattle.mx_manifest.specs.Plan.{Said}
use Rattle.mx_boot.specs.Boot.{Refusal, Faulty, boot_of}
use Rattle.mx_boot.specs.Faults.{ram_words}
use Rattle.mx_snapshot.specs.Kept.{KeptPlan, kept_of}
use Rattle.mx_snapshot.specs.Resumed.{plan_of, state_of}
use Rattle.mx_snapshot.specs.Stored.{Stored}
use Rattle.mx_resume.specs.Snapshot.{Unread, snapshot_of}
use Rattle.mx_commands.specs.declared.side.Side.{Side}
use Rattle.mx_commands.specs.declared.side.Side.TheVariants.{First, Second}
use Rattle.mx_commands.specs.declared.status.Status.{Status}
use Rattle.mx_commands.specs.declared.status.Status.TheVariants.{Ran, Usage, StoreFault, ShortFile, NoFile, AsmFault, NoDomain}
use Rattle.mx_commands.specs.declared.status.Status.TheVariants.{WantOfMemory}
use Rattle.mx_commands.specs.Order.{Order, Pair}
use Rattle.mx_commands.specs.declared.order.Way.{Way}
use Rattle.mx_commands.specs.declared.order.Way.TheVariants as way
use Rattle.mx_plan.specs.Manifest.{judged}
use Rattle.mx_commands.specs.Finding.{Finding, Absent, Large, Short, Broken, Whole, found_in}
use Rattle.mx_commands.specs.Next.{Outcome, Wanted, Next, End, refusal, reported, after_file}
use Rattle.mx_commands.specs.Boots.{Rest, refused_by, after_files, after_inputs, image_named, image_wanted, input_named, input_wanted}
use Rattle.mx_commands.specs.Boots.{manifest_file, booted, planned, after_boot}
use Rattle.mx_commands.specs.Commands.{assembled_text, unless_faulty, written_image, schedule_file, source_file, scheduled, run_of}
use Rattle.mx_commands.specs.Commands.{run_from, booted_run, going, assembled, audited, after_first, assembling, auditing, comparing}
use Rattle.mx_manifest.specs.declared.fault.Key.{Key}
use Rattle.mx_commands.specs.Compared.{alike, alike_by, compared, first_unlike, is_domain, unlike}
use Rattle.mx_commands.specs.Resumed.{Onward, unread_by, snapshot_file, resumed, after_snapshot}
use Rattle.mx_commands.specs.Leads.{LeadsOver}
use Rattle.mx_commands.proofs.FileSteps.{file_step}
use Rattle.mx_run.specs.Commands.{next}
use Rattle.mx_run.specs.Words.{Request, Go, Asm, Audit, Twin, Mill, meaning}
use Rattle.mx_run.specs.Leads.{IsOutcome}
use Rattle.mx_run.specs.Promise.{CountsStay, Gives, Headline}
use Rattle.mx_run.specs.Refuses.{RefusesSo, RefusesByLine}
use Rattle.mx_run.proofs.Outcomes.{one_outcome}
use Rattle.mx_run.proofs.Promises.{if_some}
use Rattle.mx_run.proofs.RunLaw.{some-if}

-- an outcome is status 0, or a refusal of its status
abbrev pub IsToldBy : Outcome → Type 0
IsToldBy o = o.status ≢ Ran → (name : List ℕ) × (o ≡ refusal name o.status)

line : (name : List ℕ) (status : Status) → IsToldBy (refusal name status)
line name status other = (name, refl)

ran : (o : Outcome) → o.status ≡ Ran → IsToldBy o
ran o is other = absurd (other is)

told-alike : (b : Bool) (p : Pair) (plan : Said) (s t : State) → IsToldBy (alike_by b p plan s t)
told-alike true p plan s t = ran (alike_by true p plan s t) refl
told-alike false p plan s t = line [] NoDomain

told-unlike : (k : Option Key) (other : Outcome) → IsToldBy other → IsToldBy (unlike k other)
told-unlike None other told = told
told-unlike (Some key) other told = line [] _

told-compared : (p : Pair) (plan : Said) (s : State) (other : Said) (t : State) → IsToldBy (compared p plan s other t)
told-compared p plan s other t = told-unlike (first_unlike plan other) (alike p plan s t) (told-alike (is_domain plan p.domain) p plan s t)

told-faulty : {F : Type 0} (first : Option F) (refused : F → Outcome) (image : Outcome) → ((f : F) → IsToldBy (refused f)) → IsToldBy image
    → IsToldBy (unless_faulty first refused image)
told-faulty None refused image each told = told
told-faulty (Some f) refused image each told = each f

told-bytes : (b : Bool) (text other : Outcome) → IsToldBy text → IsToldBy other → IsToldBy (if b then text else other)
told-bytes true text other told untold = told
told-bytes false text other told untold = untold

told-assembled : (source bytes : List ℕ) → IsToldBy (assembled source bytes)
told-assembled source bytes =
    told-bytes (is_utf8 bytes) (assembled_text source bytes) (refusal source (AsmFault 0 11))
    (told-faulty (first_fault bytes) _ (written_image (image_of (program_of bytes))) (λ f. line source _)
    (ran (written_image (image_of (program_of bytes))) refl))
    (line source (AsmFault 0 11))

module _ (files : FileMap) where
  -- a step leads to such an outcome over the files
  abbrev pub HasOutcome : (List Finding → Next) → Type 0
  HasOutcome step = (outcome : Outcome) × IsToldBy outcome × ((n : ℕ) × LeadsOver n step files outcome)

  -- whatever is found of a file, where the rest leads to one by all bytes
  by_finding : (file : Wanted) (rest : List ℕ → List Finding → Next) → ((bytes : List ℕ) → HasOutcome (rest bytes)) → (found : Finding)
      → HasOutcome (λ more. after_file file rest (found ∷ more))
  by_finding file rest each Absent = (refusal file.name (NoFile file.role), line file.name (NoFile file.role), (0, refl))
  by_finding file rest each Large = (refusal file.name file.large, line file.name file.large, (0, refl))
  by_finding file rest each (Short told got) = (
    refusal file.name (ShortFile file.role told got),
    line file.name
        (ShortFile file.role told got),
    (0, refl),
  )
  by_finding file rest each Broken = (refusal file.name StoreFault, line file.name StoreFault, (0, refl))
  by_finding file rest each (Whole bytes) = each bytes

  -- a file is read, and then the rest follows
  by_file : (file : Wanted) (rest : List ℕ → List Finding → Next) → ((bytes : List ℕ) → HasOutcome (rest bytes))
      → HasOutcome (after_file file rest)
  by_file file rest each =
      let later = by_finding file rest each (found_in files file.most file.name) in
      (later.0, later.1, (suc later.2.0, (file, refl, later.2.1)))

  -- the files of modules, of which each is one or none
  by_files : {N : Type 0} (named : ModulePlan → Option N) (file : ℕ → List (List ℕ) → N
      → Wanted) (ms : List ModulePlan) (number : ℕ) (taken : List (List ℕ))
      (rest : List (List ℕ) → List Finding → Next) → ((taken : List (List ℕ)) → HasOutcome (rest taken))
      → HasOutcome (after_files named file number ms taken rest)
  by_files named file [] number taken rest each = each taken
  by_files named file (m ∷ ms) number taken rest each =
      elim (named m) as (λ o. HasOutcome (file_step named file o number ms taken rest)) [
        | None ↦ by_files named file ms (number + 1) (taken ++ [] ∷ []) rest each
        | Some name ↦ by_file (file number taken name) (λ bytes. after_files named file (number + 1) ms (taken ++ bytes ∷ []) rest)
            (λ bytes. by_files named file ms (number + 1) (taken ++ bytes ∷ []) rest each)
      ]

  by_schedule : (quantum : ℕ) (made : Schedule → Outcome) (told : (schedule : Schedule) → IsToldBy (made schedule)) (name : Option (List ℕ))
      → HasOutcome (scheduled quantum made name)
  by_schedule quantum made told None = (made (ByQuantum quantum), told (ByQuantum quantum), (0, refl))
  by_schedule quantum made told (Some name) =
      by_file (schedule_file name) (λ bytes more. End (made (ByBytes bytes))) (λ bytes.
      (made (ByBytes bytes), told (ByBytes bytes), (0, refl)))

  -- a boot of a side, where the rest leads to one from every plan and state
  module _ (side : Side) (name : List ℕ) (rest : Rest) (each : (plan : Said) (s : State) → HasOutcome (rest plan s)) where
    by_state : (plan : Said) (boot : Result State Refusal) → HasOutcome (booted side name rest plan boot)
    by_state plan (Ok s) = each plan s
    by_state plan (Err why) = (refusal name (refused_by side why), line name (refused_by side why), (0, refl))

    by_plan : (plan : Result Said BootFault) → HasOutcome (planned side name rest plan)
    by_plan (Ok plan) =
        by_files image_named (image_wanted side) plan.modules 1 [] (λ images.
        after_inputs side (4 * ram_words plan) 1 plan.modules [] (λ inputs. booted side name rest plan (boot_of plan images inputs)))
        (λ images. by_files input_named (input_wanted side (4 * ram_words plan)) plan.modules 1 [] (λ inputs.
        booted side name rest plan (boot_of plan images inputs))
        (λ inputs. by_state plan (boot_of plan images inputs)))
    by_plan (Err fault) = (refusal name (refused_by side (Faulty fault)), line name (refused_by side (Faulty fault)), (0, refl))

    by_boot : HasOutcome (after_boot side name rest)
    by_boot = by_file (manifest_file side name) (λ bytes. planned side name rest (judged bytes)) (λ bytes. by_plan (judged bytes))

  -- a snapshot, where the rest leads to one from every plan and state
  module _ (name : List ℕ) (rest : Onward) (each : (kept : KeptPlan) (s : State) → HasOutcome (rest kept s)) where
    by_stored : (stored : Result Stored Unread) → HasOutcome (resumed name rest stored)
    by_stored (Ok stored) = each (plan_of stored) (state_of stored)
    by_stored (Err why) = (refusal name (unread_by why), line name (unread_by why), (0, refl))

    by_snapshot : HasOutcome (after_snapshot name rest)
    by_snapshot = by_file (snapshot_file name) (λ bytes. resumed name rest (snapshot_of bytes)) (λ bytes. by_stored (snapshot_of bytes))

  by_run : (o : Order) (kept : KeptPlan) (s : State) → HasOutcome (run_from o kept s)
  by_run o kept s = by_schedule kept.quantum (run_of o kept s) (λ schedule. ran (run_of o kept s schedule) refl) o.schedule

  by_booted : (o : Order) → HasOutcome (booted_run o)
  by_booted o = by_boot First o.file (λ plan s. run_from o (kept_of plan) s) (λ plan s. by_run o (kept_of plan) s)

  pub by_way : (o : Order) (w : Way) → HasOutcome (going o w)
  by_way o way.Run = by_booted o
  by_way o way.Resume = by_snapshot o.file (run_from o) (by_run o)
  by_way o way.Trace = by_booted o

  pub by_assembling : (source : List ℕ) → HasOutcome (assembling source)
  by_assembling source =
      by_file (source_file source) (λ bytes more. End (assembled source bytes)) (λ bytes.
      (assembled source bytes, told-assembled source bytes, (0, refl)))

  pub by_auditing : (name : List ℕ) → HasOutcome (auditing name)
  by_auditing name = by_boot First name (λ plan s more. End (audited plan s)) (λ plan s.
      (audited plan s, ran (audited plan s) refl, (0, refl)))

  pub by_comparing : (p : Pair) → HasOutcome (comparing p)
  by_comparing p =
      by_boot First p.first (after_first p)
      (λ plan s. by_boot Second p.second (λ other t more. End (compared p plan s other t)) (λ other t.
      (compared p plan s other t, told-compared p plan s other t, (0, refl))))

  by_request : (asked : Option Request) → HasOutcome (next asked)
  by_request None = (refusal [] Usage, line [] Usage, (0, refl))
  by_request (Some (Go o)) = by_way o o.way
  by_request (Some (Asm source)) = by_assembling source
  by_request (Some (Mill k)) = (reported (mill_text k), ran (reported (mill_text k)) refl, (0, refl))
  by_request (Some (Twin p)) = by_comparing p
  by_request (Some (Audit name)) = by_auditing name

  told : (asked : Option Request) (outcome : Outcome) → IsOutcome asked files outcome → IsToldBy outcome
  told asked outcome is =
      let h = by_request asked in
      subst (λ (o : Outcome). IsToldBy o) (one_outcome asked files h.0 outcome h.2 is) h.1

-- whatever isn't status 0 is one line on the report
pub refuses-by-line : (words : List (List ℕ)) (store stored : StoreState) (before now : Sinks) (result : Status)
    → Headline (meaning words) store stored before now result
    → RefusesByLine words store stored before now result
refuses-by-line words store stored before now result head =
    if_some store.told (λ files. CountsStay store stored before now → result ≢ WantOfMemory → RefusesSo files before now result)
    (λ files known stays enough other.
    let h = some-if store.told (λ files. CountsStay store stored before now → result ≢ WantOfMemory
    → (outcome : Outcome) × IsOutcome (meaning words) files outcome × Gives outcome before now result)
    files known head stays enough in
    let t = told files (meaning words) h.0 h.1 (λ is. other (h.2.0 ∙ is)) in
    let g : Holds (refusal t.0 h.0.status).texts before now = subst (λ (o : Outcome). Holds o.texts before now) t.1 h.2.1 in
    let k : Holds (refusal t.0 result).texts before now = subst (λ (s : Status). Holds (refusal t.0 s).texts before now) (sym h.2.0) g in
    (t.0, record { console = k.console; report = k.report; dump = k.dump }))
