-- Wherever a command reads a file, it ends where that isn't whole; and what is found of a file that it reaches.
use Rattle.std.proofs.Common.{◌≡◌, ℕ, ◌+◌, ◌*◌, List, [], ◌∷◌, ◌++◌, Option, Some, None, Result, Ok, Err, refl, sym, ap, subst, ◌∙◌}
use Rattle.std.proofs.Common.{append_assoc}
use Rattle.std.proofs.lemmas.List.{append_cancel_left}
use Rattle.mx_io.specs.Answer.{Answer}
use Rattle.mx_model.specs.Run.{Schedule, ByQuantum, ByBytes}
use Rattle.mx_model.specs.State.{State}
use Rattle.mx_manifest.specs.declared.fault.BootFault.{BootFault}
use Rattle.mx_manifest.specs.declared.parts.ModulePlan.{ModulePlan}
use Rattle.mx_manifest.specs.Plan.{Said}
use Rattle.mx_boot.specs.Boot.{Refusal, Faulty, boot_of}
use Rattle.mx_boot.specs.Faults.{ram_words}
use Rattle.mx_snapshot.specs.Kept.{KeptPlan, kept_of}
use Rattle.mx_snapshot.specs.Resumed.{plan_of, state_of}
use Rattle.mx_snapshot.specs.Stored.{Stored}
use Rattle.mx_resume.specs.Snapshot.{Unread, snapshot_of}
use Rattle.mx_commands.specs.declared.side.Side.{Side}
use Rattle.mx_commands.specs.declared.side.Side.TheVariants.{First, Second}
use Rattle.mx_commands.specs.declared.status.Status.{Status}
use Rattle.mx_commands.specs.Order.{Order, Pair}
use Rattle.mx_commands.specs.declared.order.Way.{Way}
use Rattle.mx_commands.specs.declared.order.Way.TheVariants as way
use Rattle.mx_plan.specs.Manifest.{judged}
use Rattle.mx_commands.specs.Finding.{Finding, Absent, Large, Short, Broken, Whole, Finds}
use Rattle.mx_commands.specs.Next.{Outcome, Wanted, Next, Read, End, refusal, lack_of, bytes_of, unless, after_file}
use Rattle.mx_commands.specs.Boots.{Rest, refused_by, after_files, after_inputs, image_named, image_wanted, input_named, input_wanted}
use Rattle.mx_commands.specs.Boots.{manifest_file, booted, planned, after_boot}
use Rattle.mx_commands.specs.Commands.{schedule_file, source_file, scheduled, run_of, run_from, booted_run, going, assembled, audited}
use Rattle.mx_commands.specs.Commands.{after_first, assembling, auditing, comparing}
use Rattle.mx_commands.specs.Compared.{compared}
use Rattle.mx_commands.specs.Resumed.{Onward, unread_by, snapshot_file, resumed, after_snapshot}
use Rattle.mx_commands.specs.Leads.{FindsAll}
use Rattle.mx_commands.proofs.Findings.{finds_decided}
use Rattle.mx_commands.proofs.FileSteps.{file_step}
use Rattle.mx_commands.proofs.Leads.{read_same, read_end}

-- wherever a step reads a file, it ends where that isn't whole
abbrev pub Shaped : (List Finding → Next) → Type 0
Shaped step = (others : List Finding) (file : Wanted) → step others ≡ Read file → (found : Finding) (status : Status)
    → lack_of file found ≡ Some status
    → step (others ++ found ∷ []) ≡ End (refusal file.name status)

pub shape_end : (o : Outcome) → Shaped (λ _. End o)
shape_end o others file is found status lack = absurd (read_end (sym is))

module _ (file : Wanted) (rest : List ℕ → List Finding → Next) (each : (bytes : List ℕ) → Shaped (rest bytes)) where
  shape_finding : (x : Finding) (more : List Finding) (last : Wanted) → after_file file rest (x ∷ more) ≡ Read last
      → (found : Finding) (status : Status) → lack_of last found ≡ Some status
      → after_file file rest (x ∷ (more ++ found ∷ [])) ≡ End (refusal last.name status)
  shape_finding Absent more last is found status lack = absurd (read_end (sym is))
  shape_finding Large more last is found status lack = absurd (read_end (sym is))
  shape_finding (Short told got) more last is found status lack = absurd (read_end (sym is))
  shape_finding Broken more last is found status lack = absurd (read_end (sym is))
  shape_finding (Whole bytes) more last is found status lack = each bytes more last is found status lack

  shape_file : Shaped (after_file file rest)
  shape_file [] last is found status lack =
      let same : file ≡ last = read_same is in
      let here : lack_of file found ≡ Some status = subst (λ (w : Wanted). lack_of w found ≡ Some status) (sym same) lack in
      ap (λ o. unless file o (rest (bytes_of found) [])) here ∙ ap (λ (w : Wanted). End (refusal w.name status)) same
  shape_file (x ∷ more) last is found status lack = shape_finding x more last is found status lack

module _ {N : Type 0} (named : ModulePlan → Option N) (file : ℕ → List (List ℕ) → N → Wanted) (rest : List (List ℕ) → List Finding
    → Next) (each : (taken : List (List ℕ)) → Shaped (rest taken)) where
  shape_one : (o : Option N) (number : ℕ) (ms : List ModulePlan) (taken : List (List ℕ))
      → ((taken : List (List ℕ)) → Shaped (after_files named file (number + 1) ms taken rest))
      → Shaped (file_step named file o number ms taken rest)
  shape_one None number ms taken more = more (taken ++ [] ∷ [])
  shape_one (Some name) number ms taken more =
      shape_file (file number taken name) (λ bytes. after_files named file (number + 1) ms (taken ++ bytes ∷ []) rest) (λ bytes.
      more (taken ++ bytes ∷ []))

  shape_files : (ms : List ModulePlan) (number : ℕ) (taken : List (List ℕ)) → Shaped (after_files named file number ms taken rest)
  shape_files [] number taken = each taken
  shape_files (m ∷ ms) number taken = shape_one (named m) number ms taken (λ taken. shape_files ms (number + 1) taken)

shape_run : (quantum : ℕ) (made : Schedule → Outcome) (name : Option (List ℕ)) → Shaped (scheduled quantum made name)
shape_run quantum made None = shape_end (made (ByQuantum quantum))
shape_run quantum made (Some name) = shape_file (schedule_file name) (λ bytes more. End (made (ByBytes bytes))) (λ bytes.
    shape_end (made (ByBytes bytes)))

module _ (side : Side) (name : List ℕ) (rest : Rest) (each : (plan : Said) (s : State) → Shaped (rest plan s)) where
  shape_state : (plan : Said) (boot : Result State Refusal) → Shaped (booted side name rest plan boot)
  shape_state plan (Ok s) = each plan s
  shape_state plan (Err why) = shape_end (refusal name (refused_by side why))

  shape_plan : (plan : Result Said BootFault) → Shaped (planned side name rest plan)
  shape_plan (Ok plan) =
      shape_files image_named (image_wanted side) (λ images. after_inputs side (4 * ram_words plan) 1 plan.modules [] (λ inputs.
      booted side name rest plan (boot_of plan images inputs)))
      (λ images. shape_files input_named (input_wanted side (4 * ram_words plan)) (λ inputs.
      booted side name rest plan (boot_of plan images inputs))
      (λ inputs. shape_state plan (boot_of plan images inputs)) plan.modules 1 []) plan.modules 1 []
  shape_plan (Err fault) = shape_end (refusal name (refused_by side (Faulty fault)))

  shape_boot : Shaped (after_boot side name rest)
  shape_boot = shape_file (manifest_file side name) (λ bytes. planned side name rest (judged bytes)) (λ bytes. shape_plan (judged bytes))

module _ (name : List ℕ) (rest : Onward) (each : (kept : KeptPlan) (s : State) → Shaped (rest kept s)) where
  shape_stored : (stored : Result Stored Unread) → Shaped (resumed name rest stored)
  shape_stored (Ok stored) = each (plan_of stored) (state_of stored)
  shape_stored (Err why) = shape_end (refusal name (unread_by why))

  shape_snapshot : Shaped (after_snapshot name rest)
  shape_snapshot = shape_file (snapshot_file name) (λ bytes. resumed name rest (snapshot_of bytes)) (λ bytes.
      shape_stored (snapshot_of bytes))

shape_from : (o : Order) (kept : KeptPlan) (s : State) → Shaped (run_from o kept s)
shape_from o kept s = shape_run kept.quantum (run_of o kept s) o.schedule

shape_booted : (o : Order) → Shaped (booted_run o)
shape_booted o = shape_boot First o.file (λ plan s. run_from o (kept_of plan) s) (λ plan s. shape_from o (kept_of plan) s)

pub shape_way : (o : Order) (w : Way) → Shaped (going o w)
shape_way o way.Run = shape_booted o
shape_way o way.Resume = shape_snapshot o.file (run_from o) (shape_from o)
shape_way o way.Trace = shape_booted o

pub shape_assembling : (source : List ℕ) → Shaped (assembling source)
shape_assembling source = shape_file (source_file source) (λ bytes more. End (assembled source bytes)) (λ bytes.
    shape_end (assembled source bytes))

pub shape_auditing : (name : List ℕ) → Shaped (auditing name)
shape_auditing name = shape_boot First name (λ plan s more. End (audited plan s)) (λ plan s. shape_end (audited plan s))

pub shape_comparing : (p : Pair) → Shaped (comparing p)
shape_comparing p =
    shape_boot First p.first (after_first p)
    (λ plan s. shape_boot Second p.second (λ other t more. End (compared p plan s other t)) (λ other t.
    shape_end (compared p plan s other t)))

-- what is found of a file that is reached, where the step ends
pub reached : (others : List Finding) (step : List Finding → Next) (answers before last : List Answer) (found : List Finding)
    (outcome : Outcome) (file : Wanted) → answers ≡ before ++ last
    → FindsAll step answers found → step found ≡ End outcome → FindsAll step before others → step others ≡ Read file
    → (x : Finding) × (more : List Finding) × (first : List Answer) × (rest : List Answer) × (found ≡ others ++ x ∷ more)
    × (last ≡ first ++ rest) × Finds file.most file.name first x
    × FindsAll (λ later. step (others ++ x ∷ later)) rest more
reached [] step answers before last [] outcome file is all end some read = absurd (read_end (sym read ∙ end))
reached [] step answers before last (x ∷ more) outcome file is all end some read =
    let same : all.0 ≡ file = read_same (sym all.3 ∙ read) in (
      x,
      more,
      all.1,
      all.2,
      refl,
      sym (is ∙ ap (λ xs. xs ++ last) some) ∙ all.4,
      subst (λ (w : Wanted). Finds w.most w.name all.1 x) same all.5,
      all.6,
    )
reached (o ∷ os) step answers before last [] outcome file is all end some read = absurd (read_end (sym some.3 ∙ end))
reached (o ∷ os) step answers before last (x ∷ more) outcome file is all end some read =
    let same : all.0 ≡ some.0 = read_same (sym all.3 ∙ some.3) in
    let both : (all.1 ++ all.2) ≡ (some.1 ++ (some.2 ++ last)) = sym all.4 ∙ is ∙ ap (λ xs. xs ++ last) some.4
    ∙ append_assoc some.1 some.2 last in
    let finds = subst (λ (w : Wanted). Finds w.most w.name all.1 x) same all.5 in
    let d = finds_decided some.0.most some.0.name all.1 some.1 all.2 (some.2 ++ last) x o both finds some.5 in
    let rests = append_cancel_left some.1 all.2 (some.2 ++ last)
    (subst (λ (first : List Answer). (first ++ all.2) ≡ (some.1 ++ (some.2 ++ last))) d.1 both) in
    let r = reached os (λ later. step (o ∷ later)) all.2 some.2 last more outcome file rests
    (subst (λ (y : Finding). FindsAll (λ later. step (y ∷ later)) all.2 more) d.0 all.6)
    (subst (λ (y : Finding). step (y ∷ more) ≡ End outcome) d.0 end) some.6 read in
    (r.0, r.1, r.2, r.3, ap (λ y. y ∷ more) d.0 ∙ ap (λ ys. o ∷ ys) r.4, r.5, r.6, r.7)
