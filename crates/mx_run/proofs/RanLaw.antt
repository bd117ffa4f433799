-- A run that ended with status 0 read its files whole and booted.
use Rattle.std.proofs.Common.{◌≡◌, ◌≢◌, ℕ, zero, suc, ◌+◌, ◌*◌, Bool, true, false, List, [], ◌∷◌, ◌++◌, length, Option, Some, None, Result}
use Rattle.std.proofs.Common.{Ok, Err, refl, sym, ap, subst, ◌∙◌, append_assoc, nat_lt, if◌then◌else◌, arith}
use Rattle.std.specs.FinMap.{get}
use Rattle.std.proofs.lemmas.Bool.{ltb-false}
use Rattle.std.proofs.lemmas.List.{append-nil}
use Rattle.toml.specs.Data.{Data, Members, table}
use Rattle.mx_io.specs.Store.{FileMap, StoreState}
use Rattle.mx_model.specs.Run.{Schedule, ByQuantum, ByBytes}
use Rattle.mx_model.specs.State.{State}
use Rattle.mx_manifest.specs.declared.fault.BootFault.{BootFault}
use Rattle.mx_manifest.specs.declared.parts.ModulePlan.{ModulePlan}
use Rattle.mx_manifest.specs.Faults.{first_fault}
use Rattle.mx_manifest.specs.Plan.{Said, plan_of}
use Rattle.mx_plan.specs.Manifest.{document, judged, judged_document}
use Rattle.mx_plan.specs.Manifest as manifest
use Rattle.mx_boot.specs.Boot.{Refusal, Faulty, TooFull, boot_of, boot_state}
use Rattle.mx_boot.specs.Faults.{ram_words}
use Rattle.mx_boot.proofs.Booted as boots
use Rattle.mx_snapshot.specs.Kept.{kept_of}
use Rattle.mx_turns.specs.Ends.{Sinks}
use Rattle.mx_uncached.specs.Forgetting.{plain}
use Rattle.mx_uncached.specs.Turn.{plain_run}
use Rattle.mx_commands.specs.declared.side.Side.TheVariants.{First}
use Rattle.mx_commands.specs.declared.status.Status.{Status}
use Rattle.mx_commands.specs.declared.status.Status.TheVariants.{Ran, WantOfMemory}
use Rattle.mx_commands.specs.declared.order.Way.{Way}
use Rattle.mx_commands.specs.declared.order.Way.TheVariants as way
use Rattle.mx_commands.specs.Order.{Order}
use Rattle.mx_commands.specs.Finding.{Finding, Large, Whole, found_file, found_in}
use Rattle.mx_commands.specs.Next.{Outcome, Wanted, Next, End, after_file, refusal}
use Rattle.mx_commands.specs.Boots.{after_files, after_inputs, after_boot, booted, planned, image_named, image_wanted, input_named}
use Rattle.mx_commands.specs.Boots.{input_wanted, manifest_file}
use Rattle.mx_commands.specs.Commands.{booted_run, going, run_from, run_of, schedule_file, scheduled}
use Rattle.mx_commands.specs.Leads.{LeadsOver}
use Rattle.mx_commands.proofs.FileSteps.{file_step}
use Rattle.mx_commands.proofs.Leads.{end_same, read_end, read_same}
use Rattle.mx_run.specs.Words.{Request, Go, meaning}
use Rattle.mx_run.specs.Leads.{IsOutcome}
use Rattle.mx_run.specs.Promise.{CountsStay, Gives, Headline}
use Rattle.mx_run.specs.Plainly.{HasFile, AreImages, AreInputs, Boots, IsSchedule}
use Rattle.mx_run.proofs.TakenFiles.{IsTaken, AreTaken, taken-images, taken-inputs}
use Rattle.mx_run.specs.Runs.{HoldsRun}
use Rattle.mx_run.specs.Ran.{Reads, RanSo, RanPlainly}
use Rattle.mx_run.proofs.Promises.{if_some}
use Rattle.mx_run.proofs.RunLaw.{Leads, holds-plainly, some-if, way-of}

module _ (files : FileMap) where
  ended : (n : ℕ) (o outcome : Outcome) → LeadsOver n (λ more. End o) files outcome → o ≡ outcome
  ended zero o outcome l = end_same l
  ended (suc n) o outcome l = absurd (read_end (sym l.1))

  not-ran : (n : ℕ) (name : List ℕ) (status : Status) (outcome : Outcome) → LeadsOver n (λ more. End (refusal name status)) files outcome
      → (status ≡ Ran → ⊥) → outcome.status ≡ Ran → ⊥
  not-ran n name status outcome l other ran = other (ap (λ (o : Outcome). o.status) (ended n (refusal name status) outcome l) ∙ ran)

  ran-size : (file : Wanted) (rest : List ℕ → List Finding → Next) (bytes : List ℕ) (outcome : Outcome) (n : ℕ) → (file.large ≡ Ran → ⊥)
      → outcome.status ≡ Ran
      → get files file.name ≡ Some bytes → (large : Bool) → nat_lt file.most (length bytes) ≡ large
      → LeadsOver n (λ more. after_file file rest ((if large then Large else Whole bytes) ∷ more)) files outcome
      → HasFile files file.most file.name bytes × Leads files (rest bytes) outcome
  ran-size file rest bytes outcome n other ran stands true size l = absurd (not-ran n file.name file.large outcome l other ran)
  ran-size file rest bytes outcome n other ran stands false size l =
      (record { stands = stands; fits = ltb-false file.most (length bytes) size }, (n, l))

  ran-found : (file : Wanted) (rest : List ℕ → List Finding → Next) (outcome : Outcome) (n : ℕ) → (file.large ≡ Ran → ⊥)
      → outcome.status ≡ Ran
      → (o : Option (List ℕ)) → get files file.name ≡ o → LeadsOver n (λ more. after_file file rest (found_file file.most o ∷ more)) files
      outcome
      → (bytes : List ℕ) × HasFile files file.most file.name bytes × Leads files (rest bytes) outcome
  ran-found file rest outcome n other ran None stands l = absurd (not-ran n file.name _ outcome l (λ e. cc) ran)
  ran-found file rest outcome n other ran (Some bytes) stands l =
      let r = ran-size file rest bytes outcome n other ran stands (nat_lt file.most (length bytes)) refl l in
      (bytes, r.0, r.1)

  ran-file : (file : Wanted) (rest : List ℕ → List Finding → Next) (outcome : Outcome) → (file.large ≡ Ran → ⊥) → outcome.status ≡ Ran
      → Leads files (after_file file rest) outcome
      → (bytes : List ℕ) × HasFile files file.most file.name bytes × Leads files (rest bytes) outcome
  ran-file file rest outcome other ran (zero, l) = absurd (read_end l)
  ran-file file rest outcome other ran (suc n, l) =
      ran-found file rest outcome n other ran (get files file.name) refl
      (subst (λ (f : Wanted). LeadsOver n (λ more. after_file file rest (found_in files f.most f.name ∷ more)) files outcome)
      (sym (read_same l.1)) l.2)

  module _ {N : Type 0} (named : ModulePlan → Option N) (file : ℕ → List (List ℕ) → N
      → Wanted) (other : (number : ℕ) (taken : List (List ℕ)) (name : N) → (file number taken name).large ≡ Ran → ⊥)
      (rest : List (List ℕ) → List Finding → Next) (outcome : Outcome) (ran : outcome.status ≡ Ran) where
    ran-one : (o : Option N) (number : ℕ) (ms : List ModulePlan) (before : List (List ℕ))
        → Leads files (file_step named file o number ms before rest) outcome
        → (bytes : List ℕ) × IsTaken files named file o number before bytes
        × Leads files (after_files named file (number + 1) ms (before ++ bytes ∷ []) rest) outcome
    ran-one None number ms before l = ([], refl, l)
    ran-one (Some name) number ms before l =
        ran-file (file number before name) (λ bytes. after_files named file (number + 1) ms (before ++ bytes ∷ []) rest) outcome
        (other number before name) ran l

    ran-files : (ms : List ModulePlan) (number : ℕ) (before : List (List ℕ))
        → Leads files (after_files named file number ms before rest) outcome
        → (taken : List (List ℕ)) × AreTaken files named file number before ms taken × Leads files (rest (before ++ taken)) outcome
    ran-files [] number before l = ([], refl, subst (λ (all : List (List ℕ)). Leads files (rest all) outcome) (sym (append-nil before)) l)
    ran-files (m ∷ ms) number before l =
        let first = ran-one (named m) number ms before l in
        let more = ran-files ms (number + 1) (before ++ first.0 ∷ []) first.2 in (
          first.0 ∷ more.0,
          (first.0, more.0, refl, first.1, more.1),
          subst (λ (all : List (List ℕ)). Leads files (rest all) outcome) (append_assoc before (first.0 ∷ []) more.0) more.2,
        )

  ran-schedule : (quantum : ℕ) (made : Schedule → Outcome) (name : Option (List ℕ)) (outcome : Outcome) → outcome.status ≡ Ran
      → Leads files (scheduled quantum made name) outcome
      → (schedule : Schedule) × IsSchedule files quantum name schedule × (made schedule ≡ outcome)
  ran-schedule quantum made None outcome ran l = (ByQuantum quantum, refl, ended l.0 (made (ByQuantum quantum)) outcome l.1)
  ran-schedule quantum made (Some name) outcome ran l =
      let f = ran-file (schedule_file name) (λ bytes more. End (made (ByBytes bytes))) outcome (λ e. cc) ran l in
      (ByBytes f.0, (f.0, f.1, refl), ended f.2.0 (made (ByBytes f.0)) outcome f.2.1)

  module _ (name : List ℕ) (rest : Said → State → List Finding → Next) (outcome : Outcome) (ran : outcome.status ≡ Ran) where
    ran-state : (plan : Said) (boot : Result State Refusal) → Leads files (booted First name rest plan boot) outcome
        → (s : State) × (boot ≡ Ok s) × Leads files (rest plan s) outcome
    ran-state plan (Ok s) l = (s, refl, l)
    ran-state plan (Err (Faulty fault)) l = absurd (not-ran l.0 name _ outcome l.1 (λ e. cc) ran)
    ran-state plan (Err (TooFull need limit)) l = absurd (not-ran l.0 name _ outcome l.1 (λ e. cc) ran)

    ran-plan : (r : Result Said BootFault) → Leads files (planned First name rest r) outcome
        → (plan : Said) × (images : List (List ℕ)) × (inputs : List (List ℕ)) × (s : State) × (r ≡ Ok plan)
        × AreImages files plan.modules images
        × AreInputs files (4 * ram_words plan) plan.modules inputs × (boot_of plan images inputs ≡ Ok s) × Leads files (rest plan s) outcome
    ran-plan (Ok plan) l =
        let size = 4 * ram_words plan in
        let i = ran-files image_named (image_wanted First) (λ number taken name e. cc) (λ images.
        after_inputs First size 1 plan.modules [] (λ inputs. booted First name rest plan (boot_of plan images inputs)))
        outcome ran plan.modules 1 [] l in
        let j = ran-files input_named (input_wanted First size) (λ number taken name e. cc) (λ inputs.
        booted First name rest plan (boot_of plan i.0 inputs)) outcome ran plan.modules 1 [] i.2 in
        let b = ran-state plan (boot_of plan i.0 j.0) j.2 in (
          plan,
          i.0,
          j.0,
          b.0,
          refl,
          taken-images files First plan.modules 1 [] i.0 i.1,
          taken-inputs files First size plan.modules size 1 []
              j.0 (omega arith) j.1,
          b.1,
          b.2,
        )
    ran-plan (Err fault) l = absurd (not-ran l.0 name _ outcome l.1 (λ e. cc) ran)

    pub ran-boot : Leads files (after_boot First name rest) outcome
        → (plan : Said) × (s : State) × Boots files name plan s × Leads files (rest plan s) outcome
    ran-boot l =
        let f = ran-file (manifest_file First name) (λ bytes. planned First name rest (judged bytes)) outcome (λ e. cc) ran l in
        let p = ran-plan (judged f.0) f.2 in
        (p.0, p.3, record { bytes = f.0; file = f.1; good = p.4; images = p.1; taken = p.5; inputs = p.2; given = p.6; boots = p.7 }, p.8)

of_fault : (top : Data) (f : Option BootFault) (plan : Said) → manifest.planned top f ≡ Ok plan → plan ≡ plan_of top
of_fault top None plan e = cc
of_fault top (Some fault) plan e = cc

of_document : (d : Option Members) (plan : Said) → judged_document d ≡ Ok plan
    → (top : Members) × (d ≡ Some top) × (plan ≡ plan_of (table top))
of_document None plan e = cc
of_document (Some top) plan e = (top, refl, of_fault (table top) (first_fault (table top)) plan e)

-- what boots was read
reads-of : (files : FileMap) (o : Order) (plan : Said) (s : State) (schedule : Schedule) (before now : Sinks) → Boots files o.file plan s
    → IsSchedule files plan.quantum o.schedule schedule
    → HoldsRun plan o ((plain s).turns + o.steps) (plain_run schedule o.steps (plain s)) before now
    → (r : Reads files o) × (let plan = plan_of (table r.top) in let p = plain (boot_state plan r.images r.inputs) in
    HoldsRun plan o (p.turns + o.steps) (plain_run r.schedule o.steps p) before now)
reads-of files o plan s schedule before now b is holds =
    let d = of_document (document b.bytes) plan b.good in
    let state : s ≡ boot_state plan b.images b.inputs = sym (boots.booted plan b.images b.inputs s b.boots).1 in
    let h : HoldsRun plan o ((plain (boot_state plan b.images b.inputs)).turns + o.steps)
    (plain_run schedule o.steps (plain (boot_state plan b.images b.inputs))) before now =
    subst (λ (t : State). HoldsRun plan o ((plain t).turns + o.steps) (plain_run schedule o.steps (plain t)) before now) state holds in (
      record {
        bytes = b.bytes;
        file = b.file;
        top = d.0;
        parsed = d.1;
        images = b.images;
        taken = subst (λ (p : Said). AreImages files p.modules b.images) d.2 b.taken;
        inputs = b.inputs;
        given = subst (λ (p : Said). AreInputs files (4 * ram_words p) p.modules b.inputs) d.2 b.given;
        schedule = schedule;
        named = subst (λ (p : Said). IsSchedule files p.quantum o.schedule schedule) d.2 is;
      },
      subst (λ (p : Said). HoldsRun p o ((plain (boot_state p b.images b.inputs)).turns + o.steps)
          (plain_run schedule o.steps (plain (boot_state p b.images b.inputs))) before now) d.2 h,
    )

-- the texts of a run that ended with status 0
pub ran-plainly : (words : List (List ℕ)) (store stored : StoreState) (before now : Sinks) (result : Status)
    → Headline (meaning words) store stored before now result
    → RanPlainly words store stored before now result
ran-plainly words store stored before now result head =
    if_some store.told (λ files. CountsStay store stored before now → result ≢ WantOfMemory → RanSo words files before now result)
    (λ files told stays enough o asks ran.
    let h = some-if store.told (λ files. CountsStay store stored before now → result ≢ WantOfMemory
    → (outcome : Outcome) × IsOutcome (meaning words) files outcome × Gives outcome before now result)
    files told head stays enough in
    let went = way-of way.Run o asks.operands asks.asks in
    let asked : meaning words ≡ Some (Go o) = ap meaning asks.run ∙ asks.asks in
    let led : Leads files (booted_run o) h.0 = subst (λ (w : Way). Leads files (going o w) h.0) went
    (subst (λ (a : Option Request). IsOutcome a files h.0) asked h.1) in
    let b = ran-boot files o.file (λ plan s. run_from o (kept_of plan) s) h.0 (sym h.2.0 ∙ ran) led in
    let q = ran-schedule files (kept_of b.0).quantum (run_of o (kept_of b.0) b.1) o.schedule h.0 (sym h.2.0 ∙ ran) b.3 in
    let g : Gives (run_of o (kept_of b.0) b.1 q.0) before now result = subst (λ (x : Outcome). Gives x before now result) (sym q.2) h.2 in
    reads-of files o b.0 b.1 q.0 before now b.2 q.1 (holds-plainly o b.0 b.1 q.0 before now went asks.uncounted asks.unsaved g.1))
