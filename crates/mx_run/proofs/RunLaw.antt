-- What `run` gives follows from the outcome of its words.
use Rattle.std.proofs.Common.{◌≡◌, ◌≢◌, ◌≤◌, ℕ, suc, ◌+◌, ◌*◌, Bool, true, false, List, [], ◌∷◌, ◌++◌, length, Option, Some, None, IfSome}
use Rattle.std.proofs.Common.{Result, refl, sym, ap, subst, ◌∙◌, append_assoc, codes, if◌then◌else◌, option_map, arith}
use Rattle.std.specs.List.{AllByRecursion}
use Rattle.std.specs.Str.Parse.{digits_value}
use Rattle.std.proofs.lemmas.List.{append-nil}
use Rattle.mx_words.specs.Limits.{most_text_bytes}
use Rattle.mx_io.specs.Store.{FileMap, StoreState}
use Rattle.mx_io.specs.Answer.{Answer, HasSucceeded, Talks, Tells}
use Rattle.mx_io.specs.Texts.{AppendsWhole}
use Rattle.mx_model.specs.Run.{Schedule, ByBytes}
use Rattle.mx_model.specs.State.{State, flat}
use Rattle.mx_manifest.specs.declared.fault.BootFault.{BootFault}
use Rattle.mx_manifest.specs.declared.parts.ModulePlan.{ModulePlan}
use Rattle.mx_manifest.specs.Plan.{Said}
use Rattle.mx_manifest.specs.declared.fault.Key.{Key}
use Rattle.mx_plan.specs.Manifest.{judged}
use Rattle.mx_boot.specs.Boot.{Refusal, boot_of}
use Rattle.mx_boot.specs.Faults.{ram_words}
use Rattle.mx_image.specs.Image.{image_of}
use Rattle.mx_asm.specs.Denoted.{program_of}
use Rattle.mx_mill.specs.Mill.{mill_text}
use Rattle.mx_snapshot.specs.Kept.{KeptPlan, kept_of}
use Rattle.mx_snapshot.specs.Resumed.{state_of}
use Rattle.mx_snapshot.specs.Stored.{Stored}
use Rattle.mx_resume.specs.Snapshot.{Unread, snapshot_of}
use Rattle.mx_twin.specs.Lines.{twin_line}
use Rattle.mx_twin.specs.Twins.{twins}
use Rattle.mx_turns.specs.declared.task.Dump.{Dump}
use Rattle.mx_turns.specs.declared.task.Dump.TheVariants as D
use Rattle.mx_turns.specs.Ends.{Sinks, Holds}
use Rattle.mx_turns.specs.Runs.{dumped, note_lines, ran, report_of}
use Rattle.mx_uncached.specs.Forgetting.{bare, plain}
use Rattle.mx_uncached.specs.Plain.{Plain}
use Rattle.mx_uncached.specs.Turn.{plain_run}
use Rattle.mx_text_laws.proofs.RunTexts.{texts-plain}
use Rattle.mx_commands.specs.declared.side.Side.{Side}
use Rattle.mx_commands.specs.declared.side.Side.TheVariants.{First, Second}
use Rattle.mx_commands.specs.declared.status.Status.{Status}
use Rattle.mx_commands.specs.declared.status.Status.TheVariants.{WantOfMemory, AsmFault}
use Rattle.mx_commands.specs.declared.order.Way.{Way}
use Rattle.mx_commands.specs.declared.order.Way.TheVariants as way
use Rattle.mx_commands.specs.Order.{Order, plain_order}
use Rattle.mx_commands.specs.Finding.{Finding, Whole, found_file, found_in}
use Rattle.mx_commands.specs.Next.{Outcome, Wanted, Next, End, after_file, refusal, reported}
use Rattle.mx_commands.specs.Boots.{Load, after_files, after_inputs, after_boot, after_load, booted, loaded, image_named, image_wanted}
use Rattle.mx_commands.specs.Boots.{input_named, input_wanted, manifest_file}
use Rattle.mx_commands.specs.Commands.{after_first, assembled, assembled_text, audited, booted_run, resumed_run, going, options_of}
use Rattle.mx_commands.specs.Commands.{run_from, run_of, schedule_file, scheduled, source_file, texts_of, unless_faulty, written_image}
use Rattle.mx_commands.proofs.Findings.{found_small}
use Rattle.mx_commands.specs.Compared.{alike, alike_by, compared, unlike}
use Rattle.mx_commands.specs.Resumed.{resumed, snapshot_file}
use Rattle.mx_commands.specs.Leads.{LeadsOver}
use Rattle.mx_commands.proofs.FileSteps.{file_step}
use Rattle.mx_run.specs.Words.{Request, Go, Asm, Audit, Mill, Twin, Parsed, Stands, LacksSchedule, LacksFrom, Meaningless, go_request}
use Rattle.mx_run.specs.Words.{is_name, meaning, with_parsed}
use Rattle.mx_run.specs.Leads.{IsOutcome}
use Rattle.mx_run.specs.Promise.{CountsStay, Gives, Headline, Smoothly}
use Rattle.mx_run.specs.Plainly.{HasFile, Boots, IsSchedule}
use Rattle.mx_run.proofs.TakenFiles.{IsTaken, AreTaken, images-taken, inputs-taken}
use Rattle.mx_run.specs.Machines.{HoldsMachine}
use Rattle.mx_run.specs.Counts.{Counts, CountsSmoothly}
use Rattle.mx_run.specs.Resumes.{Resumes, ResumesSmoothly, TakesUp}
use Rattle.mx_run.specs.Traces.{Traces, TracesSmoothly}
use Rattle.mx_run.specs.TwinRuns.{Compares, ComparesSmoothly}
use Rattle.mx_run.specs.Runs.{HoldsRun, Runs, RunsPlainly, plain_dump}
use Rattle.mx_run.specs.Assembles.{Assembles, AssemblesPlainly}
use Rattle.mx_run.specs.Audits.{Audits, AuditsPlainly}
use Rattle.mx_run.specs.Mills.{Mills, MillsPlainly}
use Rattle.mx_run.proofs.Outcomes.{one_outcome}
use Rattle.mx_run.proofs.Promises.{if_some}

none-some : {A : Type 0} {a : A} → None ≡ Some a → ⊥
none-some e = cc

-- the way of an order is the one that the words begin with
parsed-way : (o q : Order) (p : Parsed) → option_map Go (with_parsed o p) ≡ Some (Go q) → q.way ≡ o.way
parsed-way o q (Stands schedule shown) e = let same : record o { schedule = schedule; shown = shown } ≡ q = cc in
    ap (λ (r : Order). r.way) (sym same)
parsed-way o q (LacksSchedule shown) e = absurd (none-some e)
parsed-way o q (LacksFrom schedule shown) e = absurd (none-some e)
parsed-way o q Meaningless e = absurd (none-some e)

if-way : (o q : Order) (b : Bool) (p : Parsed) → option_map Go (if b then with_parsed o p else None) ≡ Some (Go q) → q.way ≡ o.way
if-way o q true p e = parsed-way o q p e
if-way o q false p e = absurd (none-some e)

pub way-of : (w : Way) (o : Order) (operands : List (List ℕ)) → go_request w operands ≡ Some (Go o) → o.way ≡ w
way-of w o [] e = absurd (none-some e)
way-of w o (file ∷ []) e = absurd (none-some e)
way-of w o (file ∷ steps ∷ options) e = if-way (plain_order w file (digits_value 10 steps)) o _ _ e

-- a source without a fault
whole-source : {F : Type 0} (first : Option F) (refused : F → Outcome) (image : Outcome) → first ≡ None
    → unless_faulty first refused image ≡ image
whole-source first refused image none = ap (λ f. unless_faulty f refused image) none

-- a name alone asks to assemble it, or to audit it
named-asked : (name : List ℕ) → is_name name ≡ true → meaning (codes "asm" ∷ name ∷ []) ≡ Some (Asm name)
named-asked name named = ap (λ (b : Bool). option_map Asm (if b then Some name else None)) named

named-audited : (name : List ℕ) → is_name name ≡ true → meaning (codes "audit" ∷ name ∷ []) ≡ Some (Audit name)
named-audited name named = ap (λ (b : Bool). option_map Audit (if b then Some name else None)) named

module _ (files : FileMap) where
  -- a step leads to this outcome over the files
  abbrev pub Leads : (List Finding → Next) → Outcome → Type 0
  Leads step outcome = (n : ℕ) × LeadsOver n step files outcome

  -- a file is read whole, and the rest follows
  leads-file : (file : Wanted) (rest : List ℕ → List Finding → Next) (bytes : List ℕ) (outcome : Outcome)
      → HasFile files file.most file.name bytes → Leads (rest bytes) outcome
      → Leads (after_file file rest) outcome
  leads-file file rest bytes outcome has later =
      let found : found_in files file.most file.name ≡ Whole bytes = ap (found_file file.most) has.stands
      ∙ found_small file.most bytes has.fits in (
        suc later.0,
        (
          file,
          refl,
          subst (λ (f : Finding). LeadsOver later.0 (λ more. after_file file rest (f ∷ more)) files outcome)
              (sym found) later.1,
        ),
      )

  -- the files of modules are read whole
  module _ {N : Type 0} (named : ModulePlan → Option N) (file : ℕ → List (List ℕ) → N → Wanted) (rest : List (List ℕ) → List Finding
      → Next) (outcome : Outcome) where
    leads-one : (o : Option N) (number : ℕ) (ms : List ModulePlan) (before : List (List ℕ)) (bytes : List ℕ)
        → IsTaken files named file o number before bytes
        → Leads (after_files named file (number + 1) ms (before ++ bytes ∷ []) rest) outcome
        → Leads (file_step named file o number ms before rest) outcome
    leads-one None number ms before bytes is later = subst (λ (i : List ℕ).
        Leads (after_files named file (number + 1) ms (before ++ i ∷ []) rest) outcome) is later
    leads-one (Some name) number ms before bytes is later =
        leads-file (file number before name) (λ bytes. after_files named file (number + 1) ms (before ++ bytes ∷ []) rest) bytes outcome is
        later

    leads-files : (ms : List ModulePlan) (number : ℕ) (before taken : List (List ℕ)) → AreTaken files named file number before ms taken
        → Leads (rest (before ++ taken)) outcome
        → Leads (after_files named file number ms before rest) outcome
    leads-files [] number before taken are later =
        subst (λ (all : List (List ℕ)). Leads (rest all) outcome) (ap (λ (t : List (List ℕ)). before ++ t) are ∙ append-nil before) later
    leads-files (m ∷ ms) number before taken are later =
        leads-one (named m) number ms before are.0 are.3
        (leads-files ms (number + 1) (before ++ are.0 ∷ []) are.1 are.4
        (subst (λ (all : List (List ℕ)). Leads (rest all) outcome)
        (ap (λ (t : List (List ℕ)). before ++ t) are.2 ∙ sym (append_assoc before (are.0 ∷ []) are.1)) later))

  -- a side's manifest boots, and the rest follows from images, inputs, plan and state
  pub leads-load : (side : Side) (name : List ℕ) (rest : Load) (plan : Said) (s : State) (outcome : Outcome)
      → most_text_bytes ≡ (manifest_file side name).most
      → (b : Boots files name plan s) → Leads (rest b.images b.inputs plan s) outcome → Leads (after_load side name rest) outcome
  leads-load side name rest plan s outcome most b later =
      leads-file (manifest_file side name) (λ bytes. loaded side name rest (judged bytes)) b.bytes outcome b.file
      (subst (λ (r : Result Said BootFault). Leads (loaded side name rest r) outcome) (sym b.good)
      (leads-files image_named (image_wanted side)
      (λ images. after_inputs side (4 * ram_words plan) 1 plan.modules [] (λ inputs.
      booted side name (rest images inputs) plan (boot_of plan images inputs))) outcome
      plan.modules 1 [] b.images (images-taken files side plan.modules 1 [] b.images b.taken)
      (leads-files input_named (input_wanted side (4 * ram_words plan)) (λ inputs.
      booted side name (rest b.images inputs) plan (boot_of plan b.images inputs)) outcome
      plan.modules 1 [] b.inputs (inputs-taken files side (4 * ram_words plan) plan.modules (4 * ram_words plan) 1 [] b.inputs (omega arith)
      b.given)
      (subst (λ (r : Result State Refusal). Leads (booted side name (rest b.images b.inputs) plan r) outcome) (sym b.boots) later))))

  -- and where it follows from plan and state
  pub leads-side : (side : Side) (name : List ℕ) (rest : Said → State → List Finding → Next) (plan : Said) (s : State) (outcome : Outcome)
      → most_text_bytes ≡ (manifest_file side name).most
      → Boots files name plan s → Leads (rest plan s) outcome → Leads (after_boot side name rest) outcome
  leads-side side name rest plan s outcome most b later = leads-load side name (λ images inputs. rest) plan s outcome most b later

  pub leads-boot : (name : List ℕ) (rest : Said → State → List Finding → Next) (plan : Said) (s : State) (outcome : Outcome)
      → Boots files name plan s → Leads (rest plan s) outcome
      → Leads (after_boot First name rest) outcome
  leads-boot name rest plan s outcome = leads-side First name rest plan s outcome refl

  leads-second : (name : List ℕ) (rest : Said → State → List Finding → Next) (plan : Said) (s : State) (outcome : Outcome)
      → Boots files name plan s → Leads (rest plan s) outcome
      → Leads (after_boot Second name rest) outcome
  leads-second name rest plan s outcome = leads-side Second name rest plan s outcome refl

  leads-schedule : (quantum : ℕ) (made : Schedule → Outcome) (name : Option (List ℕ)) (schedule : Schedule)
      → IsSchedule files quantum name schedule
      → Leads (scheduled quantum made name) (made schedule)
  leads-schedule quantum made None schedule is = (0, ap (λ (p : Schedule). End (made p)) (sym is))
  leads-schedule quantum made (Some name) schedule is =
      leads-file (schedule_file name) (λ bytes more. End (made (ByBytes bytes))) is.0 (made schedule) is.1
      (0, ap (λ (p : Schedule). End (made p)) (sym is.2))

  -- the outcome of words that ask for a run, or for a trace
  booted-outcome : (w : Way) (o : Order) (plan : Said) (s : State) (schedule : Schedule)
      → Leads (going o w) (run_of o (kept_of plan) s schedule) → o.way ≡ w
      → IsOutcome (Some (Go o)) files (run_of o (kept_of plan) s schedule)
  booted-outcome w o plan s schedule led is = subst (λ (w : Way). Leads (going o w) (run_of o (kept_of plan) s schedule)) (sym is) led

  leads-run : (o : Order) (plan : Said) (s : State) (schedule : Schedule) → Boots files o.file plan s
      → IsSchedule files plan.quantum o.schedule schedule
      → Leads (booted_run o) (run_of o (kept_of plan) s schedule)
  leads-run o plan s schedule boots is =
      leads-boot o.file (λ plan s. run_from o (kept_of plan) s) plan s (run_of o (kept_of plan) s schedule) boots
      (leads-schedule (kept_of plan).quantum (run_of o (kept_of plan) s) o.schedule schedule is)

  -- a snapshot is read, and the rest follows from what it gives back
  leads-snapshot : (o : Order) (kept : KeptPlan) (s : State) (schedule : Schedule) → TakesUp files o.file kept s
      → IsSchedule files kept.quantum o.schedule schedule
      → Leads (resumed_run o) (run_of o kept s schedule)
  leads-snapshot o kept s schedule up is =
      let outcome = run_of o kept s schedule in
      leads-file (snapshot_file o.file) (λ bytes. resumed o.file (run_from o) (snapshot_of bytes)) up.bytes outcome up.file
      (subst (λ (r : Result Stored Unread). Leads (resumed o.file (run_from o) r) outcome) (sym up.good)
      (subst (λ (k : KeptPlan). Leads (run_from o k (state_of up.stored)) outcome) up.plan
      (subst (λ (t : State). Leads (run_from o kept t) outcome) up.state
      (leads-schedule kept.quantum (run_of o kept s) o.schedule schedule is))))

dump-plainly : (dump : Option Dump) (kept : KeptPlan) (p : Plain) → dump ≢ Some D.Snapshot
    → dumped dump kept (flat (bare p)) ≡ plain_dump dump p
dump-plainly None kept p other = refl
dump-plainly (Some D.Ram) kept p other = refl
dump-plainly (Some D.Snapshot) kept p other = absurd (other refl)

pub some-if : {A : Type 0} (o : Option A) (P : A → Type 0) (a : A) → o ≡ Some a → IfSome o P → P a
some-if o P a is holds = rw is at holds

-- the texts of a run, as texts of the plain machine
pub holds-plainly : (o : Order) (plan : Said) (s : State) (schedule : Schedule) (before now : Sinks) → o.way ≡ way.Run
    → o.shown.counts ≡ false → o.shown.dump ≢ Some D.Snapshot
    → Holds (run_of o (kept_of plan) s schedule).texts before now
    → HoldsRun plan o ((plain s).turns + o.steps) (plain_run schedule o.steps (plain s)) before now
unfolding report_of
holds-plainly o plan s schedule before now is uncounted unsaved holds =
    let kept = kept_of plan in
    let h : Holds (ran kept (options_of o) o.shown.dump o.steps schedule s) before now =
    subst (λ (w : Way). Holds (texts_of o w kept s schedule) before now) is holds in
    let same = texts-plain kept (options_of o) o.shown.dump o.steps schedule s uncounted unsaved in
    let p = plain_run schedule o.steps (plain s) in
    record {
      console = subst (λ (t : List ℕ). AppendsWhole before.console.written now.console.written t) same.console h.console;
      report = subst (λ (t : List ℕ). AppendsWhole before.report.written now.report.written t)
          (same.report ∙ ap (λ (c : Bool). report_of kept ((plain s).turns + o.steps) (record (options_of o) { counts = c })
          (note_lines p.notes) (bare p)) uncounted) h.report;
      dump = subst (λ (t : List ℕ). AppendsWhole before.dump.written now.dump.written t) (same.dump
          ∙ dump-plainly o.shown.dump kept p unsaved) h.dump;
    }

-- the texts of a run of the machine, of any way but a trace
holds-machine : (o : Order) (kept : KeptPlan) (s : State) (schedule : Schedule) (before now : Sinks)
    → Holds (ran kept (options_of o) o.shown.dump o.steps schedule s) before now
    → HoldsMachine kept o s schedule before now
holds-machine o kept s schedule before now h = record { console = h.console; report = h.report; dump = h.dump }

-- what follows from the outcome to which the words lead follows from the headline
module _ (words : List (List ℕ)) (store stored : StoreState) (before now : Sinks) (result : Status)
    (head : Headline (meaning words) store stored before now result) where
  smoothly : (Holds : FileMap → Sinks → Sinks → Status → Type 0)
      → ((files : FileMap) → ((outcome : Outcome) → IsOutcome (meaning words) files outcome → Gives outcome before now result)
      → Holds files before now result)
      → Smoothly Holds store stored before now result
  smoothly Holds each =
      if_some store.told (λ files. CountsStay store stored before now → result ≢ WantOfMemory → Holds files before now result)
      (λ files told stays enough.
      let h = some-if store.told (λ files. CountsStay store stored before now → result ≢ WantOfMemory
      → (outcome : Outcome) × IsOutcome (meaning words) files outcome × Gives outcome before now result)
      files told head stays enough in
      each files (λ outcome is. subst (λ (q : Outcome). Gives q before now result) (one_outcome (meaning words) files h.0 outcome h.1 is)
      h.2))

  pub runs-plainly : RunsPlainly words store stored before now result
  runs-plainly =
      smoothly (Runs words)
      (λ files gives o plan s schedule asks boots is.
      let went = way-of way.Run o asks.operands asks.asks in
      let asked : meaning words ≡ Some (Go o) = ap meaning asks.run ∙ asks.asks in
      let outcome = run_of o (kept_of plan) s schedule in
      let g = gives outcome (subst (λ (a : Option Request). IsOutcome a files outcome) (sym asked)
      (booted-outcome files way.Run o plan s schedule (leads-run files o plan s schedule boots is) went)) in
      (g.0, holds-plainly o plan s schedule before now went asks.uncounted asks.unsaved g.1))

  pub counts-smoothly : CountsSmoothly words store stored before now result
  counts-smoothly =
      smoothly (Counts words)
      (λ files gives operands o plan s schedule run asks boots is.
      let went = way-of way.Run o operands asks in
      let asked : meaning words ≡ Some (Go o) = ap meaning run ∙ asks in
      let outcome = run_of o (kept_of plan) s schedule in
      let g = gives outcome (subst (λ (a : Option Request). IsOutcome a files outcome) (sym asked)
      (booted-outcome files way.Run o plan s schedule (leads-run files o plan s schedule boots is) went)) in (
        g.0,
        holds-machine o (kept_of plan) s schedule before now
            (subst (λ (w : Way). Holds (texts_of o w (kept_of plan) s schedule) before now) went g.1),
      ))

  pub traces-smoothly : TracesSmoothly words store stored before now result
  traces-smoothly =
      smoothly (Traces words)
      (λ files gives operands o plan s schedule run asks boots is.
      let went = way-of way.Trace o operands asks in
      let asked : meaning words ≡ Some (Go o) = ap meaning run ∙ asks in
      let outcome = run_of o (kept_of plan) s schedule in
      let g = gives outcome (subst (λ (a : Option Request). IsOutcome a files outcome) (sym asked)
      (booted-outcome files way.Trace o plan s schedule (leads-run files o plan s schedule boots is) went)) in
      let h = subst (λ (w : Way). Holds (texts_of o w (kept_of plan) s schedule) before now) went g.1 in
      (g.0, record { console = h.console; report = h.report; dump = h.dump }))

  pub resumes-smoothly : ResumesSmoothly words store stored before now result
  resumes-smoothly =
      smoothly (Resumes words)
      (λ files gives operands o kept s schedule run asks up is.
      let went = way-of way.Resume o operands asks in
      let asked : meaning words ≡ Some (Go o) = ap meaning run ∙ asks in
      let outcome = run_of o kept s schedule in
      let g = gives outcome (subst (λ (a : Option Request). IsOutcome a files outcome) (sym asked)
      (subst (λ (w : Way). Leads files (going o w) outcome) (sym went) (leads-snapshot files o kept s schedule up is))) in
      (g.0, holds-machine o kept s schedule before now (subst (λ (w : Way). Holds (texts_of o w kept s schedule) before now) went g.1)))

  pub compares-smoothly : ComparesSmoothly words store stored before now result
  compares-smoothly =
      smoothly (Compares words)
      (λ files gives operands p plan other s t is pair first second same inside.
      let asked : meaning words ≡ Some (Twin p) = ap meaning is ∙ ap (option_map Twin) pair in
      let outcome = reported (twin_line p.steps (twins p.domain plan.quantum p.steps (flat s) (flat t))) in
      let end : compared p plan s other t ≡ outcome =
      ap (λ (k : Option Key). unlike k (alike p plan s t)) same ∙ ap (λ (b : Bool). alike_by b p plan s t) inside in
      let led = leads-boot files p.first (after_first p) plan s outcome first
      (leads-second files p.second (λ other t more. End (compared p plan s other t)) other t outcome second
      (0, ap (λ (q : Outcome). End q) end)) in
      let g = gives outcome (subst (λ (a : Option Request). IsOutcome a files outcome) (sym asked) led) in
      (g.0, record { console = g.1.console; report = g.1.report; dump = g.1.dump }))

  pub assembles-plainly : AssemblesPlainly words store stored before now result
  assembles-plainly =
      smoothly (Assembles words)
      (λ files gives source bytes is named file utf8 faultless.
      let asked : meaning words ≡ Some (Asm source) = ap meaning is ∙ named-asked source named in
      let outcome = written_image (image_of (program_of bytes)) in
      let whole : assembled source bytes ≡ outcome =
      ap (λ (b : Bool). if b then assembled_text source bytes else refusal source (AsmFault 0 11)) utf8
      ∙ whole-source _ _ outcome faultless in
      let led = leads-file files (source_file source) (λ bytes more. End (assembled source bytes)) bytes outcome file
      (0, ap (λ (q : Outcome). End q) whole) in
      let g = gives outcome (subst (λ (a : Option Request). IsOutcome a files outcome) (sym asked) led) in
      (g.0, record { console = g.1.console; report = g.1.report; dump = g.1.dump }))

  pub audits-plainly : AuditsPlainly words store stored before now result
  audits-plainly =
      smoothly (Audits words)
      (λ files gives name plan s is named boots.
      let asked : meaning words ≡ Some (Audit name) = ap meaning is ∙ named-audited name named in
      let led = leads-boot files name (λ plan s more. End (audited plan s)) plan s (audited plan s) boots (0, refl) in
      let g = gives (audited plan s) (subst (λ (a : Option Request). IsOutcome a files (audited plan s)) (sym asked) led) in
      (g.0, record { console = g.1.console; report = g.1.report; dump = g.1.dump }))

  pub mills-plainly : MillsPlainly words store stored before now result
  mills-plainly =
      smoothly (Mills words)
      (λ files gives operands k is number.
      let asked : meaning words ≡ Some (Mill k) = ap meaning is ∙ ap (option_map Mill) number in
      let g = gives (reported (mill_text k)) (subst (λ (a : Option Request). IsOutcome a files (reported (mill_text k))) (sym asked)
      (0, refl)) in
      (g.0, record { console = g.1.console; report = g.1.report; dump = g.1.dump }))

-- where every call of a store succeeded its count stayed
pub success_keeps : {S : Type 0} (state : S → StoreState) (gives : S → Answer → S → Type 0)
    → ((s : S) (a : Answer) (t : S) → gives s a t → Tells (state s) a (state t))
    → (s t : S) (answers : List Answer) → Talks gives s answers t → AllByRecursion HasSucceeded answers
    → (state t).faults ≡ (state s).faults
success_keeps state gives law s t [] talk all = ap (λ u. (state u).faults) talk
success_keeps state gives law s t (a ∷ more) talk all =
    success_keeps state gives law talk.0 t more talk.2 all.1 ∙ (law s a talk.0 talk.1).kept all.0
