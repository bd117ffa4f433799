-- What each command does, by what was found of the files that it read.
-- The rules: docs/COMMANDS.md, "What is judged first".
use Rattle.std.specs.Prelude.{ℕ, if◌then◌else◌, List, [], Option, Some, None, unwrap_or}
use Rattle.std.specs.Str.{is_utf8}
use Rattle.mx_words.specs.Limits.{most_text_bytes, most_file_bytes}
use Rattle.mx_model.specs.Run.{Schedule, ByQuantum, ByBytes}
use Rattle.mx_model.specs.State.{State, flat}
use Rattle.mx_manifest.specs.declared.fault.Key.TheVariants as key
use Rattle.mx_manifest.specs.declared.fault.Part.TheVariants as part
use Rattle.mx_manifest.specs.Plan.{Said}
use Rattle.mx_audit.specs.Lines.{audit_text}
use Rattle.mx_boot.specs.Boot.{Faulty}
use Rattle.mx_image.specs.Image.{image_of}
use Rattle.mx_asm.specs.Denoted.{program_of, first_fault}
use Rattle.mx_report.specs.declared.closing.Options.{Options}
use Rattle.mx_snapshot.specs.Kept.{KeptPlan, kept_of}
use Rattle.mx_turns.specs.Ends.{Texts, still}
use Rattle.mx_turns.specs.Runs.{ran}
use Rattle.mx_turns.specs.declared.tracing.Lines.{Lines}
use Rattle.mx_turns.specs.Tracing.{traced}
use Rattle.mx_commands.specs.declared.side.Side.TheVariants.{First, Second}
use Rattle.mx_commands.specs.declared.status.FileRole.TheVariants.{Schedule as ScheduleRole, Source}
use Rattle.mx_commands.specs.declared.status.Status.TheVariants.{Ran, AsmFault}
use Rattle.mx_commands.specs.Order.{Order, Pair}
use Rattle.mx_commands.specs.declared.order.Way.{Way}
use Rattle.mx_commands.specs.declared.order.Way.TheVariants as way
use Rattle.mx_commands.specs.Finding.{Finding}
use Rattle.mx_commands.specs.Next.{Outcome, Wanted, Next, End, after_file, refusal, reported}
use Rattle.mx_commands.specs.Boots.{size_fault, refused_by, after_boot}
use Rattle.mx_commands.specs.Compared.{compared}
use Rattle.mx_commands.specs.Resumed.{after_snapshot}

-- the schedule of a run, and the source of an image
abbrev pub schedule_file : List ℕ → Wanted
schedule_file name = record {
  role = ScheduleRole;
  name = name;
  most = most_file_bytes;
  large = refused_by First (Faulty (size_fault part.Schedule 0 key.NoKey));
}

abbrev pub source_file : List ℕ → Wanted
source_file name = record { role = Source; name = name; most = most_text_bytes; large = AsmFault 0 11 }

-- the schedule of a quantum, or of the bytes of a schedule file
abbrev pub schedule_by : ℕ → Option (List ℕ) → Schedule
schedule_by quantum None = ByQuantum quantum
schedule_by quantum (Some bytes) = ByBytes bytes

-- turns are made by a quantum, or by the schedule file that is asked
abbrev pub scheduled : ℕ → (Schedule → Outcome) → Option (List ℕ) → List Finding → Next
scheduled quantum made None found = End (made (ByQuantum quantum))
scheduled quantum made (Some name) found =
    after_file (schedule_file name) (λ bytes more. End (made (ByBytes bytes))) found

-- what the report of a run shows beside the lines that each run has
abbrev pub options_of : Order → Options
options_of o = record { tables = o.shown.tables; counts = o.shown.counts }

-- the lines of a trace
abbrev pub lines_of : Order → Lines
lines_of o = record { from = unwrap_or o.shown.from 0; effects = o.shown.effects }

-- the texts of a run by a schedule, from a state
abbrev pub texts_of : Order → Way → KeptPlan → State → Schedule → Texts
texts_of o way.Run kept s schedule = ran kept (options_of o) o.shown.dump o.steps schedule s
texts_of o way.Resume kept s schedule = ran kept (options_of o) o.shown.dump o.steps schedule s
texts_of o way.Trace kept s schedule = traced (lines_of o) o.steps schedule s

abbrev pub run_of : Order → KeptPlan → State → Schedule → Outcome
run_of o kept s schedule = record { status = Ran; texts = texts_of o o.way kept s schedule }

-- a run from a state, by the schedule file that is asked or by the plan's quantum
abbrev pub run_from : Order → KeptPlan → State → List Finding → Next
run_from o kept s = scheduled kept.quantum (run_of o kept s) o.schedule

-- a manifest boots, or a snapshot is read, and the run follows
abbrev pub booted_run : Order → List Finding → Next
booted_run o = after_boot First o.file (λ plan s. run_from o (kept_of plan) s)

abbrev pub resumed_run : Order → List Finding → Next
resumed_run o = after_snapshot o.file (run_from o)

-- a run of each way
abbrev pub going : Order → Way → List Finding → Next
going o way.Run = booted_run o
going o way.Resume = resumed_run o
going o way.Trace = booted_run o

-- the bytes of an image go to the console
abbrev pub written_image : List ℕ → Outcome
written_image image = record { status = Ran; texts = still image [] [] }

-- the outcome of the first fault where there is one, and the other where there is none
abbrev pub unless_faulty : {F : Type 0} → Option F → (F → Outcome) → Outcome → Outcome
unless_faulty None refused faultless = faultless
unless_faulty (Some fault) refused faultless = refused fault

-- the image of a text goes to the console; a text with a fault is refused by its first one
abbrev pub assembled_text : List ℕ → List ℕ → Outcome
assembled_text source text =
    unless_faulty (first_fault text) (λ fault. refusal source (AsmFault fault.line fault.number))
    (written_image (image_of (program_of text)))

-- bytes that are no text are refused as a whole
abbrev pub assembled : List ℕ → List ℕ → Outcome
assembled source bytes =
    if is_utf8 bytes then assembled_text source bytes else refusal source (AsmFault 0 11)

-- the audit of a state at boot
abbrev pub audited : Said → State → Outcome
audited plan s = reported (audit_text (kept_of plan).names (flat s))

-- the second machine of a comparison boots after the first, and the two are compared
abbrev pub after_first : Pair → Said → State → List Finding → Next
after_first p plan s =
    after_boot Second p.second (λ other t more. End (compared p plan s other t))

-- a source is read, and its image or its refusal is the end
abbrev pub assembling : List ℕ → List Finding → Next
assembling source =
    after_file (source_file source) (λ bytes more. End (assembled source bytes))

-- a manifest boots, and the audit of its state is the end
abbrev pub auditing : List ℕ → List Finding → Next
auditing name = after_boot First name (λ plan s more. End (audited plan s))

-- two manifests boot, one after the other, and their comparison is the end
abbrev pub comparing : Pair → List Finding → Next
comparing p = after_boot First p.first (after_first p)
