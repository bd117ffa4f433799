-- Why a call ends with a status: from the steps of a command to the cause of its status.
use Rattle.std.proofs.Common.{◌≡◌, ℕ, ◌*◌, Bool, true, false, List, [], ◌∷◌, ◌++◌, Option, Some, None, Result, Ok, Err, refl, sym, ap}
use Rattle.std.proofs.Common.{subst, ◌∙◌, inl, inr}
use Rattle.std.specs.Prelude.{map as list_map}
use Rattle.std.proofs.lemmas.List.{append-nil}
use Rattle.std.proofs.lemmas.Option.{none-some, same_Some}
use Rattle.mx_io.specs.Answer.{Answer}
use Rattle.mx_model.specs.State.{State}
use Rattle.mx_manifest.specs.declared.fault.BootFault.{BootFault}
use Rattle.mx_manifest.specs.declared.fault.Key.{Key}
use Rattle.mx_manifest.specs.Plan.{Said}
use Rattle.mx_boot.specs.Boot.{Refusal, Faulty, TooFull, boot_of}
use Rattle.mx_boot.specs.Faults.{ram_words}
use Rattle.mx_snapshot.specs.Kept.{kept_of}
use Rattle.mx_snapshot.specs.Stored.{Stored}
use Rattle.mx_resume.specs.Snapshot.{Unread, FaultAt, NeedsMore, snapshot_of}
use Rattle.mx_commands.specs.declared.side.Side.{Side}
use Rattle.mx_commands.specs.declared.side.Side.TheVariants.{First, Second}
use Rattle.mx_commands.specs.declared.status.Status.{Status}
use Rattle.mx_commands.specs.declared.status.Status.TheVariants.{Ran, Usage, StoreFault, ShortFile, NoFile, Refused}
use Rattle.mx_commands.specs.Order.{Order, Pair}
use Rattle.mx_run.specs.Words.{Request, Go, Asm, Audit, Twin, Mill}
use Rattle.mx_commands.specs.declared.order.Way.{Way}
use Rattle.mx_commands.specs.declared.order.Way.TheVariants as way
use Rattle.mx_plan.specs.Manifest.{judged}
use Rattle.mx_commands.specs.Finding.{Finding, Absent, Large, Short, Broken, Whole}
use Rattle.mx_mill.specs.Mill.{mill_text}
use Rattle.mx_commands.specs.Next.{Wanted, End, refusal, reported, lack_of}
use Rattle.mx_commands.specs.Boots.{Rest, refused_by, booted, planned, HasBoth, size_fault}
use Rattle.mx_commands.specs.Commands.{run_from, going, audited, after_first}
use Rattle.mx_run.specs.Commands.{next}
use Rattle.mx_commands.specs.Compared.{alike_by, compared, first_unlike, is_domain, unlike}
use Rattle.mx_commands.specs.Resumed.{unread_by}
use Rattle.mx_run.specs.Causes.{LeadsToStatus, BootsAfter, IsOver, IsFaulty, IsRefused, IsUnread, Compares, Cause}
use Rattle.mx_commands.specs.Leads.{FindsAll, FindsLast}
use Rattle.mx_commands.proofs.FileSteps.{both_taken}
use Rattle.mx_commands.proofs.Shortfalls.{short_less}
use Rattle.mx_manifest.specs.declared.fault.Key.TheVariants as key
use Rattle.mx_manifest.specs.declared.fault.Part.TheVariants as part
use Rattle.mx_commands.specs.declared.order.Way.TheVariants.{Resume}
use Rattle.mx_commands.proofs.StepCauses.{all_found, Caused, IsLimit, Own, OfRun, OfState, OfPlan, OfBoot, OfStored, OfSource, OfPair}
use Rattle.mx_commands.proofs.StepCauses.{OfWay, OfAssembling, OfComparing, by_end, by_ran, by_way, by_assembling, by_auditing}
use Rattle.mx_commands.proofs.StepCauses.{by_comparing, source_status}
use Rattle.mx_commands.proofs.Schedules.{run_refused}

-- a side's cause is that of its status
over_cause : (asked : Option Request) (answers : List Answer) (side : Side) (fault : BootFault)
    → IsOver asked answers (refused_by side (Faulty fault)) → Cause asked answers (refused_by side (Faulty fault))
over_cause asked answers First fault c = inl c
over_cause asked answers Second fault c = inl c

faulty_cause : (asked : Option Request) (answers : List Answer) (side : Side) (fault : BootFault) → IsFaulty asked answers side fault
    → Cause asked answers (refused_by side (Faulty fault))
faulty_cause asked answers First fault c = inr (inl c)
faulty_cause asked answers Second fault c = inr (inl c)

refused_cause : (asked : Option Request) (answers : List Answer) (side : Side) (why : Refusal) → IsRefused asked answers side why
    → Cause asked answers (refused_by side why)
refused_cause asked answers First (Faulty fault) c = inr (inr c)
refused_cause asked answers First (TooFull need limit) c = inl c
refused_cause asked answers Second (Faulty fault) c = inr (inr c)
refused_cause asked answers Second (TooFull need limit) c = c

unread_cause : (asked : Option Request) (answers : List Answer) (why : Unread) → IsUnread asked answers why
    → Cause asked answers (unread_by why)
unread_cause asked answers (FaultAt at number) c = inr c
unread_cause asked answers (NeedsMore need limit) c = inr c

module _ (asked : Option Request) (answers : List Answer) where
  -- what was found and the rest of it, where there is no rest
  no_rest : (before : List Finding) (bytes : List ℕ) (files : List (List ℕ)) (more found : List Finding)
      → found ≡ before ++ Whole bytes ∷ (list_map Whole files ++ more) → more ≡ []
      → FindsAll (next asked) answers found → FindsAll (next asked) answers (before ++ Whole bytes ∷ list_map Whole files)
  no_rest before bytes files more found is none f =
      subst (λ (found : List Finding). FindsAll (next asked) answers found)
      (is ∙ ap (λ xs. before ++ Whole bytes ∷ xs) (ap (λ xs. list_map Whole files ++ xs) none ∙ append-nil (list_map Whole files))) f

  -- a boot of a side after some findings, where what follows has its cause
  module _ (before : List Finding) (side : Side) (name : List ℕ) (boots : BootsAfter asked before side name) (own : Own)
      (each : (plan : Said) (s : State) (bytes : List ℕ) (files images inputs : List (List ℕ)) → judged bytes ≡ Ok plan
      → HasBoth plan files images inputs → boot_of plan images inputs ≡ Ok s
      → (more found : List Finding) → found ≡ before ++ Whole bytes ∷ (list_map Whole files ++ more) → FindsAll (next asked) answers found
      → (status : Status) → own plan s more status → Cause asked answers status) where
    cause_of_state : (bytes : List ℕ) (plan : Said) → judged bytes ≡ Ok plan → (files images inputs : List (List ℕ))
        → HasBoth plan files images inputs → (boot : Result State Refusal)
        → boot_of plan images inputs ≡ boot → (more found : List Finding) → found ≡ before ++ Whole bytes ∷ (list_map Whole files ++ more)
        → FindsAll (next asked) answers found
        → (status : Status) → OfState side own plan boot more status → Cause asked answers status
    cause_of_state bytes plan good files images inputs has (Ok s) is more found same f status o =
        each plan s bytes files images inputs good has is more found same f status o
    cause_of_state bytes plan good files images inputs has (Err why) is more found same f status o =
        subst (Cause asked answers) (sym o.1)
        (refused_cause asked answers side why (
          before,
          name,
          boots,
          bytes,
          files,
          no_rest before bytes files more found same o.0
              f,
          plan,
          good,
          images,
          inputs,
          has,
          is,
        ))

    cause_of_plan : (bytes : List ℕ) (plan : Result Said BootFault) → judged bytes ≡ plan → (more found : List Finding)
        → found ≡ before ++ Whole bytes ∷ more
        → FindsAll (next asked) answers found → (status : Status) → OfPlan side own plan more status → Cause asked answers status
    cause_of_plan bytes (Ok plan) good more found same f status o =
        cause_of_state bytes plan good o.0 o.1 o.2 o.4 (boot_of plan o.1 o.2) refl o.3 found (same
        ∙ ap (λ xs. before ++ Whole bytes ∷ xs) o.5) f status o.6
    cause_of_plan bytes (Err fault) bad more found same f status o =
        subst (Cause asked answers) (sym o.1)
        (faulty_cause asked answers side fault (before, name, boots, bytes, no_rest before bytes [] more found same o.0 f, bad))

    cause_of_boot : (others found : List Finding) → found ≡ before ++ others → FindsAll (next asked) answers found → (status : Status)
        → OfBoot side own others status → Cause asked answers status
    cause_of_boot others found same f status o = cause_of_plan o.0 (judged o.0) refl o.1 found (same ∙ ap (λ xs. before ++ xs) o.2) f status
        o.3

  cause_of_source : (source : List ℕ) → asked ≡ Some (Asm source) → (bytes : List ℕ) (more found : List Finding)
      → found ≡ Whole bytes ∷ more → FindsAll (next asked) answers found
      → (status : Status) → OfSource source bytes more status → Cause asked answers status
  cause_of_source source is bytes more found same f status own =
      elim (source_status source bytes) [
        | inl h ↦ subst (Cause asked answers) (sym (own.1 ∙ h)) tt
        | inr h ↦ subst (Cause asked answers) (sym (own.1 ∙ h.2))
            (inr (source, is, bytes, no_rest [] bytes [] more found same own.0 f, h.2))
      ]

  -- a snapshot that was read whole
  cause_of_stored : (o : Order) → asked ≡ Some (Go o) → o.way ≡ way.Resume → (bytes : List ℕ) (stored : Result Stored Unread)
      → snapshot_of bytes ≡ stored → (more found : List Finding)
      → found ≡ Whole bytes ∷ more → FindsAll (next asked) answers found → (status : Status) → OfStored stored more status
      → Cause asked answers status
  cause_of_stored o is resumes bytes (Ok stored) good more found same f status own = subst (Cause asked answers) (sym own) tt
  cause_of_stored o is resumes bytes (Err why) bad more found same f status own =
      subst (Cause asked answers) (sym own.1) (unread_cause asked answers why
      (o, is, resumes, bytes, no_rest [] bytes [] more found same own.0 f, bad))

  cause_of_lack : (file : Wanted) (found : Finding) (status : Status) → FindsLast (next asked) answers file found → IsLimit file
      → lack_of file found ≡ Some status → Cause asked answers status
  cause_of_lack file Absent status last limit lack = subst (Cause asked answers) (same_Some (NoFile file.role) status lack)
      (file, refl, last)
  cause_of_lack file Large status last limit lack =
      elim limit [
        | inl h ↦ subst (Cause asked answers) (sym h.2 ∙ same_Some file.large status lack)
            (over_cause asked answers h.0 h.1 (file, h.2, last))
        | inr h ↦ elim h [
          | inl k ↦ subst (Cause asked answers) (sym k.2 ∙ same_Some file.large status lack) (inl (file, k.2, last))
          | inr k ↦ subst (Cause asked answers) (sym k.2 ∙ same_Some file.large status lack) (inl (file, k.2, last))
        ]
      ]
  cause_of_lack file (Short told got) status last limit lack =
      subst (Cause asked answers) (same_Some (ShortFile file.role told got) status lack)
      (short_less file.most file.name last.0 told got last.2, (file, refl, last))
  cause_of_lack file Broken status last limit lack = subst (Cause asked answers) (same_Some StoreFault status lack)
      (file.role, (file, refl, last))
  cause_of_lack file (Whole bytes) status last limit lack = absurd (none-some status lack)

module _ (asked : Option Request) (answers : List Answer) (p : Pair) where
  cause_of_key : (plan other : Said) (s t : State) → Compares asked answers p plan other → (key : Option Key)
      → first_unlike plan other ≡ key → (d : Bool) → is_domain plan p.domain ≡ d
      → (status : Status) → status ≡ (unlike key (alike_by d p plan s t)).status → Cause asked answers status
  cause_of_key plan other s t c (Some key) differs d inside status is = subst (Cause asked answers) (sym is) (p, plan, other, c, differs)
  cause_of_key plan other s t c None same true inside status is = subst (Cause asked answers) (sym is) tt
  cause_of_key plan other s t c None same false outside status is = subst (Cause asked answers) (sym is) (p, plan, other, c, same, outside)

  -- the second boot of a comparison, after the first
  cause_of_pair : asked ≡ Some (Twin p) → (plan : Said) (s : State) (bytes : List ℕ) (files images inputs : List (List ℕ))
      → judged bytes ≡ Ok plan → HasBoth plan files images inputs
      → boot_of plan images inputs ≡ Ok s → (more found : List Finding) → found ≡ Whole bytes ∷ (list_map Whole files ++ more)
      → FindsAll (next asked) answers found
      → (status : Status) → OfBoot Second (OfPair p plan s) more status → Cause asked answers status
  cause_of_pair asks plan s bytes files images inputs good has boots more found same f status o =
      let rest : Rest = λ other t later. End (compared p plan s other t) in
      let goes = λ (later : List Finding).
      ap (λ (a : Option Request). next a (Whole bytes ∷ (list_map Whole files ++ later))) asks
      ∙ ap (λ (r : Result Said BootFault). planned First p.first (after_first p) r (list_map Whole files ++ later)) good
      ∙ both_taken First (4 * ram_words plan) plan (λ images inputs. booted First p.first (after_first p) plan (boot_of plan images inputs))
      files images inputs later has
      ∙ ap (λ (b : Result State Refusal). booted First p.first (after_first p) plan b later) boots in
      let second : BootsAfter asked (Whole bytes ∷ list_map Whole files) Second p.second = record { rest = rest; goes = goes } in
      cause_of_boot asked answers (Whole bytes ∷ list_map Whole files) Second p.second second (OfPair p plan s)
      (λ other t bytes2 files2 images2 inputs2 good2 has2 boots2 more2 found2 same2 f2 status2 own.
      cause_of_key plan other s t
      (record {
        asks = asks;
        bytes = bytes;
        files = files;
        first = record { good = good; images = images; inputs = inputs; taken = has; state = s; boots = boots };
        more = bytes2;
        others = files2;
        second = record { good = good2; images = images2; inputs = inputs2; taken = has2; state = t; boots = boots2 };
        finds = no_rest asked answers (Whole bytes ∷ list_map Whole files) bytes2 files2 more2 found2 same2 own.0 f2;
      })
      (first_unlike plan other) refl (is_domain plan p.domain) refl status2 own.1)
      more found same f status o

-- where what is asked ends, the last file isn't whole, or what was found says how
abbrev OfRequest : Option Request → List Finding → Status → Type 0
OfRequest None found status = (found ≡ []) × (status ≡ Usage)
OfRequest (Some (Go o)) found status = OfWay o.way found status
OfRequest (Some (Mill k)) found status = status ≡ Ran
OfRequest (Some (Twin p)) found status = OfComparing p found status
OfRequest (Some (Audit name)) found status = OfBoot First (λ plan s. OfRun) found status
OfRequest (Some (Asm source)) found status = OfAssembling source found status

by_request : (asked : Option Request) → Caused (next asked) (OfRequest asked)
by_request None = by_end (refusal [] Usage)
by_request (Some (Go o)) = by_way o o.way
by_request (Some (Asm source)) = by_assembling source
by_request (Some (Mill k)) = by_ran (reported (mill_text k)) refl
by_request (Some (Twin p)) = by_comparing p
by_request (Some (Audit name)) = by_auditing name

-- a boot that all else goes well after
cause_of_ran : (asked : Option Request) (answers : List Answer) (name : List ℕ) → BootsAfter asked [] First name
    → (found : List Finding) (status : Status) → FindsAll (next asked) answers found
    → OfBoot First (λ plan s. OfRun) found status → Cause asked answers status
cause_of_ran asked answers name boots found status f own =
    cause_of_boot asked answers [] First name boots (λ plan s. OfRun)
    (λ plan s bytes files images inputs good has is more found same f status ran. subst (Cause asked answers) (sym ran) tt) found found refl
    f status own

cause_of_way : (answers : List Answer) (o : Order) (w : Way) → o.way ≡ w → (found : List Finding) (status : Status)
    → FindsAll (next (Some (Go o))) answers found → OfWay w found status
    → Cause (Some (Go o)) answers status
cause_of_way answers o way.Run is found status f own =
    cause_of_ran (Some (Go o)) answers o.file (record {
      rest = λ plan s. run_from o (kept_of plan) s;
      goes = λ more.
          ap (λ (w : Way). going o w more) is;
    }) found status f own
cause_of_way answers o way.Resume is found status f own = cause_of_stored (Some (Go o)) answers o refl is own.0 (snapshot_of own.0) refl
    own.1 found own.2 f status own.3
cause_of_way answers o way.Trace is found status f own =
    cause_of_ran (Some (Go o)) answers o.file (record {
      rest = λ plan s. run_from o (kept_of plan) s;
      goes = λ more.
          ap (λ (w : Way). going o w more) is;
    }) found status f own

cause_of_request : (asked : Option Request) (answers : List Answer) (found : List Finding) (status : Status)
    → FindsAll (next asked) answers found → OfRequest asked found status
    → Cause asked answers status
cause_of_request None answers found status f own =
    subst (Cause None answers) (sym own.1) (refl, subst (λ (found : List Finding). FindsAll (next None) answers found) own.0 f)
cause_of_request (Some (Go o)) answers found status f own = cause_of_way answers o o.way refl found status f own
cause_of_request (Some (Mill k)) answers found status f own = subst (Cause (Some (Mill k)) answers) (sym own) tt
cause_of_request (Some (Twin p)) answers found status f own =
    cause_of_boot (Some (Twin p)) answers [] First p.first (record { rest = after_first p; goes = λ more. refl }) (λ plan s.
    OfBoot Second (OfPair p plan s))
    (cause_of_pair (Some (Twin p)) answers p refl) found found refl f status own
cause_of_request (Some (Audit name)) answers found status f own =
    cause_of_ran (Some (Audit name)) answers name (record { rest = λ plan s more. End (audited plan s); goes = λ more. refl }) found status
    f own
cause_of_request (Some (Asm source)) answers found status f own =
    cause_of_source (Some (Asm source)) answers source refl own.0 own.1 found own.2 f status own.3

-- answers lead to a status only by its cause
pub status_caused : (asked : Option Request) (answers : List Answer) (status : Status) → LeadsToStatus asked answers status
    → Cause asked answers status
status_caused asked answers status l =
    let all = all_found l.1.0 (next asked) answers l.0 l.1.1 in
    subst (Cause asked answers) l.2
    (elim (by_request asked answers all.0 l.0 all.1 all.2) [
      | inl h ↦ cause_of_lack asked answers h.0 h.1 l.0.status h.2 h.3 h.4
      | inr own ↦ cause_of_request asked answers all.0 l.0.status all.1 own
    ])

-- a run that goes on from a snapshot is refused for nothing but its schedule
pub resume_refused : (o : Order) (answers : List Answer) (fault : BootFault) → o.way ≡ Resume
    → LeadsToStatus (Some (Go o)) answers (Refused fault) → fault ≡ size_fault part.Schedule 0 key.NoKey
resume_refused o answers fault resumes l =
    let all = all_found l.1.0 (next (Some (Go o))) answers l.0 l.1.1 in
    run_refused o all.0 l.0 fault (sym (ap (λ (w : Way). going o w all.0) resumes) ∙ all.2) l.2
