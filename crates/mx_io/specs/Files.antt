-- Files in memory, as values.
use Rattle.std.specs.Prelude.{ℕ, List, Some, map, Vec, if◌then◌else◌}
use Rattle.std.specs.Coded.{Coded, code_by, coded×, coded_ℕ, coded_list}
use Rattle.std.specs.FinMap.{empty, insert, from_entries, code}
use Rattle.std.specs.Prelude.{refl}
use Rattle.mx_io.specs.Count.{raised}
use Rattle.mx_io.specs.Calls.{CallLog, fresh_log, fails_next, after_call, with_listed, is_quiet}
use Rattle.mx_io.specs.declared.named.Named.{Named}
use Rattle.mx_io.specs.Named.{named}
use Rattle.mx_io.specs.Store.{FileMap, StoreState}

-- the files, the count of faults, and the calls made and listed
pub record FilesState : Type 0 where
  pub files : FileMap
  pub faults : ℕ
  pub calls : CallLog

-- a code by which two such values are told apart: the tuple of their parts
abbrev pub files_code : Coded FilesState
files_code =
    code_by (FileMap × (ℕ × (ℕ × List ℕ))) (coded× (code (coded_list coded_ℕ) (coded_list coded_ℕ))
    (coded× coded_ℕ (coded× coded_ℕ (coded_list coded_ℕ))))
    (λ s. (s.files, (s.faults, (s.calls.made, s.calls.listed))))
    (λ p.
    record { files = p.0; faults = p.1.0; calls = record { made = p.1.1.0; listed = p.1.1.1 } })
    (λ _. refl)

-- the files that entries under names make, the newest first
abbrev pub files_of : {Z : Type 0} → List (Named (Vec ℕ Z)) → FileMap
files_of entries = from_entries (map (λ e. (e.0, e.1.items)) (named entries))

-- no files, and no calls yet
abbrev pub no_files : FilesState
no_files = record { files = empty; faults = 0; calls = fresh_log }

-- with a file under a name, in place of an older one
abbrev pub with_file : FilesState → List ℕ → List ℕ → FilesState
with_file s name bytes =
    record { files = insert s.files name bytes; faults = s.faults; calls = s.calls }

-- with one more call listed
abbrev pub with_failing : FilesState → ℕ → FilesState
with_failing s call =
    record { files = s.files; faults = s.faults; calls = with_listed s.calls call }

-- after one call: its fault is counted where it is listed
abbrev pub after_ask : FilesState → FilesState
after_ask s =
    record {
      files = s.files;
      faults = if fails_next s.calls then raised s.faults else s.faults;
      calls = after_call s.calls;
    }

-- as a store: it tells its files, and is sure to succeed where no call that is to come is listed
abbrev pub files_store : FilesState → StoreState
files_store s = record { told = Some s.files; faults = s.faults; sure = is_quiet s.calls }
