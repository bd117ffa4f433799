-- The stores and sinks over what the system gives, which tell what that tells.
use Rattle.std.specs.Prelude.{◌≡◌, ℕ, ◌+◌, ◌<◌, ◌≤◌, Bool, IsTrue, List, length, Option, None, Some, IsSome, option_map, Result, IsOk, IfOk}
use Rattle.std.specs.Prelude.{⊤}
use Rattle.std.specs.FinMap.{get}
use Rattle.mx_io.specs.Store.{FileMap, StoreState}
use Rattle.mx_io.specs.Sink.{SinkState}
use Rattle.mx_io.specs.declared.streams.StdoutSink.{StdoutSink}
use Rattle.mx_io.specs.declared.streams.StderrSink.{StderrSink}
use Rattle.mx_io.specs.declared.dump.FileSink.{FileSink}
use Rattle.mx_io.specs.declared.folder.FolderStore.{FolderStore}
use Rattle.mx_io.specs.declared.folder.Entry.{Entry}
use Rattle.mx_io.specs.declared.folder.Entry.TheVariants as E

-- a stream takes bytes that it has room for: it takes some, and has room for the rest
abbrev pub TakesSurely : {E : Type 0} → ℕ → ℕ → List ℕ → Result ℕ E → Type 0
TakesSurely room later bytes result = 0 < length bytes → length bytes ≤ room →
    IsOk result × IfOk result (λ k. (0 < k) × (room ≤ later + k))

-- a sink over a stream: it tells the bytes that the stream tells, and is sure of what the stream has room for
abbrev pub stream : Option (List ℕ) → ℕ → ℕ → SinkState
stream written room faults = record { written = written; faults = faults; room = room }

-- of standard output and standard error
abbrev pub stdout_sink : {W : Type 0} → (W → Option (List ℕ)) → (W → ℕ) → StdoutSink W → SinkState
stdout_sink contents room s = stream (contents s.out) (room s.out) s.faults

abbrev pub stderr_sink : {W : Type 0} → (W → Option (List ℕ)) → (W → ℕ) → StderrSink W → SinkState
stderr_sink contents room s = stream (contents s.out) (room s.out) s.faults

-- the bytes of a file, or those of a fresh one where it isn't made yet
abbrev pub file_contents : {F : Type 0} → Option (List ℕ) → (F → Option (List ℕ)) → Option F →
    Option (List ℕ)
file_contents fresh contents None = fresh
file_contents fresh contents (Some file) = contents file

-- how many bytes a file has room for, or one that its maker makes
abbrev pub file_room : {F : Type 0} → ℕ → (F → ℕ) → Option F → ℕ
file_room sure room None = sure
file_room sure room (Some file) = room file

-- the dump's file: as a sink, and what makes it
abbrev pub file_sink : {M F : Type 0} → Option (List ℕ) → (M → ℕ) → (F → Option (List ℕ)) → (F → ℕ) →
    FileSink M F → SinkState
file_sink fresh sure contents room s =
    stream (file_contents fresh contents s.file) (file_room (sure s.maker) room s.file) s.faults

abbrev pub file_maker : {M F : Type 0} → FileSink M F → M
file_maker s = s.maker

-- a store over a folder: it tells the files that the folder tells, and is sure where the folder is
abbrev pub folder_store : {F : Type 0} → (F → Option FileMap) → (F → Bool) → FolderStore F → StoreState
folder_store told sure s = record { told = told s.folder; faults = s.faults; sure = sure s.folder }

-- what stands under a name is that of these files: nothing, or a regular file with that many bytes
abbrev pub IsEntry : FileMap → List ℕ → Entry → Type 0
IsEntry files name E.Absent = get files name ≡ None
IsEntry files name (E.Regular size) = option_map length (get files name) ≡ Some size
IsEntry files name E.Other = ⊤

-- nothing, or a regular file
abbrev pub IsPlain : Entry → Type 0
IsPlain E.Absent = ⊤
IsPlain (E.Regular size) = ⊤
IsPlain E.Other = ⊥

-- a folder that is sure tells its files, and finds a plain entry
abbrev pub LooksSurely : {E : Type 0} → Option FileMap → Bool → Result Entry E → Type 0
LooksSurely told sure result = IsTrue sure → IsSome told × IsOk result × IfOk result IsPlain
