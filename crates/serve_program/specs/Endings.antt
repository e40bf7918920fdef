-- The results of the parts of a run.
use Rattle.std.specs.Prelude.{◌≡◌, ◌≢◌, ◌<◌, ◌⊎◌, Bool, ℕ, ◌==◌, List, [], ◌∷◌, ◌++◌, Option, Some, None, IfSome, codes, if◌then◌else◌}
use Rattle.std.specs.Fmt.{decimal}
use Rattle.std.specs.Io.KnownBytes.{IsAtEnd, Keeps}
use Rattle.vp8_tables.specs.Tables.{TableEntries}
use Rattle.command_lines.specs.Readings.{AreNoTables, Known}
use Rattle.std.specs.Borrow.{Bor}
use Rattle.output_files.specs.Places.{KnownPlaces}
use Rattle.stream_files.specs.declared.streams.Stream.{Stream}
use Rattle.stream_sources.specs.declared.faults.StreamFault.{StreamFault}
use Rattle.stream_files.specs.declared.ivf.TheConstants.{EMPTY}
use Rattle.frame_session.specs.Cached.{Capacity as Cached, of_bytes, of_states}
use Rattle.frame_session.specs.Answers.{AreStreams, Means, RunStops, SourceRefuses}
use Rattle.frame_session.specs.Exported.{IsNotExported}
use Rattle.frame_session.specs.Live.{CutsOff, LiveMeans, LiveStops}
use Rattle.frame_session.specs.Sessions.{SessionState, start}
use Rattle.frame_session.specs.declared.refusal.Refusal.{Refusal}
use Rattle.frame_session.specs.declared.refusal.Refusal.TheVariants as refusals
use Rattle.frame_session.specs.declared.session.exports.ExportFault.{ExportFault}
use Rattle.frame_session.specs.declared.session.exports.ExportFault.TheVariants as exports
use Rattle.lossless_cuts.specs.declared.faults.CutFault.{CutFault}
use Rattle.lossless_cuts.specs.declared.faults.CutFault.TheVariants as cuts
use Rattle.frame_session.specs.declared.live.LiveFault.{LiveFault}
use Rattle.frame_session.specs.declared.live.LiveFault.TheVariants as lives
use Rattle.frame_session.specs.declared.serving.RunFault.{RunFault}
use Rattle.frame_session.specs.declared.serving.RunFault.TheVariants as runs
use Rattle.serve_arguments.specs.CommandLines.{source_names, tables_name}
use Rattle.serve_arguments.specs.Readings.{AreRead, AreRequests, Contents, IsOverlong, IsUnread, contents_of}
use Rattle.serve_arguments.specs.declared.capacities.Capacity.{Capacity}
use Rattle.serve_arguments.specs.declared.capacities.Capacity.TheVariants.{States, Bytes}
use Rattle.serve_arguments.specs.declared.exports.NotExported.{NotExported as Unexported}
use Rattle.serve_arguments.specs.declared.exports.NotExported.TheVariants as unexported
use Rattle.serve_arguments.specs.declared.fault.Fault.{Fault}
use Rattle.serve_arguments.specs.declared.fault.Fault.TheVariants.{CannotRead, TooLong, Tables, Input, NotExported, CannotWrite, NoMemory}
use Rattle.serve_arguments.specs.declared.words.Accepted.{Accepted}
use Rattle.serve_program.specs.Saved.{AreSaved, SavedAt}

-- why the packets were not saved: the program has two errors for that
abbrev pub IsSaveFault : Fault → Type 0
IsSaveFault fault = (fault ≡ CannotWrite) ⊎ (fault ≡ NoMemory)

-- a run's error as the program's
abbrev pub fault_by_run : RunFault → Fault
fault_by_run (runs.Source source fault) = Input source fault
fault_by_run runs.Write = CannotWrite
fault_by_run runs.NoMemory = NoMemory

-- what the file for the frames had and has: any bytes, or those of one file
abbrev pub Gained : Type 1
Gained = (frames frames' : Option (List ℕ)) → Type 0

-- the file that was made at a path, empty, and its bytes since; without a path there is none. `contents` has the bytes of a file, and `is_made` the files
-- that were made at a path
abbrev pub IsOut : {F : Type 0} → (contents : F → Option (List ℕ)) → (is_made : List ℕ → F → Type 0) → (path : List ℕ) → Gained
IsOut {F} contents is_made path frames frames' =
    path ≢ codes "-" → (file : F) × (file' : F) × is_made path file × IsAtEnd (contents file) × (frames ≡ contents file) × (frames' ≡ contents file')

-- the requests were answered over the files of these bytes with these replies, and the file for the frames gained the frames
abbrev pub IsReplied : Gained → (tables : TableEntries) → (sources : List (List ℕ)) → (requests : List ℕ) → (replies replies' : Option (List ℕ)) → SessionState → Type 0
IsReplied out tables sources requests replies replies' end =
    (frames : Option (List ℕ)) × (frames' : Option (List ℕ)) × out frames frames' × Means tables sources requests frames frames' replies replies' end

-- the files of a run: the bytes at a path and what it names, where they are known, the file that was made at a path, and the texts that were saved
pub record RunFiles : Type 1 where
  pub contents : Contents
  pub places : KnownPlaces
  pub out : List ℕ → Gained
  pub saved : SavedAt

-- a source that is not named has no packets
abbrev pub run_files : {F : Type 0} → Known → KnownPlaces → (contents : F → Option (List ℕ)) → (is_made : List ℕ → F → Type 0) → SavedAt → RunFiles
run_files known places contents is_made saved = record { contents = contents_of known EMPTY; places = places; out = IsOut contents is_made; saved = saved }

-- the refusal of a frame that is exported
abbrev pub fault_by_refusal : ℕ → Refusal → Fault
fault_by_refusal frame (refusals.Packet source place cause) = NotExported (unexported.Broken frame source place cause)
fault_by_refusal frame refusals.CropOutside = NotExported (unexported.CropOutside frame)
fault_by_refusal frame _ = NoMemory

-- the error of packets that are exported
abbrev pub fault_by_cut : CutFault → Fault
fault_by_cut cuts.Full = NotExported unexported.Full
fault_by_cut cuts.Place = NotExported unexported.NoHold
fault_by_cut cuts.Size = NotExported unexported.NoHold
fault_by_cut cuts.TooLarge = NotExported unexported.NoHold
fault_by_cut cuts.NoMemory = NoMemory

-- an export's error as the program's
abbrev pub fault_by_export : ExportFault → Fault
fault_by_export (exports.Frame frame refusal) = fault_by_refusal frame refusal
fault_by_export (exports.Changed frame node) = NotExported (unexported.Changed frame node)
fault_by_export (exports.Packets fault) = fault_by_cut fault

-- the frames of a session are not exported for this reason
abbrev pub IsRefusedExport : SessionState → Unexported → Type 0
IsRefusedExport end why = (fault : ExportFault) × IsNotExported end fault × (fault_by_export fault ≡ NotExported why)

-- why nothing was exported
abbrev pub IsExportFault : SessionState → Fault → Type 0
IsExportFault end (NotExported why) = IsRefusedExport end why
IsExportFault end NoMemory = Unit {0}
IsExportFault end _ = ⊥

-- the report of trailing bytes: nothing if there are none
abbrev pub spare_text : ℕ → List ℕ
spare_text spare = if spare == 0 then [] else codes "spare " ++ decimal spare ++ 10 ∷ []

-- the requests of a command line were answered over the files of these bytes, with the frames in OUT
abbrev pub AreReplied : RunFiles → Accepted → (left replies replies' : Option (List ℕ)) → SessionState → (tables : TableEntries) → (sources : List (List ℕ)) → Type 0
AreReplied files line left replies replies' end tables sources =
    (lines : List ℕ) × AreRequests files.contents line.words.requests.now left lines × IsReplied (files.out line.words.frames.now) tables sources lines replies replies' end

-- the capacity of the cache of a session by that of a command line
abbrev pub cached_by : Capacity → Cached
cached_by (States count) = of_states count
cached_by (Bytes bytes) = of_bytes bytes

-- the tables and the bytes of the sources that a command line names
abbrev pub IsOver : RunFiles → Accepted → TableEntries → List (List ℕ) → Type 0
IsOver files line tables sources = AreRead files.contents (tables_name line) (source_names line) tables sources

-- what is said of tables and the bytes of sources
abbrev pub OfSources : Type 1
OfSources = TableEntries → List (List ℕ) → Type 0

-- all requests of a command line were answered over its sources and tables, and then what it asks for was saved
pub record IsServed (files : RunFiles) (line : Accepted) (Replied : SessionState → OfSources) (new : SessionState) : Type 0 where
  pub tables : TableEntries
  pub sources : List (List ℕ)
  pub over : IsOver files line tables sources
  pub end : SessionState
  pub replied : Replied end tables sources
  pub saved : AreSaved files.saved line.words end new

-- some tables, and bytes of the sources
abbrev pub OverSources : RunFiles → Accepted → OfSources → Type 0
OverSources files line Holds = (tables : TableEntries) × (sources : List (List ℕ)) × IsOver files line tables sources × Holds tables sources

-- all requests were answered, and then the frames of the session were not exported for this reason
abbrev pub IsUnexported : RunFiles → Accepted → (Replied : SessionState → OfSources) → Unexported → Type 0
IsUnexported files line Replied why = OverSources files line (λ tables sources. (end : SessionState) × Replied end tables sources × IsRefusedExport end why)

-- a writer returned an error: the answers were written up to one of them, no reply before its whole frame; or all were written, and were not flushed
abbrev pub IsUnwritten : (tables : TableEntries) → (sources : List (List ℕ)) → (requests : List ℕ) → (frames frames' replies replies' : Option (List ℕ)) → Type 0
IsUnwritten tables sources requests frames frames' replies replies' =
    RunStops tables sources requests frames frames' replies replies' runs.Write ⊎ ((end : SessionState) × Means tables sources requests frames frames' replies replies' end)

-- why the requests were not all answered over the files of these bytes: except for a writer's error, nothing was written
abbrev pub IsRefused : (tables : TableEntries) → (sources : List (List ℕ)) → (requests : List ℕ) → (frames frames' replies replies' : Option (List ℕ)) → Fault → Type 0
IsRefused tables sources requests frames frames' replies replies' (Input source fault) = SourceRefuses sources source fault × Keeps frames frames' × Keeps replies replies'
IsRefused tables sources requests frames frames' replies replies' NoMemory = Keeps frames frames' × Keeps replies replies'
IsRefused tables sources requests frames frames' replies replies' CannotWrite = IsUnwritten tables sources requests frames frames' replies replies'
IsRefused tables sources requests frames frames' replies replies' _ = ⊥

-- why they were not all answered, if it is not known where the frames went: no reply was written, or a writer stopped the answers
abbrev pub IsUnreplied : (sources : List (List ℕ)) → (Stopped : Type 0) → (replies replies' : Option (List ℕ)) → Fault → Type 0
IsUnreplied sources Stopped replies replies' (Input source fault) = SourceRefuses sources source fault × Keeps replies replies'
IsUnreplied sources Stopped replies replies' NoMemory = Keeps replies replies'
IsUnreplied sources Stopped replies replies' CannotWrite = Keeps replies replies' ⊎ Stopped
IsUnreplied sources Stopped replies replies' _ = ⊥

-- a writer stopped the answers to these requests, or did not flush them
abbrev pub IsStopped : (tables : TableEntries) → (sources : List (List ℕ)) → (requests : List ℕ) → (replies replies' : Option (List ℕ)) → Type 0
IsStopped tables sources requests replies replies' = (frames : Option (List ℕ)) × (frames' : Option (List ℕ)) × IsUnwritten tables sources requests frames frames' replies replies'

-- a writer stopped the answers to the requests of a command line
abbrev pub AreStopped : RunFiles → Accepted → (left replies replies' : Option (List ℕ)) → (tables : TableEntries) → (sources : List (List ℕ)) → Type 0
AreStopped files line left replies replies' tables sources =
    (lines : List ℕ) × AreRequests files.contents line.words.requests.now left lines × IsStopped tables sources lines replies replies'

-- no reply was written, or all requests were answered
abbrev pub IsBeforeOrAfter : RunFiles → Accepted → (replies replies' : Option (List ℕ)) → (Replied : SessionState → OfSources) → Type 0
IsBeforeOrAfter files line replies replies' Replied = Keeps replies replies' ⊎ OverSources files line (λ tables sources. (end : SessionState) × Replied end tables sources)

-- a file with this name could not be read, and no reply was written
abbrev pub IsUnreadFile : RunFiles → Accepted → (left left' replies replies' : Option (List ℕ)) → (name : List ℕ) → Type 0
IsUnreadFile files line left left' replies replies' name = IsUnread files.contents (tables_name line) (source_names line) line.words.requests.now left left' name × (replies' ≡ replies)

-- it has too many bytes
abbrev pub IsLongFile : RunFiles → Accepted → (left left' replies replies' : Option (List ℕ)) → (name : List ℕ) → Type 0
IsLongFile files line left left' replies replies' name = IsOverlong files.contents (tables_name line) (source_names line) line.words.requests.now left left' name × (replies' ≡ replies)

-- the bytes of a source are not a file of packets, and no reply was written
abbrev pub IsNoStream : RunFiles → Accepted → (replies replies' : Option (List ℕ)) → (source : ℕ) → StreamFault → Type 0
IsNoStream files line replies replies' source fault = OverSources files line (λ tables sources. SourceRefuses sources source fault × Keeps replies replies')

-- why the program exits without doing all that it was asked, in the order of its parts: a reading error comes before the first reply, a reading error of
-- the tables or a source before the first byte of the requests is read, and an error in a source's bytes before the first reply. Memory runs
-- out before the first reply, or after the last one, as the frames are exported or the packets saved. A writer's error comes then too, or stops the answers
abbrev pub IsEnded : RunFiles → Accepted → (left left' replies replies' : Option (List ℕ)) → (Stopped : OfSources) → (Replied : SessionState → OfSources) → Fault → Type 0
IsEnded files line left left' replies replies' Stopped Replied (CannotRead path) = IsUnreadFile files line left left' replies replies' path.now
IsEnded files line left left' replies replies' Stopped Replied (TooLong path) = IsLongFile files line left left' replies replies' path.now
IsEnded files line left left' replies replies' Stopped Replied Tables = AreNoTables files.contents.known (tables_name line) × (left' ≡ left) × (replies' ≡ replies)
IsEnded files line left left' replies replies' Stopped Replied (Input source fault) = IsNoStream files line replies replies' source fault
IsEnded files line left left' replies replies' Stopped Replied (NotExported why) = IsUnexported files line Replied why
IsEnded files line left left' replies replies' Stopped Replied CannotWrite = IsBeforeOrAfter files line replies replies' Replied ⊎ OverSources files line Stopped
IsEnded files line left left' replies replies' Stopped Replied NoMemory = IsBeforeOrAfter files line replies replies' Replied
IsEnded files line left left' replies replies' Stopped Replied _ = ⊥

-- why the program exits with requests in a list
abbrev pub IsBatchEnded : RunFiles → Accepted → (left left' replies replies' : Option (List ℕ)) → Fault → Type 0
IsBatchEnded files line left left' replies replies' fault = IsEnded files line left left' replies replies' (AreStopped files line left replies replies') (AreReplied files line left replies replies') fault

-- why it exits after these requests were read, whatever was left of the input before and after that
abbrev pub IsEndedOver : RunFiles → Accepted → (requests : List ℕ) → (replies replies' : Option (List ℕ)) → Fault → Type 0
IsEndedOver files line requests replies replies' fault =
    (left : Option (List ℕ)) → (left' : Option (List ℕ)) → AreRequests files.contents line.words.requests.now left requests → IsBatchEnded files line left left' replies replies' fault

-- these requests were answered over the files of these bytes, and then what a command line asks for was saved
abbrev pub IsFinished : RunFiles → Accepted → (tables : TableEntries) → (sources : List (List ℕ)) → (requests : List ℕ) → (replies replies' : Option (List ℕ)) → (new : SessionState) → Type 0
IsFinished files line tables sources requests replies replies' new =
    (end : SessionState) × IsReplied (files.out line.words.frames.now) tables sources requests replies replies' end × AreSaved files.saved line.words end new

-- Requests that are answered as they come. `given` is what their reader gives, if it is known.

-- the reader of the requests with this name: the input if they are not named
abbrev pub IsInput : Contents → (requests : List ℕ) → (left given : Option (List ℕ)) → Type 0
IsInput contents requests left given = (requests ≡ codes "-" → given ≡ left) × (requests ≢ codes "-" → IfSome (contents.known requests) (λ there. given ≡ Some there))

-- all lines that the reader gave were answered over the files of these bytes with these replies, and the file for the frames gained the frames
pub record IsLiveReplied (out : Gained) (tables : TableEntries) (sources : List (List ℕ)) (given replies replies' : Option (List ℕ)) (end : SessionState) : Type 0 where
  pub given' : Option (List ℕ)
  pub frames : Option (List ℕ)
  pub frames' : Option (List ℕ)
  pub gained : out frames frames'
  pub means : LiveMeans tables sources given given' frames frames' replies replies' end

-- the lines of the requests of a command line were answered over the files of these bytes, with the frames in OUT
abbrev pub AreLiveReplied : RunFiles → Accepted → (left replies replies' : Option (List ℕ)) → SessionState → (tables : TableEntries) → (sources : List (List ℕ)) → Type 0
AreLiveReplied files line left replies replies' end tables sources =
    (given : Option (List ℕ)) × IsInput files.contents line.words.requests.now left given × IsLiveReplied (files.out line.words.frames.now) tables sources given replies replies' end

-- the lines before one that the reader did not give whole were answered over the files of these bytes with these replies
pub record IsInterrupted (tables : TableEntries) (sources : List (List ℕ)) (given replies replies' : Option (List ℕ)) (fault : LiveFault) : Type 0 where
  pub files : List Stream
  pub are : AreStreams sources files
  pub given' : Option (List ℕ)
  pub frames : Option (List ℕ)
  pub frames' : Option (List ℕ)
  pub cut : CutsOff (start tables files) given given' frames frames' replies replies' fault

-- a writer returned an error: no line was read after the one whose answer it refused; or all were answered, and the frames were not flushed
abbrev pub IsLiveUnwritten : (tables : TableEntries) → (sources : List (List ℕ)) → (given given' frames frames' replies replies' : Option (List ℕ)) → Type 0
IsLiveUnwritten tables sources given given' frames frames' replies replies' =
    LiveStops tables sources given given' frames frames' replies replies' lives.Write ⊎ ((end : SessionState) × LiveMeans tables sources given given' frames frames' replies replies' end)

-- it did, and it is not known where the frames went
pub record IsLiveStopped (tables : TableEntries) (sources : List (List ℕ)) (given replies replies' : Option (List ℕ)) : Type 0 where
  pub given' : Option (List ℕ)
  pub frames : Option (List ℕ)
  pub frames' : Option (List ℕ)
  pub unwritten : IsLiveUnwritten tables sources given given' frames frames' replies replies'

-- why not all lines were answered, if it is not known where frames went
abbrev pub IsLiveFault : (tables : TableEntries) → (sources : List (List ℕ)) → (given replies replies' : Option (List ℕ)) → LiveFault → Type 0
IsLiveFault tables sources given replies replies' (lives.Source source fault) = SourceRefuses sources source fault × Keeps replies replies'
IsLiveFault tables sources given replies replies' lives.Write = Keeps replies replies' ⊎ IsLiveStopped tables sources given replies replies'
IsLiveFault tables sources given replies replies' lives.NoMemory = Keeps replies replies'
IsLiveFault tables sources given replies replies' fault = IsInterrupted tables sources given replies replies' fault

-- a live run's error as the program's, with the path that the user gave for the requests
abbrev pub fault_by_live : Bor (List ℕ) → LiveFault → Fault
fault_by_live path (lives.Source source fault) = Input source fault
fault_by_live path lives.Read = CannotRead path
fault_by_live path lives.TooLong = TooLong path
fault_by_live path lives.Endless = TooLong path
fault_by_live path lives.Write = CannotWrite
fault_by_live path lives.NoMemory = NoMemory

-- the requests of a command line were interrupted
pub record IsCutShort (files : RunFiles) (line : Accepted) (tables : TableEntries) (sources : List (List ℕ)) (left replies replies' : Option (List ℕ)) (fault : Fault) : Type 0 where
  pub path : Bor (List ℕ)
  pub is_theirs : path.now ≡ line.words.requests.now
  pub why : LiveFault
  pub reported : fault ≡ fault_by_live path why
  pub given : Option (List ℕ)
  pub input : IsInput files.contents line.words.requests.now left given
  pub interrupted : IsInterrupted tables sources given replies replies' why

-- the file of the requests could not be opened, and no reply was written
abbrev pub IsUnopened : RunFiles → Accepted → (replies replies' : Option (List ℕ)) → Fault → Type 0
IsUnopened files line replies replies' (CannotRead path) = (path.now ≡ line.words.requests.now) × (files.contents.known path.now ≡ None) × (replies' ≡ replies)
IsUnopened files line replies replies' _ = ⊥

-- a writer stopped the answers to the lines of the requests of a command line
abbrev pub AreLiveStopped : RunFiles → Accepted → (left replies replies' : Option (List ℕ)) → (tables : TableEntries) → (sources : List (List ℕ)) → Type 0
AreLiveStopped files line left replies replies' tables sources =
    (given : Option (List ℕ)) × IsInput files.contents line.words.requests.now left given × IsLiveStopped tables sources given replies replies'

-- why not all requests of a command line were answered: as for requests in a list, or they were interrupted
abbrev pub IsLiveRefused : RunFiles → Accepted → (tables : TableEntries) → (sources : List (List ℕ)) → (left replies replies' : Option (List ℕ)) → Fault → Type 0
IsLiveRefused files line tables sources left replies replies' fault =
    IsUnreplied sources (AreLiveStopped files line left replies replies' tables sources) replies replies' fault
    ⊎ IsUnopened files line replies replies' fault
    ⊎ IsCutShort files line tables sources left replies replies' fault

-- the lines of the requests of a command line were answered over the files of these bytes, and then what it asks for was saved
abbrev pub IsLiveFinished : RunFiles → Accepted → (tables : TableEntries) → (sources : List (List ℕ)) → (left replies replies' : Option (List ℕ)) → (new : SessionState) → Type 0
IsLiveFinished files line tables sources left replies replies' new =
    (end : SessionState) × AreLiveReplied files line left replies replies' end tables sources × AreSaved files.saved line.words end new

-- why that was not done: the lines were not all answered; or no reply was written, and nothing can be saved; or all lines were answered, and then nothing
-- was saved, or the frames were not exported
abbrev pub IsUnfinished : RunFiles → Accepted → (tables : TableEntries) → (sources : List (List ℕ)) → (left replies replies' : Option (List ℕ)) → Fault → Type 0
IsUnfinished files line tables sources left replies replies' fault =
    IsLiveRefused files line tables sources left replies replies' fault
    ⊎ (IsSaveFault fault × Keeps replies replies')
    ⊎ ((end : SessionState) × AreLiveReplied files line left replies replies' end tables sources × (IsSaveFault fault ⊎ IsExportFault end fault))

-- why the program exits with requests that come one after another: as for requests in a list, or the requests were interrupted, and the lines before
-- that were answered
abbrev pub IsLiveEnded : RunFiles → Accepted → (left left' replies replies' : Option (List ℕ)) → Fault → Type 0
IsLiveEnded files line left left' replies replies' fault =
    IsEnded files line left left' replies replies' (AreLiveStopped files line left replies replies') (AreLiveReplied files line left replies replies') fault
    ⊎ OverSources files line (λ tables sources. IsCutShort files line tables sources left replies replies' fault)
