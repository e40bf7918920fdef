-- Which command lines are accepted.
use Rattle.std.specs.Prelude.{◌≡◌, ◌≢◌, ◌⊎◌, ℕ, ◌<◌, ◌≤◌, ◌==◌, Bool, true, false, ◌&&◌, is_none, nat_eq, List, [], ◌∷◌, ◌++◌, length, map, All, Contains, IsSome, Option, Some, None, option_map, codes, if◌then◌else◌}
use Rattle.std.specs.Cmp.Lexicographic.{pointwise}
use Rattle.std.specs.Borrow.{Bor}
use Rattle.std.specs.List.{slice_split, starts_with}
use Rattle.serve_arguments.specs.Capacities.{capacity_given}
use Rattle.serve_arguments.specs.declared.capacities.Capacity.{Capacity}
use Rattle.serve_arguments.specs.declared.files.Argument.{Argument}
use Rattle.serve_arguments.specs.declared.files.Argument.TheVariants.{In, Sources, Requests, Out, Tables, Save, Export, Replies, Errors}
use Rattle.serve_arguments.specs.declared.files.Named.{Named}
use Rattle.serve_arguments.specs.declared.files.SameFile.{SameFile}
use Rattle.serve_arguments.specs.declared.fault.Fault.{Fault}
use Rattle.serve_arguments.specs.declared.fault.Fault.TheVariants as faults
use Rattle.serve_arguments.specs.declared.fault.Mistake.{Mistake}
use Rattle.serve_arguments.specs.declared.fault.Mistake.TheVariants as mistakes
use Rattle.serve_arguments.specs.declared.words.Accepted.{Accepted}
use Rattle.serve_arguments.specs.declared.words.Words.{Words}

abbrev pub names_of : List (Bor (List ℕ)) → List (List ℕ)
names_of paths = map (λ path. path.now) paths

-- the paths of a list, which `:` separates; without a list there are none
abbrev pub paths_in : Option (List ℕ) → List (List ℕ)
paths_in None = []
paths_in (Some list) = slice_split (λ b. b == 58) list

-- the paths of `--sources`: source 1 is the first
abbrev pub more_paths : Words → List (List ℕ)
more_paths words = paths_in (option_map (λ list. list.now) words.sources)

-- the paths are those of sources 1 to 7
pub record ArePaths (paths : List (List ℕ)) : Type 0 where
  pub few : length paths ≤ 7
  pub named : All (λ path. path ≢ []) paths

-- there are too many paths, or one is empty
abbrev pub AreNoPaths : List (List ℕ) → Type 0
AreNoPaths paths = (7 < length paths) ⊎ Contains paths []

-- the name of an argument in help
abbrev pub argument_name : Argument → List ℕ
argument_name In = codes "IN"
argument_name Sources = codes "--sources"
argument_name Requests = codes "REQUESTS"
argument_name Out = codes "OUT"
argument_name Tables = codes "--tables"
argument_name Save = codes "--save"
argument_name Export = codes "--export"
argument_name Replies = codes "standard output"
argument_name Errors = codes "standard error"

-- an argument, and the path of the file that it names, if it names one
abbrev pub NamedFile : Type 0
NamedFile = Argument × Option (List ℕ)

abbrev pub named_file : Named → NamedFile
named_file named = (named.argument, option_map (λ path. path.now) named.path)

-- whether a path is a device's, for example `/dev/null` or `/dev/fd/3`
abbrev pub is_device : List ℕ → Bool
is_device path = starts_with nat_eq path (codes "/dev/")

-- the file that an argument names: `-` names none
abbrev pub file_of : List ℕ → Option (List ℕ)
file_of word = if pointwise nat_eq word (codes "-") then None else Some word

-- the file of a path of `--sources`
abbrev pub source_file : List ℕ → NamedFile
source_file path = (Sources, file_of path)

-- the arguments whose files are only read, with these paths of `--sources`
abbrev pub read_files : Words → List (List ℕ) → List NamedFile
read_files words more =
    ((In, file_of words.stream.now) ∷ (Requests, file_of words.requests.now) ∷ (Tables, option_map (λ path. path.now) words.tables) ∷ []) ++ map source_file more

-- the arguments whose files are read, and must not be saved or exported: IN and the sources may be, since they are read before
abbrev pub kept_files : Words → List NamedFile
kept_files words = (Requests, file_of words.requests.now) ∷ (Tables, option_map (λ path. path.now) words.tables) ∷ []

-- the arguments whose files are written
abbrev pub out_file : Words → NamedFile
out_file words = (Out, file_of words.frames.now)

abbrev pub saved_file : Words → NamedFile
saved_file words = (Save, option_map (λ path. path.now) words.saved)

abbrev pub exported_file : Words → NamedFile
exported_file words = (Export, option_map (λ path. path.now) words.exported)

-- standard input, if the requests are not named
abbrev pub input_file : Words → NamedFile
input_file words = (Requests, if pointwise nat_eq words.requests.now (codes "-") then Some (codes "/dev/stdin") else None)

-- the files besides those that are only read
abbrev pub standard_files : Words → List NamedFile
standard_files words =
    input_file words ∷ out_file words ∷ (Replies, Some (codes "/dev/stdout")) ∷ (Errors, Some (codes "/dev/stderr")) ∷ saved_file words ∷ exported_file words ∷ []

-- all files of a command line with these paths of `--sources`, in the order in which an error names them
abbrev pub placed_files : Words → List (List ℕ) → List NamedFile
placed_files words more = read_files words more ++ standard_files words

-- a file that is written is none of these others; a device may be named twice
abbrev pub IsApart : NamedFile → List NamedFile → Type 0
IsApart written others = (path : List ℕ) → written.1 ≡ Some path → is_device path ≡ false → All (λ other. other.1 ≢ Some path) others

-- two arguments that name one file, which is written for the first and is not a device
pub record IsSameFile (written : NamedFile) (others : List NamedFile) (one : SameFile) : Type 0 where
  pub argument : written.0 ≡ one.written
  pub path : written.1 ≡ Some one.path.now
  pub other : Contains others (one.other, Some one.path.now)
  pub is_no_device : is_device one.path.now ≡ false

-- the file for the frames is none of these, which are read, the saved and the exported file are not the requests' or the tables', and the three
-- are three
pub record AreApart (words : Words) (read : List NamedFile) : Type 0 where
  pub out : IsApart (out_file words) read
  pub saved : IsApart (saved_file words) (kept_files words)
  pub both : IsApart (saved_file words) (out_file words ∷ [])
  pub exported : IsApart (exported_file words) (kept_files words)
  pub all : IsApart (exported_file words) (out_file words ∷ saved_file words ∷ [])

-- a file that is written is named twice, if these are read
abbrev pub IsNamedTwice : Words → List NamedFile → SameFile → Type 0
IsNamedTwice words read one =
    IsSameFile (out_file words) read one
    ⊎ IsSameFile (saved_file words) (kept_files words) one
    ⊎ IsSameFile (saved_file words) (out_file words ∷ []) one
    ⊎ IsSameFile (exported_file words) (kept_files words) one
    ⊎ IsSameFile (exported_file words) (out_file words ∷ saved_file words ∷ []) one

-- why the files are not apart
abbrev pub IsFileFault : Words → List NamedFile → Fault → Type 0
IsFileFault words read (faults.NamedTwice same) = IsNamedTwice words read same
IsFileFault words read faults.NoMemory = Unit {0}
IsFileFault words read _ = ⊥

-- the capacity of the values of `--cache` and `--cache-bytes`
abbrev pub capacity_asked : Words → Option Capacity
capacity_asked words = capacity_given words.cache (option_map (λ size. size.now) words.cache_bytes)

-- packets are to be padded, but neither saved nor exported
abbrev pub pads_nothing : Words → Bool
pads_nothing words = words.pads && is_none words.saved && is_none words.exported

-- packets are to get new time stamps, but not saved
abbrev pub restamps_nothing : Words → Bool
restamps_nothing words = words.restamps && is_none words.saved

-- the command line is accepted, with this capacity and these paths of sources
pub record IsAccepted (given : Words) (line : Accepted) : Type 0 where
  pub words : line.words ≡ given
  pub capacity : capacity_asked given ≡ Some line.capacity
  pub pads : pads_nothing given ≡ false
  pub restamps : restamps_nothing given ≡ false
  pub more : names_of line.more.items ≡ more_paths given
  pub paths : ArePaths (more_paths given)
  pub apart : AreApart given (read_files given (more_paths given))

-- the names of the sources of an accepted command line: IN, and then the paths of `--sources`
abbrev pub source_names : Accepted → List (List ℕ)
source_names line = line.words.stream.now ∷ names_of line.more.items

-- the name of the file of the tables, if there is one
abbrev pub tables_name : Accepted → Option (List ℕ)
tables_name line = option_map (λ path. path.now) line.words.tables

-- this is the first mistake that the values of the arguments have: of the cache, then of `--pad`, of `--restamp` and of the sources
abbrev pub IsFirstMistake : Words → Mistake → Type 0
IsFirstMistake words mistakes.Arguments = ⊥
IsFirstMistake words mistakes.Cache = capacity_asked words ≡ None
IsFirstMistake words mistakes.Pad = IsSome (capacity_asked words) × (pads_nothing words ≡ true)
IsFirstMistake words mistakes.Restamp = IsSome (capacity_asked words) × (pads_nothing words ≡ false) × (restamps_nothing words ≡ true)
IsFirstMistake words mistakes.Sources =
    IsSome (capacity_asked words) × (pads_nothing words ≡ false) × (restamps_nothing words ≡ false) × AreNoPaths (more_paths words)

-- why the command line is not accepted
abbrev pub IsMistake : Words → Fault → Type 0
IsMistake words (faults.CommandLine mistake) = IsFirstMistake words mistake
IsMistake words (faults.NamedTwice same) = IsNamedTwice words (read_files words (more_paths words)) same
IsMistake words faults.NoMemory = Unit {0}
IsMistake words _ = ⊥
