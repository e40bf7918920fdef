-- When a file that is written is the file of another argument, by what is at the paths.
use Rattle.std.specs.Prelude.{◌≡◌, ℕ, ◌<◌, Bool, true, false, not, ◌&&◌, is_some, List, [], ◌∷◌, length, take, slice_index_or, filter, map, Option, Some, None, option_map}
use Rattle.std.specs.List.{All}
use Rattle.output_files.specs.Places.{IsPlaceSaid, KnownPlaces, Spot, is_null, is_one_file, is_same_place, spot_of}
use Rattle.serve_arguments.specs.CommandLines.{NamedFile, names_of, placed_files}
use Rattle.serve_arguments.specs.declared.fault.Fault.{Fault}
use Rattle.serve_arguments.specs.declared.fault.Fault.TheVariants as faults
use Rattle.serve_arguments.specs.declared.files.Argument.{Argument}
use Rattle.serve_arguments.specs.declared.files.Argument.TheVariants.{In, Sources, Requests, Out, Tables, Save, Export, Replies, Errors}
use Rattle.serve_arguments.specs.declared.files.SameFile.{SameFile}
use Rattle.serve_arguments.specs.declared.located.Located.{Located}
use Rattle.serve_arguments.specs.declared.words.Accepted.{Accepted}

-- a file with its argument and path, and whether a file has a path
abbrev pub located_file : Located → NamedFile
located_file file = (file.argument, Some file.path.now)

abbrev pub has_path : NamedFile → Bool
has_path file = is_some file.1

-- OUT must not be the file of such an argument
abbrev pub is_kept_from_out : Argument → Bool
is_kept_from_out In = true
is_kept_from_out Sources = true
is_kept_from_out Requests = true
is_kept_from_out Out = false
is_kept_from_out Tables = true
is_kept_from_out Save = false
is_kept_from_out Export = false
is_kept_from_out Replies = true
is_kept_from_out Errors = true

-- the file of `--save` must not be that of such an argument; it may be a source's, which is read before
abbrev pub is_kept_from_save : Argument → Bool
is_kept_from_save In = false
is_kept_from_save Sources = false
is_kept_from_save Requests = true
is_kept_from_save Out = true
is_kept_from_save Tables = true
is_kept_from_save Save = false
is_kept_from_save Export = false
is_kept_from_save Replies = true
is_kept_from_save Errors = true

-- the file of `--export` must not be that of such an argument; it may be a source's, which is read before
abbrev pub is_kept_from_export : Argument → Bool
is_kept_from_export In = false
is_kept_from_export Sources = false
is_kept_from_export Requests = true
is_kept_from_export Out = true
is_kept_from_export Tables = true
is_kept_from_export Save = true
is_kept_from_export Export = false
is_kept_from_export Replies = true
is_kept_from_export Errors = true

-- the first is written, and must not be the second's file
abbrev pub is_kept_from : Argument → Argument → Bool
is_kept_from Out other = is_kept_from_out other
is_kept_from Save other = is_kept_from_save other
is_kept_from Export other = is_kept_from_export other
is_kept_from In other = false
is_kept_from Sources other = false
is_kept_from Requests other = false
is_kept_from Tables other = false
is_kept_from Replies other = false
is_kept_from Errors other = false

-- a standard stream is written over: both are one place, which does not drop what it is given
abbrev pub is_among : Spot → Spot → Bool
is_among written place = not (is_null written) && is_same_place written place

-- writing at the first place changes what the argument has at the second
abbrev pub is_over : Argument → Spot → Spot → Bool
is_over Replies written place = is_among written place
is_over Errors written place = is_among written place
is_over In written place = is_one_file written place
is_over Sources written place = is_one_file written place
is_over Requests written place = is_one_file written place
is_over Out written place = is_one_file written place
is_over Tables written place = is_one_file written place
is_over Save written place = is_one_file written place
is_over Export written place = is_one_file written place

-- so by what the system said of the two places; of a place that is not there it said nothing
abbrev pub is_clash_at : Argument → Argument → Option Spot → Option Spot → Bool
is_clash_at written other None theirs = false
is_clash_at written other (Some place) None = false
is_clash_at written other (Some place) (Some theirs) = is_kept_from written other && is_over other place theirs

-- what the system said of a file
abbrev pub said_of : Located → Option Spot
said_of file = option_map spot_of file.place

abbrev pub is_clash : Located → Located → Bool
is_clash written other = is_clash_at written.argument other.argument (said_of written) (said_of other)

-- a file is none of these that it must not be
abbrev pub IsApartFrom : Located → List Located → Type 0
IsApartFrom written others = All (λ other. is_clash written other ≡ false) others

-- no file is one that it must not be
abbrev pub AreSeparate : List Located → Type 0
AreSeparate files = All (λ written. IsApartFrom written files) files

-- an error names two files that are one, and the path of the first
pub record Names (written other : Located) (one : SameFile) : Type 0 where
  pub written_is : one.written ≡ written.argument
  pub other_is : one.other ≡ other.argument
  pub path_is : one.path.now ≡ written.path.now

-- a file is one of these that it must not be, and the error names the first of them
pub record IsClash (written : Located) (others : List Located) (one : SameFile) : Type 0 where
  pub at : ℕ
  pub within : at < length others
  pub other : Located
  pub is_there : slice_index_or others at other ≡ other
  pub clash : is_clash written other ≡ true
  pub first : IsApartFrom written (take at others)
  pub names : Names written other one

-- the error names the first of these files that is one that it must not be
pub record IsClashAmong (files : List Located) (one : SameFile) : Type 0 where
  pub at : ℕ
  pub within : at < length files
  pub written : Located
  pub is_there : slice_index_or files at written ≡ written
  pub clash : IsClash written files one
  pub first : All (λ written. IsApartFrom written files) (take at files)

-- what the system said of these files is what it says of their paths, where that is known
abbrev pub AreSaid : KnownPlaces → List Located → Type 0
AreSaid known files = All (λ file. IsPlaceSaid known file.path.now (said_of file)) files

-- the files of a command line that have a path, with what the system says of each
pub record ArePlaced (known : KnownPlaces) (line : Accepted) (Are : List Located → Type 0) : Type 0 where
  pub files : List Located
  pub asked : map located_file files ≡ filter has_path (placed_files line.words (names_of line.more.items))
  pub said : AreSaid known files
  pub are : Are files

-- why the files of a command line are not separate
abbrev pub IsPlaceFault : KnownPlaces → Accepted → Fault → Type 0
IsPlaceFault known line (faults.NamedTwice one) = ArePlaced known line (λ files. IsClashAmong files one)
IsPlaceFault known line faults.NoMemory = Unit {0}
IsPlaceFault known line _ = ⊥
