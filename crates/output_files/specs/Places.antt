-- When two paths name one file.
use Rattle.std.specs.Prelude.{◌≡◌, ◌≢◌, ◌⊎◌, ℕ, ◌<◌, ◌-◌, Bool, true, false, ◌==◌, ◌&&◌, nat_eq, List, [], ◌++◌, codes, get_or, length, slice_get, string_bytes, IfSome, Option, Some}
use Rattle.std.specs.Cmp.Lexicographic.{pointwise}
use Rattle.output_files.specs.declared.places.Kind.{Kind}
use Rattle.output_files.specs.declared.places.Kind.TheVariants.{File, Device, Null}
use Rattle.output_files.specs.declared.places.Place.{Place}

-- what a path names: a device, an inode and a kind of file, and a name in a folder, which is empty for what is there
pub record Spot : Type 0 where
  pub device : ℕ
  pub inode : ℕ
  pub name : List ℕ
  pub kind : Kind

abbrev pub spot_of : Place → Spot
spot_of place = record { device = place.device; inode = place.inode; name = string_bytes place.name; kind = place.kind }

-- both have one device, one inode and one name
abbrev pub is_same_place : Spot → Spot → Bool
is_same_place a b = a.device == b.device && a.inode == b.inode && pointwise nat_eq a.name b.name

-- what is there is a file, and not a device
abbrev pub is_file : Kind → Bool
is_file File = true
is_file Device = false
is_file Null = false

-- both are one file, which is not a device
abbrev pub is_one_file : Spot → Spot → Bool
is_one_file a b = is_file a.kind && is_same_place a b

abbrev pub is_null_kind : Kind → Bool
is_null_kind File = false
is_null_kind Device = false
is_null_kind Null = true

-- what is there drops what it is given
abbrev pub is_null : Spot → Bool
is_null spot = is_null_kind spot.kind

-- what is known of paths: what each names, or that neither it nor its folder is there
abbrev pub KnownPlaces : Type 0
KnownPlaces = List ℕ → Option (Option Spot)

-- the system says this of a path, where that is known
abbrev pub IsPlaceSaid : KnownPlaces → (path : List ℕ) → Option Spot → Type 0
IsPlaceSaid known path spot = IfSome (known path) (λ there. spot ≡ there)

-- a name in a folder has no `/`
abbrev pub IsName : List ℕ → Type 0
IsName name = (k : ℕ) → k < length name → get_or name k 0 ≢ 47

-- what is before it in a path is empty or ends with `/`
abbrev pub IsFolderPart : List ℕ → Type 0
IsFolderPart folder = (folder ≡ []) ⊎ (slice_get folder (length folder - 1) ≡ Some 47)

-- the path of the folder of a path: `.` for a bare name, else the path up to its last `/`
abbrev pub IsFolderOf : (path folder : List ℕ) → Type 0
IsFolderOf path folder =
    (IsName path × (folder ≡ codes "."))
    ⊎ ((name : List ℕ) × (folder ++ name ≡ path) × (slice_get folder (length folder - 1) ≡ Some 47) × IsName name)
