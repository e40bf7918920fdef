-- What follows from the definitions of this crate.
use Rattle.std.specs.Prelude.{◌≡◌, ℕ, ◌+◌, ◌<◌, List, [], ◌∷◌, ◌++◌, length, Option, None, Some, Ok, Err, codes}
use Rattle.pixel_planes.specs.Pictures.{PictureSamples, IsWholePicture, shown_plane}
use Rattle.pixel_planes.specs.declared.pictures.Component.{Component}
use Rattle.script_nodes.specs.declared.nodes.Ramp.{Ramp}
use Rattle.script_nodes.specs.declared.nodes.Node.{Node}
use Rattle.script_nodes.specs.declared.nodes.Node.TheVariants.{Source, Trim, Splice, Parts}
use Rattle.script_nodes.specs.declared.part_list.Part.{Part}
use Rattle.script_nodes.specs.declared.faults.ScriptFault.TheVariants.{Syntax, Nodes, Reference, Number}
use Rattle.script_nodes.specs.Nodes.{script_of}
use Rattle.script_nodes.specs.Lengths.{node_length, script_length}
use Rattle.script_nodes.specs.Frames.{node_frame, origin, with_step, script_frame, traced, weight_at}
use Rattle.script_nodes.specs.Shown.{Shown, Shows, IsFollowed, use_step, weighed}

-- a frame of a script is the frame that its trace names, with the steps of the trace applied, whatever each source shows
abbrev pub TracesAreFollowed : Type 0
TracesAreFollowed = (counts : List ℕ) (nodes : List Node) (i : ℕ) → IsFollowed counts nodes i (script_frame with_step origin counts nodes i)

-- frames 1 and 2 of three, followed by all three: frame 2 of the five is the source's first
abbrev pub WorkedTrim : Type 0
WorkedTrim =
    let nodes = Trim 0 1 2 ∷ Splice 1 0 ∷ [] in
    let counts = 3 ∷ [] in
    (script_of 1 (codes "trim 0 1 2; splice 1 0") ≡ Ok nodes) × (script_length counts nodes ≡ 5) × (traced counts nodes 2 ≡ Some (origin 0 0)) × (traced counts nodes 1 ≡ Some (origin 0 2)) × (traced counts nodes 5 ≡ None)

-- a source of two frames, followed by a source of three: frame 3 of the five is frame 1 of source 1
abbrev pub WorkedSources : Type 0
WorkedSources =
    let nodes = Source 1 ∷ Splice 0 1 ∷ [] in
    let counts = 2 ∷ 3 ∷ [] in
    (script_of 2 (codes "source 1; splice 0 1") ≡ Ok nodes) × (script_length counts nodes ≡ 5) × (traced counts nodes 1 ≡ Some (origin 0 1)) × (traced counts nodes 3 ≡ Some (origin 1 1)) × (traced counts nodes 5 ≡ None)

-- splices worked through, over one source and over two
abbrev pub WorkedSplice : Type 0
WorkedSplice = WorkedTrim × WorkedSources

abbrev pub part : ℕ → ℕ → ℕ → Part
part clip first count = record { clip = clip; first = first; count = count }

-- of a source of three frames: its last two, of which four are asked for; none; and its first. With one frame fewer, the last part has the second frame
abbrev pub WorkedParts : Type 0
WorkedParts =
    let nodes = Parts (part 0 1 4 ∷ part 0 2 0 ∷ part 0 0 1 ∷ []) ∷ [] in
    let three = 3 ∷ [] in
    let two = 2 ∷ [] in
    (script_of 1 (codes "parts 0 1 4 0 2 0 0 0 1") ≡ Ok nodes) × (script_length three nodes ≡ 3) × (traced three nodes 1 ≡ Some (origin 0 2)) × (traced three nodes 2 ≡ Some (origin 0 0)) × (traced three nodes 3 ≡ None) × (script_length two nodes ≡ 2) × (traced two nodes 1 ≡ Some (origin 0 0))

-- parts are the splices of trims: one or more parts are the trim of the first, spliced with the others
abbrev pub PartsAreSplices : Type 0
PartsAreSplices =
    (counts below : List ℕ) (sources : ℕ → ℕ → Option Shown) (clips : List (ℕ → Option Shown)) (first : Part) (others : List Part) (i : ℕ) → length clips ≡ length below →
    let trim = Trim first.clip first.first first.count in
    let more = below ++ node_length counts below trim ∷ node_length counts below (Parts others) ∷ [] in
    let more_clips = clips ++ node_frame use_step below sources clips trim ∷ node_frame use_step below sources clips (Parts others) ∷ [] in
    let splice = Splice (length below) (length below + 1) in
    (node_length counts below (Parts []) ≡ 0) × (node_length counts below (Parts (first ∷ others)) ≡ node_length counts more splice) × (node_frame use_step below sources clips (Parts (first ∷ others)) i ≡ node_frame use_step more sources more_clips splice i)

-- 16 nodes in a row
abbrev pub sixteen : List ℕ
sixteen =
    let four = codes "trim 0 0 1;trim 0 0 1;trim 0 0 1;trim 0 0 1" in
    four ++ 59 ∷ four ++ 59 ∷ four ++ 59 ∷ four

-- the errors of worked texts, each reported before the errors after it, wherever it is
abbrev pub WorkedFaults : Type 0
WorkedFaults =
    (script_of 1 (codes "-") ≡ Ok []) × (script_of 1 (codes "blur 0") ≡ Err Syntax) × (script_of 1 (codes "trim 1 0 1;") ≡ Err Syntax) × (script_of 1 (sixteen ++ codes ";trim 9 0 1") ≡ Err Nodes) × (script_of 1 (sixteen ++ codes ";blur 0") ≡ Err Syntax)
    × (script_of 1 (codes "crop 0 1 0 4 4;trim 2 0 1") ≡ Err Reference) × (script_of 1 (codes "trim 1 0 1") ≡ Err Reference) × (script_of 2 (codes "source 2") ≡ Err Reference) × (script_of 1 (codes "crop 0 1 0 4 4") ≡ Err Number) × (script_of 1 (codes "trim 0 0 4294967296") ≡ Err Number)

-- the errors of parts: no part, two words, a clip that does not exist, and a number that is too large
abbrev pub WorkedPartFaults : Type 0
WorkedPartFaults =
    (script_of 1 (codes "parts") ≡ Err Syntax) × (script_of 1 (codes "parts 0 0") ≡ Err Syntax) × (script_of 1 (codes "parts 0 0 1 0 0") ≡ Err Syntax) × (script_of 1 (codes "parts 1 0 4294967296") ≡ Err Reference) × (script_of 1 (codes "parts 0 0 1 0 4294967296 1") ≡ Err Number)

-- the whole weight keeps a sample, none leaves only black, and half of it takes the brightest luma to 126
abbrev pub WorkedWeights : Type 0
WorkedWeights = ((dark sample : ℕ) → weighed 256 dark sample ≡ sample) × ((dark sample : ℕ) → weighed 0 dark sample ≡ dark) × (weighed 128 16 235 ≡ 126)

-- a ramp begins with its first weight and ends with its last one
abbrev pub RampsMeetTheirEnds : Type 0
RampsMeetTheirEnds = (ramp : Ramp) → 0 < ramp.count → (weight_at ramp ramp.first ≡ ramp.start) × (weight_at ramp (ramp.first + ramp.count) ≡ ramp.end)

-- the samples of two pictures that show the same are the same
abbrev pub ShownSamplesAreSame : Type 0
ShownSamplesAreSame = (p q : PictureSamples) (shown : Shown) (component : Component) → IsWholePicture p → IsWholePicture q → Shows p shown → Shows q shown → shown_plane p component ≡ shown_plane q component
