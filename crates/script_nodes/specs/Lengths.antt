-- The number of frames of each node.
use Rattle.std.specs.Prelude.{◌≡◌, ℕ, ◌+◌, ◌-◌, ◌<◌, min, Bool, nat_le, nat_lt, if◌then◌else◌, List, [], ◌∷◌, ◌++◌, length, slice_index}
use Rattle.std.specs.List.{All}
use Rattle.script_nodes.specs.declared.part_list.Part.{Part}
use Rattle.script_nodes.specs.declared.nodes.Node.{Node}
use Rattle.script_nodes.specs.declared.nodes.Node.TheVariants.{Source, Trim, Splice, Crop, Fade, Parts}
use Rattle.script_nodes.specs.PartLists.{most_frames, too_many}

-- a value for each node in sequence, computed from the values of the nodes below it
abbrev pub built : {B : Type 0} → (List B → Node → B) → List B → List Node → List B
built make below [] = below
built make below (node ∷ nodes) = built make (below ++ make below node ∷ []) nodes

-- the number of frames of a part, given those of the clips below its node: fewer than its count if its clip ends before
abbrev pub part_length : List ℕ → Part → ℕ
part_length below part = min part.count (slice_index below part.clip - part.first)

-- the number of frames of parts, one after the other
abbrev pub parts_length : List ℕ → List Part → ℕ
parts_length below [] = 0
parts_length below (part ∷ parts) = part_length below part + parts_length below parts

-- the number of frames of a node, given the number of frames of each source, and of the clips below the node, source 0 first
abbrev pub node_length : List ℕ → List ℕ → Node → ℕ
node_length counts below (Source number) = slice_index counts number
node_length counts below (Trim clip first count) = min count (slice_index below clip - first)
node_length counts below (Splice front back) = slice_index below front + slice_index below back
node_length counts below (Crop clip area) = slice_index below clip
node_length counts below (Fade clip ramp) = slice_index below clip
node_length counts below (Parts parts) = parts_length below parts

-- the number of frames of source 0, and then of each node, given the number of frames of each source: 0 for a source that is not in the list
abbrev pub lengths : List ℕ → List Node → List ℕ
lengths counts nodes = built (node_length counts) (slice_index counts 0 ∷ []) nodes

-- the number of frames of the last node, or of source 0 if there is none
abbrev pub script_length : List ℕ → List Node → ℕ
script_length counts nodes = slice_index (lengths counts nodes) (length nodes)

-- ---- the most frames of a script, over sources of 1,048,576 frames

-- of parts, given those of the clips below their node: each has at most its count, and at most the frames of its clip
abbrev pub parts_most : List ℕ → List Part → ℕ
parts_most below [] = 0
parts_most below (part ∷ parts) = min part.count (slice_index below part.clip) + parts_most below parts

-- of a node, given those of the clips below it
abbrev pub node_most : List ℕ → Node → ℕ
node_most below (Source number) = 1048576
node_most below (Trim clip first count) = min count (slice_index below clip)
node_most below (Splice front back) = slice_index below front + slice_index below back
node_most below (Crop clip area) = slice_index below clip
node_most below (Fade clip ramp) = slice_index below clip
node_most below (Parts parts) = parts_most below parts

-- of source 0, and then of each node, counted up to 68,719,476,737
abbrev pub most_lengths : List Node → List ℕ
most_lengths nodes = built (λ below node. min too_many (node_most below node)) (1048576 ∷ []) nodes

-- whether a clip of a script may have this many frames
abbrev pub is_length : ℕ → Bool
is_length n = nat_le n most_frames

-- ---- parts

-- the clip of a part has a number below this one
abbrev pub has_clip : ℕ → Part → Type 0
has_clip own part = part.clip < own

-- the clip and its frame that are frame i of parts
abbrev pub place_in : List ℕ → List Part → ℕ → ℕ × ℕ
place_in below [] i = (0, i)
place_in below (part ∷ parts) i =
    if nat_lt i (part_length below part) then (part.clip, part.first + i)
    else place_in below parts (i - part_length below part)

-- no part is cut short
abbrev pub AreWhole : List ℕ → List Part → Type 0
AreWhole below parts = All (λ part. part_length below part ≡ part.count) parts
