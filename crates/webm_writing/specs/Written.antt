-- A written file: the header, and a Segment with an index of its parts, the parts, the clusters and an index of the clusters (RFC 9559, sections 5 and 6).
use Rattle.std.specs.Prelude.{ℕ, zero, suc, ◌+◌, ◌-◌, ◌*◌, ◌^◌, ◌||◌, Bool, not, nat_lt, if◌then◌else◌, List, [], ◌∷◌, ◌++◌, length, take, drop, map, codes, sum_by}
use Rattle.std.specs.List.{flat_map, prefix_len}
use Rattle.byteorder.specs.Endian.{big_bytes}
use Rattle.webm_files.specs.declared.ids.TheConstants.{CLUSTER, DOC_TYPE, EBML, SEGMENT, SIMPLE_BLOCK, TIMESTAMP}
use Rattle.webm_writing.specs.declared.samples.Part.{Part}
use Rattle.webm_writing.specs.declared.samples.Sample.{Sample}
use Rattle.webm_writing.specs.Pieces.{Piece, piece_text, text_of}

-- an element with its content, and one whose content are these pieces after it
abbrev pub whole : ℕ → ℕ → List ℕ → Piece
whole id width content = record { id = id; width = width; size = length content; marks = 4; content = content }

abbrev pub opened : ℕ → List Piece → List Piece
opened id pieces = record { id = id; width = 4; size = length (text_of pieces); marks = 8; content = [] } ∷ pieces

-- an element in the content of another one
abbrev pub child : ℕ → ℕ → List ℕ → List ℕ
child id width content = piece_text (whole id width content)

-- the header of a file: names of at most 4 bytes, lengths of at most 8, WebM of version 4 that a reader of version 2 can read
abbrev pub header : Piece
header = whole EBML 4 (
    child 0x4286 2 (1 ∷ []) ++ child 0x42F7 2 (1 ∷ []) ++ child 0x42F2 2 (4 ∷ []) ++ child 0x42F3 2 (8 ∷ []) ++ child DOC_TYPE 2 (codes "webm") ++ child 0x4287 2 (4 ∷ []) ++ child 0x4285 2 (2 ∷ [])
    )

abbrev pub part_piece : Part → Piece
part_piece part = whole part.id 4 part.content

-- a sample begins a cluster if decoding can begin there, or if its time is before that of the cluster, or more than `most` after it
abbrev pub begins : ℕ → ℕ → Sample → Bool
begins most base sample = sample.is_key || (nat_lt sample.stamp base || nat_lt (base + most) sample.stamp)

-- the samples of each cluster
abbrev pub groups_up_to : ℕ → ℕ → List Sample → List (List Sample)
groups_up_to zero most samples = []
groups_up_to (suc n) most [] = []
groups_up_to (suc n) most (sample ∷ samples) =
    let stay = prefix_len (λ next. not (begins most sample.stamp next)) samples in (sample ∷ take stay samples) ∷ groups_up_to n most (drop stay samples)

abbrev pub groups : ℕ → List Sample → List (List Sample)
groups most samples = groups_up_to (length samples) most samples

-- a block: the track, the time after that of its cluster, bit 7 of the flags for a packet at which decoding can begin, and the packet. It has a length of 8 bytes if 4 do not do.
abbrev pub block_content : ℕ → Sample → List ℕ
block_content base sample = (128 + sample.track) ∷ (big_bytes 2 (sample.stamp - base) ++ (if sample.is_key then 128 else 0) ∷ sample.bytes)

abbrev pub block_marks : ℕ → ℕ
block_marks size = if nat_lt (size + 1) 268435456 then 4 else 8

abbrev pub block_length : ℕ → List ℕ
block_length size = big_bytes (block_marks size) (128 ^ block_marks size + size)

abbrev pub block_piece : ℕ → Sample → Piece
block_piece base sample = let content = block_content base sample in record { id = SIMPLE_BLOCK; width = 1; size = length content; marks = block_marks (length content); content = content }

-- the bytes of a block
abbrev pub block_bytes : Sample → ℕ
block_bytes sample = let size = 4 + length sample.bytes in 1 + block_marks size + size

-- a cluster has the time of its first sample
abbrev pub cluster_pieces : List Sample → List Piece
cluster_pieces [] = []
cluster_pieces (sample ∷ samples) = opened CLUSTER (whole TIMESTAMP 1 (big_bytes 8 sample.stamp) ∷ map (block_piece sample.stamp) (sample ∷ samples))

-- the bytes of the content of a cluster: 13 of its time, and its blocks
abbrev pub cluster_bytes : List Sample → ℕ
cluster_bytes samples = 13 + sum_by block_bytes samples

-- the clusters of samples
abbrev pub clusters_in : ℕ → List Sample → List Piece
clusters_in most samples = flat_map cluster_pieces (groups most samples)

-- the index of clusters at which decoding can begin: the time and the position of each, counted from the start of the content of the Segment
abbrev pub cue : ℕ → ℕ → ℕ → List ℕ
cue track stamp at = child 0xBB 1 (child 0xB3 1 (big_bytes 8 stamp) ++ child 0xB7 1 (child 0xF7 1 (track ∷ []) ++ child 0xF1 1 (big_bytes 8 at)))

abbrev pub cue_of : ℕ → List Sample → List ℕ
cue_of at [] = []
cue_of at (sample ∷ samples) = if sample.is_key then cue sample.track sample.stamp at else []

abbrev pub cues_from : ℕ → List (List Sample) → List ℕ
cues_from at [] = []
cues_from at (group ∷ more) = cue_of at group ++ cues_from (at + length (text_of (cluster_pieces group))) more

-- the index of the parts: the name and the position of each
abbrev pub seek : ℕ → ℕ → List ℕ
seek id at = child 0x4DBB 2 (child 0x53AB 2 (big_bytes 4 id) ++ child 0x53AC 2 (big_bytes 8 at))

abbrev pub seeks_from : ℕ → List Piece → List ℕ
seeks_from at [] = []
seeks_from at (piece ∷ pieces) = seek piece.id at ++ seeks_from (at + length (piece_text piece)) pieces

-- what is written: parts, samples in the order in which they are written, and how long a cluster may be
pub record Written : Type 0 where
  pub parts : List Part
  pub most : ℕ
  pub samples : List Sample

-- the bytes of the index of so many parts, which come before them: 30 for each, and its head
abbrev pub index_size : ℕ → ℕ
index_size count = 8 + 30 * count

abbrev pub clusters_of : Written → List Piece
clusters_of file = clusters_in file.most file.samples

abbrev pub cues_piece : ℕ → Written → Piece
cues_piece at file = whole 0x1C53BB6B 4 (cues_from at (groups file.most file.samples))

-- the content of the Segment: parts begin after their index, clusters after the parts, cues after the clusters
abbrev pub segment : Written → List Piece
segment file =
    let parts = map part_piece file.parts in
    let first = index_size (length file.parts + 1) in
    let clusters = first + length (text_of parts) in
    let cues = cues_piece clusters file in
    let seeks = seeks_from first parts ++ seek cues.id (clusters + length (text_of (clusters_of file))) in
    whole 0x114D9B74 4 seeks ∷ parts ++ clusters_of file ++ cues ∷ []

abbrev pub pieces_of : Written → List Piece
pieces_of file = header ∷ opened SEGMENT (segment file)

abbrev pub webm_text : Written → List ℕ
webm_text file = text_of (pieces_of file)
