-- The nodes of a text, and whether they are a script.
use Rattle.std.specs.Prelude.{ℕ, ◌+◌, ◌^◌, ◌%◌, Bool, true, false, List, [], ◌∷◌, Option, None, Some, Result, Ok, Err, ◌&&◌, ◌==◌, not, nat_lt, nat_le, if◌then◌else◌, length, codes}
use Rattle.std.specs.List.{list_all, slice_split}
use Rattle.std.specs.Str.{bytes_eq}
use Rattle.pixel_planes.specs.Pictures.{is_side}
use Rattle.script_nodes.specs.declared.nodes.Area.{Area}
use Rattle.script_nodes.specs.declared.nodes.Ramp.{Ramp}
use Rattle.script_nodes.specs.declared.nodes.Node.{Node}
use Rattle.script_nodes.specs.declared.nodes.Node.TheVariants.{Source, Trim, Splice, Crop, Fade, Parts}
use Rattle.script_nodes.specs.declared.part_list.Part.{Part}
use Rattle.script_nodes.specs.declared.faults.ScriptFault.{ScriptFault}
use Rattle.script_nodes.specs.declared.faults.ScriptFault.TheVariants.{Syntax, Nodes, Reference, Number}
use Rattle.script_nodes.specs.Lengths.{is_length, most_lengths}
use Rattle.text_words.specs.Words.{words_of, number_of, with_word, at_end}

-- ---- the text of a node

-- the number that a word of at most 10 digits writes
abbrev pub short_number_of : List ℕ → Option ℕ
short_number_of word = if nat_le (length word) 10 then number_of word else None

-- a node that continues with a short number, and with the words after it
abbrev pub with_short_number : (ℕ → List (List ℕ) → Option Node) → List (List ℕ) → Option Node
with_short_number next words = with_word None short_number_of next words

-- each kind of node, from the words after its name
abbrev pub source_by : List (List ℕ) → Option Node
source_by words = with_short_number (λ number. at_end None (Some (Source number))) words

abbrev pub trim_by : List (List ℕ) → Option Node
trim_by words = with_short_number (λ clip. with_short_number (λ first. with_short_number (λ count. at_end None (Some (Trim clip first count))))) words

abbrev pub splice_by : List (List ℕ) → Option Node
splice_by words = with_short_number (λ front. with_short_number (λ back. at_end None (Some (Splice front back)))) words

abbrev pub crop_by : List (List ℕ) → Option Node
crop_by words =
    with_short_number (λ clip. with_short_number (λ x. with_short_number (λ y. with_short_number (λ width. with_short_number (λ height.
    at_end None (Some (Crop clip (record { x = x; y = y; width = width; height = height })))))))) words

abbrev pub fade_by : List (List ℕ) → Option Node
fade_by words =
    with_short_number (λ clip. with_short_number (λ first. with_short_number (λ count. with_short_number (λ start. with_short_number (λ end.
    at_end None (Some (Fade clip (record { first = first; count = count; start = start; end = end })))))))) words

-- the part of three words
abbrev pub part_from : Option ℕ → Option ℕ → Option ℕ → Option Part
part_from None first count = None
part_from (Some clip) None count = None
part_from (Some clip) (Some first) None = None
part_from (Some clip) (Some first) (Some count) = Some (record { clip = clip; first = first; count = count })

abbrev pub part_of : List ℕ → List ℕ → List ℕ → Option Part
part_of clip first count = part_from (short_number_of clip) (short_number_of first) (short_number_of count)

-- a part before others, if both exist
abbrev pub part_before : Option Part → Option (List Part) → Option (List Part)
part_before None parts = None
part_before (Some part) None = None
part_before (Some part) (Some parts) = Some (part ∷ parts)

-- the parts of words, three words a part
abbrev pub parts_by : List (List ℕ) → Option (List Part)
parts_by [] = Some []
parts_by (clip ∷ []) = None
parts_by (clip ∷ first ∷ []) = None
parts_by (clip ∷ first ∷ count ∷ words) = part_before (part_of clip first count) (parts_by words)

-- a node of one or more parts
abbrev pub node_of_parts : Option (List Part) → Option Node
node_of_parts None = None
node_of_parts (Some []) = None
node_of_parts (Some (part ∷ parts)) = Some (Parts (part ∷ parts))

-- the node of these words
abbrev pub node_by_words : List (List ℕ) → Option Node
node_by_words [] = None
node_by_words (name ∷ words) =
    if bytes_eq name (codes "source") then source_by words
    else if bytes_eq name (codes "trim") then trim_by words
    else if bytes_eq name (codes "splice") then splice_by words
    else if bytes_eq name (codes "crop") then crop_by words
    else if bytes_eq name (codes "fade") then fade_by words
    else if bytes_eq name (codes "parts") then node_of_parts (parts_by words)
    else None

-- the node that a text writes
abbrev pub node_of : List ℕ → Option Node
node_of text = node_by_words (words_of text)

-- ---- the text of all nodes

-- a node before others, if both exist
abbrev pub node_before : Option Node → Option (List Node) → Option (List Node)
node_before None nodes = None
node_before (Some node) None = None
node_before (Some node) (Some nodes) = Some (node ∷ nodes)

-- the node of each text, or none if one of them is not a node
abbrev pub nodes_by_parts : List (List ℕ) → Option (List Node)
nodes_by_parts [] = Some []
nodes_by_parts (part ∷ parts) = node_before (node_of part) (nodes_by_parts parts)

-- whether a text is the single word `-`
abbrev pub is_dash : List (List ℕ) → Bool
is_dash [] = false
is_dash (word ∷ []) = bytes_eq word (codes "-")
is_dash (word ∷ next ∷ words) = false

-- the nodes of a text: none for `-`, otherwise the nodes of its parts between `;`
abbrev pub nodes_of : List ℕ → Option (List Node)
nodes_of text = if is_dash (words_of text) then Some [] else nodes_by_parts (slice_split (λ b. b == 59) text)

-- ---- whether nodes are a script

-- whether a node uses only nodes below this number
abbrev pub uses_below : ℕ → Node → Bool
uses_below own (Source number) = true
uses_below own (Trim clip first count) = nat_lt clip own
uses_below own (Splice front back) = nat_lt front own && nat_lt back own
uses_below own (Crop clip area) = nat_lt clip own
uses_below own (Fade clip ramp) = nat_lt clip own
uses_below own (Parts parts) = list_all (λ part. nat_lt part.clip own) parts

-- whether each node uses only nodes below its own number; the first one has this number
abbrev pub all_use_below : ℕ → List Node → Bool
all_use_below own [] = true
all_use_below own (node ∷ nodes) = uses_below own node && all_use_below (own + 1) nodes

-- whether the source that a node names, if it names one, is one of this many
abbrev pub has_source : ℕ → Node → Bool
has_source sources (Source number) = nat_lt number sources
has_source sources (Trim clip first count) = true
has_source sources (Splice front back) = true
has_source sources (Crop clip area) = true
has_source sources (Fade clip ramp) = true
has_source sources (Parts parts) = true

-- whether a number is at most 4,294,967,295
abbrev pub is_number : ℕ → Bool
is_number n = nat_lt n (2 ^ 32)

-- whether a number is a position of an area: it is even
abbrev pub is_place : ℕ → Bool
is_place n = is_number n && n % 2 == 0

-- whether a number is a weight in 256ths
abbrev pub is_weight : ℕ → Bool
is_weight n = nat_le n 256

abbrev pub is_area : Area → Bool
is_area area = is_place area.x && is_place area.y && is_side area.width && is_side area.height

abbrev pub is_ramp : Ramp → Bool
is_ramp ramp = is_number ramp.first && is_number ramp.count && nat_lt 0 ramp.count && is_weight ramp.start && is_weight ramp.end

-- whether the first frame and the count of a part are allowed
abbrev pub is_part : Part → Bool
is_part part = is_number part.first && is_number part.count

-- whether the numbers of a node, except the numbers of nodes and sources that it uses, are allowed
abbrev pub has_numbers : Node → Bool
has_numbers (Source number) = true
has_numbers (Trim clip first count) = is_number first && is_number count
has_numbers (Splice front back) = true
has_numbers (Crop clip area) = is_area area
has_numbers (Fade clip ramp) = is_ramp ramp
has_numbers (Parts parts) = nat_lt 0 (length parts) && list_all is_part parts

-- the script of these nodes over this many sources, or their first error
abbrev pub script_from : ℕ → Option (List Node) → Result (List Node) ScriptFault
script_from sources None = Err Syntax
script_from sources (Some nodes) =
    if nat_lt 16 (length nodes) then Err Nodes
    else if not (all_use_below 1 nodes && list_all (has_source sources) nodes) then Err Reference
    else if not (list_all has_numbers nodes && list_all is_length (most_lengths nodes)) then Err Number
    else Ok nodes

-- the script of a text over this many sources, or its first error
abbrev pub script_of : ℕ → List ℕ → Result (List Node) ScriptFault
script_of sources text = script_from sources (nodes_of text)
