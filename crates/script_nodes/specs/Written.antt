-- The text of a script as it is written: one space between two words, and a `;` between two nodes.
use Rattle.std.specs.Prelude.{◌≡◌, ℕ, ◌≤◌, ◌^◌, List, [], ◌∷◌, ◌++◌, Some, Ok, codes}
use Rattle.std.specs.Fmt.{decimal}
use Rattle.std.specs.List.{flat_map, join_with_byte}
use Rattle.script_nodes.specs.declared.nodes.Node.{Node}
use Rattle.script_nodes.specs.declared.nodes.Node.TheVariants.{Source, Trim, Splice, Crop, Fade, Parts}
use Rattle.script_nodes.specs.declared.part_list.Part.{Part}
use Rattle.script_nodes.specs.Nodes.{script_from, script_of}

-- the words of a part
abbrev pub part_words : Part → List (List ℕ)
part_words part = decimal part.clip ∷ decimal part.first ∷ decimal part.count ∷ []

-- the words of a node: its name and its numbers
abbrev pub node_words : Node → List (List ℕ)
node_words (Source number) = codes "source" ∷ decimal number ∷ []
node_words (Trim clip first count) = codes "trim" ∷ decimal clip ∷ decimal first ∷ decimal count ∷ []
node_words (Splice front back) = codes "splice" ∷ decimal front ∷ decimal back ∷ []
node_words (Crop clip area) = codes "crop" ∷ decimal clip ∷ decimal area.x ∷ decimal area.y ∷ decimal area.width ∷ decimal area.height ∷ []
node_words (Fade clip ramp) = codes "fade" ∷ decimal clip ∷ decimal ramp.first ∷ decimal ramp.count ∷ decimal ramp.start ∷ decimal ramp.end ∷ []
node_words (Parts parts) = codes "parts" ∷ flat_map part_words parts

-- a part after a word
abbrev pub later_part : Part → List ℕ
later_part part = 32 ∷ decimal part.clip ++ 32 ∷ decimal part.first ++ 32 ∷ decimal part.count

abbrev pub node_text : Node → List ℕ
node_text node = join_with_byte 32 (node_words node)

-- a node after another
abbrev pub later_text : Node → List ℕ
later_text node = 59 ∷ node_text node

-- the text of a script: `-` without nodes
abbrev pub script_text : List Node → List ℕ
script_text [] = codes "-"
script_text (node ∷ nodes) = node_text node ++ flat_map later_text nodes

-- a script over at most 4,294,967,296 sources that is written is read again
abbrev pub TextsAreReadBack : Type 0
TextsAreReadBack = (sources : ℕ) (nodes : List Node) → sources ≤ 2 ^ 32 → script_from sources (Some nodes) ≡ Ok nodes → script_of sources (script_text nodes) ≡ Ok nodes
