-- The origin of a frame as a JSON object (RFC 8259).
use Rattle.std.specs.Prelude.{ℕ, List, [], ◌∷◌, ◌++◌, codes}
use Rattle.std.specs.Fmt.{decimal}
use Rattle.std.specs.List.{flat_map}
use Rattle.script_nodes.specs.declared.origins.FrameOrigin.{FrameOrigin}

-- numbers, with a comma between two of them
abbrev pub later_number : ℕ → List ℕ
later_number n = codes "," ++ decimal n

abbrev pub numbers_text : List ℕ → List ℕ
numbers_text [] = []
numbers_text (n ∷ numbers) = decimal n ++ flat_map later_number numbers

-- the members of an origin before its nodes
abbrev pub origin_members : FrameOrigin → List ℕ
origin_members from =
    codes "{\"frame\":" ++ decimal from.frame ++ codes ",\"source\":" ++ decimal from.source ++ codes ",\"source_frame\":" ++ decimal from.source_frame ++ codes ",\"packet\":" ++ decimal from.packet

-- the object of a frame that these nodes change
abbrev pub origin_text : FrameOrigin → List ℕ → List ℕ
origin_text from changed = origin_members from ++ codes ",\"changed\":[" ++ numbers_text changed ++ codes "]}"
