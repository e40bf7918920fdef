-- The parts of a macroblock: its sub block modes, its vectors, and which of its blocks have coefficients.
use Rattle.std.specs.Prelude.{ℕ, Bool, true, false, List, [], ◌∷◌, ◌++◌, codes, ℤ}
use Rattle.std.specs.Fmt.{signed_decimal}
use Rattle.std.specs.List.{flat_map}
use Rattle.intra_predict.specs.declared.modes.SubMode.{SubMode}
use Rattle.mode_parser.specs.Vectors.{MotionVector}
use Rattle.macroblock_lists.specs.declared.layouts.Form.{Form}
use Rattle.macroblock_lists.specs.declared.layouts.Form.TheVariants.{Lines, Objects}
use Rattle.macroblock_lists.specs.Coefficients.{has_coefficient}
use Rattle.macroblock_lists.specs.Names.{sub_name}

-- a list of texts, with commas between them
abbrev pub after_comma : {A : Type 0} → (A → List ℕ) → A → List ℕ
after_comma text part = codes "," ++ text part

abbrev pub joined : {A : Type 0} → (A → List ℕ) → List A → List ℕ
joined text [] = []
joined text (first ∷ rest) = text first ++ flat_map (after_comma text) rest

-- the names of sub block modes, in quotes in an object
abbrev pub mode_text : Form → SubMode → List ℕ
mode_text Lines mode = sub_name mode
mode_text Objects mode = codes "\"" ++ sub_name mode ++ codes "\""

abbrev pub modes_text : Form → List SubMode → List ℕ
modes_text form modes = joined (mode_text form) modes

-- a vector in quarters of a luma sample: how far it points to the right, and how far down
abbrev pub vector_text : Form → MotionVector → List ℕ
vector_text Lines vector = signed_decimal vector.x ++ codes ":" ++ signed_decimal vector.y
vector_text Objects vector = codes "[" ++ signed_decimal vector.x ++ codes "," ++ signed_decimal vector.y ++ codes "]"

abbrev pub vectors_text : Form → List MotionVector → List ℕ
vectors_text form vectors = joined (vector_text form) vectors

-- a digit
abbrev pub bit_text : Bool → List ℕ
bit_text true = codes "1"
bit_text false = codes "0"

-- a digit for each block: 1 if it has a coefficient that is not 0
abbrev pub blocks_text : List (List ℤ) → List ℕ
blocks_text blocks = flat_map (λ block. bit_text (has_coefficient block)) blocks
