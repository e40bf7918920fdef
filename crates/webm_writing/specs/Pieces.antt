-- The pieces of a written file: elements in sequence (RFC 8794, section 6).
use Rattle.std.specs.Prelude.{◌≡◌, ℕ, ◌+◌, ◌*◌, ◌^◌, ◌<◌, ◌≤◌, ◌==◌, ◌⊎◌, if◌then◌else◌, true, false, List, [], ◌∷◌, ◌++◌, length, Option, None, option_to_list}
use Rattle.std.specs.List.{flat_map}
use Rattle.byteorder.specs.Endian.{big_bytes}
use Rattle.webm_files.specs.declared.ids.TheConstants.{TIMESTAMP}
use Rattle.webm_files.specs.declared.elements.Element.{Element}
use Rattle.webm_files.specs.declared.blocks.Block.{Block}
use Rattle.webm_files.specs.Elements.{is_block, is_known, is_opened}
use Rattle.webm_files.specs.Blocks.{Reading, block_in, whole_number}

-- a written element: its name with the number of bytes that it has, its length with the number of bytes that it has, and its content, which is empty if the content
-- of an element of this name is read as elements: these are the pieces that follow
pub record Piece : Type 0 where
  pub id : ℕ
  pub width : ℕ
  pub size : ℕ
  pub marks : ℕ
  pub content : List ℕ

abbrev pub piece_text : Piece → List ℕ
piece_text piece = big_bytes piece.width piece.id ++ (big_bytes piece.marks (128 ^ piece.marks + piece.size) ++ piece.content)

abbrev pub text_of : List Piece → List ℕ
text_of pieces = flat_map piece_text pieces

-- a number with the bit that marks its width has so many bytes
pub record IsMarked (width number : ℕ) : Type 0 where
  pub low : 128 ^ width ≤ number
  pub high : number < 2 * 128 ^ width

-- a piece has a name of 1 to 4 bytes that a reader knows, and its length, in 4 or 8 bytes, is that of its content, unless this follows as pieces
pub record Fits (piece : Piece) : Type 0 where
  pub width : (piece.width ≡ 1) ⊎ ((piece.width ≡ 2) ⊎ ((piece.width ≡ 3) ⊎ (piece.width ≡ 4)))
  pub name : IsMarked piece.width piece.id
  pub known : is_known piece.id ≡ true
  pub marks : (piece.marks ≡ 4) ⊎ (piece.marks ≡ 8)
  pub size : piece.size + 1 < 128 ^ piece.marks
  pub content : ((is_opened piece.id ≡ true) × (piece.content ≡ [])) ⊎ ((is_opened piece.id ≡ false) × (piece.size ≡ length piece.content))

abbrev pub AllFit : List Piece → Type 0
AllFit [] = Unit {0}
AllFit (piece ∷ pieces) = Fits piece × AllFit pieces

-- the element that a piece is read as, if it begins at a position
abbrev pub element_at : ℕ → Piece → Element
element_at at piece = record {
  id = piece.id;
  place = at;
  start = at + (piece.width + piece.marks);
  end = at + (piece.width + piece.marks + length piece.content);
}

-- the elements that pieces are read as
abbrev pub elements_of : ℕ → List Piece → List Element
elements_of at [] = []
elements_of at (piece ∷ pieces) = element_at at piece ∷ elements_of (at + length (piece_text piece)) pieces

-- what reading knows after a piece: the time of its cluster, and the blocks so far
abbrev pub block_at : ℕ → ℕ → Piece → Option Block
block_at base at piece = if is_block piece.id then block_in base at (at + (piece.width + piece.marks)) piece.content else None

abbrev pub read_piece : ℕ → Reading → Piece → Reading
read_piece at known piece = record {
  base = if piece.id == TIMESTAMP then whole_number piece.content else known.base;
  blocks = known.blocks ++ option_to_list (block_at known.base at piece);
}

abbrev pub read_pieces : ℕ → Reading → List Piece → Reading
read_pieces at known [] = known
read_pieces at known (piece ∷ pieces) = read_pieces (at + length (piece_text piece)) (read_piece at known piece) pieces
