-- The blocks of a file.
use Rattle.std.specs.Prelude.{◌≡◌, ℕ, ◌+◌, ◌-◌, ◌==◌, ◌||◌, ◌++◌, List, [], ◌∷◌, length, take, drop, slice_index, nat_lt, if◌then◌else◌, Option, Some, None, option_to_list, pos, ◌+ℤ◌}
use Rattle.std.specs.Int.{w16, w64, saturate_unsigned, cast_signed}
use Rattle.byteorder.specs.Endian.{big_number}
use Rattle.webm_files.specs.declared.ids.TheConstants.{TIMESTAMP}
use Rattle.webm_files.specs.declared.elements.Element.{Element}
use Rattle.webm_files.specs.declared.blocks.Block.{Block}
use Rattle.webm_files.specs.Elements.{is_block, width, unmarked}
use Rattle.webm_files.specs.Walks.{Walk, IsWalk}

-- the content of an element
abbrev pub content : List ℕ → Element → List ℕ
content file element = take (element.end - element.start) (drop element.start file)

-- a number that is the whole content of an element; of more than 8 bytes the first 8
abbrev pub whole_number : List ℕ → ℕ
whole_number text = big_number (if nat_lt 8 (length text) then 8 else length text) text

-- the time from which blocks count theirs, after an element
unfoldable pub base_after : List ℕ → ℕ → Element → ℕ
base_after file base element = if element.id == TIMESTAMP then whole_number (content file element) else base

-- the time of a block: two bytes with a sign, added to the time of its cluster; 0 if the sum is negative, the greatest number of 64 bits if it is more
abbrev pub stamp_of : ℕ → List ℕ → ℕ
stamp_of base text = saturate_unsigned w64 (pos base +ℤ cast_signed w16 (big_number 2 text))

-- a block: the number of its track, its time, a byte of flags, and its packet or packets. Its element begins at a position of the file, its content at another.
unfoldable pub block_in : ℕ → ℕ → ℕ → List ℕ → Option Block
block_in base place start text = if nat_lt 8 (width text) || nat_lt (length text) (width text + 3) then None else Some (record {
  track = unmarked text;
  stamp = stamp_of base (drop (width text) text);
  flags = slice_index text (width text + 2);
  place = place;
  start = start + (width text + 3);
  end = start + length text;
})

-- the block that an element is, if it is one
unfoldable pub block_of : List ℕ → ℕ → Element → Option Block
block_of file base element = if is_block element.id then block_in base element.place element.start (content file element) else None

-- what reading knows after an element: the time of the cluster, and the blocks so far
pub record Reading : Type 0 where
  pub base : ℕ
  pub blocks : List Block

abbrev pub after : List ℕ → Reading → Element → Reading
after file known element = record {
  base = base_after file known.base element;
  blocks = known.blocks ++ option_to_list (block_of file known.base element);
}

-- what reading knows after elements
abbrev pub after_all : List ℕ → Reading → List Element → Reading
after_all file known [] = known
after_all file known (element ∷ elements) = after_all file (after file known element) elements

abbrev pub nothing : Reading
nothing = record { base = 0; blocks = [] }

-- the blocks among the elements of a file
abbrev pub blocks_of : List ℕ → List Element → List Block
blocks_of file elements = (after_all file nothing elements).blocks

-- these are the blocks of a file
pub record AreBlocks (file : List ℕ) (blocks : List Block) : Type 0 where
  pub walk : Walk
  pub is : IsWalk file walk
  pub found : blocks ≡ blocks_of file walk.elements
