-- The elements of a Matroska file (RFC 8794, RFC 9559): a number that names the element, a length, and the content.
use Rattle.std.specs.Prelude.{◌≡◌, ℕ, ◌+◌, ◌%◌, ◌^◌, ◌<◌, ◌≤◌, ◌==◌, Bool, false, IsTrue, List, length, drop, slice_index, if◌then◌else◌}
use Rattle.std.specs.List.{list_any}
use Rattle.std.specs.Int.{w8, leading_zeros}
use Rattle.byteorder.specs.Endian.{big_number}
use Rattle.webm_files.specs.declared.ids.TheConstants.{OPENED, KNOWN, BLOCKS}

-- the width in bytes of the number at the front: one more than the number of zero bits at the front of its first byte
abbrev pub width : List ℕ → ℕ
width text = leading_zeros w8 (slice_index text 0) + 1

-- a whole number of at most this many bytes at the front
abbrev pub HasNumber : ℕ → List ℕ → Type 0
HasNumber most text = (width text ≤ most) × (width text ≤ length text)

-- the number at the front, with the bit that marks its width
abbrev pub marked : List ℕ → ℕ
marked text = big_number (width text) text

-- the number at the front, without that bit
abbrev pub unmarked : List ℕ → ℕ
unmarked text = marked text % 128 ^ width text

-- the bytes after the number at the front
abbrev pub after_number : List ℕ → List ℕ
after_number text = drop (width text) text

-- an element begins with a number of at most 4 bytes, which names it, and the length of its content in at most 8
abbrev pub HasHead : List ℕ → Type 0
HasHead text = HasNumber 4 text × HasNumber 8 (after_number text)

abbrev pub id_of : List ℕ → ℕ
id_of text = marked text

-- the number of bytes of the head
abbrev pub head_size : List ℕ → ℕ
head_size text = width text + width (after_number text)

-- the length of the content
abbrev pub content_size : List ℕ → ℕ
content_size text = unmarked (after_number text)

-- the length is known: its bits are not all ones
abbrev pub IsSized : List ℕ → Type 0
IsSized text = content_size text + 1 < 128 ^ width (after_number text)

-- the names of the elements whose content is read as elements that follow the head: the length of this content is not used, so it may be unknown, or wrong
unfoldable pub is_opened : ℕ → Bool
is_opened id = list_any (λ other. other == id) OPENED

-- the names of the elements at these levels: a closed list, so that few damaged bytes are read as elements
unfoldable pub is_known : ℕ → Bool
is_known id = list_any (λ other. other == id) KNOWN

-- the names of the elements that are blocks
unfoldable pub is_block : ℕ → Bool
is_block id = list_any (λ other. other == id) BLOCKS

-- the length of an element: of its head only, if its content is read as elements
abbrev pub element_size : List ℕ → ℕ
element_size text = if is_opened (id_of text) then head_size text else head_size text + content_size text

-- an element at the front: its name is known, and its content is whole unless it is read as elements
pub record HasElement (text : List ℕ) : Type 0 where
  pub head : HasHead text
  pub known : IsTrue (is_known (id_of text))
  pub sized : is_opened (id_of text) ≡ false → IsSized text
  pub whole : element_size text ≤ length text
