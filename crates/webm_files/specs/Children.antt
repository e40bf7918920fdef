-- The elements in the content of an element that is whole, such as Info or an entry of Tracks.
use Rattle.std.specs.Prelude.{ℕ, zero, suc, ◌+◌, ◌^◌, ◌≤◌, ◌==◌, ◌&&◌, Bool, nat_le, nat_lt, if◌then◌else◌, List, [], ◌∷◌, length, take, drop}
use Rattle.std.specs.List.{position_or_len}
use Rattle.webm_files.specs.Elements.{HasHead, IsSized, width, after_number, id_of, head_size, content_size}
use Rattle.webm_files.specs.Blocks.{whole_number}

-- a child at the front: an element of any name, whose length is known, and whole
pub record HasChild (text : List ℕ) : Type 0 where
  pub head : HasHead text
  pub sized : IsSized text
  pub whole : head_size text + content_size text ≤ length text

-- the same as a test
unfoldable pub has_child : List ℕ → Bool
has_child text = (nat_le (width text) 4 && nat_le (width text) (length text)) && ((nat_le (width (after_number text)) 8 && nat_le (width (after_number text)) (length (after_number text)))
    && (nat_lt (content_size text + 1) (128 ^ width (after_number text)) && nat_le (head_size text + content_size text) (length text)))

-- a child: its name and its content
pub record Child : Type 0 where
  pub id : ℕ
  pub content : List ℕ

abbrev pub first_child : List ℕ → Child
first_child text = record { id = id_of text; content = take (content_size text) (drop (head_size text) text) }

-- the bytes after the child at the front
abbrev pub after_child : List ℕ → List ℕ
after_child text = drop (head_size text + content_size text) text

-- the first children in sequence, up to a number of them
unfoldable pub children_up_to : ℕ → List ℕ → List Child
children_up_to zero text = []
children_up_to (suc most) text = if has_child text then first_child text ∷ children_up_to most (after_child text) else []

-- all children in sequence: there are at least as many bytes
abbrev pub children : List ℕ → List Child
children text = children_up_to (length text) text

-- the content of the first child of a name, or nothing
abbrev pub child_of : ℕ → List Child → List ℕ
child_of id [] = []
child_of id (child ∷ more) = if child.id == id then child.content else child_of id more

-- the number that a content is, or another one if it is empty
abbrev pub number_or : ℕ → List ℕ → ℕ
number_or other text = if length text == 0 then other else whole_number text

-- the content of the first child of a name in a content, or nothing
abbrev pub field : ℕ → List ℕ → List ℕ
field id text = child_of id (children text)

-- the value of a string: its bytes before the first 0, which ends it (RFC 8794, section 13)
abbrev pub value_of : List ℕ → List ℕ
value_of text = take (position_or_len (λ byte. byte == 0) text) text

-- the value of the first child of a name that is a string, or nothing
abbrev pub text_field : ℕ → List ℕ → List ℕ
text_field id text = value_of (field id text)
