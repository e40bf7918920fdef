-- The elements of a file in sequence, with gaps where the file is damaged.
use Rattle.std.specs.Prelude.{◌≡◌, ℕ, zero, suc, ◌+◌, ◌<◌, ◌≤◌, ◌==◌, ◌⊎◌, Bool, true, List, [], ◌∷◌, drop, length, Option}
use Rattle.std.specs.List.{find, list_any}
use Rattle.webm_files.specs.declared.ids.TheConstants.{CLUSTER, RESUMED}
use Rattle.webm_files.specs.declared.elements.Element.{Element}
use Rattle.webm_files.specs.Elements.{HasElement, HasHead, IsSized, id_of, head_size, content_size, element_size, is_block, is_known}

-- the element at a position of a file
abbrev pub element_of : List ℕ → ℕ → Element
element_of file place = let text = drop place file in record {
  id = id_of text;
  place = place;
  start = place + head_size text;
  end = place + element_size text;
}

-- so many elements follow each other starting at a position, or fewer up to the end of the file
abbrev pub Follows : List ℕ → ℕ → ℕ → Type 0
Follows file zero place = Unit {0}
Follows file (suc n) place = (place ≡ length file) ⊎ (HasElement (drop place file) × Follows file n (element_of file place).end)

-- the end of the file cuts an element here: its head is whole, and its content is longer than what is left
pub record IsCut (text : List ℕ) : Type 0 where
  pub head : HasHead text
  pub known : is_known (id_of text) ≡ true
  pub sized : IsSized text
  pub cut : length text < head_size text + content_size text

-- a block is followed here: by an element, by the end of the file, or by an element that it cuts
abbrev pub IsFollowed : List ℕ → ℕ → Type 0
IsFollowed file place = IsCut (drop place file) ⊎ Follows file 1 place

-- the names of the elements other than clusters with which reading continues after a gap
unfoldable pub is_resumed : ℕ → Bool
is_resumed id = list_any (λ other. other == id) RESUMED

-- reading that has come to a position can continue at another one. There it continues with an element, which must be followed if it is a block. Later it continues
-- with a cluster, or with a group or a block that two elements follow.
pub record CanGoOn (file : List ℕ) (at place : ℕ) : Type 0 where
  pub element : HasElement (drop place file)
  pub here : place ≡ at → is_block (id_of (drop place file)) ≡ true → IsFollowed file (element_of file place).end
  pub later : (place ≡ at → ⊥) → (id_of (drop place file) ≡ CLUSTER → ⊥) → (is_resumed (id_of (drop place file)) ≡ true) × Follows file 2 (element_of file place).end

-- the element with which reading continues: the element at the first position at which it can
pub record IsNext (file : List ℕ) (at : ℕ) (element : Element) : Type 0 where
  pub later : at ≤ element.place
  pub begins : CanGoOn file at element.place
  pub first : (k : ℕ) → at ≤ k → k < element.place → ¬ CanGoOn file at k
  pub is : element ≡ element_of file element.place

-- reading continues nowhere
abbrev pub IsEnd : List ℕ → ℕ → Type 0
IsEnd file at = (k : ℕ) → at ≤ k → ¬ CanGoOn file at k

-- reading from a position finds these elements, each the next one after the end of the element before, and comes to another position
abbrev pub Walked : List ℕ → ℕ → List Element → ℕ → Type 0
Walked file at [] to = at ≡ to
Walked file at (element ∷ elements) to = IsNext file at element × Walked file element.end elements to

-- what reading finds in a file: elements, and the position where it ends
pub record Walk : Type 0 where
  pub elements : List Element
  pub end : ℕ

pub record IsWalk (file : List ℕ) (walk : Walk) : Type 0 where
  pub walked : Walked file 0 walk.elements walk.end
  pub over : IsEnd file walk.end

-- the first of some elements that has a name
abbrev pub first_of : ℕ → List Element → Option Element
first_of id elements = find (λ element. element.id == id) elements
