-- Where the entries of both indexes point.
use Rattle.std.specs.Prelude.{◌≡◌, ℕ, ◌+◌, List, [], ◌∷◌, ◌++◌, length}
use Rattle.std.specs.List.{Contains, flat_map}
use Rattle.webm_files.specs.declared.ids.TheConstants.{CLUSTER}
use Rattle.webm_files.specs.declared.elements.Element.{Element}
use Rattle.webm_files.specs.Walks.{Walk, IsWalk}
use Rattle.webm_writing.specs.Pieces.{Piece, piece_text}
use Rattle.webm_writing.specs.Written.{Written, cue, header, pieces_of, seek, segment, webm_text}

-- reading a file finds an element of this name at this position
pub record IsFound (file : List ℕ) (id at : ℕ) : Type 0 where
  pub walk : Walk
  pub is : IsWalk file walk
  pub element : Element
  pub among : Contains walk.elements element
  pub name : element.id ≡ id
  pub begins : element.place ≡ at

-- where the content of the Segment begins, from which positions are counted: after the header, and a head of 12 bytes
abbrev pub origin : ℕ
origin = length (piece_text header) + 12

-- an entry of SeekHead
pub record Seek : Type 0 where
  pub name : ℕ
  pub place : ℕ

-- each entry has the position of an element of its name
abbrev pub AllSought : List ℕ → List Seek → Type 0
AllSought file [] = Unit {0}
AllSought file (entry ∷ entries) = IsFound file entry.name (origin + entry.place) × AllSought file entries

-- the content of SeekHead: entries of which each has the position of an element of its name
pub record AreSeeks (file content : List ℕ) : Type 0 where
  pub entries : List Seek
  pub spelled : content ≡ flat_map (λ entry. seek entry.name entry.place) entries
  pub sought : AllSought file entries

-- an entry of Cues
pub record Cue : Type 0 where
  pub track : ℕ
  pub stamp : ℕ
  pub place : ℕ

-- each entry has the position of a cluster
abbrev pub AllCued : List ℕ → List Cue → Type 0
AllCued file [] = Unit {0}
AllCued file (entry ∷ entries) = IsFound file CLUSTER (origin + entry.place) × AllCued file entries

-- the content of Cues: entries of which each has the position of a cluster
pub record AreCues (file content : List ℕ) : Type 0 where
  pub entries : List Cue
  pub spelled : content ≡ flat_map (λ entry. cue entry.track entry.stamp entry.place) entries
  pub cued : AllCued file entries

-- the Segment begins with SeekHead, of which each entry has the position of an element of its name
pub record HasSeeks (file : Written) : Type 0 where
  pub seeks : Piece
  pub others : List Piece
  pub first : segment file ≡ seeks ∷ others
  pub name : seeks.id ≡ 0x114D9B74
  pub are : AreSeeks (webm_text file) seeks.content

-- the file ends with Cues, of which each entry has the position of a cluster
pub record HasCues (file : Written) : Type 0 where
  pub front : List Piece
  pub cues : Piece
  pub last : pieces_of file ≡ front ++ cues ∷ []
  pub name : cues.id ≡ 0x1C53BB6B
  pub are : AreCues (webm_text file) cues.content
