-- Lengths of Segments and Clusters that are wrong: reading does not use them, and a player does.
use Rattle.std.specs.Prelude.{◌≡◌, ℕ, ◌+◌, ◌^◌, ◌==◌, ◌&&◌, ◌||◌, Bool, not, nat_le, nat_lt, if◌then◌else◌, List, [], ◌∷◌, ◌++◌, length, drop, Option, Some, None}
use Rattle.std.specs.List.{find}
use Rattle.webm_files.specs.declared.ids.TheConstants.{CLUSTER, CRC_32, EBML, SEGMENT, VOID}
use Rattle.webm_files.specs.declared.elements.Element.{Element}
use Rattle.webm_files.specs.declared.lengths.Span.{Span}
use Rattle.webm_files.specs.declared.lengths.WrongLength.{WrongLength}
use Rattle.webm_files.specs.Elements.{after_number, content_size, width}
use Rattle.webm_files.specs.Walks.{Walk, IsWalk}

-- where an element begins, and where its content ends by its length, if it has the name and its length is known
unfoldable pub span_of : List ℕ → ℕ → Element → Option Span
span_of file level element = let text = drop element.place file in
    if (element.id == level) && nat_lt (content_size text + 1) (128 ^ width (after_number text)) then Some (record { place = element.place; says = element.start + content_size text }) else None

-- an element is not in the Segment or Cluster before it: the names of the elements at their levels have four bytes, and what is in a cluster has shorter ones
abbrev pub closes : ℕ → ℕ → Bool
closes level id = id == level || (if level == CLUSTER then nat_le 0x10000000 id else id == EBML)

-- an element is in it, and ends after the end by its length; Void and CRC-32 may be anywhere
abbrev pub ends_after : ℕ → Element → Bool
ends_after says element = not (element.id == VOID || element.id == CRC_32) && nat_lt says element.end

-- the first of these decides whether the length is right
abbrev pub decides_length : ℕ → ℕ → Element → Bool
decides_length level says element = closes level element.id || ends_after says element

-- where it ends, if that is not where its length says: before an element that is not in it, or after one that is
abbrev pub end_by : ℕ → ℕ → Element → Option ℕ
end_by level says element =
    if closes level element.id then (if nat_lt element.place says then Some element.place else None)
    else if ends_after says element then Some element.end
    else None

-- or at the end of the file, unless that cuts an element
abbrev pub end_by_file : ℕ → Bool → ℕ → Option ℕ
end_by_file size is_cut says = if not is_cut && nat_lt size says then Some size else None

abbrev pub end_among : ℕ → Bool → ℕ → ℕ → Option Element → Option ℕ
end_among size is_cut level says None = end_by_file size is_cut says
end_among size is_cut level says (Some element) = end_by level says element

-- a length that is wrong, if it ends elsewhere
abbrev pub wrong_by : ℕ → Span → Option ℕ → List WrongLength
wrong_by level span None = []
wrong_by level span (Some end) = record { id = level; place = span.place; says = span.says; ends = end } ∷ []

-- the same of one before some elements, in a file of this size
abbrev pub wrong_before : ℕ → Bool → ℕ → Option Span → List Element → List WrongLength
wrong_before size is_cut level None elements = []
wrong_before size is_cut level (Some span) elements = wrong_by level span (end_among size is_cut level span.says (find (decides_length level span.says) elements))

-- the lengths that are wrong, of the elements of one of the two names
abbrev pub wrong_at : List ℕ → Bool → ℕ → List Element → List WrongLength
wrong_at file is_cut level [] = []
wrong_at file is_cut level (element ∷ elements) = wrong_before (length file) is_cut level (span_of file level element) elements ++ wrong_at file is_cut level elements

-- those of Segments and those of Clusters
abbrev pub wrong_lengths : List ℕ → Bool → List Element → List WrongLength
wrong_lengths file is_cut elements = wrong_at file is_cut SEGMENT elements ++ wrong_at file is_cut CLUSTER elements

-- what an element decides of one before it
abbrev pub wrong_by_element : ℕ → Option Span → Element → List WrongLength
wrong_by_element level None element = []
wrong_by_element level (Some span) element = wrong_by level span (end_by level span.says element)

-- what is not decided after an element
abbrev pub still_open : ℕ → Option Span → Element → Option Span
still_open level None element = None
still_open level (Some span) element = if decides_length level span.says element then None else Some span

abbrev pub open_after : List ℕ → ℕ → Option Span → Element → Option Span
open_after file level span element = if element.id == level then span_of file level element else still_open level span element

-- lengths to which those of one name are added
pub record AddsLengths (file : List ℕ) (is_cut : Bool) (level : ℕ) (old new : List WrongLength) : Type 0 where
  pub walk : Walk
  pub is : IsWalk file walk
  pub added : new ≡ old ++ wrong_at file is_cut level walk.elements

-- the lengths that are wrong in a file
pub record HasLengths (file : List ℕ) (is_cut : Bool) (found : List WrongLength) : Type 0 where
  pub walk : Walk
  pub is : IsWalk file walk
  pub lengths : found ≡ wrong_lengths file is_cut walk.elements
