-- What is kept of a file besides the packets of its video.
use Rattle.std.specs.Prelude.{ℕ, ◌-◌, ◌==◌, Bool, nat_lt, if◌then◌else◌, List, [], ◌∷◌, ◌++◌, length, sum_by, Bool}
use Rattle.std.specs.List.{filter, list_any}
use Rattle.webm_files.specs.declared.ids.TheConstants.{KEPT}
use Rattle.webm_files.specs.declared.elements.Element.{Element}
use Rattle.webm_files.specs.declared.gaps.Gap.{Gap}
use Rattle.webm_files.specs.Walks.{Walk}

-- the bytes between two positions, if there are any
abbrev pub gap_between : ℕ → ℕ → List Gap
gap_between start end = if nat_lt start end then record { start = start; end = end } ∷ [] else []

-- the gaps before elements
abbrev pub gaps_before : ℕ → List Element → List Gap
gaps_before at [] = []
gaps_before at (element ∷ elements) = gap_between at element.place ++ gaps_before element.end elements

-- the gaps of a file: before elements, and after the last one
abbrev pub gaps_of : List ℕ → Walk → List Gap
gaps_of file walk = gaps_before 0 walk.elements ++ gap_between walk.end (length file)

-- the number of bytes in gaps
abbrev pub skipped : List Gap → ℕ
skipped gaps = sum_by (λ gap. gap.end - gap.start) gaps

-- the names of the elements that are kept whole
unfoldable pub is_kept : ℕ → Bool
is_kept id = list_any (λ other. other == id) KEPT

abbrev pub parts_of : List Element → List Element
parts_of elements = filter (λ element. is_kept element.id) elements
