-- Gaps and parts, when one more element is read.
use Rattle.std.proofs.Common.{◌≡◌, ℕ, ◌+◌, ◌-◌, ◌≤◌, cond, inl, inr, List, [], ◌∷◌, ◌++◌, sym, ap, ◌∙◌, append_assoc, append-nil, arith}
use Rattle.std.proofs.lemmas.Bool.{cases_lt, lt-ltb, le-ltb}
use Rattle.std.proofs.lemmas.List.Elements.{filter-append}
use Rattle.std.proofs.lemmas.List.Sums.{sum_by-append}
use Rattle.webm_files.specs.declared.elements.Element.{Element}
use Rattle.webm_files.specs.declared.gaps.Gap.{Gap}
use Rattle.webm_files.specs.Walks.{Walked}
use Rattle.webm_files.specs.Kept.{gap_between, gaps_before, skipped, is_kept, parts_of}

pub gaps_more : (file : List ℕ) (at : ℕ) (elements : List Element) (to : ℕ) (element : Element) → Walked file at elements to
    → gaps_before at (elements ++ element ∷ []) ≡ gaps_before at elements ++ gap_between to element.place
gaps_more file at [] to element so_far = append-nil _ ∙ ap (λ n. gap_between n element.place) so_far
gaps_more file at (first ∷ elements) to element so_far =
    ap (λ gaps. gap_between at first.place ++ gaps) (gaps_more file first.end elements to element so_far.1)
    ∙ sym (append_assoc (gap_between at first.place) (gaps_before first.end elements) (gap_between to element.place))

between : (start end : ℕ) → start ≤ end → skipped (gap_between start end) ≡ end - start
between start end order = elim (cases_lt start end) [
  | inl less ↦ ap (λ b. skipped (cond b (record { start = start; end = end } ∷ []) [])) (lt-ltb start end less) ∙ omega arith
  | inr most ↦ ap (λ b. skipped (cond b (record { start = start; end = end } ∷ []) [])) (le-ltb start end most) ∙ omega (arith, order, most)
]

pub skipped_more : (gaps : List Gap) (start end spare : ℕ) → start ≤ end → spare ≡ skipped gaps → spare + (end - start) ≡ skipped (gaps ++ gap_between start end)
skipped_more gaps start end spare order is = omega (arith, is, between start end order, sum_by-append (λ (gap : Gap). gap.end - gap.start) gaps (gap_between start end))

pub parts_more : (parts elements : List Element) (element : Element) → parts ≡ parts_of elements → parts ++ cond (is_kept element.id) (element ∷ []) [] ≡ parts_of (elements ++ element ∷ [])
parts_more parts elements element is = ap (λ ps. ps ++ cond (is_kept element.id) (element ∷ []) []) is ∙ sym (filter-append (λ (e : Element). is_kept e.id) elements (element ∷ []))
