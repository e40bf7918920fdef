-- Lengths that are wrong, when one more element is read.
use Rattle.std.proofs.Common.{◌≡◌, ℕ, ◌≤◌, ◌<◌, ◌+◌, Bool, true, false, ◌||◌, cond, eqb, List, [], ◌∷◌, ◌++◌, length, refl, sym, ap, ◌∙◌, arith, append_assoc, append-nil, length-append, Option, Some, None}
use Rattle.std.specs.List.{find}
use Rattle.std.proofs.lemmas.Bool.{le-ltb, lt-ltb}
use Rattle.webm_files.specs.declared.ids.TheConstants.{CLUSTER, EBML, SEGMENT}
use Rattle.webm_files.specs.declared.elements.Element.{Element}
use Rattle.webm_files.specs.declared.lengths.Span.{Span}
use Rattle.webm_files.specs.declared.lengths.WrongLength.{WrongLength}
use Rattle.webm_files.specs.Lengths.{closes, decides_length, end_among, end_by, ends_after, open_after, span_of, wrong_at, wrong_before, wrong_by, wrong_by_element, wrong_lengths}

-- what is found in elements if one is open before them
abbrev pub wrong_with : List ℕ → Bool → ℕ → Option Span → List Element → List WrongLength
wrong_with file is_cut level span elements = wrong_before (length file) is_cut level span elements ++ wrong_at file is_cut level elements

-- an element of another name has no span
no_span : (file : List ℕ) (level : ℕ) (element : Element) → eqb element.id level ≡ false → span_of file level element ≡ None
unfolding span_of
no_span file level element other = rw other refl

-- what decides nothing says nothing
says_none : (closed after : Bool) (some : Option ℕ) (end : Option ℕ) → (closed || after) ≡ false → cond closed some (cond after end None) ≡ None
says_none true after some end e = let wrong : true ≡ false = e in (cc)
says_none false true some end e = let wrong : true ≡ false = e in (cc)
says_none false false some end e = refl

end_by_none : (level says : ℕ) (element : Element) → decides_length level says element ≡ false → end_by level says element ≡ None
end_by_none level says element none = says_none (closes level element.id) (ends_after says element) _ _ none

same_decides : (a b c : Bool) → a ≡ true → ((a || b) || c) ≡ true
same_decides true b c e = refl
same_decides false b c e = let wrong : false ≡ true = e in (cc)

-- how the two tests come out, of an element that is open
by_tests : (file : List ℕ) (is_cut : Bool) (level : ℕ) (span : Span) (element : Element) (rest : List Element) (same decides : Bool) → eqb element.id level ≡ same → decides_length level span.says element ≡ decides
    → wrong_with file is_cut level (Some span) (element ∷ rest) ≡ wrong_by_element level (Some span) element ++ wrong_with file is_cut level (open_after file level (Some span) element) rest
by_tests file is_cut level span element rest true true s d = rw (d, s) refl
by_tests file is_cut level span element rest true false s d =
    let wrong : true ≡ false = sym (same_decides (eqb element.id level) (cond (eqb level CLUSTER) _ (eqb element.id EBML)) (ends_after span.says element) s) ∙ d in (cc)
by_tests file is_cut level span element rest false true s d = rw (no_span file level element s, d, s) refl
by_tests file is_cut level span element rest false false s d = rw (no_span file level element s, end_by_none level span.says element d, d, s) refl

none_open : (file : List ℕ) (is_cut : Bool) (level : ℕ) (element : Element) (rest : List Element) (same : Bool) → eqb element.id level ≡ same
    → wrong_with file is_cut level None (element ∷ rest) ≡ wrong_with file is_cut level (open_after file level None element) rest
none_open file is_cut level element rest true s = rw s refl
none_open file is_cut level element rest false s = rw (no_span file level element s, s) refl

step : (file : List ℕ) (is_cut : Bool) (level : ℕ) (span : Option Span) (element : Element) (rest : List Element)
    → wrong_with file is_cut level span (element ∷ rest) ≡ wrong_by_element level span element ++ wrong_with file is_cut level (open_after file level span element) rest
step file is_cut level None element rest = none_open file is_cut level element rest (eqb element.id level) refl
step file is_cut level (Some span) element rest = by_tests file is_cut level span element rest (eqb element.id level) (decides_length level span.says element) refl refl

pub wrong_more : (file : List ℕ) (is_cut : Bool) (level : ℕ) (span next : Option Span) (element : Element) (elements : List Element) (first found now : List WrongLength) (rest : List Element)
    → now ≡ found ++ wrong_by_element level span element → next ≡ open_after file level span element
    → ((others : List Element) → found ++ wrong_with file is_cut level span others ≡ first ++ wrong_at file is_cut level (elements ++ others))
    → now ++ wrong_with file is_cut level next rest ≡ first ++ wrong_at file is_cut level ((elements ++ element ∷ []) ++ rest)
wrong_more file is_cut level span next element elements first found now rest added goes met =
    ap (λ (some : List WrongLength). some ++ wrong_with file is_cut level next rest) added
    ∙ ap (λ (other : Option Span). (found ++ wrong_by_element level span element) ++ wrong_with file is_cut level other rest) goes
    ∙ append_assoc found (wrong_by_element level span element) (wrong_with file is_cut level (open_after file level span element) rest)
    ∙ ap (λ (some : List WrongLength). found ++ some) (sym (step file is_cut level span element rest))
    ∙ met (element ∷ rest)
    ∙ ap (λ (some : List Element). first ++ wrong_at file is_cut level some) (sym (append_assoc elements (element ∷ []) rest))

pub wrong_left : (file : List ℕ) (is_cut : Bool) (level : ℕ) (span : Option Span) (elements : List Element) (first found now : List WrongLength)
    → now ≡ found ++ wrong_before (length file) is_cut level span []
    → ((others : List Element) → found ++ wrong_with file is_cut level span others ≡ first ++ wrong_at file is_cut level (elements ++ others))
    → now ≡ first ++ wrong_at file is_cut level elements
wrong_left file is_cut level span elements first found now added met =
    added
    ∙ ap (λ (some : List WrongLength). found ++ some) (sym (append-nil (wrong_before (length file) is_cut level span [])))
    ∙ met []
    ∙ ap (λ (some : List Element). first ++ wrong_at file is_cut level some) (append-nil elements)

-- there are no more of one name than elements
one_by : (level : ℕ) (span : Span) (end : Option ℕ) → length (wrong_by level span end) ≤ 1
one_by level span None = omega arith
one_by level span (Some end) = omega arith

one_before : (size : ℕ) (is_cut : Bool) (level : ℕ) (span : Option Span) (elements : List Element) → length (wrong_before size is_cut level span elements) ≤ 1
one_before size is_cut level None elements = omega arith
one_before size is_cut level (Some span) elements = one_by level span (end_among size is_cut level span.says (find (decides_length level span.says) elements))

few_at : (file : List ℕ) (is_cut : Bool) (level : ℕ) (elements : List Element) → length (wrong_at file is_cut level elements) ≤ length elements
few_at file is_cut level [] = omega arith
few_at file is_cut level (element ∷ elements) =
    omega (
      arith,
      length-append (wrong_before (length file) is_cut level (span_of file level element) elements) (wrong_at file is_cut level elements),
      one_before (length file) is_cut level (span_of file level element) elements,
      few_at file is_cut level elements,
    )

pub few_wrong : (file : List ℕ) (is_cut : Bool) (elements : List Element) → length (wrong_lengths file is_cut elements) ≤ length elements + length elements
few_wrong file is_cut elements =
    omega (arith, length-append (wrong_at file is_cut SEGMENT elements) (wrong_at file is_cut CLUSTER elements), few_at file is_cut SEGMENT elements, few_at file is_cut CLUSTER elements)

-- what the next element decides of a length
first_if : (is : Bool) (first : Element) (rest : Option Element) → is ≡ true → cond is (Some first) rest ≡ Some first
first_if true first rest e = refl
first_if false first rest e = let wrong : false ≡ true = e in (cc)

by_next : (file : List ℕ) (is_cut : Bool) (level : ℕ) (element next : Element) (elements : List Element) (span : Span) (end : Option ℕ) → span_of file level element ≡ Some span
    → decides_length level span.says next ≡ true → end_by level span.says next ≡ end
    → wrong_at file is_cut level (element ∷ next ∷ elements) ≡ wrong_by level span end ++ wrong_at file is_cut level (next ∷ elements)
by_next file is_cut level element next elements span end s d e =
    ap (λ (some : Option Span). wrong_before (length file) is_cut level some (next ∷ elements) ++ wrong_at file is_cut level (next ∷ elements)) s
    ∙ ap (λ (some : Option Element). wrong_by level span (end_among (length file) is_cut level span.says some) ++ wrong_at file is_cut level (next ∷ elements))
    (first_if (decides_length level span.says next) next (find (decides_length level span.says) elements) d)
    ∙ ap (λ (some : Option ℕ). wrong_by level span some ++ wrong_at file is_cut level (next ∷ elements)) e

closed : (is after : Bool) → is ≡ true → (is || after) ≡ true
closed true after e = refl
closed false after e = let wrong : false ≡ true = e in (cc)

passed : (is after : Bool) → after ≡ true → (is || after) ≡ true
passed true after e = refl
passed false after e = e

pub right : (file : List ℕ) (is_cut : Bool) (level : ℕ) (element next : Element) (elements : List Element) (span : Span) → span_of file level element ≡ Some span → closes level next.id ≡ true
    → span.says ≤ next.place → wrong_at file is_cut level (element ∷ next ∷ elements) ≡ wrong_at file is_cut level (next ∷ elements)
right file is_cut level element next elements span s c long =
    by_next file is_cut level element next elements span None s (closed (closes level next.id) (ends_after span.says next) c) (rw (c, le-ltb next.place span.says long) refl)

pub early : (file : List ℕ) (is_cut : Bool) (level : ℕ) (element next : Element) (elements : List Element) (span : Span) → span_of file level element ≡ Some span → closes level next.id ≡ true
    → next.place < span.says
    → wrong_at file is_cut level (element ∷ next ∷ elements) ≡ record { id = level; place = span.place; says = span.says; ends = next.place } ∷ wrong_at file is_cut level (next ∷ elements)
early file is_cut level element next elements span s c short =
    by_next file is_cut level element next elements span (Some next.place) s (closed (closes level next.id) (ends_after span.says next) c) (rw (c, lt-ltb next.place span.says short) refl)

pub late : (file : List ℕ) (is_cut : Bool) (level : ℕ) (element next : Element) (elements : List Element) (span : Span) → span_of file level element ≡ Some span → closes level next.id ≡ false
    → ends_after span.says next ≡ true
    → wrong_at file is_cut level (element ∷ next ∷ elements) ≡ record { id = level; place = span.place; says = span.says; ends = next.end } ∷ wrong_at file is_cut level (next ∷ elements)
late file is_cut level element next elements span s c after =
    by_next file is_cut level element next elements span (Some next.end) s (passed (closes level next.id) (ends_after span.says next) after) (rw (c, after) refl)

pub last : (file : List ℕ) (level : ℕ) (element : Element) (span : Span) → span_of file level element ≡ Some span → length file < span.says
    → wrong_at file false level (element ∷ []) ≡ record { id = level; place = span.place; says = span.says; ends = length file } ∷ []
last file level element span s short = rw (s, lt-ltb (length file) span.says short) refl
