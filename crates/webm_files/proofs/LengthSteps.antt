-- The span of an element.
use Rattle.std.proofs.Common.{◌≡◌, ℕ, ◌^◌, ◌+◌, ◌&&◌, Bool, true, false, List, drop, ◌↔◌, IsTrue, refl, sym, not, ◌∙◌, Some, None, nat_lt}
use Rattle.std.proofs.lemmas.Bool.{lt-ltb, ne_eqb, eq-eqb, ltb-true}
use Rattle.webm_files.specs.declared.elements.Element.{Element}
use Rattle.webm_files.specs.Elements.{IsSized, after_number, content_size, width}
use Rattle.webm_files.specs.Lengths.{span_of}

pub span_of-other : (file : List ℕ) (level : ℕ) (element : Element) → (element.id ≡ level → ⊥) → None ≡ span_of file level element
unfolding span_of
span_of-other file level element other = rw (ne_eqb element.id level other) refl

is_false : (b : Bool) → not b ≡ true → b ≡ false
is_false true e = let wrong : false ≡ true = e in (cc)
is_false false e = refl

is_true : (b : Bool) → not b ≡ false → b ≡ true
is_true true e = refl
is_true false e = let wrong : true ≡ false = e in (cc)

-- a test for a length that is known
no_test : (sized test : Bool) → (test ≡ true → sized ≡ true) → sized ≡ false → test ≡ false
no_test sized true gives e = let known : sized ≡ true = gives refl in let wrong : true ≡ false = sym known ∙ e in (cc)
no_test sized false gives e = refl

both_false : (a b : Bool) → b ≡ false → (a && b) ≡ false
both_false true b e = e
both_false false b e = refl

pub span_of-unsized : (file : List ℕ) (level : ℕ) (element : Element) (is : Bool) → IsTrue is ↔ IsSized (drop element.place file) → not is ≡ true → None ≡ span_of file level element
unfolding span_of
span_of-unsized file level element is sized e =
    let text = drop element.place file in
    let test : nat_lt (content_size text + 1) (128 ^ width (after_number text)) ≡ false
    = no_test is (nat_lt (content_size text + 1) (128 ^ width (after_number text))) (λ t. sized.1 (ltb-true (content_size text + 1) (128 ^ width (after_number text)) t)) (is_false is e) in
    rw (both_false _ _ test) refl

pub span_of-sized : (file : List ℕ) (level : ℕ) (element : Element) (size : ℕ) (is : Bool) → element.id ≡ level → size ≡ content_size (drop element.place file) → IsTrue is ↔ IsSized (drop element.place file) → not is ≡ false
    → Some (record { place = element.place; says = element.start + size }) ≡ span_of file level element
unfolding span_of
span_of-sized file level element size is same sizes sized e =
    let text = drop element.place file in
    let test : nat_lt (content_size text + 1) (128 ^ width (after_number text)) ≡ true = lt-ltb (content_size text + 1) (128 ^ width (after_number text)) (sized.0 (is_true is e)) in
    rw (eq-eqb element.id level same, test, sizes) refl
