-- Clusters without a time, when one more element is read.
use Rattle.std.proofs.Common.{◌≡◌, ℕ, ◌≤◌, Bool, true, false, ◌&&◌, ◌||◌, cond, eqb, List, [], ◌∷◌, ◌++◌, length, refl, sym, ap, ◌∙◌, arith, append_assoc, append-nil, length-append, Option, Some, None}
use Rattle.std.specs.List.{find}
use Rattle.std.proofs.lemmas.Bool.{eq-eqb, eqb-true}
use Rattle.webm_files.specs.declared.ids.TheConstants.{CLUSTER, TIMESTAMP}
use Rattle.webm_files.specs.declared.elements.Element.{Element}
use Rattle.webm_files.specs.Elements.{is_block}
use Rattle.webm_files.specs.Clusters.{decides_time, is_some_block, lacks_time, timeless_at, timeless_of, waits_after}

-- what is found in elements if a cluster waits for its time before them
abbrev pub waiting : Option ℕ → List Element → List ℕ
waiting None elements = []
waiting (Some place) elements = cond (lacks_time elements) (place ∷ []) []

abbrev pub timeless_with : Option ℕ → List Element → List ℕ
timeless_with waits elements = waiting waits elements ++ timeless_of elements

-- neither a cluster nor a time is a block
other_block : (id known : ℕ) → is_block known ≡ false → eqb id known ≡ true → is_block id ≡ false
other_block id known none same = ap is_block (eqb-true id known same) ∙ none

cluster_no_block : is_block CLUSTER ≡ false
unfolding is_block
cluster_no_block = refl

time_no_block : is_block TIMESTAMP ≡ false
unfolding is_block
time_no_block = refl

-- how the three tests come out
by_tests : (waits : Option ℕ) (element : Element) (rest : List Element) (cluster time block : Bool) → eqb element.id CLUSTER ≡ cluster → eqb element.id TIMESTAMP ≡ time → is_block element.id ≡ block
    → timeless_with waits (element ∷ rest) ≡ timeless_at waits element ++ timeless_with (waits_after waits element) rest
by_tests waits element rest true time true c t b = let wrong : true ≡ false = sym b ∙ other_block element.id CLUSTER cluster_no_block c in (cc)
by_tests None element rest true time false c t b = rw (c, b) refl
by_tests (Some place) element rest true time false c t b = rw (c, b) refl
by_tests waits element rest false true true c t b = let wrong : true ≡ false = sym b ∙ other_block element.id TIMESTAMP time_no_block t in (cc)
by_tests None element rest false true false c t b = rw (c, t, b) refl
by_tests (Some place) element rest false true false c t b = rw (c, t, b) refl
by_tests None element rest false false true c t b = rw (c, t, b) refl
by_tests (Some place) element rest false false true c t b = rw (c, t, b) (rw b refl)
by_tests None element rest false false false c t b = rw (c, t, b) refl
by_tests (Some place) element rest false false false c t b = rw (c, t, b) refl

step : (waits : Option ℕ) (element : Element) (rest : List Element) → timeless_with waits (element ∷ rest) ≡ timeless_at waits element ++ timeless_with (waits_after waits element) rest
step waits element rest = by_tests waits element rest (eqb element.id CLUSTER) (eqb element.id TIMESTAMP) (is_block element.id) refl refl refl

pub timeless_more : (waits next : Option ℕ) (element : Element) (elements : List Element) (found now : List ℕ) (rest : List Element)
    → now ≡ found ++ timeless_at waits element → next ≡ waits_after waits element
    → ((others : List Element) → found ++ timeless_with waits others ≡ timeless_of (elements ++ others))
    → now ++ timeless_with next rest ≡ timeless_of ((elements ++ element ∷ []) ++ rest)
timeless_more waits next element elements found now rest added goes met =
    ap (λ (some : List ℕ). some ++ timeless_with next rest) added
    ∙ ap (λ (other : Option ℕ). (found ++ timeless_at waits element) ++ timeless_with other rest) goes
    ∙ append_assoc found (timeless_at waits element) (timeless_with (waits_after waits element) rest)
    ∙ ap (λ (some : List ℕ). found ++ some) (sym (step waits element rest))
    ∙ met (element ∷ rest)
    ∙ ap timeless_of (sym (append_assoc elements (element ∷ []) rest))

none_waits : (waits : Option ℕ) → timeless_with waits [] ≡ []
none_waits None = refl
none_waits (Some place) = refl

pub none_left : (waits : Option ℕ) (found : List ℕ) (elements : List Element) → ((others : List Element) → found ++ timeless_with waits others ≡ timeless_of (elements ++ others)) → found ≡ timeless_of elements
none_left waits found elements met =
    sym (append-nil found) ∙ ap (λ (some : List ℕ). found ++ some) (sym (none_waits waits)) ∙ met [] ∙ ap timeless_of (append-nil elements)

-- there are no more of them than elements
one_if : (is : Bool) (place : ℕ) → length (cond is (place ∷ []) []) ≤ 1
one_if true place = omega arith
one_if false place = omega arith

pub few_timeless : (elements : List Element) → length (timeless_of elements) ≤ length elements
few_timeless [] = omega arith
few_timeless (element ∷ elements) =
    omega (arith, length-append (cond (eqb element.id CLUSTER && lacks_time elements) (element.place ∷ []) []) (timeless_of elements), one_if (eqb element.id CLUSTER && lacks_time elements) element.place, few_timeless elements)

-- a cluster before a block, and one before its time
either_last : (a b c : Bool) → c ≡ true → (a || (b || c)) ≡ true
either_last true b c e = refl
either_last false true c e = refl
either_last false false c e = e

either_middle : (a b c : Bool) → b ≡ true → (a || (b || c)) ≡ true
either_middle true b c e = refl
either_middle false true c e = refl
either_middle false false c e = let wrong : false ≡ true = e in (cc)

first_if : (is : Bool) (first : Element) (rest : Option Element) → is ≡ true → cond is (Some first) rest ≡ Some first
first_if true first rest e = refl
first_if false first rest e = let wrong : false ≡ true = e in (cc)

found_first : (first : Element) (elements : List Element) → decides_time first ≡ true → find decides_time (first ∷ elements) ≡ Some first
found_first first elements is = first_if (decides_time first) first (find decides_time elements) is

only_if : (cluster lacks : Bool) (place : ℕ) (rest : List ℕ) → cluster ≡ true → lacks ≡ true → cond (cluster && lacks) (place ∷ []) [] ++ rest ≡ place ∷ rest
only_if cluster lacks place rest a b = rw (a, b) refl

none_if : (cluster lacks : Bool) (place : ℕ) (rest : List ℕ) → cluster ≡ true → lacks ≡ false → cond (cluster && lacks) (place ∷ []) [] ++ rest ≡ rest
none_if cluster lacks place rest a b = rw (a, b) refl

pub late : (cluster block : Element) (elements : List Element) → cluster.id ≡ CLUSTER → is_block block.id ≡ true → timeless_of (cluster ∷ block ∷ elements) ≡ cluster.place ∷ timeless_of (block ∷ elements)
late cluster block elements is b =
    let found = found_first block elements (either_last (eqb block.id CLUSTER) (eqb block.id TIMESTAMP) (is_block block.id) b) in
    only_if (eqb cluster.id CLUSTER) (lacks_time (block ∷ elements)) cluster.place (timeless_of (block ∷ elements)) (eq-eqb cluster.id CLUSTER is) (ap is_some_block found ∙ b)

pub timed : (cluster time : Element) (elements : List Element) → cluster.id ≡ CLUSTER → time.id ≡ TIMESTAMP → timeless_of (cluster ∷ time ∷ elements) ≡ timeless_of (time ∷ elements)
timed cluster time elements is t =
    let found = found_first time elements (either_middle (eqb time.id CLUSTER) (eqb time.id TIMESTAMP) (is_block time.id) (eq-eqb time.id TIMESTAMP t)) in
    none_if (eqb cluster.id CLUSTER) (lacks_time (time ∷ elements)) cluster.place (timeless_of (time ∷ elements)) (eq-eqb cluster.id CLUSTER is) (ap is_some_block found ∙ (ap is_block t ∙ time_no_block))
