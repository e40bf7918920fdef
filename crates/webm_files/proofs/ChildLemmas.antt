-- Children of a content, the first of which is read.
use Rattle.std.proofs.Common.{◌≡◌, ℕ, zero, suc, ◌+◌, ◌-◌, ◌^◌, ◌<◌, ◌≤◌, true, false, cond, inl, inr, List, [], ◌∷◌, length, drop, refl, sym, ap, ◌∙◌, arith, length-drop, Decides, leb, eqb, take}
use Rattle.std.proofs.lemmas.Bool.{cases_Bool, false_from_ne_true, leb-true, le-leb, eq-eqb, ne_eqb, cond-true, cond-false}
use Rattle.std.proofs.lemmas.Bool.Decides.{Decides-and, Decides-ltb}
use Rattle.std.proofs.lemmas.List.{take_rest}
use Rattle.webm_files.specs.Elements.{width, after_number, head_size, content_size, id_of}
use Rattle.webm_files.specs.Children.{HasChild, has_child, first_child, after_child, children_up_to, children, child_of}

-- what the test of a child says, as facts
abbrev Parts : List ℕ → Type 0
Parts text = ((width text ≤ 4) × (width text ≤ length text)) × (((width (after_number text) ≤ 8) × (width (after_number text) ≤ length (after_number text))) × ((content_size text + 1 < 128 ^ width (after_number text)) × (head_size text + content_size text ≤ length text)))

Decides-le : (a b : ℕ) → Decides (leb a b) (a ≤ b)
Decides-le a b = (leb-true a b, le-leb a b)

decides : (text : List ℕ) → Decides (has_child text) (Parts text)
unfolding has_child
decides text = Decides-and _ _ (Decides-and _ _ (Decides-le _ _) (Decides-le _ _)) (Decides-and _ _ (Decides-and _ _ (Decides-le _ _) (Decides-le _ _)) (Decides-and _ _ (Decides-ltb _ _) (Decides-le _ _)))

pub child_is : (text : List ℕ) → HasChild text → has_child text ≡ true
child_is text has = (decides text).1 ((has.head.0.0, has.head.0.1), ((has.head.1.0, has.head.1.1), (has.sized, has.whole)))

pub is_child : (text : List ℕ) → has_child text ≡ true → HasChild text
is_child text e = let parts = (decides text).0 e in record { head = (parts.0, parts.1.0); sized = parts.1.1.0; whole = parts.1.1.1 }

pub no_child : (text : List ℕ) → ¬ HasChild text → has_child text ≡ false
no_child text none = false_from_ne_true (has_child text) (λ e. none (is_child text e))

-- a child has a byte at least
shorter : (text : List ℕ) → has_child text ≡ true → length (after_child text) < length text
shorter text e = let has = is_child text e in omega (arith, has.whole, length-drop (head_size text + content_size text) text)

-- a number of children that is no less than the number of bytes is all
enough : (n m : ℕ) (text : List ℕ) → length text ≤ n → length text ≤ m → children_up_to n text ≡ children_up_to m text
unfolding children_up_to
enough zero zero text _ _ = refl
enough zero (suc m) text low _ = elim (cases_Bool (has_child text)) [
  | inl e ↦ absurd (omega (arith, low, shorter text e))
  | inr e ↦ sym (ap (λ b. cond b (first_child text ∷ children_up_to m (after_child text)) []) e)
]
enough (suc n) zero text _ low = elim (cases_Bool (has_child text)) [
  | inl e ↦ absurd (omega (arith, low, shorter text e))
  | inr e ↦ ap (λ b. cond b (first_child text ∷ children_up_to n (after_child text)) []) e
]
enough (suc n) (suc m) text low high = elim (cases_Bool (has_child text)) [
  | inl e ↦ let less = shorter text e in ap (λ more. cond (has_child text) (first_child text ∷ more) []) (enough n m (after_child text) (omega (arith, low, less)) (omega (arith, high, less)))
  | inr e ↦ ap (λ b. cond b (first_child text ∷ children_up_to n (after_child text)) []) e ∙ sym (ap (λ b. cond b (first_child text ∷ children_up_to m (after_child text)) []) e)
]

pub children-some : (text : List ℕ) → has_child text ≡ true → children text ≡ first_child text ∷ children (after_child text)
unfolding children_up_to
children-some text e =
    let less = shorter text e in
    let after : List ℕ = after_child text in
    enough (length text) (suc (length text)) text (omega arith) (omega arith)
    ∙ ap (λ b. cond b (first_child text ∷ children_up_to (length text) after) []) e
    ∙ ap (λ more. first_child text ∷ more) (enough (length text) (length after) after (omega (arith, less)) (omega arith))

pub children-none : (text : List ℕ) → has_child text ≡ false → children text ≡ []
unfolding children_up_to
children-none text e = enough (length text) (suc (length text)) text (omega arith) (omega arith) ∙ ap (λ b. cond b (first_child text ∷ children_up_to (length text) (after_child text)) []) e

-- the first child of a name: the child at the front, or one of those after it
pub child_of-here : (id name start end : ℕ) (text : List ℕ) → HasChild text → name ≡ id_of text → name ≡ id → start ≡ head_size text → end ≡ head_size text + content_size text
    → take (end - start) (drop start text) ≡ child_of id (children text)
child_of-here id name start end text has is same is_start is_end =
    let size : end - start ≡ content_size text = omega (arith, is_start, is_end) in
    let named : eqb (id_of text) id ≡ true = eq-eqb (id_of text) id (sym is ∙ same) in
    ap (λ n. take n (drop start text)) size ∙ ap (λ n. take (content_size text) (drop n text)) is_start
    ∙ sym (ap (child_of id) (children-some text (child_is text has)) ∙ cond-true _ _ _ named)

pub child_of-later : (id name end : ℕ) (text : List ℕ) → HasChild text → name ≡ id_of text → (name ≡ id → ⊥) → end ≡ head_size text + content_size text
    → child_of id (children text) ≡ child_of id (children (take (length text - end) (drop end text)))
child_of-later id name end text has is other is_end =
    let named : eqb (id_of text) id ≡ false = ne_eqb (id_of text) id (λ e. other (is ∙ e)) in
    ap (child_of id) (children-some text (child_is text has)) ∙ cond-false _ _ _ named
    ∙ ap (λ n. child_of id (children (drop n text))) (sym is_end) ∙ ap (λ rest. child_of id (children rest)) (sym (take_rest text end))

pub child_of-none : (id : ℕ) (text : List ℕ) → ¬ HasChild text → [] ≡ child_of id (children text)
child_of-none id text none = ap (child_of id) (sym (children-none text (no_child text none)))
