-- Reading a file finds one list of elements.
use Rattle.std.proofs.Common.{◌≡◌, ℕ, inl, inr, List, [], ◌∷◌, refl, sym, ap, ◌∙◌, subst, arith}
use Rattle.std.proofs.lemmas.Bool.{cases_lt}
use Rattle.webm_files.specs.declared.elements.Element.{Element}
use Rattle.webm_files.specs.declared.blocks.Block.{Block}
use Rattle.webm_files.specs.Walks.{IsNext, IsEnd, Walk, IsWalk, Walked, element_of}
use Rattle.webm_files.specs.Blocks.{AreBlocks, blocks_of}

one_place : (file : List ℕ) (at : ℕ) (a b : Element) → IsNext file at a → IsNext file at b → a.place ≡ b.place
one_place file at a b first second = elim (cases_lt a.place b.place) [
  | inl h ↦ absurd (second.first a.place first.later h first.begins)
  | inr h ↦ elim (cases_lt b.place a.place) [
    | inl k ↦ absurd (first.first b.place second.later k second.begins)
    | inr k ↦ omega (arith, h, k)
  ]
]

one_next : (file : List ℕ) (at : ℕ) (a b : Element) → IsNext file at a → IsNext file at b → a ≡ b
one_next file at a b first second = first.is ∙ ap (element_of file) (one_place file at a b first second) ∙ sym second.is

pub one_walk : (file : List ℕ) (at : ℕ) (xs : List Element) (to : ℕ) (bs : List Element) (other : ℕ)
    → Walked file at xs to → IsEnd file to → Walked file at bs other → IsEnd file other → xs ≡ bs
one_walk file at [] to [] other here over there done = refl
one_walk file at [] to (b ∷ bs) other here over there done =
    let none : IsEnd file at = subst (IsEnd file) (sym here) over in absurd (none b.place there.0.later there.0.begins)
one_walk file at (a ∷ xs) to [] other here over there done =
    let none : IsEnd file at = subst (IsEnd file) (sym there) done in absurd (none a.place here.0.later here.0.begins)
one_walk file at (a ∷ xs) to (b ∷ bs) other here over there done =
    let first : a ≡ b = one_next file at a b here.0 there.0 in
    let rest : xs ≡ bs = one_walk file a.end xs to bs other here.1 over (subst (λ e. Walked file e.end bs other) (sym first) there.1) done in
    (cc)

-- the same elements end at one position
one_end : (file : List ℕ) (at : ℕ) (elements : List Element) (to other : ℕ) → Walked file at elements to → Walked file at elements other → to ≡ other
one_end file at [] to other here there = sym here ∙ there
one_end file at (element ∷ elements) to other here there = one_end file element.end elements to other here.1 there.1

pub walks_are_one : (file : List ℕ) (walk other : Walk) → IsWalk file walk → IsWalk file other → walk ≡ other
walks_are_one file walk other here there =
    let same : walk.elements ≡ other.elements = one_walk file 0 walk.elements walk.end other.elements other.end here.walked here.over there.walked there.over in
    let end : walk.end ≡ other.end = one_end file 0 walk.elements walk.end other.end here.walked (subst (λ es. Walked file 0 es other.end) (sym same) there.walked) in
    ap (λ es. record { elements = es; end = walk.end }) same ∙ ap (λ n. record { elements = other.elements; end = n }) end

pub blocks_are_one : (file : List ℕ) (blocks others : List Block) → AreBlocks file blocks → AreBlocks file others → blocks ≡ others
blocks_are_one file blocks others here there = here.found ∙ ap (λ walk. blocks_of file walk.elements) (walks_are_one file here.walk there.walk here.is there.is) ∙ sym there.found
