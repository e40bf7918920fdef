-- Walks with one more element.
use Rattle.std.proofs.Common.{◌≡◌, ℕ, List, [], ◌∷◌, ◌++◌, refl, subst, sym}
use Rattle.webm_files.specs.declared.elements.Element.{Element}
use Rattle.webm_files.specs.Walks.{IsNext, Walked}
use Rattle.webm_files.specs.Blocks.{Reading, after, after_all}

pub walked_more : (file : List ℕ) (at : ℕ) (elements : List Element) (to : ℕ) (element : Element) → Walked file at elements to → IsNext file to element → Walked file at (elements ++ element ∷ []) element.end
walked_more file at [] to element so_far next = (subst (λ n. IsNext file n element) (sym so_far) next, refl)
walked_more file at (first ∷ elements) to element so_far next = (so_far.0, walked_more file first.end elements to element so_far.1 next)

pub after_all_more : (file : List ℕ) (known : Reading) (elements : List Element) (element : Element) → after_all file known (elements ++ element ∷ []) ≡ after file (after_all file known elements) element
after_all_more file known [] element = refl
after_all_more file known (first ∷ elements) element = after_all_more file (after file known first) elements element
