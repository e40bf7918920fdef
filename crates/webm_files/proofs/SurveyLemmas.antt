-- The first element of a name, when one more element is read.
use Rattle.std.proofs.Common.{◌≡◌, ℕ, Bool, true, false, cond, List, [], ◌∷◌, ◌++◌, sym, ap, ◌∙◌, subst, eqb, Option, Some, None, IfSome}
use Rattle.std.specs.Option.{option_or}
use Rattle.std.proofs.lemmas.List.Folds.{find-append}
use Rattle.webm_files.specs.declared.elements.Element.{Element}
use Rattle.webm_files.specs.Walks.{first_of}

pub first_of-more : (id : ℕ) (elements : List Element) (element : Element) (found result : Option Element) → found ≡ first_of id elements
    → result ≡ option_or found (cond (eqb element.id id) (Some element) None) → result ≡ first_of id (elements ++ element ∷ [])
first_of-more id elements element found result was is =
    is ∙ ap (λ f. option_or f (cond (eqb element.id id) (Some element) None)) was ∙ sym (find-append (λ (e : Element). eqb e.id id) elements (element ∷ []))

either : (P : Element → Type 0) (found : Option Element) (b : Bool) (element : Element) → IfSome found P → P element → IfSome (option_or found (cond b (Some element) None)) P
either P (Some first) b element before now = before
either P None true element before now = now
either P None false element before now = before

pub first_of-within : (P : Element → Type 0) (id : ℕ) (element : Element) (found result : Option Element) → result ≡ option_or found (cond (eqb element.id id) (Some element) None)
    → IfSome found P → P element → IfSome result P
first_of-within P id element found result is before now = subst (λ r. IfSome r P) (sym is) (either P found (eqb element.id id) element before now)
