-- The sizes after steps.
use Rattle.std.proofs.Common.{◌≡◌, ℕ, suc, ◌<◌, None, Result, Ok, Err, List, [], ◌∷◌, length, drop, get_or, refl, ap, sym, ◌∙◌}
use Rattle.std.proofs.Math.Seq.{drop-cons}
use Rattle.std.specs.Result.{IsErr, result_ok}
use Rattle.script_nodes.specs.declared.traces.Step.{Step}
use Rattle.script_nodes.specs.Frames.{after_steps}
use Rattle.script_nodes.specs.Shown.{Size, step_size, use_size, steps_size}

-- an error makes no picture
pub err_none : {T E : Type 0} (r : Result T E) → IsErr r → result_ok r ≡ None
err_none (Ok x) h = cc
err_none (Err e) h = refl

-- after a size that does not exist
pub none_after : (steps : List Step) → after_steps use_size steps None ≡ None
none_after [] = refl
none_after (step ∷ steps) = none_after steps

-- if the next step crops past the size
pub size_refused : (steps : List Step) (i : ℕ) (size : Size) (d : Step) → i < length steps → None ≡ step_size (get_or steps i d) size → steps_size (drop i steps) size ≡ None
size_refused steps i size d h refused =
    ap (λ (l : List Step). steps_size l size) (drop-cons steps i d h)
    ∙ ap (after_steps use_size (drop (suc i) steps)) (sym refused)
    ∙ none_after (drop (suc i) steps)
