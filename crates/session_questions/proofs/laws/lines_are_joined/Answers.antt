use Rattle.std.proofs.Common.{ℕ, List, ◌++◌, drop, take, sym, ap, ◌∙◌}
use Rattle.std.proofs.Math.Seq.{take-add}
use Rattle.session_questions.specs.Lines.{lines_of}
use Rattle.session_questions.proofs.Steps.{drop-more}
use Rattle.session_questions.proofs.laws.lines_are_joined.Goals as goal

pub returns : goal.returns
returns c = λ list first count more.
    let lines = lines_of list in
    ap (λ (rest : List (List ℕ)). take count (drop first lines) ++ take more rest) (drop-more lines first count) ∙ sym (take-add count more (drop first lines))
