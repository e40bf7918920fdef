use Rattle.std.proofs.Common.{List, ◌++◌, drop, take, sym, ap, ◌∙◌}
use Rattle.std.proofs.Math.Seq.{take-add}
use Rattle.std.proofs.lemmas.Grind.{flat_map-append}
use Rattle.packet_edits.specs.Saved.{packets_of}
use Rattle.stream_checks.specs.declared.finding.Finding.{Finding}
use Rattle.stream_checks.specs.Packets.{findings_of_each, joined}
use Rattle.session_questions.proofs.Steps.{drop-more}
use Rattle.session_questions.proofs.laws.findings_are_joined.Goals as goal

pub returns : goal.returns
returns c = λ tables list first count more.
    let all : List (List Finding) = findings_of_each tables (packets_of list) in
    let rest = drop first all in
    ap (λ (left : List (List Finding)). joined (take count rest) ++ joined (take more left)) (drop-more all first count)
    ∙ sym (flat_map-append (λ (found : List Finding). found) (take count rest) (take more (drop count rest)))
    ∙ ap joined (sym (take-add count more rest))
