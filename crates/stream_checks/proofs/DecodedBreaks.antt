-- What is known after each packet is what decoding leaves.
use Rattle.std.proofs.Common.{◌≡◌, ◌+◌, List, [], ◌∷◌, refl, ap, ◌∙◌}
use Rattle.stream_steps.specs.Decoding.{Outcome, left_by, outcome}
use Rattle.macroblock_lists.specs.Known.{Knowledge, progress_after}
use Rattle.macroblock_lists.specs.KnownLaws.{known_in}
use Rattle.macroblock_lists.proofs.KnownOfStates.{after_one}
use Rattle.stream_checks.specs.Breaks.{progresses_from}
use Rattle.stream_checks.specs.Laws.{BreaksAreDecoded}

pub breaks_decoded : BreaksAreDecoded
breaks_decoded tables place before [] = refl
breaks_decoded tables place before (packet ∷ packets) =
    let known : Outcome → Knowledge = λ outcome. known_in (left_by outcome) in
    let found : Outcome = outcome tables place before packet in
    let after : progress_after tables place (known_in before) packet ≡ known found = after_one tables place packet before in
    ap (λ (p : Knowledge). p ∷ progresses_from tables (place + 1) p packets) after
    ∙ ap (λ (ps : List Knowledge). known found ∷ ps) (breaks_decoded tables (place + 1) (left_by found) packets)
