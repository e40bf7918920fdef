use Rattle.std.proofs.Common.{◌≡◌, ◌%◌, ◌∙◌, ap, refl, arith, pos, ◌+ℤ◌}
use Rattle.std.specs.Int.{w16, w64, saturate_unsigned}
use Rattle.std.proofs.lemmas.Int.{to_z-of_z}
use Rattle.webm_files.specs.Elements.{unmarked}
use Rattle.webm_files.proofs.Steps.{no_number, short, whole}
use Rattle.webm_files.proofs.blocks.block_in.Goals as goal

pub returns-in_err-marked-clause-block : goal.returns-in_err-marked-clause-block
returns-in_err-marked-clause-block c = c.from_residual.ensures ∙ no_number _ _ _ _ c.in_err-marked.ensures.none

pub returns-then-text-size-clause-block : goal.returns-then-text-size-clause-block
returns-then-text-size-clause-block c = short _ _ _ _ (omega (arith, c.in_ok-marked.ensures.size))

pub returns-clause-block : goal.returns-clause-block
returns-clause-block c =
    let track : c.in_ok-marked.marked % c.mark_of.result ≡ unmarked c.args.text.now = rw (c.in_ok-marked.ensures.value, c.mark_of.ensures.value, c.in_ok-marked.ensures.size) refl in
    let time = c.from.ensures ∙ to_z-of_z w16 c.read_i16.result (record { sfits = c.read_i16.type_inv }) ∙ c.read_i16.ensures in
    let stamp = c.saturating_add_signed.ensures ∙ ap (λ z. saturate_unsigned w64 (pos c.args.base +ℤ z)) (to_z-of_z w64 c.from.result (record { sfits = c.from.type_inv }) ∙ time) in
    whole _ _ _ _ _ _ _ _ c.in_ok-marked.ensures.has (omega (arith, c.in_ok-marked.ensures.size)) c.in_ok-marked.ensures.size track stamp refl
