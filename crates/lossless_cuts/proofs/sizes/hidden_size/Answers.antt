use Rattle.std.proofs.Common.{◌≡◌, ◌∙◌, true, not, sym, ap}
use Rattle.lossless_cuts.specs.Plans.{has_bytes}
use Rattle.lossless_cuts.proofs.HiddenSizes.{hidden_size-some}
use Rattle.lossless_cuts.proofs.sizes.hidden_size.Goals as goal

pub returns-else-is_empty : goal.returns-else-is_empty
returns-else-is_empty c =
    let some : has_bytes c.args.packet.now ≡ true = ap not (sym c.is_empty.ensures ∙ c.if-is_empty.false) in
    c.record_size.ensures ∙ hidden_size-some c.only_the_show_bit_changes.ensures.tag c.only_the_show_bit_changes.ensures.rest c.args.packet.now some
