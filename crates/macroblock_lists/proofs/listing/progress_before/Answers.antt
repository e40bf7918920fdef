use Rattle.std.proofs.Common.{◌∙◌}
use Rattle.std.proofs.lemmas.Result.{IfOk-weaker}
use Rattle.macroblock_lists.proofs.Progress.{progress_starts}
use Rattle.macroblock_lists.proofs.listing.progress_before.Goals as goal

pub returns : goal.returns
returns c =
    let starts = progress_starts c.args.tables.now c.args.packets.now c.key_before-start.result c.args.place c.requires c.key_before-start.ensures.key in
    IfOk-weaker c.progress_over.result _ _ (λ p is. is ∙ starts) c.progress_over.ensures
