use Rattle.std.specs.Cmp.Rules.{signed_items}
use Rattle.std.proofs.lemmas.Bool.Decides.{Decides-at}
use Rattle.reference_frames.proofs.comparison.same_numbers.Goals as goal

pub returns : goal.returns
returns c = Decides-at c.eq.result _ c.eq.ensures (signed_items c.args.a.now c.args.b.now)
