use Rattle.std.proofs.Common.{ap, ◌∙◌, length}
use Rattle.bool_coder.specs.Reader.{Reader}
use Rattle.bool_coder.proofs.decoder.Decoder.left.Goals as goal

pub returns : goal.returns
returns c = c.unread.ensures c.self.inside.range ∙ ap (λ (r : Reader). length r.rest) c.self.view_is
