use Rattle.script_nodes.proofs.TextParts.{cut_last, cut_first}
use Rattle.explanations.proofs.nodes.cut_part.Goals as goal

pub returns-in-empty-clause-cut : goal.returns-in-empty-clause-cut
returns-in-empty-clause-cut c = cut_last _ _ _ _ _ c.length_before.ensures.value c.split_at.ensures.front c.split_at.ensures.back c.in-empty.len_below

pub returns-in-len1-up-clause-cut : goal.returns-in-len1-up-clause-cut
returns-in-len1-up-clause-cut c = cut_first _ _ _ _ _ c.length_before.ensures.value c.split_at.ensures.front c.split_at.ensures.back c.in-len1-up.len_at_least
