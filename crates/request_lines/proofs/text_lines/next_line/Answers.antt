use Rattle.std.proofs.Common.{arith}
use Rattle.request_lines.proofs.TextLines.{cut_first, cut_last}
use Rattle.request_lines.proofs.text_lines.next_line.Goals as goal

pub returns-in-empty-clause-next : goal.returns-in-empty-clause-next
returns-in-empty-clause-next c =
    cut_last _ _ _ _ (search arith) c.length_before-end.ensures.value c.split_at.ensures.front c.split_at.ensures.back c.in-empty.len_below

pub returns-in-len1-up-clause-next : goal.returns-in-len1-up-clause-next
returns-in-len1-up-clause-next c =
    cut_first _ _ _ _ _ c.length_before-end.ensures.value c.split_at.ensures.front c.split_at.ensures.back c.in-len1-up.len_at_least c.without_carriage_return.ensures
