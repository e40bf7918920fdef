use Rattle.std.proofs.Common.{arith}
use Rattle.text_words.proofs.Splits.{cut_none, cut_word}
use Rattle.text_words.proofs.words.next_word.Goals as goal

pub returns-then-is_empty-clause-next : goal.returns-then-is_empty-clause-next
returns-then-is_empty-clause-next c =
    cut_none _ _ _ c.leading_spaces.ensures.value c.split_at.ensures.back (search arith)

pub returns-clause-next : goal.returns-clause-next
returns-clause-next c =
    (cut_word _ _ _ _ _ _ c.leading_spaces.ensures.value c.split_at.ensures.back (search arith) c.length_before.ensures.value c.split_at-2.ensures.front c.split_at-2.ensures.back).0

pub returns-clause-shorter : goal.returns-clause-shorter
returns-clause-shorter c =
    (cut_word _ _ _ _ _ _ c.leading_spaces.ensures.value c.split_at.ensures.back (search arith) c.length_before.ensures.value c.split_at-2.ensures.front c.split_at-2.ensures.back).1
