use Rattle.std.proofs.Common.{◌∙◌, rules}
use Rattle.text_words.proofs.Numbers.{digits_utf8, number_parsed}
use Rattle.text_words.proofs.words.number.Goals as goal

pub returns-in-Err : goal.returns-in-Err
returns-in-Err c = absurd (c.in-Err.ensures.cases.0 (digits_utf8 c.args.word.now (search rules)))

pub returns-in-Ok : goal.returns-in-Ok
returns-in-Ok c = c.ok.ensures.value ∙ number_parsed c.args.word.now c.parse.result c.if-word-gt-MOST_DIGITS.false (search rules) (rw c.in-Ok.ensures.cases.0 at c.parse.ensures.value.0)
