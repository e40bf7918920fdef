use Rattle.request_lines.proofs.HexWords.{read_back}
use Rattle.request_lines.proofs.laws.words_are_read_back.Goals as goal

pub returns : goal.returns
returns c = read_back
