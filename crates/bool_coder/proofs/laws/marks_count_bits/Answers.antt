use Rattle.bool_coder.proofs.Marks.{marks-left, marks-value}
use Rattle.bool_coder.proofs.laws.marks_count_bits.Goals as goal

pub returns : goal.returns
returns g c = record {
  left = λ chain zeros. marks-left chain c.args.bytes.now zeros;
  value = λ chain zeros inside. marks-value chain c.args.bytes.now zeros inside;
}
