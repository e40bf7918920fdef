use Rattle.std.proofs.Common.{ℕ, ◌≤◌, get_or, ap, sym, ◌∙◌, arith}
use Rattle.bool_coder.specs.Reader.{text_start, read}
use Rattle.bool_coder.specs.Uncut.{bits_read}
use Rattle.bool_coder.proofs.UncutAlike.{bits_read-settled, started-settled, start-range, read-settled, uncut_read-range}
use Rattle.bool_coder.proofs.laws.uncut_reads_alike.Goals as goal

pub returns : goal.returns
returns c =
    let probable : (k : ℕ) → get_or c.args.probs.now k 0 ≤ 255 = λ k. omega (arith, c.type_inv.probs k) in
    let small : (k : ℕ) → get_or c.args.bytes.now k 0 ≤ 255 = λ k. omega (arith, c.type_inv.bytes k) in
    record {
      bits = ap (bits_read read c.args.probs.now) (sym (started-settled c.args.bytes.now small)) ∙ bits_read-settled c.args.probs.now (text_start c.args.bytes.now) probable (start-range c.args.bytes.now);
      start = started-settled c.args.bytes.now small;
      step = read-settled;
      range = uncut_read-range;
    }
