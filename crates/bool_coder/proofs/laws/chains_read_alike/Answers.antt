use Rattle.std.proofs.Common.{ℕ, ◌≤◌, get_or, ap, sym, ◌∙◌, arith}
use Rattle.bool_coder.specs.Reader.{Reader, text_start, read}
use Rattle.bool_coder.specs.Chains.{run}
use Rattle.bool_coder.proofs.UncutAlike.{started-settled, start-range}
use Rattle.bool_coder.proofs.Chains.{run-settled}
use Rattle.bool_coder.proofs.laws.chains_read_alike.Goals as goal

pub returns : goal.returns
returns g c =
    let small : (k : ℕ) → get_or c.args.bytes.now k 0 ≤ 255 = λ k. omega (arith, c.type_inv.bytes k) in
    record {
      value = λ chain probable. ap (λ (r : Reader). (run read chain r).0) (sym (started-settled c.args.bytes.now small)) ∙ ap (λ s. s.0) (run-settled chain (text_start c.args.bytes.now) probable (start-range c.args.bytes.now));
      reader = λ chain probable r. run-settled chain r probable;
    }
