use Rattle.std.proofs.Common.{ℕ, ◌<◌, get_or, arith, w8, Fits, rules}
use Rattle.std.specs.Prelude.{slice_index}
use Rattle.transforms.proofs.EightSums.{eight_fit, eight_added}
use Rattle.transforms.proofs.pairs.add_eight.Goals as goal

pub overflow_cast-samples : goal.overflow_cast-samples
overflow_cast-samples c =
    let bytes : (k : ℕ) → slice_index c.args.samples.now k < 256 = λ k. (let f : Fits w8 (get_or c.args.samples.now k 0) = search rules in f.fits) in
    eight_fit c.args.samples.now c.args.start c.args.residuals c.requires.room (omega arith) bytes c.requires.small

pub returns : goal.returns
returns c =
    let bytes : (k : ℕ) → slice_index c.args.samples.now k < 256 = λ k. (let f : Fits w8 (get_or c.args.samples.now k 0) = search rules in f.fits) in
    eight_added c.args.samples.now c.args.start c.args.residuals c.requires.room (omega arith) bytes c.requires.small
