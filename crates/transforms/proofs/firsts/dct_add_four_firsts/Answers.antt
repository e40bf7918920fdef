use Rattle.std.proofs.Common.{◌≡◌, ℕ, ◌<◌, List, ◌++◌, get_or, pos, w8, w16, Fits, SFits, rules}
use Rattle.std.specs.Prelude.{slice_index, slice_index_or}
use Rattle.std.proofs.lemmas.Int.{to_z-of_z}
use Rattle.transforms.specs.Residuals.{firsts_residual}
use Rattle.transforms.proofs.Rows.{below_four}
use Rattle.transforms.proofs.MovedRows.{four_times_four, RowsMoved, part_at, more_of, less_of, parts_of, moved_added, nothing_added, zero_of}
use Rattle.transforms.proofs.firsts.dct_add_four_firsts.Goals as goal

pub returns : goal.returns
returns c =
    let fits0 : SFits w16 (get_or c.args.firsts 0 (pos 0)) = search rules in
    let fits1 : SFits w16 (get_or c.args.firsts 1 (pos 0)) = search rules in
    let fits2 : SFits w16 (get_or c.args.firsts 2 (pos 0)) = search rules in
    let fits3 : SFits w16 (get_or c.args.firsts 3 (pos 0)) = search rules in
    let fits : (k : ℕ) → k < 4 → SFits w16 (slice_index_or c.args.firsts k (pos 0)) = below_four (λ k. SFits w16 (slice_index_or c.args.firsts k (pos 0))) fits0 fits1 fits2 fits3 in
    let is = simp to_z-of_z at c.parts.ensures.more in
    let is_less = simp to_z-of_z at c.parts.ensures.less in
    let more : List ℕ = four_times_four (c.parts.result.0 ++ c.parts.result.0) in
    let less : List ℕ = four_times_four (c.parts.result.1 ++ c.parts.result.1) in
    let small : (k : ℕ) → slice_index c.args.samples.now k < 256 = λ k. (let f : Fits w8 (get_or c.args.samples.now k 0) = search rules in f.fits) in
    let rows : RowsMoved more less 16 c.args.stride 4 c.args.samples.now c.move_rows.new.samples = record { whole = c.move_rows.ensures.whole; each = c.move_rows.ensures.each; others = c.move_rows.ensures.others } in
    moved_added (firsts_residual c.args.firsts) more less 16 c.args.stride c.args.samples.now c.move_rows.new.samples rows small
    (parts_of c.args.firsts (c.parts.result.0 ++ c.parts.result.0) (c.parts.result.1 ++ c.parts.result.1) fits (part_at (more_of c.args.firsts) c.parts.result.0 c.parts.result.0 is) (part_at (less_of c.args.firsts) c.parts.result.1 c.parts.result.1 is_less))

pub returns-then-firsts-eq0-4 : goal.returns-then-firsts-eq0-4
returns-then-firsts-eq0-4 c =
    let fits0 : SFits w16 (get_or c.args.firsts 0 (pos 0)) = search rules in
    let fits1 : SFits w16 (get_or c.args.firsts 1 (pos 0)) = search rules in
    let fits2 : SFits w16 (get_or c.args.firsts 2 (pos 0)) = search rules in
    let fits3 : SFits w16 (get_or c.args.firsts 3 (pos 0)) = search rules in
    let small : (k : ℕ) → slice_index c.args.samples.now k < 256 = λ k. (let f : Fits w8 (get_or c.args.samples.now k 0) = search rules in f.fits) in
    nothing_added c.args.firsts 4 c.args.stride c.args.samples.now (below_four (λ k. slice_index_or c.args.firsts k (pos 0) ≡ pos 0) (zero_of _ fits0 c.if-firsts-eq0.true) (zero_of _ fits1 c.if-firsts-eq0-2.true) (zero_of _ fits2 c.if-firsts-eq0-3.true) (zero_of _ fits3 c.if-firsts-eq0-4.true)) small
