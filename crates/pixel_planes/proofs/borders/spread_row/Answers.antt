use Rattle.std.proofs.Common.{◌≡◌, ℕ, ◌+◌, ◌*◌, ◌≤◌, List, ◌++◌, length, take, drop, slice_range, ap, sym, ◌∙◌, arith}
use Rattle.std.specs.Simd.Lanes.{chunk, put_chunk}
use Rattle.std.proofs.lemmas.Simd.{length-chunk, put_chunk_is}
use Rattle.pixel_planes.specs.Layout.{bordered_row}
use Rattle.pixel_planes.proofs.Parts.{part_is, chunk_of_take}
use Rattle.pixel_planes.proofs.BorderedRows.{length-bordered_row}
use Rattle.pixel_planes.proofs.borders.spread_row.Goals as goal

-- a list that is written between a front and a rest
written_between : (to n : ℕ) (xs front back out row : List ℕ) → front ≡ take to xs → back ≡ drop to xs → out ≡ row → length row ≡ n → to + n ≤ length xs → front ++ (out ++ drop n back) ≡ put_chunk to xs row
written_between to n xs front back out row f b o len fits = rw (f, b, o, ← len) (sym (put_chunk_is to xs row (omega arith)))

-- the row that is written
the_row_is : (from to width : ℕ) (xs front : List ℕ) → front ≡ take to xs → from + width ≤ to → slice_range front from (from + width) ≡ slice_range xs from (from + width)
the_row_is from to width xs front f fits = rw (part_is front from width, part_is xs from width, f) (chunk_of_take to from width xs fits)

the_length : (from width border : ℕ) (xs : List ℕ) → from + width ≤ length xs → length (bordered_row border (slice_range xs from (from + width))) ≡ width + 2 * border
the_length from width border xs fits = rw (part_is xs from width) (length-bordered_row border (chunk from width xs) ∙ ap (λ n. n + 2 * border) (length-chunk from width xs fits))

pub returns : goal.returns
returns c =
    let same : slice_range c.split_at_mut-front.result.0.now c.args.from (c.args.from + c.args.width) ≡ slice_range c.args.samples.now c.args.from (c.args.from + c.args.width) = the_row_is c.args.from c.args.to c.args.width c.args.samples.now c.split_at_mut-front.result.0.now c.split_at_mut-front.ensures.front c.requires.following in
    written_between _ _ _ _ _ _ _ c.split_at_mut-front.ensures.front c.split_at_mut-front.ensures.back (c.write_bordered.ensures ∙ ap (bordered_row c.args.border) same) (the_length c.args.from c.args.width c.args.border c.args.samples.now (omega (arith, c.requires.following, c.requires.room))) c.requires.room
