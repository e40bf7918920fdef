use Rattle.std.proofs.Common.{◌+◌, map, ap, arith}
use Rattle.webm_writing.specs.Written.{part_piece, seeks_from}
use Rattle.webm_writing.proofs.Indexed.{seeks_end, seeks_step}
use Rattle.webm_writing.proofs.Lengths.{parts_next}
use Rattle.webm_writing.proofs.indexes.write_seeks.Goals as goal

pub loop-part-preserved : goal.loop-part-preserved
loop-part-preserved g c =
    let w = g.W.Write.contents in
    let parts = c.args.parts.now in
    let i = c.loop-part.part-index in
    let part = c.part-item.result in
    let next = parts_next parts i part c.loop-part-test.true c.part-item.is in record {
      has = seeks_step (w c.args.w.now) (w c.loop-part.w) (w c.write_seek.new.w) (seeks_from c.args.first (map part_piece parts)) c.loop-part.at (c.loop-part.at + c.part_size-at.result) parts i part
          c.loop-part-test.true c.part-item.is (ap (λ n. c.loop-part.at + n) c.part_size-at.ensures) c.loop-part.invariant.has c.in_ok-write_seek.ensures;
      place = omega (arith, next, c.part_size-at.ensures, c.loop-part.invariant.place);
    }

pub returns : goal.returns
returns g c =
    let w = g.W.Write.contents in
    seeks_end (w c.args.w.now) (w c.loop-part.w) (seeks_from c.args.first (map part_piece c.args.parts.now)) c.loop-part.at c.args.parts.now c.loop-part.part-index c.loop-part-test.false c.loop-part.invariant.has
