use Rattle.std.proofs.Common.{◌+◌, ◌<◌, get_or, lit<}
use Rattle.transforms.proofs.Rows.{row_added}
use Rattle.transforms.proofs.Held.{sum_is, sum_asks}
use Rattle.transforms.proofs.blocks.add_row.Goals as goal

pub overflow_cast-after : goal.overflow_cast-after
overflow_cast-after c =
    let small0 : get_or c.args.samples.now c.args.start 0 < 256 = search depth 2 parts 0 in
    let small1 : get_or c.args.samples.now (c.args.start + 1) 0 < 256 = search depth 2 parts 0 in
    let small2 : get_or c.args.samples.now (c.args.start + 2) 0 < 256 = search depth 2 parts 0 in
    let small3 : get_or c.args.samples.now (c.args.start + 3) 0 < 256 = search depth 2 parts 0 in
    (sum_asks _ _ small0 (c.requires.small 0 (lit< tt)), (sum_asks _ _ small1 (c.requires.small 1 (lit< tt)), (sum_asks _ _ small2 (c.requires.small 2 (lit< tt)), (sum_asks _ _ small3 (c.requires.small 3 (lit< tt)), tt))))

pub returns : goal.returns
returns c =
    let small0 : get_or c.args.samples.now c.args.start 0 < 256 = search depth 2 parts 0 in
    let small1 : get_or c.args.samples.now (c.args.start + 1) 0 < 256 = search depth 2 parts 0 in
    let small2 : get_or c.args.samples.now (c.args.start + 2) 0 < 256 = search depth 2 parts 0 in
    let small3 : get_or c.args.samples.now (c.args.start + 3) 0 < 256 = search depth 2 parts 0 in
    row_added _ _ _ _ _ _ _ c.requires.room (sum_is _ _ small0 (c.requires.small 0 (lit< tt))) (sum_is _ _ small1 (c.requires.small 1 (lit< tt))) (sum_is _ _ small2 (c.requires.small 2 (lit< tt))) (sum_is _ _ small3 (c.requires.small 3 (lit< tt)))
