use Rattle.intra_predict.proofs.sub_blocks.sub.Goals as goal

pub returns-in-Dc : goal.returns-in-Dc
returns-in-Dc c = rw c.in-Dc.is (c.mean_of_sides.ensures c.args.corner)

pub returns-in-Ve : goal.returns-in-Ve
returns-in-Ve c = rw c.in-Ve.is (c.vertical.ensures c.args.left)

pub returns-in-He : goal.returns-in-He
returns-in-He c = rw c.in-He.is (c.horizontal.ensures c.args.above)

pub returns-in-Ld : goal.returns-in-Ld
returns-in-Ld c = rw c.in-Ld.is (c.left_down.ensures c.args.left c.args.corner)

pub returns-in-Vl : goal.returns-in-Vl
returns-in-Vl c = rw c.in-Vl.is (c.vertical_left.ensures c.args.left c.args.corner)

pub returns-in-Hu : goal.returns-in-Hu
returns-in-Hu c = rw c.in-Hu.is (c.horizontal_up.ensures c.args.corner c.args.above)
