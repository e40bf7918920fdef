use Rattle.std.proofs.Common.{refl}
use Rattle.transforms.proofs.WalshLanes.{walsh_small0, walsh_small1, walsh_small2, walsh_small3, walsh_row}
use Rattle.transforms.proofs.walsh.wht.Goals as goal

pub overflow_cast-column0 : goal.overflow_cast-column0
overflow_cast-column0 c = rw (c.columns_passed.ensures.first, c.columns_passed.ensures.second, c.columns_passed.ensures.third, c.columns_passed.ensures.fourth) (walsh_small0 c.args.coefficients.now 0, (walsh_small0 c.args.coefficients.now 1, (walsh_small0 c.args.coefficients.now 2, (walsh_small0 c.args.coefficients.now 3, tt))))

pub overflow_cast-column1 : goal.overflow_cast-column1
overflow_cast-column1 c = rw (c.columns_passed.ensures.first, c.columns_passed.ensures.second, c.columns_passed.ensures.third, c.columns_passed.ensures.fourth) (walsh_small1 c.args.coefficients.now 0, (walsh_small1 c.args.coefficients.now 1, (walsh_small1 c.args.coefficients.now 2, (walsh_small1 c.args.coefficients.now 3, tt))))

pub overflow_cast-column2 : goal.overflow_cast-column2
overflow_cast-column2 c = rw (c.columns_passed.ensures.first, c.columns_passed.ensures.second, c.columns_passed.ensures.third, c.columns_passed.ensures.fourth) (walsh_small2 c.args.coefficients.now 0, (walsh_small2 c.args.coefficients.now 1, (walsh_small2 c.args.coefficients.now 2, (walsh_small2 c.args.coefficients.now 3, tt))))

pub overflow_cast-column3 : goal.overflow_cast-column3
overflow_cast-column3 c = rw (c.columns_passed.ensures.first, c.columns_passed.ensures.second, c.columns_passed.ensures.third, c.columns_passed.ensures.fourth) (walsh_small3 c.args.coefficients.now 0, (walsh_small3 c.args.coefficients.now 1, (walsh_small3 c.args.coefficients.now 2, (walsh_small3 c.args.coefficients.now 3, tt))))

pub returns : goal.returns
returns c =
    let cs = c.args.coefficients.now in
    rw (c.columns_passed.ensures.first, c.columns_passed.ensures.second, c.columns_passed.ensures.third, c.columns_passed.ensures.fourth) (walsh_row cs 0 (walsh_row cs 1 (walsh_row cs 2 (walsh_row cs 3 refl))))
