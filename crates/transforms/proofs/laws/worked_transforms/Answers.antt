use Rattle.std.proofs.Common.{refl}
use Rattle.transforms.specs.Transforms.{by_sine, by_cosine, eighth, dct_pass, dct_column, inverse_dct, wht_pass, wht_column, inverse_wht_at}
use Rattle.std.specs.Int.{int_wrap}
use Rattle.transforms.proofs.laws.worked_transforms.Goals as goal

pub returns-clause-along_a_row : goal.returns-clause-along_a_row
unfolding int_wrap by_sine by_cosine eighth dct_pass dct_column inverse_dct wht_pass wht_column inverse_wht_at
returns-clause-along_a_row c = refl

pub returns-clause-down_a_column : goal.returns-clause-down_a_column
unfolding int_wrap by_sine by_cosine eighth dct_pass dct_column inverse_dct wht_pass wht_column inverse_wht_at
returns-clause-down_a_column c = refl

pub returns-clause-second_order : goal.returns-clause-second_order
unfolding int_wrap by_sine by_cosine eighth dct_pass dct_column inverse_dct wht_pass wht_column inverse_wht_at
returns-clause-second_order c = refl
