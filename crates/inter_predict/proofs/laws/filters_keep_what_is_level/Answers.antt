use Rattle.inter_predict.proofs.FilterLaws.{taps_add_up, keeps_one_value, copies_whole}
use Rattle.inter_predict.proofs.laws.filters_keep_what_is_level.Goals as goal

pub returns : goal.returns
returns c = record { add_up = taps_add_up; one_value = keeps_one_value; whole = copies_whole }
