use Rattle.intra_predict.proofs.Directions.{vertical, horizontal, left_down, right_down, vertical_right, vertical_left, horizontal_down, horizontal_up}
use Rattle.intra_predict.proofs.laws.modes_go_on.Goals as goal

pub returns : goal.returns
returns c = record {
  vertical = vertical;
  horizontal = horizontal;
  left_down = left_down;
  right_down = right_down;
  vertical_right = vertical_right;
  vertical_left = vertical_left;
  horizontal_down = horizontal_down;
  horizontal_up = horizontal_up;
}
