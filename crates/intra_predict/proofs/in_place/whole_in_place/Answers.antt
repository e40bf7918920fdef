use Rattle.intra_predict.proofs.in_place.whole_in_place.Goals as goal

pub returns-in-Sixteen : goal.returns-in-Sixteen
returns-in-Sixteen c = rw c.in-Sixteen.is c.predict.ensures
