-- The parts of the head lines in the order in which the format writes them.
use Rattle.std.proofs.Common.{◌≡◌, ℕ, List, ◌++◌, append_assoc}

pub joined : (a n b d c w x h z : List ℕ) → a ++ (n ++ (b ++ (d ++ (c ++ (w ++ (x ++ (h ++ z))))))) ≡ a ++ n ++ b ++ d ++ c ++ w ++ x ++ h ++ z
joined a n b d c w x h z = simp append_assoc
