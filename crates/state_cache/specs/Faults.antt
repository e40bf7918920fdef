-- The errors of reaching an index.
use Rattle.std.specs.Prelude.{ℕ, Bool, true, false, List, codes}
use Rattle.state_cache.specs.declared.outcomes.ReachFault.{ReachFault}
use Rattle.state_cache.specs.declared.outcomes.ReachFault.TheVariants.{Refused, NoMemory, TooManyShares}

-- the name of an error
abbrev pub reach_fault_word : ReachFault → List ℕ
reach_fault_word (Refused broken) = codes "Refused"
reach_fault_word NoMemory = codes "NoMemory"
reach_fault_word TooManyShares = codes "TooManyShares"

-- whether the outcome was reached, and only sharing it failed
abbrev pub is_share_fault : ReachFault → Bool
is_share_fault (Refused broken) = false
is_share_fault NoMemory = false
is_share_fault TooManyShares = true
