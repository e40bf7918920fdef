use Rattle.script_nodes.proofs.scripts.+found_in.Given as goal

abbrev pub decreases-found_in : goal.decreases-found_in
decreases-found_in l = l.clip
