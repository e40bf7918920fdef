use Rattle.script_nodes.proofs.node_steps.+steps_of_clip.Given as goal

abbrev pub decreases-steps_of_clip : goal.decreases-steps_of_clip
decreases-steps_of_clip l = l.depth
