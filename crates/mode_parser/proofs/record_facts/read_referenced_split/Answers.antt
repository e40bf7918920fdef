use Rattle.mode_parser.proofs.FactLemmas.{referenced_split-is}
use Rattle.mode_parser.proofs.record_facts.read_referenced_split.Goals as goal

pub returns : goal.returns
returns c =
    rw (← c.record_above-above.ensures.value, ← c.record_left-left.ensures.value, ← c.record_above_left-above_left.ensures.value) (referenced_split-is c.args.header.now c.args.place _ _ _ _ _ _ _ _ _ _ _ c.read_reference-reference.ensures (c.candidates_beside-found.ensures.value c.args.place) c.read_vector_mode-mode.ensures c.read_split.ensures)
