use Rattle.std.proofs.Common.{ℕ, sym, ◌∙◌, arith}
use Rattle.std.proofs.lemmas.List.FromFn.{map-range_with_len_more}
use Rattle.mode_parser.specs.declared.record_facts.RecordFacts.{RecordFacts}
use Rattle.macroblock_lists.specs.Records.{facts_in}
use Rattle.macroblock_lists.proofs.records.combined.Goals as goal

pub loop-place-preserved : goal.loop-place-preserved
loop-place-preserved c =
    let at : ℕ → RecordFacts = λ place. record { bits = (facts_in c.args.marked.now place).bits; split = (facts_in c.args.own.now place).split } in
    c.in_ok-push.ensures.items ∙ rw (c.loop-place.invariant, c.facts_in-counted.ensures, c.facts_in-read.ensures) (sym (map-range_with_len_more at 0 c.loop-place.place c.loop-place.place (omega arith)))
