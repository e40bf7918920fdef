use Rattle.std.proofs.Common.{◌∙◌, ap, sym, arith}
use Rattle.std.proofs.lemmas.List.{take_rest}
use Rattle.webm_files.specs.Tracks.{entries_of}
use Rattle.webm_files.proofs.EntryLemmas.{entries-entry, entries-other, entries-none}
use Rattle.webm_files.proofs.tracks.next_entry.Goals as goal

pub returns-then-child-eq-ENTRY-clause-some : goal.returns-then-child-eq-ENTRY-clause-some
returns-then-child-eq-ENTRY-clause-some c =
    let met = c.in-Some.ensures in
    c.children.invariant.same ∙ entries-entry _ _ _ _ _ _ (take_rest c.args.tracks.now c.children.at) met.has met.id c.if-child-eq-ENTRY.true met.start met.end

pub children-preserved : goal.children-preserved
children-preserved c =
    let met = c.in-Some.ensures in record {
      inside = omega (arith, met.inside, c.children.invariant.inside);
      same = c.children.invariant.same ∙ entries-other _ _ _ _ _ (take_rest c.args.tracks.now c.children.at) met.has met.id c.if-child-eq-ENTRY.false met.end;
    }

pub returns-clause-none : goal.returns-clause-none
returns-clause-none c = c.children.invariant.same ∙ ap entries_of (sym (take_rest c.args.tracks.now c.children.at)) ∙ entries-none _ c.in_default.ensures.none
