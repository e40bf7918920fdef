use Rattle.std.proofs.Common.{◌≡◌, ℕ, ◌+◌, ◌-◌, ◌*◌, ◌∷◌, List, min, get_or, ap, ◌∙◌, arith, rules}
use Rattle.packet_edits.proofs.Nearest.{none_between}
use Rattle.packet_edits.proofs.Runs.{count_of, none_after}
use Rattle.packet_edits.proofs.flag_index.FlagIndex.end_of_flagged.Goals as goal

pub returns-then-count-eq0-clause-none : goal.returns-then-count-eq0-clause-none
returns-then-count-eq0-clause-none c =
    let counts = c.self.inside.counts.items in
    let told : c.count_of_runs-count.result ≡ get_or (0 ∷ counts) c.args.runs 0 = c.count_of_runs-count.ensures ∙ ap (λ (ns : List ℕ). get_or (0 ∷ ns) c.args.runs 0) c.deref.ensures.value in
    let is = count_of counts c.self.inside.flags c.args.self.now c.args.runs c.count_of_runs-count.result c.self.invariant c.self.view_is c.requires told in
    none_between 0 (c.args.runs * 1024) c.args.self.now (omega (arith, is, c.if-count-eq0.true))

pub returns-clause-none : goal.returns-clause-none
returns-clause-none c =
    let counts = c.self.inside.counts.items in
    let told : c.count_of_runs-count.result ≡ get_or (0 ∷ counts) c.args.runs 0 = c.count_of_runs-count.ensures ∙ ap (λ (ns : List ℕ). get_or (0 ∷ ns) c.args.runs 0) c.deref.ensures.value in
    let is = count_of counts c.self.inside.flags c.args.self.now c.args.runs c.count_of_runs-count.result c.self.invariant c.self.view_is c.requires told in
    let less : c.from.result ≡ c.count_of_runs-count.result - 1 = c.from.ensures in
    let end : c.min.result ≡ min ((c.runs_within-before.result + 1) * 1024) (c.args.runs * 1024) = search (rules, arith) in
    none_after c.args.self.now c.args.runs c.runs_within-before.result c.count_of_runs-count.result c.min.result c.requires is
    (λ within. let more = c.runs_within-before.ensures.after within in omega (arith, more, less)) end
