use Rattle.std.proofs.Common.{◌≡◌, ℕ, ◌*◌, ◌∷◌, List, max, get_or, ap, ◌∙◌, arith, rules}
use Rattle.packet_edits.proofs.Runs.{count_of, none_up_to}
use Rattle.packet_edits.proofs.flag_index.FlagIndex.start_of_flagged.Goals as goal

pub returns-clause-none : goal.returns-clause-none
returns-clause-none c =
    let counts = c.self.inside.counts.items in
    let told : c.count_of_runs-count.result ≡ get_or (0 ∷ counts) c.args.run 0 = c.count_of_runs-count.ensures ∙ ap (λ (ns : List ℕ). get_or (0 ∷ ns) c.args.run 0) c.deref.ensures.value in
    let is = count_of counts c.self.inside.flags c.args.self.now c.args.run c.count_of_runs-count.result c.self.invariant c.self.view_is c.requires told in
    let same : c.from.result ≡ c.count_of_runs-count.result = c.from.ensures in
    let start : c.max.result ≡ max (c.runs_within-before.result * 1024) (c.args.run * 1024) = search (rules, arith) in
    none_up_to c.args.self.now c.args.run c.runs_within-before.result c.count_of_runs-count.result c.max.result is (let few = c.runs_within-before.ensures.up_to in omega (arith, few, same)) start
