use Rattle.std.proofs.Common.{◌≡◌, ℕ, ◌-◌, ◌*◌, ◌∷◌, Bool, List, drop, get_or, slice_get, ap, ◌∙◌, arith}
use Rattle.packet_edits.specs.FlagCounts.{flagged_before, indexes_from}
use Rattle.packet_edits.proofs.Runs.{count_of, place_told}
use Rattle.packet_edits.proofs.flag_index.FlagIndex.place.Goals as goal

pub overflow_sub-n : goal.overflow_sub-n
overflow_sub-n c =
    let counts = c.self.inside.counts.items in
    let told : c.count_of_runs-before.result ≡ get_or (0 ∷ counts) c.runs_within-whole.result 0 = c.count_of_runs-before.ensures ∙ ap (λ (ns : List ℕ). get_or (0 ∷ ns) c.runs_within-whole.result 0) c.deref.ensures.value in
    let is = count_of counts c.self.inside.flags c.args.self.now c.runs_within-whole.result c.count_of_runs-before.result c.self.invariant c.self.view_is c.runs_within-whole.ensures.whole told in
    omega (arith, is, c.runs_within-whole.ensures.up_to, c.from.ensures)

pub returns : goal.returns
returns c =
    let counts = c.self.inside.counts.items in
    let flags = c.self.inside.flags in
    let p = c.runs_within-whole.result in
    let told : c.count_of_runs-before.result ≡ get_or (0 ∷ counts) p 0 = c.count_of_runs-before.ensures ∙ ap (λ (ns : List ℕ). get_or (0 ∷ ns) p 0) c.deref.ensures.value in
    let is : c.count_of_runs-before.result ≡ flagged_before (p * 1024) c.args.self.now = count_of counts flags c.args.self.now p c.count_of_runs-before.result c.self.invariant c.self.view_is c.runs_within-whole.ensures.whole told in
    let same : c.from.result ≡ c.count_of_runs-before.result = c.from.ensures in
    let view : flags ≡ c.args.self.now = c.self.view_is in
    c.nth_flagged.ensures
    ∙ ap (λ (m : ℕ). slice_get (indexes_from (p * 1024) (drop (p * 1024) flags)) (c.args.n - m)) same
    ∙ ap (λ (fs : List Bool). slice_get (indexes_from (p * 1024) (drop (p * 1024) fs)) (c.args.n - c.count_of_runs-before.result)) view
    ∙ place_told counts c.args.self.now c.args.n p c.count_of_runs-before.result c.runs_within-whole.ensures.whole is (omega (arith, is, c.runs_within-whole.ensures.up_to))
