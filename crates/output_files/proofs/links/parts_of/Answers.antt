use Rattle.std.proofs.Common.{◌≡◌, ◌+◌, ◌∙◌, Some, None, List, ℕ, ap, arith, drop, get_or, get_or-drop, length, length-drop, sym}
use Rattle.std.proofs.lemmas.Str.Pattern.{rfind_char}
use Rattle.output_files.proofs.links.parts_of.Goals as goal

-- a byte of the name is one after the last `/`
pub returns-in-Some-clause-name : goal.returns-in-Some-clause-name
returns-in-Some-clause-name c = λ k within is.
    let found = rfind_char 47 c.args.path.now (Some c.in-Some.at) c.in-Some.ensures.cases (omega arith) in
    let back : c.split_at.result.1.now ≡ drop (c.in-Some.at + 1) c.args.path.now = c.split_at.ensures.back in
    let long : length c.split_at.result.1.now ≡ length (drop (c.in-Some.at + 1) c.args.path.now) = ap length back in
    let at : get_or c.args.path.now (c.in-Some.at + 1 + k) 0 ≡ 47 =
    sym (get_or-drop (c.in-Some.at + 1) c.args.path.now k 0) ∙ ap (λ (name : List ℕ). get_or name k 0) (sym back) ∙ is in
    found.2 (c.in-Some.at + 1 + k) (omega arith) (omega (arith, within, long, length-drop (c.in-Some.at + 1) c.args.path.now)) at

pub returns-in-None-clause-name : goal.returns-in-None-clause-name
returns-in-None-clause-name c = rfind_char 47 c.args.path.now None c.in-None.ensures.cases (omega arith)
