use Rattle.std.proofs.Common.{◌≢◌, ◌∙◌, All, Some, get_or, map, option_map, sym, ap, subst}
use Rattle.std.proofs.lemmas.Bool.{false≢true}
use Rattle.std.proofs.lemmas.List.{map_more, take_all}
use Rattle.std.proofs.lemmas.List.Elements.{All-push}
use Rattle.serve_arguments.specs.CommandLines.{named_file}
use Rattle.serve_arguments.proofs.files.check_apart.Goals as goal

pub loop-other-preserved : goal.loop-other-preserved
loop-other-preserved c =
    let e = map_more named_file c.args.others.now c.loop-other.other-index _ c.loop-other-test.true in
    let here : (named_file (get_or c.args.others.now c.loop-other.other-index _)).1 ≢ Some c.in-Some.path.now = λ same. false≢true (c.if-is_at.ensures.1 same) in
    subst (All (λ other. other.1 ≢ Some c.in-Some.path.now)) (sym e) (All-push (λ other. other.1 ≢ Some c.in-Some.path.now) _ _ c.loop-other.invariant here)

pub returns-clause-apart : goal.returns-clause-apart
returns-clause-apart c path given no_device =
    let none = subst (λ named. All (λ other. other.1 ≢ Some c.in-Some.path.now) (map named_file named)) (take_all c.loop-other.other-index c.args.others.now c.loop-other-test.false) c.loop-other.invariant in
    subst (λ file. All (λ other. other.1 ≢ file) (map named_file c.args.others.now)) (sym (ap (option_map (λ path. path.now)) c.in-Some.is) ∙ given) none
