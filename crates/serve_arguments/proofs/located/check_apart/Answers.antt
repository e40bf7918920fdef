use Rattle.std.proofs.Common.{◌≡◌, All, false, get_or, refl, rules, subst, sym}
use Rattle.std.proofs.lemmas.List.{take_all, take_more}
use Rattle.std.proofs.lemmas.List.Elements.{All-push}
use Rattle.serve_arguments.specs.Locations.{is_clash}
use Rattle.serve_arguments.proofs.located.check_apart.Goals as goal

pub returns-then-is_clash-clause-clash : goal.returns-then-is_clash-clause-clash
returns-then-is_clash-clause-clash c = record {
  at = c.loop-other.other-index;
  within = c.loop-other-test.true;
  other = c.other-item.result;
  is_there = sym c.other-item.is;
  clash = search rules;
  first = c.loop-other.invariant;
  names = record { written_is = refl; other_is = refl; path_is = refl };
}

pub loop-other-preserved : goal.loop-other-preserved
loop-other-preserved c =
    let here : is_clash c.args.written.now (get_or c.args.others.now c.loop-other.other-index _) ≡ false = subst (λ other. is_clash c.args.written.now other ≡ false) c.other-item.is (search rules) in
    subst (All (λ other. is_clash c.args.written.now other ≡ false)) (sym (take_more c.args.others.now c.loop-other.other-index _ c.loop-other-test.true)) (All-push (λ other. is_clash c.args.written.now other ≡ false) _ _ c.loop-other.invariant here)

pub returns-clause-apart : goal.returns-clause-apart
returns-clause-apart c = subst (All (λ other. is_clash c.args.written.now other ≡ false)) (take_all c.loop-other.other-index c.args.others.now c.loop-other-test.false) c.loop-other.invariant
