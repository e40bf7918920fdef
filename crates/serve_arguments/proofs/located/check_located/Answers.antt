use Rattle.std.proofs.Common.{All, get_or, rules, subst, sym}
use Rattle.std.proofs.lemmas.List.{take_all, take_more}
use Rattle.std.proofs.lemmas.List.Elements.{All-push}
use Rattle.serve_arguments.specs.Locations.{IsApartFrom}
use Rattle.serve_arguments.proofs.located.check_located.Goals as goal

pub returns-in-Err-clause-clash : goal.returns-in-Err-clause-clash
returns-in-Err-clause-clash c = record {
  at = c.loop-written.written-index;
  within = c.loop-written-test.true;
  written = c.written-item.result;
  is_there = sym c.written-item.is;
  clash = c.in-Err.ensures.clash;
  first = c.loop-written.invariant;
}

pub loop-written-preserved : goal.loop-written-preserved
loop-written-preserved c =
    let here : IsApartFrom (get_or c.args.files.now c.loop-written.written-index _) c.args.files.now = subst (λ written. IsApartFrom written c.args.files.now) c.written-item.is (search rules) in
    subst (All (λ written. IsApartFrom written c.args.files.now)) (sym (take_more c.args.files.now c.loop-written.written-index _ c.loop-written-test.true)) (All-push (λ written. IsApartFrom written c.args.files.now) _ _ c.loop-written.invariant here)

pub returns-clause-separate : goal.returns-clause-separate
returns-clause-separate c = subst (All (λ written. IsApartFrom written c.args.files.now)) (take_all c.loop-written.written-index c.args.files.now c.loop-written-test.false) c.loop-written.invariant
