use Rattle.std.proofs.Common.{List, ℕ, Some, rules, subst}
use Rattle.std.specs.Prelude.{string_bytes}
use Rattle.output_files.specs.Links.{IsLedTo, IsLinkSaid}
use Rattle.output_files.proofs.Followed.{followed_more}
use Rattle.output_files.proofs.links.followed.Goals as goal

pub loop-preserved : goal.loop-preserved
loop-preserved g c =
    let known = g.L.LinkedFiles.link_at c.args.files.now in
    let from : List ℕ = string_bytes c.loop.path in
    let link : List ℕ = c.as_str-in-loop-2.result.now in
    let to : List ℕ = string_bytes c.in_ok-path-2.path in
    let led : IsLedTo from link to = subst (λ (from : List ℕ). IsLedTo from link to) c.as_str-in-loop.ensures.value c.in_ok-path-2.ensures in
    let there : IsLinkSaid known from (Some (string_bytes c.in-Some.link)) = subst (λ (from : List ℕ). IsLinkSaid known from (Some (string_bytes c.in-Some.link))) c.as_str.ensures.value c.in-Some.ensures in
    let said : IsLinkSaid known from (Some link) = subst (λ (text : List ℕ). IsLinkSaid known from (Some text)) (search rules) there in
    followed_more known c.args.path.now from link to c.loop.invariant said led
